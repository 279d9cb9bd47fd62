-- What a load does to the items of a part.
use Rattle.std.proofs.Common.{◌≡◌, ℕ, Bool, true, false, not, ◌&&◌, ◌||◌, ◌⊎◌, inl, inr, List, [], ◌∷◌, ◌++◌, filter, None, refl, sym, ap, ◌∙◌, subst, bytes_eq, IsPermutation}
use Rattle.std.specs.List.{AllByRecursion, list_any}
use Rattle.std.proofs.lemmas.Bool.{and_parts, or_cases}
use Rattle.std.proofs.lemmas.List.Elements.{recursion_from_All, filter-append}
use Rattle.std.proofs.lemmas.List.Folds.{list_any-append}
use Rattle.std.proofs.lemmas.List.Sorted.{IsPermutation-append_right}
use Rattle.sqlite_trees.specs.Tree.{IsAscending}
use Rattle.sqlite_keyed.proofs.ListLemmas.{all_weaker, all-filter, ascending-filter, IsPermutation-filter}
use Rattle.sc_item.specs.Feature.{Feature}
use Rattle.sc_item.specs.Names.{HaveOneName}
use Rattle.sc_cut.specs.declared.name.PartName.{PartName}
use Rattle.sc_cut.specs.Key.{has_key}
use Rattle.sc_load.specs.declared.load.Load.{Load}
use Rattle.sc_load.specs.declared.load.Load.TheVariants.{AddCollection, DropCollection, Insert, Upsert, Replace, Patch, Delete}
use Rattle.sc_load.specs.Load.{collection_of}
use Rattle.sc_history.specs.Content.{Collection, Content, IsContent, is_called, is_made}
use Rattle.sc_history.specs.Changes.{Change, apply, collections_after, goes, takes}
use Rattle.sc_history.specs.Names.{belongs, fits, is_cut, has_cut, is_empty, is_key, part_of, scan_of}
use Rattle.sc_history.specs.History.{comes, touches}
use Rattle.sc_history.specs.Refusals.{IsAllowed, plain_fault}
use Rattle.sc_history.specs.Touch.{renewed}
use Rattle.sc_history.proofs.Texts.{same_text, text_test, never}
use Rattle.sc_history.proofs.Lists.{ascending_from_pairs, filter_alike, filter_whole, filters_swap, all_passing}
use Rattle.sc_history.proofs.Scans.{one_scan, scan_same, empty_is}
use Rattle.sc_history.proofs.Contents.{IsOwn, puts_own, dropped, called_other, new_made}

-- ---- the part of what stays

and_alike : (a b t : Bool) → (t ≡ true → a ≡ b) → (a && t) ≡ (b && t)
and_alike true true t same = refl
and_alike false false t same = refl
and_alike true false true same = same refl
and_alike true false false same = refl
and_alike false true true same = same refl
and_alike false true false same = refl

pub fits_collection : (name : PartName) (item : Feature) → fits name item ≡ true → item.collection ≡ name.collection
fits_collection name item e = same_text item.collection name.collection (and_parts (bytes_eq item.collection name.collection) (is_key name.cut name.key) (and_parts _ (has_key name.cut name.key item.start) e).0).0

or_false : (a b : Bool) → b ≡ false → (a || b) ≡ a
or_false true b e = refl
or_false false b e = e

cut_of_more : (collections : List Collection) (new : Collection) (name : PartName) → is_called name.collection new ≡ false → has_cut (collections ++ new ∷ []) name ≡ has_cut collections name
cut_of_more collections new name other =
    list_any-append (λ c. is_called name.collection c && is_cut c.cut name.cut) collections (new ∷ [])
    ∙ or_false (has_cut collections name) _ (rw other refl)

whole : (b : Bool) → (b && true) ≡ false → b ≡ false
whole true e = e
whole false e = e

-- an item that stays belongs to the parts to which it belonged
pub stays_put : (content : Content) (load : Load) (name : PartName) (item : Feature) → plain_fault content load ≡ None → is_made content.collections item.collection ≡ true → goes load item ≡ false
    → belongs (collections_after content.collections load) name item ≡ belongs content.collections name item
stays_put content (AddCollection id cut tree) name item e made stays =
    and_alike _ (has_cut content.collections name) (fits name item) (λ fit.
    cut_of_more content.collections (record { id = id; cut = cut; tree = tree }) name (go (bytes_eq id name.collection) refl (fits_collection name item fit)))
  where
    go : (b : Bool) → bytes_eq id name.collection ≡ b → item.collection ≡ name.collection → bytes_eq id name.collection ≡ false
    go true is same = never (is_made content.collections id) (subst (λ c. is_made content.collections c ≡ true) (same ∙ sym (same_text id name.collection is)) made) (new_made content id cut tree e)
    go false is same = is
stays_put content (DropCollection id) name item e made stays =
    and_alike _ (has_cut content.collections name) (fits name item) (λ fit.
    let other : bytes_eq name.collection id ≡ false = subst (λ c. bytes_eq c id ≡ false) (fits_collection name item fit) (whole (bytes_eq item.collection id) stays) in
    dropped (λ c. is_called name.collection c && is_cut c.cut name.cut) id content.collections (λ c is. rw (called_other id name.collection c other is) refl))
stays_put content (Insert collection new) name item e made stays = refl
stays_put content (Upsert collection new) name item e made stays = refl
stays_put content (Replace collection new) name item e made stays = refl
stays_put content (Patch collection id patch) name item e made stays = refl
stays_put content (Delete collection id) name item e made stays = refl

-- the items of a part after a load: those that come into it, and those that stay
pub part_after_load : (content : Content) (change : Change) (name : PartName) → IsAllowed content change → IsContent content
    → part_of (apply content change) name ≡ comes content change name ++ filter (λ item. not (goes change.load item)) (part_of content name)
part_after_load content change name t is =
    filter-append (belongs (apply content change).collections name) change.come (filter (λ item. not (goes change.load item)) content.items)
    ∙ ap (λ l. comes content change name ++ l)
    (filters_swap (belongs content.collections name) (belongs (apply content change).collections name) (goes change.load) content.items
    (all_weaker (λ item. is_made content.collections item.collection ≡ true) (λ item. goes change.load item ≡ false → belongs (apply content change).collections name item ≡ belongs content.collections name item)
    (λ item made stays. stays_put content change.load name item t.no_fault made stays) content.items (recursion_from_All (λ item. is_made content.collections item.collection ≡ true) content.items is.housed)))

-- ---- a part that a load doesn't touch

neither : (a b : Bool) → (not a || b) ≡ false → (a ≡ true) × (b ≡ false)
neither true b e = (refl, e)
neither false b e = never true refl e

pub part_untouched : (content : Content) (change : Change) (name : PartName) → IsAllowed content change → IsContent content → touches content change name ≡ false
    → (comes content change name ≡ []) × (part_of (apply content change) name ≡ part_of content name)
part_untouched content change name t is e =
    let both = neither (is_empty (comes content change name)) (list_any (goes change.load) (part_of content name)) e in
    let none = empty_is (comes content change name) both.0 in
    (none, part_after_load content change name t is ∙ rw (none, filter_whole (goes change.load) (part_of content name) both.1) refl)

-- ---- a part that it touches

abbrev IsOf : List ℕ → Feature → Type 0
IsOf collection item = item.collection ≡ collection

belonging : (collections : List Collection) (name : PartName) (item : Feature) → belongs collections name item ≡ true → IsOf name.collection item
belonging collections name item e = fits_collection name item (and_parts (has_cut collections name) (fits name item) e).1

pub part_owned : (content : Content) (name : PartName) → AllByRecursion (IsOf name.collection) (part_of content name)
part_owned content name = all_weaker (λ i. belongs content.collections name i ≡ true) (IsOf name.collection) (λ i. belonging content.collections name i) _ (all_passing (belongs content.collections name) content.items)

first_both : {R : Type 0} (P Q : Feature → Type 0) (xs : List Feature) → is_empty xs ≡ false → AllByRecursion P xs → AllByRecursion Q xs → ((x : Feature) → P x → Q x → R) → R
first_both P Q [] some all all' f = never true refl some
first_both P Q (x ∷ xs) some all all' f = f x all.0 all'.0

found : {R : Type 0} (P : Feature → Type 0) (g : Feature → Bool) (xs : List Feature) → list_any g xs ≡ true → AllByRecursion P xs → ((x : Feature) → g x ≡ true → P x → R) → R
found P g [] e all f = never false e refl
found {R} P g (x ∷ xs) e all f = go (g x) refl (λ e'. found P g xs e' all.1 f) e
  where
    go : (b : Bool) → g x ≡ b → (list_any g xs ≡ true → R) → (b || list_any g xs) ≡ true → R
    go true is more e = f x is all.0
    go false is more e = more e

not_false : (b : Bool) → not b ≡ true → b ≡ false
not_false true e = sym e
not_false false e = refl

-- it is a part of the load's collection
pub touched_collection : (content : Content) (change : Change) (name : PartName) → IsAllowed content change → touches content change name ≡ true → collection_of change.load ≡ name.collection
touched_collection content change name t e = go (or_cases (not (is_empty (comes content change name))) (list_any (goes change.load) (part_of content name)) e)
  where
    go : (not (is_empty (comes content change name)) ≡ true) ⊎ (list_any (goes change.load) (part_of content name) ≡ true) → collection_of change.load ≡ name.collection
    go (inl k) =
        let test = belongs (apply content change).collections name in
        let owned = all-filter (IsOwn (collection_of change.load)) test change.come (puts_own content.items change.load change.come t.formed t.puts) in
        let here = all_weaker (λ i. test i ≡ true) (IsOf name.collection) (λ i. belonging (apply content change).collections name i) _ (all_passing test change.come) in
        first_both (IsOwn (collection_of change.load)) (IsOf name.collection) (comes content change name) (not_false _ k) owned here (λ x o p. sym o.0 ∙ p)
    go (inr k) =
        found (IsOf name.collection) (goes change.load) (part_of content name) k (part_owned content name)
        (λ x g p. sym (same_text x.collection (collection_of change.load) (and_parts (bytes_eq x.collection (collection_of change.load)) (takes change.load x.id) g).0) ∙ p)

-- of a part of the load's collection go the items whose ids the load takes
going : (load : Load) (name : PartName) (item : Feature) → collection_of load ≡ name.collection → IsOf name.collection item → not (goes load item) ≡ not (takes load item.id)
going load name item same of = rw (text_test item.collection (collection_of load) (of ∙ sym same)) refl

pub stay_alike : (content : Content) (load : Load) (name : PartName) → collection_of load ≡ name.collection
    → filter (λ item. not (goes load item)) (part_of content name) ≡ filter (λ item. not (takes load item.id)) (part_of content name)
stay_alike content load name same =
    filter_alike (λ item. not (goes load item)) (λ item. not (takes load item.id)) (part_of content name)
    (all_weaker (IsOf name.collection) (λ item. not (goes load item) ≡ not (takes load item.id)) (λ item of. going load name item same of) (part_of content name) (part_owned content name))

pub part_apart : (content : Content) (name : PartName) → IsContent content → IsAscending (λ a b. HaveOneName a b → ⊥) (part_of content name)
part_apart content name is = ascending-filter (λ a b. HaveOneName a b → ⊥) (belongs content.collections name) content.items (ascending_from_pairs (λ a b. HaveOneName a b → ⊥) content.items is.items_apart)

-- the scan of a part after a load that touches it, from its scan before
pub scan_after_load : (content : Content) (change : Change) (name : PartName) → IsAllowed content change → IsContent content → IsContent (apply content change) → collection_of change.load ≡ name.collection
    → scan_of (part_of (apply content change) name) ≡ scan_of (renewed (takes change.load) (comes content change name) (scan_of (part_of content name)))
scan_after_load content change name t is after same =
    let items = part_of content name in
    let come = comes content change name in
    let stays = λ (item : Feature). not (takes change.load item.id) in
    let new : part_of (apply content change) name ≡ come ++ filter stays items = part_after_load content change name t is ∙ ap (λ l. come ++ l) (stay_alike content change.load name same) in
    let moved : IsPermutation (part_of (apply content change) name) (come ++ filter stays (scan_of items)) =
    subst (λ l. IsPermutation l (come ++ filter stays (scan_of items))) (sym new) (IsPermutation-append_right come (filter stays items) (filter stays (scan_of items)) (IsPermutation-filter stays items (scan_of items) (scan_same items))) in
    sym (one_scan name.collection (part_of (apply content change) name) (come ++ filter stays (scan_of items)) (part_apart (apply content change) name after) (part_owned (apply content change) name) moved)
