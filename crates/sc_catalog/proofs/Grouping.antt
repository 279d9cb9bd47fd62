-- Groups of a load's items and ids are the changes that it makes of the parts of its collection.
use Rattle.std.proofs.Common.{◌≡◌, ℕ, Bool, true, false, not, cond, ◌&&◌, ◌||◌, ℤ, List, [], ◌∷◌, map, filter, find, Option, Some, None, refl, sym, ap, ◌∙◌, subst, bytes_eq, option_map, arith, Less, Equal, Greater, Contains}
use Rattle.std.specs.Option.{is_some}
use Rattle.std.specs.List.{AllByRecursion, list_any}
use Rattle.std.specs.List.Sorted.{IsStrictlySortedBy}
use Rattle.std.specs.Map.{lookup, keys_of}
use Rattle.std.specs.BTreeMap.{BTreeMap, IsOrdered, get, is_at}
use Rattle.std.specs.Ordering.{int_cmp, int_eq, is_eq, nat_cmp}
use Rattle.sc_base.specs.Text.{text_order}
use Rattle.std.specs.declared.cmp.Ordering.{Ordering}
use Rattle.std.proofs.lemmas.Bool.{and_parts, and_from}
use Rattle.std.proofs.lemmas.Bool.Decides.{Decides-int_eq}
use Rattle.std.proofs.lemmas.Cmp.{int_cmp_total, nat_cmp_total, nat_list_cmp_total, tied_itself}
use Rattle.std.proofs.lemmas.Map.Lookups.{exact_signed}
use Rattle.sqlite_trees.specs.Tree.{IsAscending}
use Rattle.sqlite_keyed.proofs.ListLemmas.{filter_same}
use Rattle.sc_item.specs.Feature.{Feature}
use Rattle.sc_cut.specs.declared.cut.Cut.{Cut}
use Rattle.sc_cut.specs.declared.cut.Cut.TheVariants.{Whole, Year, Month}
use Rattle.sc_cut.specs.declared.name.PartName.{PartName}
use Rattle.sc_load.specs.declared.load.Load.{Load}
use Rattle.sc_load.specs.declared.load.Load.TheVariants.{AddCollection, DropCollection, Insert, Upsert, Replace, Patch, Delete}
use Rattle.sc_load.specs.Load.{collection_of}
use Rattle.sc_history.specs.Content.{Collection, Content, IsContent, is_called, is_item, item_in}
use Rattle.sc_history.specs.Changes.{Change, collections_after, goes, gone, is_among, takes}
use Rattle.sc_history.specs.Names.{belongs, cut_place, fits, has_cut, is_cut, is_empty, is_name, name_order, part_of}
use Rattle.sc_history.specs.History.{comes, touches}
use Rattle.sc_history.specs.Refusals.{IsAllowed}
use Rattle.sc_history.proofs.Texts.{never, same_text, text_self, text_test}
use Rattle.sc_history.proofs.Contents.{find_some}
use Rattle.sc_history.proofs.Counting.{contains_cases, contains_head, contains_tail}
use Rattle.sc_history.proofs.Lists.{pairs_from_ascending}
use Rattle.sc_history.proofs.Names.{same_cut}
use Rattle.sc_history.proofs.Lawful.{cut_is}
use Rattle.sc_history.proofs.Orders.{item_found}
use Rattle.sc_history.proofs.Parts.{fits_collection, touched_collection}
use Rattle.sc_shelf.specs.declared.change.PartChange.{PartChange}
use Rattle.sc_catalog.specs.declared.groups.Group.{Group}
use Rattle.sc_shelf.specs.Changed.{change_of}
use Rattle.sc_catalog.specs.Groups.{AreGrouped, change_at, come_in, gone_in, is_found_in, name_at, stood_in}
use Rattle.sc_catalog.specs.Made.{AreMade, IsMadeOf, is_of_items}

-- ---- tests

pub same_test : (a b : Bool) → (a ≡ true → b ≡ true) → (b ≡ true → a ≡ true) → a ≡ b
same_test true true to from = refl
same_test true false to from = sym (to refl)
same_test false true to from = from refl
same_test false false to from = refl

cut_self : (cut : Cut) → is_cut cut cut ≡ true
cut_self Whole = refl
cut_self Year = refl
cut_self Month = refl

-- an element that passes, and what it serves
pub with_passing : {X R : Type 0} (p : X → Bool) (xs : List X) → list_any p xs ≡ true → ((x : X) → Contains xs x → p x ≡ true → R) → R
with_passing p [] e f = never false e refl
with_passing {X} {R} p (x ∷ xs) e f = go (p x) refl (λ rest. with_passing p xs rest (λ y there is. f y (contains_tail x y xs there) is)) e
  where
    go : (b : Bool) → p x ≡ b → (list_any p xs ≡ true → R) → (b || list_any p xs) ≡ true → R
    go true is more e = f x (contains_head x xs) is
    go false is more e = more e

pub any_passing : {X : Type 0} (p : X → Bool) (xs : List X) (x : X) → Contains xs x → p x ≡ true → list_any p xs ≡ true
any_passing p [] x (k, lt, is) e = absurd (omega (arith, lt))
any_passing p (y ∷ xs) x there e = contains_cases y x xs there (λ same. rw same (rw e refl)) (λ later. go (p y) (any_passing p xs x later e))
  where
    go : (b : Bool) → list_any p xs ≡ true → (b || list_any p xs) ≡ true
    go true more = refl
    go false more = more

any_filtered : {X : Type 0} (g p : X → Bool) (xs : List X) → list_any g (filter p xs) ≡ list_any (λ x. p x && g x) xs
any_filtered g p [] = refl
any_filtered g p (x ∷ xs) = go (p x) (any_filtered g p xs)
  where
    go : (b : Bool) → list_any g (filter p xs) ≡ list_any (λ y. p y && g y) xs → list_any g (cond b (x ∷ filter p xs) (filter p xs)) ≡ ((b && g x) || list_any (λ y. p y && g y) xs)
    go true e = ap (λ b. g x || b) e
    go false e = e

pub contains_filtered : {X : Type 0} (p : X → Bool) (xs : List X) (x : X) → Contains (filter p xs) x → Contains xs x × (p x ≡ true)
contains_filtered p [] x (k, lt, is) = absurd (omega (arith, lt))
contains_filtered p (y ∷ xs) x there = go (p y) refl (contains_filtered p xs x) there
  where
    go : (b : Bool) → p y ≡ b → (Contains (filter p xs) x → Contains xs x × (p x ≡ true)) → Contains (cond b (y ∷ filter p xs) (filter p xs)) x → Contains (y ∷ xs) x × (p x ≡ true)
    go true is more there = contains_cases y x (filter p xs) there (λ same. (subst (Contains (y ∷ xs)) same (contains_head y xs), rw (← same) is)) (λ later. let rest = more later in (contains_tail y x xs rest.0, rest.1))
    go false is more there = let rest = more there in (contains_tail y x xs rest.0, rest.1)

pub find_contained : {X : Type 0} (p : X → Bool) (xs : List X) (x : X) → find p xs ≡ Some x → Contains xs x
find_contained p [] x e = absurd cc
find_contained p (y ∷ xs) x e = go (p y) (find_contained p xs x) e
  where
    go : (b : Bool) → (find p xs ≡ Some x → Contains xs x) → cond b (Some y) (find p xs) ≡ Some x → Contains (y ∷ xs) x
    go true more e = let same : y ≡ x = cc in subst (Contains (y ∷ xs)) same (contains_head y xs)
    go false more e = contains_tail y x xs (more e)

-- ---- loads of items

pub same_collections : (collections : List Collection) (load : Load) → is_of_items load ≡ true → collections_after collections load ≡ collections
same_collections collections (AddCollection id cut tree) e = never false e refl
same_collections collections (DropCollection id) e = never false e refl
same_collections collections (Insert collection new) e = refl
same_collections collections (Upsert collection new) e = refl
same_collections collections (Replace collection new) e = refl
same_collections collections (Patch collection id patch) e = refl
same_collections collections (Delete collection id) e = refl

pub takes_ids : (load : Load) (id : List ℕ) → is_of_items load ≡ true → takes load id ≡ is_among (gone load) id
takes_ids (AddCollection id cut tree) other e = never false e refl
takes_ids (DropCollection id) other e = never false e refl
takes_ids (Insert collection new) other e = refl
takes_ids (Upsert collection new) other e = refl
takes_ids (Replace collection new) other e = refl
takes_ids (Patch collection id patch) other e = refl
takes_ids (Delete collection id) other e = refl

-- ---- a part of the load's collection, which has the cut

record Here (content : Content) (change : Change) (cut : Cut) : Type 0 where
  pub is : IsContent content
  pub items : is_of_items change.load ≡ true
  pub collection : Collection
  pub there : find (is_called (collection_of change.load)) content.collections ≡ Some collection
  pub cut_is : collection.cut ≡ cut

abbrev here_at : Change → Cut → ℤ → PartName
here_at change cut key = name_at (collection_of change.load) cut key

belongs_here : (content : Content) (change : Change) (cut : Cut) (key : ℤ) (item : Feature) → Here content change cut → belongs content.collections (here_at change cut key) item ≡ fits (here_at change cut key) item
belongs_here content change cut key item h =
    let has : has_cut content.collections (here_at change cut key) ≡ true = cut_is content (here_at change cut key) h.collection h.is h.there ∙ (ap (λ c. is_cut c cut) h.cut_is ∙ cut_self cut) in
    rw has refl

comes_here : (content : Content) (change : Change) (cut : Cut) (key : ℤ) → Here content change cut → comes content change (here_at change cut key) ≡ filter (fits (here_at change cut key)) change.come
comes_here content change cut key h =
    ap (λ c. filter (belongs c (here_at change cut key)) change.come) (same_collections content.collections change.load h.items)
    ∙ filter_same (belongs content.collections (here_at change cut key)) (fits (here_at change cut key)) (λ item. belongs_here content change cut key item h) change.come

with_found : {R : Type 0} (name : PartName) (o : Option Feature) → is_found_in name o ≡ true → ((item : Feature) → o ≡ Some item → fits name item ≡ true → R) → R
with_found name None e f = never false e refl
with_found name (Some item) e f = f item refl e

-- an item of the collection whose id the load takes, in the part
stood_gone : (content : Content) (change : Change) (cut : Cut) (key : ℤ) → Here content change cut → list_any (stood_in content.items (collection_of change.load) cut key) (gone change.load) ≡ true
    → list_any (goes change.load) (part_of content (here_at change cut key)) ≡ true
stood_gone content change cut key h e =
    with_passing (stood_in content.items (collection_of change.load) cut key) (gone change.load) e (λ id among stood.
    with_found (here_at change cut key) (item_in content.items (collection_of change.load) id) stood (λ item found fit.
    let test = is_item (collection_of change.load) id in
    let both = and_parts (bytes_eq item.collection (collection_of change.load)) (bytes_eq item.id id) (find_some test content.items item found) in
    let same : item.id ≡ id = same_text item.id id both.1 in
    let taken : takes change.load item.id ≡ true = takes_ids change.load item.id h.items ∙ any_passing (λ other. bytes_eq other item.id) (gone change.load) id among (text_test id item.id (sym same)) in
    any_filtered (goes change.load) (belongs content.collections (here_at change cut key)) content.items
    ∙ any_passing (λ x. belongs content.collections (here_at change cut key) x && goes change.load x) content.items item (find_contained test content.items item found)
    (and_from _ _ (belongs_here content change cut key item h ∙ fit) (and_from _ _ both.0 taken))))

-- where such an item is in the part, it stood there
gone_stood : (content : Content) (change : Change) (cut : Cut) (key : ℤ) → Here content change cut → list_any (goes change.load) (part_of content (here_at change cut key)) ≡ true
    → list_any (stood_in content.items (collection_of change.load) cut key) (gone change.load) ≡ true
gone_stood content change cut key h e =
    let name = here_at change cut key in
    with_passing (λ x. belongs content.collections name x && goes change.load x) content.items (sym (any_filtered (goes change.load) (belongs content.collections name) content.items) ∙ e) (λ item there pass.
    let both = and_parts (belongs content.collections name item) (goes change.load item) pass in
    let parts = and_parts (bytes_eq item.collection (collection_of change.load)) (takes change.load item.id) both.1 in
    let fit : fits name item ≡ true = sym (belongs_here content change cut key item h) ∙ both.0 in
    let of : item.collection ≡ collection_of change.load = same_text item.collection (collection_of change.load) parts.0 in
    let found : item_in content.items (collection_of change.load) item.id ≡ Some item = subst (λ c. item_in content.items c item.id ≡ Some item) of (item_found content item h.is there) in
    with_passing (λ other. bytes_eq other item.id) (gone change.load) (sym (takes_ids change.load item.id h.items) ∙ parts.1) (λ id among same.
    any_passing (stood_in content.items (collection_of change.load) cut key) (gone change.load) id among
    (ap (is_found_in name) (ap (item_in content.items (collection_of change.load)) (same_text id item.id same) ∙ found) ∙ fit)))

some_come : {X : Type 0} (test : X → Bool) (items : List X) → not (is_empty (filter test items)) ≡ list_any test items
some_come test [] = refl
some_come test (x ∷ items) = go (test x) (some_come test items)
  where
    go : (b : Bool) → not (is_empty (filter test items)) ≡ list_any test items → not (is_empty (cond b (x ∷ filter test items) (filter test items))) ≡ (b || list_any test items)
    go true e = refl
    go false e = e

touches_here : (content : Content) (change : Change) (cut : Cut) (key : ℤ) → Here content change cut → touches content change (here_at change cut key)
    ≡ (list_any (fits (here_at change cut key)) change.come || list_any (stood_in content.items (collection_of change.load) cut key) (gone change.load))
touches_here content change cut key h =
    let name = here_at change cut key in
    ap (λ l. not (is_empty l) || list_any (goes change.load) (part_of content name)) (comes_here content change cut key h)
    ∙ (ap (λ b. b || list_any (goes change.load) (part_of content name)) (some_come (fits name) change.come)
    ∙ ap (λ b. list_any (fits name) change.come || b) (same_test _ _ (gone_stood content change cut key h) (stood_gone content change cut key h)))

-- an item of the part is where it stood
stood_of : (content : Content) (change : Change) (cut : Cut) (key : ℤ) (item : Feature) → Here content change cut → Contains (part_of content (here_at change cut key)) item
    → stood_in content.items (collection_of change.load) cut key item.id ≡ true
stood_of content change cut key item h there =
    let name = here_at change cut key in
    let both = contains_filtered (belongs content.collections name) content.items item there in
    let fit : fits name item ≡ true = sym (belongs_here content change cut key item h) ∙ both.1 in
    let of : item.collection ≡ collection_of change.load = fits_collection name item fit in
    let found : item_in content.items (collection_of change.load) item.id ≡ Some item = subst (λ c. item_in content.items c item.id ≡ Some item) of (item_found content item h.is both.0) in
    ap (is_found_in name) found ∙ fit

-- ---- the change of a key

eq_from : (o : Ordering) → is_eq o ≡ true → o ≡ Equal
eq_from Less e = never false e refl
eq_from Equal e = refl
eq_from Greater e = never false e refl

pub key_test : (a b : ℤ) → int_eq a b ≡ is_at (int_cmp b) a
key_test a b = same_test (int_eq a b) (is_at (int_cmp b) a)
    (λ e. let same : a ≡ b = (Decides-int_eq a b).0 e in subst (λ k. is_at (int_cmp b) k ≡ true) (sym same) (let tied : int_cmp b b ≡ Equal = tied_itself int_cmp_total b in rw tied refl))
    (λ e. (Decides-int_eq a b).1 (sym (exact_signed b a (eq_from (int_cmp b a) e))))

found_at : (collection : List ℕ) (cut : Cut) (key : ℤ) (entries : List (ℤ × Group)) → change_of (name_at collection cut key) (map (change_at collection cut) entries) ≡ option_map (λ group. change_at collection cut (key, group)) (lookup (is_at (int_cmp key)) entries)
found_at collection cut key [] = refl
found_at collection cut key (e ∷ entries) = go (is_at (int_cmp key) e.0) refl (found_at collection cut key entries)
  where
    test : is_name (name_at collection cut e.0) (name_at collection cut key) ≡ is_at (int_cmp key) e.0
    test = rw (text_self collection, cut_self cut) (key_test e.0 key)

    go : (b : Bool) → is_at (int_cmp key) e.0 ≡ b → change_of (name_at collection cut key) (map (change_at collection cut) entries) ≡ option_map (λ group. change_at collection cut (key, group)) (lookup (is_at (int_cmp key)) entries)
        → cond (is_name (name_at collection cut e.0) (name_at collection cut key)) (Some (change_at collection cut e)) (change_of (name_at collection cut key) (map (change_at collection cut) entries))
        ≡ option_map (λ group. change_at collection cut (key, group)) (cond b (Some e.1) (lookup (is_at (int_cmp key)) entries))
    go true is more =
        let same : e.0 ≡ key = (Decides-int_eq e.0 key).0 (key_test e.0 key ∙ is) in
        rw (test ∙ is) (ap (λ k. Some (change_at collection cut (k, e.1))) same)
    go false is more = rw (test ∙ is) more

-- a name of another collection or another cut has no change
found_not : (collection : List ℕ) (cut : Cut) (name : PartName) (entries : List (ℤ × Group)) → (bytes_eq collection name.collection && is_cut cut name.cut) ≡ false → change_of name (map (change_at collection cut) entries) ≡ None
found_not collection cut name [] apart = refl
found_not collection cut name (e ∷ entries) apart = rw apart (found_not collection cut name entries apart)

-- ---- all of them

made_here : (content : Content) (change : Change) (cut : Cut) (groups : BTreeMap ℤ Group) (key : ℤ) → Here content change cut → AreGrouped content.items (collection_of change.load) cut (gone change.load) change.come groups
    → IsMadeOf content change (here_at change cut key) (option_map (λ group. change_at (collection_of change.load) cut (key, group)) (get int_cmp groups key))
made_here content change cut groups key h are = go (get int_cmp groups key) refl
  where
    touch : touches content change (here_at change cut key) ≡ is_some (get int_cmp groups key)
    touch = touches_here content change cut key h ∙ sym (are.some key)

    go : (o : Option Group) → get int_cmp groups key ≡ o → IsMadeOf content change (here_at change cut key) (option_map (λ group. change_at (collection_of change.load) cut (key, group)) o)
    go None e = touch ∙ ap is_some e
    go (Some group) e = record {
      name_is = refl;
      touch = touch ∙ ap is_some e;
      come_is = ap come_in (sym e) ∙ (are.come_is key ∙ sym (comes_here content change cut key h));
      gone_is = λ item there.
          ap (λ o. is_among (gone_in o) item.id) (sym e) ∙ (are.gone_is key item.id ∙ (ap (λ b. is_among (gone change.load) item.id && b) (stood_of content change cut key item h there) ∙ (last (is_among (gone change.load) item.id) ∙ sym (takes_ids change.load item.id h.items))));
    }
      where
        last : (b : Bool) → (b && true) ≡ b
        last true = refl
        last false = refl

none_belong : (collections : List Collection) (name : PartName) (items : List Feature) → has_cut collections name ≡ false → filter (belongs collections name) items ≡ []
none_belong collections name [] e = refl
none_belong collections name (x ∷ items) e = rw e (none_belong collections name items e)

untouched_elsewhere : (content : Content) (change : Change) (cut : Cut) (name : PartName) → Here content change cut → IsAllowed content change → (bytes_eq (collection_of change.load) name.collection && is_cut cut name.cut) ≡ false
    → touches content change name ≡ false
untouched_elsewhere content change cut name h t apart = go (touches content change name) refl
  where
    go : (b : Bool) → touches content change name ≡ b → b ≡ false
    go false e = refl
    go true e =
        let of : collection_of change.load ≡ name.collection = touched_collection content change name t e in
        let other : is_cut cut name.cut ≡ false = sym (ap (λ b. b && is_cut cut name.cut) (text_test (collection_of change.load) name.collection of)) ∙ apart in
        let none : has_cut content.collections name ≡ false = cut_is content name h.collection h.is (subst (λ c. find (is_called c) content.collections ≡ Some h.collection) of h.there) ∙ (ap (λ c. is_cut c name.cut) h.cut_is ∙ other) in
        let come : comes content change name ≡ [] = ap (λ c. filter (belongs c name) change.come) (same_collections content.collections change.load h.items) ∙ none_belong content.collections name change.come none in
        let part : part_of content name ≡ [] = none_belong content.collections name content.items none in
        sym e ∙ (ap (λ l. not (is_empty l) || list_any (goes change.load) (part_of content name)) come ∙ ap (λ l. list_any (goes change.load) l) part)

same_at : (collection : List ℕ) (cut : Cut) (name : PartName) → (bytes_eq collection name.collection && is_cut cut name.cut) ≡ true → name_at collection cut name.key ≡ name
same_at collection cut name e =
    let both = and_parts (bytes_eq collection name.collection) (is_cut cut name.cut) e in
    let c = same_text collection name.collection both.0 in
    let k = same_cut cut name.cut both.1 in
    λ i. record { collection = c i; cut = k i; key = name.key }

made_each : (content : Content) (change : Change) (cut : Cut) (groups : BTreeMap ℤ Group) (name : PartName) → Here content change cut → IsAllowed content change → AreGrouped content.items (collection_of change.load) cut (gone change.load) change.come groups
    → IsMadeOf content change name (change_of name (map (change_at (collection_of change.load) cut) groups.entries))
made_each content change cut groups name h t are = go (bytes_eq (collection_of change.load) name.collection && is_cut cut name.cut) refl
  where
    go : (b : Bool) → (bytes_eq (collection_of change.load) name.collection && is_cut cut name.cut) ≡ b → IsMadeOf content change name (change_of name (map (change_at (collection_of change.load) cut) groups.entries))
    go false e = subst (IsMadeOf content change name) (sym (found_not (collection_of change.load) cut name groups.entries e)) (untouched_elsewhere content change cut name h t e)
    go true e = subst (λ n. IsMadeOf content change n (change_of n (map (change_at (collection_of change.load) cut) groups.entries))) (same_at (collection_of change.load) cut name e)
        (subst (IsMadeOf content change (here_at change cut name.key)) (sym (found_at (collection_of change.load) cut name.key groups.entries)) (made_here content change cut groups name.key h are))

-- ---- their order

rising : (keys : List ℤ) → IsStrictlySortedBy int_cmp keys → IsAscending (λ a b. int_cmp a b ≡ Less) keys
unfolding IsStrictlySortedBy
rising [] sorted = tt
rising (k ∷ keys) sorted = (sorted.0, rising keys sorted.1)

name_rises : (collection : List ℕ) (cut : Cut) (a b : ℤ) → int_cmp a b ≡ Less → name_order (name_at collection cut a) (name_at collection cut b) ≡ Less
name_rises collection cut a b e =
    let t : text_order collection collection ≡ Equal = tied_itself nat_list_cmp_total collection in
    let n : nat_cmp (cut_place cut) (cut_place cut) ≡ Equal = tied_itself nat_cmp_total (cut_place cut) in
    rw (t, n) e

rise_from : (collection : List ℕ) (cut : Cut) (entries : List (ℤ × Group)) → IsAscending (λ a b. int_cmp a b ≡ Less) (keys_of entries) → IsAscending (λ a b. name_order a.name b.name ≡ Less) (map (change_at collection cut) entries)
rise_from collection cut [] up = tt
rise_from collection cut (e ∷ entries) up = (head entries up.0, rise_from collection cut entries up.1)
  where
    head : (more : List (ℤ × Group)) → AllByRecursion (λ k. int_cmp e.0 k ≡ Less) (keys_of more) → AllByRecursion (λ c. name_order (name_at collection cut e.0) c.name ≡ Less) (map (change_at collection cut) more)
    head [] all = tt
    head (x ∷ more) all = (name_rises collection cut e.0 x.0 all.0, head more all.1)

-- the changes of groups that tell what a load does
pub made_of : (content : Content) (change : Change) (cut : Cut) (collection : Collection) (groups : BTreeMap ℤ Group) (changes : List PartChange) → IsContent content → IsAllowed content change → is_of_items change.load ≡ true
    → find (is_called (collection_of change.load)) content.collections ≡ Some collection → collection.cut ≡ cut → AreGrouped content.items (collection_of change.load) cut (gone change.load) change.come groups
    → IsOrdered int_cmp groups → changes ≡ map (change_at (collection_of change.load) cut) groups.entries → AreMade content change changes
made_of content change cut collection groups changes is t items there same are ordered e =
    let h : Here content change cut = record { is = is; items = items; collection = collection; there = there; cut_is = same } in
    subst (AreMade content change) (sym e) (record {
      rise = pairs_from_ascending (λ a b. name_order a.name b.name ≡ Less) _ (rise_from (collection_of change.load) cut groups.entries (rising (keys_of groups.entries) ordered));
      each = λ name. made_each content change cut groups name h t are;
    })

-- the same of the load's fields by other names
pub made_from : (content : Content) (change : Change) (cut : Cut) (collection : Collection) (groups : BTreeMap ℤ Group) (changes : List PartChange) (id : List ℕ) (ids : List (List ℕ)) (come : List Feature) → IsContent content → IsAllowed content change
    → is_of_items change.load ≡ true → collection_of change.load ≡ id → gone change.load ≡ ids → change.come ≡ come → find (is_called id) content.collections ≡ Some collection → collection.cut ≡ cut
    → AreGrouped content.items id cut ids come groups → IsOrdered int_cmp groups → changes ≡ map (change_at id cut) groups.entries → AreMade content change changes
made_from content change cut collection groups changes id ids come is t items of takes brings there same are ordered e =
    made_of content change cut collection groups changes is t items (subst (λ c. find (is_called c) content.collections ≡ Some collection) (sym of) there) same
    (subst (λ c. AreGrouped content.items c cut (gone change.load) change.come groups) (sym of) (subst (λ l. AreGrouped content.items id cut l change.come groups) (sym takes) (subst (λ l. AreGrouped content.items id cut ids l groups) (sym brings) are)))
    ordered (subst (λ c. changes ≡ map (change_at c cut) groups.entries) (sym of) e)
