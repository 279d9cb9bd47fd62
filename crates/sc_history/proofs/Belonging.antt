-- Each item of a content belongs to one part, so the parts that stand have all items.
use Rattle.std.proofs.Common.{◌≡◌, ℕ, Bool, true, false, cond, ◌&&◌, ◌||◌, ◌⊎◌, inl, inr, List, [], ◌∷◌, map, filter, find, flat_map, Some, None, refl, sym, ap, ◌∙◌, subst, ℤ, bytes_eq, eq-eqb, arith, IsPermutation, Contains, Less}
use Rattle.std.specs.List.{AllByRecursion, list_any}
use Rattle.std.proofs.lemmas.Bool.{and_parts, and_from}
use Rattle.std.proofs.lemmas.List.Elements.{recursion_from_All, All-contains, All-contains_itself}
use Rattle.std.proofs.lemmas.List.Sorted.{IsPermutation-refl, IsPermutation-trans, IsPermutation-sym, IsPermutation-cons, IsPermutation-append, IsPermutation-append_right, IsPermutation-middle, list_any-IsPermutation}
use Rattle.sqlite_trees.specs.Tree.{IsAscending}
use Rattle.sqlite_keyed.proofs.ListLemmas.{all_weaker, all_both, flat_map_none}
use Rattle.sc_item.specs.Feature.{Feature}
use Rattle.sc_cut.specs.declared.cut.Cut.{Cut}
use Rattle.sc_cut.specs.declared.name.PartName.{PartName}
use Rattle.sc_cut.specs.Key.{HasKey}
use Rattle.sc_cut.proofs.Keys.{one_key_only}
use Rattle.sc_load.specs.Load.{IsItemOf}
use Rattle.sc_history.specs.Content.{Collection, Content, IsContent, has_item, is_called, is_item, is_made}
use Rattle.sc_history.specs.Changes.{Change}
use Rattle.sc_history.specs.Names.{ArePartsOf, belongs, fits, cut_place, is_cut, has_cut, is_empty, is_name, name_order, part_of}
use Rattle.sc_history.specs.History.{replay}
use Rattle.sc_history.specs.Part.{Part, lookup}
use Rattle.sc_history.specs.Sound.{Stand, Stands, StandsAs}
use Rattle.sc_history.proofs.Texts.{never, or_true, same_text, text_turn}
use Rattle.sc_history.proofs.Names.{name_self, same_cut, same_name}
use Rattle.sc_history.proofs.Lists.{ascending_from_pairs}
use Rattle.sc_history.proofs.Scans.{scan_same}
use Rattle.sc_history.proofs.Keys.{fits_is, is_fits, item_instant, key_there}
use Rattle.sc_history.proofs.Counting.{Rises, contains_cases, above_head, not_itself, nothing_in, stand_parts}

-- ---- one cut a collection

abbrev pub AreTwo : Collection → Collection → Type 0
AreTwo a b = bytes_eq a.id b.id ≡ false

cut_self : (cut : Cut) → is_cut cut cut ≡ true
cut_self cut = eq-eqb (cut_place cut) (cut_place cut) refl

-- the cut of a collection that is there
cut_there : (collections : List Collection) (id : List ℕ) → is_made collections id ≡ true → (cut : Cut) × ((key : ℤ) → has_cut collections (record { collection = id; cut = cut; key = key }) ≡ true)
cut_there [] id e = never false e refl
cut_there (c ∷ collections) id e = go (is_called id c) refl (cut_there collections id) e
  where
    go : (b : Bool) → is_called id c ≡ b → (is_made collections id ≡ true → (cut : Cut) × ((key : ℤ) → has_cut collections (record { collection = id; cut = cut; key = key }) ≡ true)) → (b || is_made collections id) ≡ true
        → (cut : Cut) × ((key : ℤ) → has_cut (c ∷ collections) (record { collection = id; cut = cut; key = key }) ≡ true)
    go true is more e = (c.cut, λ key. rw (is, cut_self c.cut) refl)
    go false is more e = let found = more e in (found.0, λ key. or_true (is_called id c && is_cut c.cut found.0) (has_cut collections (record { collection = id; cut = found.0; key = key })) (found.1 key))

none_called : (id : List ℕ) (test : Collection → Bool) (collections : List Collection) → AllByRecursion (λ c. is_called id c ≡ false) collections → list_any (λ c. is_called id c && test c) collections ≡ false
none_called id test [] all = refl
none_called id test (c ∷ collections) all = rw all.0 (none_called id test collections all.1)

first_cut : (a b : Cut) (rest : Bool) → rest ≡ false → (is_cut a b || rest) ≡ true → a ≡ b
first_cut a b rest none e = same_cut a b (go (is_cut a b) refl (rw none at e))
  where
    go : (t : Bool) → is_cut a b ≡ t → (t || false) ≡ true → is_cut a b ≡ true
    go true is e = is
    go false is e = never false e refl

one_cut : (collections : List Collection) (id : List ℕ) (a b : Cut) → IsAscending AreTwo collections → list_any (λ c. is_called id c && is_cut c.cut a) collections ≡ true → list_any (λ c. is_called id c && is_cut c.cut b) collections ≡ true → a ≡ b
one_cut [] id a b apart e f = never false e refl
one_cut (c ∷ collections) id a b apart e f = go (is_called id c) refl (one_cut collections id a b apart.1) e f
  where
    others : is_called id c ≡ true → AllByRecursion (λ d. is_called id d ≡ false) collections
    others is = all_weaker (AreTwo c) (λ d. is_called id d ≡ false) (λ d h. text_turn d.id id ∙ subst (λ x. bytes_eq x d.id ≡ false) (same_text c.id id is) h) collections apart.0

    go : (t : Bool) → is_called id c ≡ t → (list_any (λ d. is_called id d && is_cut d.cut a) collections ≡ true → list_any (λ d. is_called id d && is_cut d.cut b) collections ≡ true → a ≡ b)
        → ((t && is_cut c.cut a) || list_any (λ d. is_called id d && is_cut d.cut a) collections) ≡ true → ((t && is_cut c.cut b) || list_any (λ d. is_called id d && is_cut d.cut b) collections) ≡ true → a ≡ b
    go true is more e f = sym (first_cut c.cut a _ (none_called id (λ d. is_cut d.cut a) collections (others is)) e) ∙ first_cut c.cut b _ (none_called id (λ d. is_cut d.cut b) collections (others is)) f
    go false is more e f = more e f

-- the cut of the collection that is found
pub cut_found : (collections : List Collection) (id : List ℕ) (cut : Cut) (c : Collection) → IsAscending AreTwo collections → find (is_called id) collections ≡ Some c → list_any (λ d. is_called id d && is_cut d.cut cut) collections ≡ is_cut c.cut cut
cut_found [] id cut c apart e = absurd cc
cut_found (d ∷ collections) id cut c apart e = go (is_called id d) refl (cut_found collections id cut c apart.1) e
  where
    others : is_called id d ≡ true → AllByRecursion (λ x. is_called id x ≡ false) collections
    others is = all_weaker (AreTwo d) (λ x. is_called id x ≡ false) (λ x h. text_turn x.id id ∙ subst (λ y. bytes_eq y x.id ≡ false) (same_text d.id id is) h) collections apart.0

    alone : (b rest : Bool) → rest ≡ false → (b || rest) ≡ b
    alone true rest none = refl
    alone false rest none = none

    go : (t : Bool) → is_called id d ≡ t → (find (is_called id) collections ≡ Some c → list_any (λ x. is_called id x && is_cut x.cut cut) collections ≡ is_cut c.cut cut) → cond t (Some d) (find (is_called id) collections) ≡ Some c
        → ((t && is_cut d.cut cut) || list_any (λ x. is_called id x && is_cut x.cut cut) collections) ≡ is_cut c.cut cut
    go true is more e = let same : d ≡ c = cc in alone (is_cut d.cut cut) _ (none_called id (λ x. is_cut x.cut cut) collections (others is)) ∙ ap (λ x. is_cut x.cut cut) same
    go false is more e = more e

pub cut_missing : (collections : List Collection) (id : List ℕ) (cut : Cut) → find (is_called id) collections ≡ None → list_any (λ d. is_called id d && is_cut d.cut cut) collections ≡ false
cut_missing [] id cut e = refl
cut_missing (d ∷ collections) id cut e = go (is_called id d) (cut_missing collections id cut) e
  where
    go : (t : Bool) → (find (is_called id) collections ≡ None → list_any (λ x. is_called id x && is_cut x.cut cut) collections ≡ false) → cond t (Some d) (find (is_called id) collections) ≡ None
        → ((t && is_cut d.cut cut) || list_any (λ x. is_called id x && is_cut x.cut cut) collections) ≡ false
    go true more e = absurd cc
    go false more e = more e

-- ---- one part an item

pub part_there : (content : Content) (item : Feature) → is_made content.collections item.collection ≡ true → IsItemOf item.collection item → (name : PartName) × (belongs content.collections name item ≡ true)
part_there content item made read =
    let cut = cut_there content.collections item.collection made in
    let at = item_instant item.collection item.tree item read in
    let key = key_there cut.0 item.start at in
    let name : PartName = record { collection = item.collection; cut = cut.0; key = key.0 } in
    (name, and_from (has_cut content.collections name) (fits name item) (cut.1 key.0) (is_fits name item at (record { collection = refl; key = key.2 })))

names_equal : (a b : PartName) → a.collection ≡ b.collection → a.cut ≡ b.cut → a.key ≡ b.key → a ≡ b
names_equal a b c k n = λ i. record { collection = c i; cut = k i; key = n i }

pub one_part : (content : Content) (a b : PartName) (item : Feature) → IsContent content → IsItemOf item.collection item → belongs content.collections a item ≡ true → belongs content.collections b item ≡ true → a ≡ b
one_part content a b item is read e f =
    let at = item_instant item.collection item.tree item read in
    let p = and_parts (has_cut content.collections a) (fits a item) e in
    let q = and_parts (has_cut content.collections b) (fits b item) f in
    let u = fits_is a item at p.1 in
    let v = fits_is b item at q.1 in
    let c : a.collection ≡ b.collection = sym u.collection ∙ v.collection in
    let k : a.cut ≡ b.cut = one_cut content.collections b.collection a.cut b.cut (ascending_from_pairs AreTwo content.collections is.collections_apart)
    (subst (λ x. list_any (λ d. is_called x d && is_cut d.cut a.cut) content.collections ≡ true) c p.0) q.0 in
    names_equal a b c k (one_key_only b.cut a.key b.key item.start (subst (λ x. HasKey x a.key item.start) k u.key) v.key)

-- ---- the parts have all items

-- just one of the names passes
abbrev Once : (PartName → Bool) → List PartName → Type 0
Once test [] = ⊥
Once test (name ∷ names) = ((test name ≡ true) × AllByRecursion (λ other. test other ≡ false) names) ⊎ ((test name ≡ false) × Once test names)

none_others : (test : PartName → Bool) (name : PartName) (names : List PartName) → ((other : PartName) → test other ≡ true → other ≡ name) → AllByRecursion (Rises name) names → AllByRecursion (λ other. test other ≡ false) names
none_others test name names only up = all_weaker (Rises name) (λ other. test other ≡ false) (λ other h. go other h (test other) refl) names up
  where
    go : (other : PartName) → Rises name other → (t : Bool) → test other ≡ t → test other ≡ false
    go other h true e = not_itself name (subst (Rises name) (only other e) h)
    go other h false e = e

once : (test : PartName → Bool) (name : PartName) (names : List PartName) → IsAscending Rises names → Contains names name → test name ≡ true → ((other : PartName) → test other ≡ true → other ≡ name) → Once test names
once test name [] up there e only = nothing_in name there
once test name (first ∷ names) up there e only =
    contains_cases first name names there
    (λ same. inl (subst (λ n. test n ≡ true) (sym same) e, none_others test first names (λ other k. only other k ∙ sym same) up.0))
    (λ later. go (test first) refl later (once test name names up.1 later e only))
  where
    go : (t : Bool) → test first ≡ t → Contains names name → Once test names → Once test (first ∷ names)
    go true k later more = not_itself first (subst (Rises first) (sym (only first k)) (above_head first name names up.0 later))
    go false k later more = inr (k, more)

module _ (test : PartName → Feature → Bool) where
  abbrev Parted : List Feature → List PartName → List Feature
  Parted items names = flat_map (λ name. filter (test name) items) names

  parted_same : (x : Feature) (items : List Feature) (names : List PartName) → AllByRecursion (λ name. test name x ≡ false) names → Parted (x ∷ items) names ≡ Parted items names
  parted_same x items [] all = refl
  parted_same x items (name ∷ names) all = rw (all.0, parted_same x items names all.1) refl

  parted_more : (x : Feature) (items : List Feature) (names : List PartName) → Once (λ name. test name x) names → IsPermutation (x ∷ Parted items names) (Parted (x ∷ items) names)
  parted_more x items [] never_so = absurd never_so
  parted_more x items (name ∷ names) (inl (here, none)) = rw (here, parted_same x items names none) (IsPermutation-refl _)
  parted_more x items (name ∷ names) (inr (nothere, more)) =
      rw nothere
      (IsPermutation-trans _ _ _ (IsPermutation-sym _ _ (IsPermutation-middle (filter (test name) items) x (Parted items names)))
      (IsPermutation-append_right (filter (test name) items) (x ∷ Parted items names) (Parted (x ∷ items) names) (parted_more x items names more)))

  parted : (items : List Feature) (names : List PartName) → AllByRecursion (λ x. Once (λ name. test name x) names) items → IsPermutation items (Parted items names)
  parted [] names all = subst (IsPermutation []) (sym (flat_map_none (λ name. filter (test name) []) (λ name. refl) names)) (IsPermutation-refl [])
  parted (x ∷ items) names all = IsPermutation-trans _ _ _ (IsPermutation-cons x _ _ (parted items names all.1)) (parted_more x items names all.0)

pub all_contained : {X : Type 0} (items : List X) → AllByRecursion (Contains items) items
all_contained items = recursion_from_All (Contains items) items (All-contains_itself items)

some_passes : (test : Feature → Bool) (items : List Feature) (x : Feature) → Contains items x → test x ≡ true → is_empty (filter test items) ≡ false
some_passes test [] x (k, lt, is) e = absurd (omega (arith, lt))
some_passes test (y ∷ items) x there e = go (test y) refl (some_passes test items x)
  where
    go : (t : Bool) → test y ≡ t → (Contains items x → test x ≡ true → is_empty (filter test items) ≡ false) → is_empty (cond t (y ∷ filter test items) (filter test items)) ≡ false
    go true k more = refl
    go false k more = contains_cases y x items there (λ same. never (test x) e (subst (λ z. test z ≡ false) same k)) (λ later. more later e)

once_parted : (content : Content) (names : List PartName) → IsContent content → ArePartsOf content names → AllByRecursion (λ item. Once (λ name. belongs content.collections name item) names) content.items
once_parted content names is parts = each content.items (all_contained content.items)
  where
    each : (items : List Feature) → AllByRecursion (Contains content.items) items → AllByRecursion (λ item. Once (λ name. belongs content.collections name item) names) items
    each [] all = tt
    each (x ∷ items) all =
        let made = All-contains (λ item. is_made content.collections item.collection ≡ true) content.items x is.housed all.0 in
        let read = All-contains (λ item. IsItemOf item.collection item) content.items x is.read all.0 in
        let part = part_there content x made read in
        let some = some_passes (belongs content.collections part.0) content.items x all.0 part.1 in
        (once (λ name. belongs content.collections name x) part.0 names (ascending_from_pairs Rises names parts.rise) ((parts.all part.0).1 some) part.1 (λ other e. one_part content other part.0 x is read e part.1), each items all.1)

-- the names of a content's parts tell its items apart, each once
pub items_parted : (content : Content) (names : List PartName) → IsContent content → ArePartsOf content names → IsPermutation content.items (flat_map (part_of content) names)
items_parted content names is parts = parted (belongs content.collections) content.items names (once_parted content names is parts)

-- ---- the parts that stand

each_found : (parts : List Part) → IsAscending (λ p q. name_order p.name q.name ≡ Less) parts → AllByRecursion (λ p. lookup p.name parts ≡ Some p) parts
each_found [] up = tt
each_found (p ∷ parts) up =
    (rw (name_self p.name) refl, all_both (λ q. name_order p.name q.name ≡ Less) (λ q. lookup q.name parts ≡ Some q) (λ q. lookup q.name (p ∷ parts) ≡ Some q) (λ q lt e. rw (other q lt) e) parts up.0 (each_found parts up.1))
  where
    other : (q : Part) → name_order p.name q.name ≡ Less → is_name p.name q.name ≡ false
    other q lt = go (is_name p.name q.name) refl
      where
        go : (t : Bool) → is_name p.name q.name ≡ t → is_name p.name q.name ≡ false
        go true e = not_itself p.name (subst (λ n. name_order p.name n ≡ Less) (sym (same_name p.name q.name e)) lt)
        go false e = e

-- each part that is kept stands as its name says
pub each_stands : (past : List Change) (parts : List Part) → Stand past parts → AllByRecursion (λ p. StandsAs past p.name p) parts
each_stands past parts stand =
    all_weaker (λ p. lookup p.name parts ≡ Some p) (λ p. StandsAs past p.name p) (λ p e. subst (Stands past p.name) e (stand.each p.name)) parts (each_found parts (ascending_from_pairs (λ p q. name_order p.name q.name ≡ Less) parts stand.rise))

parts_alike : (past : List Change) (parts : List Part) → AllByRecursion (λ p. StandsAs past p.name p) parts → IsPermutation (flat_map (part_of (replay past)) (map (λ p. p.name) parts)) (flat_map (λ p. p.items) parts)
parts_alike past [] all = IsPermutation-refl []
parts_alike past (p ∷ parts) all =
    IsPermutation-append (part_of (replay past) p.name) p.items (flat_map (part_of (replay past)) (map (λ q. q.name) parts)) (flat_map (λ q. q.items) parts)
    (subst (IsPermutation (part_of (replay past) p.name)) (sym all.0.items_are) (scan_same (part_of (replay past) p.name))) (parts_alike past parts all.1)

-- together they have the items of the content
pub stand_items : (past : List Change) (parts : List Part) → IsContent (replay past) → Stand past parts → IsPermutation (replay past).items (flat_map (λ p. p.items) parts)
stand_items past parts is stand =
    IsPermutation-trans _ _ _ (items_parted (replay past) (map (λ p. p.name) parts) is (stand_parts past parts stand)) (parts_alike past parts (each_stands past parts stand))

-- so an item is there where a part has it
pub stand_has : (past : List Change) (parts : List Part) (collection id : List ℕ) → IsContent (replay past) → Stand past parts → has_item (replay past).items collection id ≡ has_item (flat_map (λ p. p.items) parts) collection id
stand_has past parts collection id is stand = list_any-IsPermutation (is_item collection id) (replay past).items (flat_map (λ p. p.items) parts) (stand_items past parts is stand)
