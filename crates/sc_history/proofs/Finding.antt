-- Items found by id after a change, and the parts that it touches.
use Rattle.std.proofs.Common.{◌≡◌, ℕ, Bool, true, false, not, cond, ◌&&◌, ◌||◌, List, [], ◌∷◌, filter, map, Option, Some, None, refl, sym, ap, ◌∙◌, bytes_eq}
use Rattle.std.specs.Option.{option_or}
use Rattle.std.specs.List.{list_any}
use Rattle.std.proofs.lemmas.Bool.{and_parts}
use Rattle.std.proofs.lemmas.List.Folds.{find-append}
use Rattle.std.proofs.lemmas.List.Sorted.{list_any-IsPermutation}
use Rattle.sc_json.specs.declared.tree.Json.{Json}
use Rattle.sc_item.specs.Feature.{Feature}
use Rattle.sc_cut.specs.declared.cut.Cut.{Cut}
use Rattle.sc_cut.specs.declared.name.PartName.{PartName}
use Rattle.sc_load.specs.declared.load.Load.{Load}
use Rattle.sc_load.specs.declared.load.Load.TheVariants.{AddCollection, DropCollection}
use Rattle.sc_load.specs.Load.{collection_of}
use Rattle.sc_history.specs.Content.{Content, is_item, item_in}
use Rattle.sc_history.specs.Changes.{Change, apply, goes, takes}
use Rattle.sc_history.specs.Names.{ArePartsOf, belongs, is_empty, part_of, scan_of}
use Rattle.sc_history.specs.History.{replay, touches}
use Rattle.sc_history.specs.Part.{Part, lookup}
use Rattle.sc_history.specs.Touch.{ArePublished, loses, touched}
use Rattle.sc_history.specs.Sound.{Stand, Stands}
use Rattle.sc_history.proofs.Texts.{never, same_text}
use Rattle.sc_history.proofs.Scans.{scan_nothing, scan_same}
use Rattle.sc_history.proofs.Standing.{Next, stand_next}
use Rattle.sc_history.proofs.Counting.{stand_parts}

-- ---- items by id

goes_by_name : (load : Load) (collection id : List ℕ) (item : Feature) → is_item collection id item ≡ true → goes load item ≡ (bytes_eq collection (collection_of load) && takes load id)
goes_by_name load collection id item e =
    let both = and_parts (bytes_eq item.collection collection) (bytes_eq item.id id) e in
    rw (same_text item.collection collection both.0, same_text item.id id both.1) refl

found_left : (load : Load) (collection id : List ℕ) (items : List Feature) → item_in (filter (λ item. not (goes load item)) items) collection id ≡ cond (bytes_eq collection (collection_of load) && takes load id) None (item_in items collection id)
found_left load collection id [] = go (bytes_eq collection (collection_of load) && takes load id)
  where
    go : (b : Bool) → None ≡ cond b None (item_in [] collection id)
    go true = refl
    go false = refl
found_left load collection id (x ∷ items) = go (is_item collection id x) refl (goes load x) refl (bytes_eq collection (collection_of load) && takes load id) (goes_by_name load collection id x) (found_left load collection id items)
  where
    rest : List Feature
    rest = filter (λ item. not (goes load item)) items

    go : (t : Bool) → is_item collection id x ≡ t → (g : Bool) → goes load x ≡ g → (b : Bool) → (is_item collection id x ≡ true → goes load x ≡ b) → item_in rest collection id ≡ cond b None (item_in items collection id)
        → item_in (cond (not g) (x ∷ rest) rest) collection id ≡ cond b None (cond t (Some x) (item_in items collection id))
    go true e true f true same more = more
    go true e true f false same more = never (goes load x) f (same e)
    go true e false f true same more = never (goes load x) (same e) f
    go true e false f false same more = rw e refl
    go false e true f b same more = more
    go false e false f b same more = rw e more

-- an item after a change is one that comes, or one that stays
pub item_after : (content : Content) (change : Change) (collection id : List ℕ) → item_in (apply content change).items collection id ≡
    option_or (item_in change.come collection id) (cond (bytes_eq collection (collection_of change.load) && takes change.load id) None (item_in content.items collection id))
item_after content change collection id =
    find-append (is_item collection id) change.come (filter (λ item. not (goes change.load item)) content.items)
    ∙ ap (λ o. option_or (item_in change.come collection id) o) (found_left change.load collection id content.items)

-- ---- the parts that a change touches

some_come : (test : Feature → Bool) (items : List Feature) → not (is_empty (filter test items)) ≡ list_any test items
some_come test [] = refl
some_come test (x ∷ items) = go (test x) (some_come test items)
  where
    go : (b : Bool) → not (is_empty (filter test items)) ≡ list_any test items → not (is_empty (cond b (x ∷ filter test items) (filter test items))) ≡ (b || list_any test items)
    go true e = refl
    go false e = e

loses_same : (past : List Change) (load : Load) (name : PartName) (part : Option Part) → Stands past name part → list_any (goes load) (part_of (replay past) name) ≡ loses load part
loses_same past load name None none = ap (list_any (goes load)) none
loses_same past load name (Some part) old =
    list_any-IsPermutation (goes load) (part_of (replay past) name) (scan_of (part_of (replay past) name)) (scan_same (part_of (replay past) name)) ∙ ap (list_any (goes load)) (sym old.items_are)

-- they are those to which what comes belongs, and those that lose an item
pub touches_is : (past : List Change) (parts : List Part) (change : Change) (name : PartName) → Stand past parts
    → touches (replay past) change name ≡ (list_any (belongs (apply (replay past) change).collections name) change.come || loses change.load (lookup name parts))
touches_is past parts change name stand =
    ap (λ b. b || list_any (goes change.load) (part_of (replay past) name)) (some_come (belongs (apply (replay past) change).collections name) change.come)
    ∙ ap (λ b. list_any (belongs (apply (replay past) change).collections name) change.come || b) (loses_same past change.load name (lookup name parts) (stand.each name))

-- ---- collections that come and go

none_go : (id : List ℕ) (cut : Cut) (tree : Json) (items : List Feature) → list_any (goes (AddCollection id cut tree)) items ≡ false
none_go id cut tree [] = refl
none_go id cut tree (x ∷ items) = go (bytes_eq x.collection id) (none_go id cut tree items)
  where
    go : (b : Bool) → list_any (goes (AddCollection id cut tree)) items ≡ false → ((b && false) || list_any (goes (AddCollection id cut tree)) items) ≡ false
    go true e = e
    go false e = e

pub add_touches_none : (content : Content) (id : List ℕ) (cut : Cut) (tree : Json) (name : PartName) → touches content (record { load = AddCollection id cut tree; come = [] }) name ≡ false
add_touches_none content id cut tree name = none_go id cut tree (part_of content name)

none_stay : (items : List Feature) → filter (λ item. not true) items ≡ []
none_stay [] = refl
none_stay (x ∷ items) = none_stay items

pub drop_takes_all : (revision : ℕ) (name : PartName) (id : List ℕ) (part : Option Part) → touched revision name (takes (DropCollection id)) [] part ≡ None
unfolding touched
drop_takes_all revision name id None = rw scan_nothing refl
drop_takes_all revision name id (Some part) = rw (none_stay part.items, scan_nothing) refl

-- ---- the names after a change

pub names_after : (past : List Change) (change : Change) (old new : List Part) → Next past change → Stand past old → ArePublished past change old new → ArePartsOf (apply (replay past) change) (map (λ p. p.name) new)
unfolding replay
names_after past change old new n stand are = stand_parts (change ∷ past) new (stand_next past change old new n stand are)
