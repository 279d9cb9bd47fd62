-- The items of each part belong to it, before and after changes.
use Rattle.std.proofs.Common.{◌≡◌, ℕ, Bool, true, false, cond, not, List, [], ◌∷◌, filter, Option, Some, None, refl, sym, subst}
use Rattle.std.specs.Prelude.{IfSome, find}
use Rattle.std.specs.List.{All, AllByRecursion}
use Rattle.std.proofs.lemmas.List.Elements.{All-append, All-filter, recursion_from_All, All-from_recursion}
use Rattle.sqlite_trees.specs.Tree.{IsAscending}
use Rattle.sqlite_keyed.proofs.ListLemmas.{all_weaker, all_both}
use Rattle.sc_item.specs.Feature.{Feature}
use Rattle.sc_cut.specs.declared.name.PartName.{PartName}
use Rattle.sc_history.specs.Changes.{is_among}
use Rattle.sc_history.specs.Names.{Fits, is_empty, is_name, scan_of}
use Rattle.sc_history.specs.Part.{Part, lookup, AreInOrder}
use Rattle.sc_history.specs.Touch.{made, renewed, stamped, touched, unless_empty, widened}
use Rattle.sc_history.proofs.Lists.{ascending_from_pairs}
use Rattle.sc_history.proofs.Names.{name_self, same_name}
use Rattle.sc_history.proofs.Scans.{all_scanned}
use Rattle.sc_shelf.specs.declared.change.PartChange.{PartChange}
use Rattle.sc_shelf.specs.Changed.{AreChanged, AreChangesOf, IsChangeOf, change_of, changed, come_by}
use Rattle.sc_shelf.specs.Kept.{AreParts, HasItsOwn}
use Rattle.sc_shelf.proofs.Between.{Rises, other_name}

-- ---- what is found

-- each part of a list whose names rise is found by its name
pub each_found : (parts : List Part) → IsAscending Rises parts → AllByRecursion (λ p. lookup p.name parts ≡ Some p) parts
each_found [] up = tt
each_found (x ∷ parts) up =
    (rw (name_self x.name) refl, all_both (Rises x) (λ p. lookup p.name parts ≡ Some p) (λ p. lookup p.name (x ∷ parts) ≡ Some p) (λ p lt e. rw (other_name x.name p.name lt) e) parts up.0 (each_found parts up.1))

-- what is found passes the test, and what holds of all holds of it
pub find_holds : {X : Type 0} (P : X → Type 0) (test : X → Bool) (xs : List X) → AllByRecursion P xs → IfSome (find test xs) (λ x. P x × (test x ≡ true))
find_holds P test [] all = tt
find_holds {X} P test (x ∷ xs) all = go (test x) refl (find_holds P test xs all.1)
  where
    go : (t : Bool) → test x ≡ t → IfSome (find test xs) (λ y. P y × (test y ≡ true)) → IfSome (cond t (Some x) (find test xs)) (λ y. P y × (test y ≡ true))
    go true e more = (all.0, e)
    go false e more = more

pub if_some : {X : Type 0} (P : X → Type 0) (found : Option X) (x : X) → found ≡ Some x → IfSome found P → P x
if_some P found x e h = subst (λ o. IfSome o P) e h

pub some_weaker : {X : Type 0} (P Q : X → Type 0) (found : Option X) → ((x : X) → P x → Q x) → IfSome found P → IfSome found Q
some_weaker P Q None f h = tt
some_weaker P Q (Some x) f h = f x h

-- ---- a touched part

abbrev pub IsOwn : PartName → Part → Type 0
IsOwn name part = (part.name ≡ name) × HasItsOwn part

unless_own : (part : Part) → HasItsOwn part → IfSome (unless_empty part) HasItsOwn
unless_own part own = go (is_empty part.items)
  where
    go : (t : Bool) → IfSome (cond t None (Some part)) HasItsOwn
    go true = tt
    go false = own

widened_own : (revision : ℕ) (come : List Feature) (part : Part) → HasItsOwn part → HasItsOwn (widened revision come part)
widened_own revision [] part own = own
widened_own revision (item ∷ come) part own = own

renewed_own : (name : PartName) (taken : List ℕ → Bool) (come items : List Feature) → All (Fits name) come → All (Fits name) items → All (Fits name) (renewed taken come items)
renewed_own name taken come items fits own = All-append (Fits name) come (filter (λ item. not (taken item.id)) items) fits (All-filter (λ item. not (taken item.id)) (Fits name) items own)

touched_own : (revision : ℕ) (name : PartName) (taken : List ℕ → Bool) (come : List Feature) (part : Option Part) → All (Fits name) come → IfSome part (IsOwn name) → IfSome (touched revision name taken come part) HasItsOwn
unfolding touched
touched_own revision name taken come None fits own = unless_own (made revision name come) (all_scanned (Fits name) come fits)
touched_own revision name taken come (Some part) fits own =
    let here : All (Fits part.name) come = subst (λ n. All (Fits n) come) (sym own.0) fits in
    unless_own (widened revision come (stamped revision (scan_of (renewed taken come part.items)) part)) (widened_own revision come (stamped revision (scan_of (renewed taken come part.items)) part)
    (all_scanned (Fits part.name) (renewed taken come part.items) (renewed_own part.name taken come part.items here own.1)))

pub changed_own : (revision : ℕ) (name : PartName) (c : Option PartChange) (part : Option Part) → IfSome c (λ d. All (Fits name) (come_by d)) → IfSome part (IsOwn name) → IfSome (changed revision name c part) HasItsOwn
changed_own revision name None part fits own = some_weaker (IsOwn name) HasItsOwn part (λ p h. h.1) own
changed_own revision name (Some c) part fits own = touched_own revision name (is_among c.gone) (come_by c) part fits own

-- ---- all parts

pub found_own : (parts : List Part) (name : PartName) → AreParts parts → IfSome (lookup name parts) (IsOwn name)
found_own parts name are =
    some_weaker (λ p. HasItsOwn p × (is_name p.name name ≡ true)) (IsOwn name) (lookup name parts) (λ p h. (same_name p.name name h.1, h.0))
    (find_holds HasItsOwn (λ p. is_name p.name name) parts (recursion_from_All HasItsOwn parts are.own))

change_fits : (changes : List PartChange) (old : List Part) (name : PartName) → AreChangesOf old changes → IfSome (change_of name changes) (λ d. All (Fits name) (come_by d))
change_fits changes old name are =
    some_weaker (λ d. IsChangeOf (lookup d.name old) d × (is_name d.name name ≡ true)) (λ d. All (Fits name) (come_by d)) (change_of name changes) (λ d h. subst (λ n. All (Fits n) (come_by d)) (same_name d.name name h.1) h.0.fits)
    (find_holds (λ d. IsChangeOf (lookup d.name old) d) (λ d. is_name d.name name) changes (recursion_from_All (λ d. IsChangeOf (lookup d.name old) d) changes are.each))

-- a list in which each name has what belongs to it
pub parts_own : (parts : List Part) → AreInOrder parts → ((name : PartName) → IfSome (lookup name parts) HasItsOwn) → AreParts parts
parts_own parts rise own = record {
  rise = rise;
  own = All-from_recursion HasItsOwn parts (all_weaker (λ p. lookup p.name parts ≡ Some p) HasItsOwn (λ p e. if_some HasItsOwn (lookup p.name parts) p e (own p.name)) parts (each_found parts (ascending_from_pairs Rises parts rise)));
}

pub changed_parts_own : (revision : ℕ) (changes : List PartChange) (old new : List Part) → AreParts old → AreChangesOf old changes → AreChanged revision changes old new → AreParts new
changed_parts_own revision changes old new are of is =
    parts_own new is.rise (λ name. subst (λ q. IfSome q HasItsOwn) (sym (is.each name)) (changed_own revision name (change_of name changes) (lookup name old) (change_fits changes old name of) (found_own old name are)))
