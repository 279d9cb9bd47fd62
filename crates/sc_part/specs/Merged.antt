-- What a merge of a version's items with those that come finds out. No public clause cites it.
use Rattle.std.specs.Prelude.{◌≡◌, ℕ, ◌<◌, Bool, true, false, List, [], ◌∷◌, Option, Some, None, length, slice_index_or, slice_set, if◌then◌else◌}
use Rattle.std.specs.List.{AllByRecursion}
use Rattle.std.specs.Ordering.{is_gt}
use Rattle.sqlite_trees.specs.Tree.{IsAscending}
use Rattle.sc_item.specs.Feature.{Feature}
use Rattle.sc_part.specs.declared.entry.Entry.{Entry}
use Rattle.sc_part.specs.Entry.{id_at}
use Rattle.sc_part.specs.Scan.{scan_order}

-- no item comes after a later one
abbrev pub IsUp : List Feature → Type 0
IsUp items = IsAscending (λ a b. is_gt (scan_order a b) ≡ false) items

-- all of these come after the item
abbrev pub AreAbove : Feature → List Feature → Type 0
AreAbove item items = AllByRecursion (λ i. is_gt (scan_order i item) ≡ true) items

-- none of these comes before the item
abbrev pub AreFrom : Feature → List Feature → Type 0
AreFrom item items = AllByRecursion (λ i. is_gt (scan_order item i) ≡ false) items

-- the elements whose mark is false
abbrev pub staying : {X : Type 0} → List Bool → List X → List X
staying [] xs = []
staying (mark ∷ marks) [] = []
staying (mark ∷ marks) (x ∷ xs) = if mark then staying marks xs else x ∷ staying marks xs

-- each of the first ids that stays stands in the new list at the place that is told for it
pub record AreMoved (old new : List (List ℕ)) (marks : List Bool) (places : List ℕ) (upto : ℕ) : Type 0 where
  pub count : length places ≡ upto
  pub within : (p : ℕ) → p < upto → slice_index_or marks p false ≡ false → slice_index_or places p 0 < length new
  pub same : (p : ℕ) → p < upto → slice_index_or marks p false ≡ false → id_at new (slice_index_or places p 0) ≡ id_at old p

-- an entry where its id stands now; none where it goes
abbrev pub moved_entry : List Bool → List ℕ → Entry → Option Entry
moved_entry marks places entry =
    if slice_index_or marks entry.place false then None else Some (record { digest = entry.digest; place = slice_index_or places entry.place 0 })

-- marks with one more set, if there is a place
abbrev pub marked : List Bool → Option ℕ → List Bool
marked marks None = marks
marked marks (Some place) = slice_set marks place true
