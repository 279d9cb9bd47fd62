-- Ids that are looked up one by one, and what they find.
use Rattle.std.specs.Prelude.{◌≡◌, ℕ, false, List, find, flat_map}
use Rattle.std.specs.Option.{option_to_list}
use Rattle.std.specs.Str.{bytes_eq}
use Rattle.sqlite_trees.specs.Tree.{IsAscending}
use Rattle.sc_item.specs.Feature.{Feature}

-- no id stands twice
abbrev pub AreOnce : List (List ℕ) → Type 0
AreOnce ids = IsAscending (λ a b. bytes_eq a b ≡ false) ids

-- for each id the item that it finds, if it does
abbrev pub looked_up : List (List ℕ) → List Feature → List Feature
looked_up ids items = flat_map (λ id. option_to_list (find (λ item. bytes_eq item.id id) items)) ids
