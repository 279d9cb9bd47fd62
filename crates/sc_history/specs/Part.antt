-- What contracts see of a part that a catalogue keeps, and how parts are found by name.
use Rattle.std.specs.Prelude.{◌≡◌, ℕ, List, Option, find}
use Rattle.std.specs.List.{AllPairs}
use Rattle.std.specs.Option.{option_map}
use Rattle.std.specs.declared.cmp.Ordering.TheVariants.{Less}
use Rattle.sc_item.specs.Feature.{Feature}
use Rattle.sc_cut.specs.declared.name.PartName.{PartName}
use Rattle.sc_bounds.specs.Extent.{Extent}
use Rattle.sc_history.specs.declared.addition.Addition.{Addition}
use Rattle.sc_history.specs.Names.{is_name, name_order}

-- its items stand in the order of a scan, its additions with the newest first
pub record Part : Type 0 where
  pub name : PartName
  pub stamp : ℕ
  pub items : List Feature
  pub bounds : Extent
  pub kept_from : ℕ
  pub additions : List Addition

-- the part with the name
abbrev pub lookup : PartName → List Part → Option Part
lookup name parts = find (λ part. is_name part.name name) parts

-- the bounds of the part with the name
abbrev pub bounds_of : PartName → List Part → Option Extent
bounds_of name parts = option_map (λ part. part.bounds) (lookup name parts)

-- the names rise
abbrev pub AreInOrder : List Part → Type 0
AreInOrder parts = AllPairs (λ p q. name_order p.name q.name ≡ Less) parts
