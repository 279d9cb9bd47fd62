-- What a catalogue keeps: that its parts are what its history says.
use Rattle.std.specs.Prelude.{◌≡◌, List, [], Option, Some, None, take, map, All, false}
use Rattle.sc_item.specs.Feature.{Feature}
use Rattle.sc_cut.specs.declared.name.PartName.{PartName}
use Rattle.sc_bounds.specs.Extent.{Extent, AreBounds}
use Rattle.sc_bounds.specs.Sets.{Covers, IsWithin}
use Rattle.sc_load.specs.declared.load.Load.{Load}
use Rattle.sc_history.specs.Content.{Collection}
use Rattle.sc_history.specs.Changes.{Change}
use Rattle.sc_history.specs.Names.{part_of, is_empty, scan_of, reach}
use Rattle.sc_history.specs.History.{replay, stamp, additions, kept_from, loose}
use Rattle.sc_history.specs.Taken.{Tells}
use Rattle.sc_history.specs.Part.{Part, lookup, AreInOrder}

-- the bounds cover the items
abbrev pub CoversAll : Extent → List Feature → Type 0
CoversAll bounds items = All (Covers bounds) (map reach items)

-- the part is what the changes make of the name; its bounds cover its items, and lie within the hulls of all that was put there since it was made
pub record StandsAs (past : List Change) (name : PartName) (part : Part) : Type 0 where
  pub name_is : part.name ≡ name
  pub items_are : part.items ≡ scan_of (part_of (replay past) name)
  pub some : is_empty part.items ≡ false
  pub stamp_is : part.stamp ≡ stamp past name
  pub additions_are : part.additions ≡ take 64 (additions past name)
  pub kept_is : part.kept_from ≡ kept_from past name
  pub in_order : AreBounds part.bounds
  pub covers : CoversAll part.bounds part.items
  pub within : IsWithin part.bounds (loose past name)

-- there is a part exactly where the name has items
abbrev pub Stands : List Change → PartName → Option Part → Type 0
Stands past name None = part_of (replay past) name ≡ []
Stands past name (Some part) = StandsAs past name part

-- each name stands, and the names rise
pub record Stand (past : List Change) (parts : List Part) : Type 0 where
  pub rise : AreInOrder parts
  pub each : (name : PartName) → Stands past name (lookup name parts)

-- no load of the history is refused, and the collections and the parts are what it says
pub record Sound (history : List Load) (collections : List Collection) (parts : List Part) : Type 0 where
  pub past : List Change
  pub told : Tells history past
  pub collections_are : collections ≡ (replay past).collections
  pub stand : Stand past parts
