-- What every list of kept parts is, and what it has as a whole.
use Rattle.std.specs.Prelude.{List, All, flat_map}
use Rattle.sc_item.specs.Feature.{Feature}
use Rattle.sc_history.specs.Names.{Fits}
use Rattle.sc_history.specs.Part.{Part, AreInOrder}

-- the part's items belong to it
abbrev pub HasItsOwn : Part → Type 0
HasItsOwn part = All (Fits part.name) part.items

-- the names rise, and the items of each part belong to it
pub record AreParts (parts : List Part) : Type 0 where
  pub rise : AreInOrder parts
  pub own : All HasItsOwn parts

-- the items of all parts, part by part
abbrev pub all_items : List Part → List Feature
all_items parts = flat_map (λ part. part.items) parts
