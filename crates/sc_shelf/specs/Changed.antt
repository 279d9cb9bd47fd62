-- What a load does to each part of a list, told by the parts that it touches: the ids that go out of a part, and the items that come into it.
use Rattle.std.specs.Prelude.{◌≡◌, ℕ, List, [], Option, Some, None, find, All, AllPairs, if◌then◌else◌}
use Rattle.std.specs.Str.{bytes_eq}
use Rattle.std.specs.declared.cmp.Ordering.TheVariants.{Less}
use Rattle.sc_item.specs.Feature.{Feature}
use Rattle.sc_item.specs.Names.{AreApart}
use Rattle.sc_cut.specs.declared.name.PartName.{PartName}
use Rattle.sc_part.specs.Scan.{shared}
use Rattle.sc_history.specs.Changes.{is_among}
use Rattle.sc_history.specs.Names.{Fits, is_name, name_order}
use Rattle.sc_history.specs.Part.{Part, lookup, AreInOrder}
use Rattle.sc_history.specs.Touch.{renewed, touched}
use Rattle.sc_shelf.specs.declared.change.PartChange.{PartChange}

-- ---- changes

-- the items of a part that is there or not
abbrev pub items_in : Option Part → List Feature
items_in None = []
items_in (Some part) = part.items

-- the items that come by a change
abbrev pub come_by : PartChange → List Feature
come_by change = shared change.come

-- a part that is there or not can be changed so: what comes belongs to it, and with what stays no two items have one name
pub record IsChangeOf (part : Option Part) (change : PartChange) : Type 0 where
  pub fits : All (Fits change.name) (come_by change)
  pub apart : AreApart (renewed (is_among change.gone) (come_by change) (items_in part))

-- the names of the changes rise, and each part can be changed so
pub record AreChangesOf (parts : List Part) (changes : List PartChange) : Type 0 where
  pub rise : AllPairs (λ a b. name_order a.name b.name ≡ Less) changes
  pub each : All (λ change. IsChangeOf (lookup change.name parts) change) changes

-- ---- parts after them

-- the change of the part with the name
abbrev pub change_of : PartName → List PartChange → Option PartChange
change_of name changes = find (λ change. is_name change.name name) changes

-- the part with the name after a change of this revision, or as it was where there is none
abbrev pub changed : ℕ → PartName → Option PartChange → Option Part → Option Part
changed revision name None part = part
changed revision name (Some change) part = touched revision name (is_among change.gone) (come_by change) part

-- the parts after the changes
pub record AreChanged (revision : ℕ) (changes : List PartChange) (old new : List Part) : Type 0 where
  pub rise : AreInOrder new
  pub each : (name : PartName) → lookup name new ≡ changed revision name (change_of name changes) (lookup name old)

-- the parts without those of a collection
pub record AreWithout (collection : List ℕ) (old new : List Part) : Type 0 where
  pub rise : AreInOrder new
  pub each : (name : PartName) → lookup name new ≡ (if bytes_eq name.collection collection then None else lookup name old)
