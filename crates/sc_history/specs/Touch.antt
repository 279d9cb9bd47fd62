-- What one load makes of the parts that it touches; the others stay.
use Rattle.std.specs.Prelude.{◌≡◌, ℕ, ◌+◌, ◌-◌, Bool, false, not, List, [], ◌∷◌, ◌++◌, Option, Some, None, length, map, filter, take, drop, if◌then◌else◌}
use Rattle.std.specs.List.{list_any}
use Rattle.std.specs.Option.{option_map}
use Rattle.sc_item.specs.Feature.{Feature}
use Rattle.sc_cut.specs.declared.name.PartName.{PartName}
use Rattle.sc_bounds.specs.Extent.{Extent}
use Rattle.sc_bounds.specs.Sets.{join_of}
use Rattle.sc_load.specs.declared.load.Load.{Load}
use Rattle.sc_history.specs.Changes.{Change, apply, goes, takes}
use Rattle.sc_history.specs.Names.{ArePartsOf, scan_of, hull_of, is_empty, part_of}
use Rattle.sc_history.specs.History.{replay, comes, touches, makes, first_revision}
use Rattle.sc_history.specs.Part.{Part, lookup, AreInOrder}

-- the items without those that are taken and with those that come, in no order
abbrev pub renewed : (List ℕ → Bool) → List Feature → List Feature → List Feature
renewed taken come items = come ++ filter (λ item. not (taken item.id)) items

-- no part is there without items
abbrev pub unless_empty : Part → Option Part
unless_empty part = if is_empty part.items then None else Some part

-- a part that is made of what comes
abbrev pub made : ℕ → PartName → List Feature → Part
made revision name come = record {
  name = name;
  stamp = revision;
  items = scan_of come;
  bounds = hull_of come;
  kept_from = revision - 1;
  additions = record { revision = revision; hull = hull_of come } ∷ [];
}

-- a part with other items; its bounds and its additions stay
abbrev pub stamped : ℕ → List Feature → Part → Part
stamped revision items part = record {
  name = part.name;
  stamp = revision;
  items = items;
  bounds = part.bounds;
  kept_from = part.kept_from;
  additions = part.additions;
}

-- the hull of what comes joins the bounds and the additions, of which the last 64 are kept
abbrev pub widened : ℕ → List Feature → Part → Part
widened revision [] part = part
widened revision (item ∷ come) part = record {
  name = part.name;
  stamp = part.stamp;
  items = part.items;
  bounds = join_of part.bounds (hull_of (item ∷ come));
  kept_from = first_revision part.kept_from (drop 63 part.additions);
  additions = take 64 (record { revision = revision; hull = hull_of (item ∷ come) } ∷ part.additions);
}

-- the part that a load of this revision leaves of a part that was there or not
unfoldable pub touched : ℕ → PartName → (List ℕ → Bool) → List Feature → Option Part → Option Part
touched revision name taken come None = unless_empty (made revision name come)
touched revision name taken come (Some part) = unless_empty (widened revision come (stamped revision (scan_of (renewed taken come part.items)) part))

-- whether a part that is there or not loses an item by a load
abbrev pub loses : Load → Option Part → Bool
loses load None = false
loses load (Some part) = list_any (goes load) part.items

-- the part with the name after a change, where it was there or not before
abbrev pub part_after : List Change → Change → PartName → Option Part → Option Part
part_after past change name part =
    if touches (replay past) change name then touched (length past + 1) name (takes change.load) (comes (replay past) change name) part else part

-- the parts after a change
pub record ArePublished (past : List Change) (change : Change) (old new : List Part) : Type 0 where
  pub rise : AreInOrder new
  pub each : (name : PartName) → lookup name new ≡ part_after past change name (lookup name old)

-- the names of the parts that the change touched and that are there after it, in order
abbrev pub touched_names : List Change → Change → List Part → List PartName
touched_names past change new = filter (touches (replay past) change) (map (λ part. part.name) new)

-- the same by the history alone: of the parts that there are after the change, those that it touched
pub record AreTouched (past : List Change) (change : Change) (names : List PartName) : Type 0 where
  pub all : List PartName
  pub are : ArePartsOf (apply (replay past) change) all
  pub names_are : names ≡ filter (touches (replay past) change) all

-- the bounds of a name after a change, by the history and the bounds before: a name without items has none; where nothing comes they stay; they are the hull of
-- what comes where the change makes the part, and else its join with them
abbrev pub bounds_next : List Change → Change → PartName → Option Extent → Option Extent
bounds_next past change name bounds =
    if is_empty (part_of (apply (replay past) change) name) then None
    else if is_empty (comes (replay past) change name) then bounds
    else if makes (replay past) change name then Some (hull_of (comes (replay past) change name))
    else option_map (λ b. join_of b (hull_of (comes (replay past) change name))) bounds
