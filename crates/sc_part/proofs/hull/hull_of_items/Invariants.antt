use Rattle.std.proofs.Common.{◌≡◌, map, take}
use Rattle.std.specs.Prelude.{All}
use Rattle.sc_item.specs.Feature.{IsKept}
use Rattle.sc_bounds.specs.Sets.{IsHull, hull}
use Rattle.sc_part.specs.Scan.{reach, shared}
use Rattle.sc_part.proofs.hull.hull_of_items.Given as goal

abbrev pub invariant-loop-item : goal.invariant-loop-item
invariant-loop-item l = record {
  least : IsHull l.bounds (take l.item-index (map reach (shared l.items)));
  kept : All IsKept (take l.item-index (shared l.items));
  value : l.bounds ≡ hull (take l.item-index (map reach (shared l.items)));
}
