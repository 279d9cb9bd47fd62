use Rattle.std.proofs.Common.{◌≡◌, take}
use Rattle.sc_bounds.specs.Sets.{IsHull, hull}
use Rattle.sc_bounds.proofs.hull.hull_of.Given as goal

abbrev pub invariant-loop-reach : goal.invariant-loop-reach
invariant-loop-reach l = record {
  least : IsHull l.bounds (take l.reach-index l.reaches);
  value : l.bounds ≡ hull (take l.reach-index l.reaches);
}
