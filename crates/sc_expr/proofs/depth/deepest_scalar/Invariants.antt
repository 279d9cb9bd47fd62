use Rattle.std.proofs.Common.{◌≡◌, ◌<◌, ◌^◌, map, max, drop}
use Rattle.sc_expr.specs.Measure.{scalar_depth, greatest}
use Rattle.sc_expr.specs.Filter.{in_bits}
use Rattle.sc_expr.proofs.depth.deepest_scalar.Given as goal

abbrev pub invariant-loop-scalar : goal.invariant-loop-scalar
invariant-loop-scalar l =
    (l.greatest < 2 ^ 32) × (in_bits 32 (max l.greatest (greatest (map scalar_depth (drop l.scalar-index l.scalars)))) ≡ in_bits 32 (greatest (map scalar_depth l.scalars)))
