use Rattle.std.proofs.Common.{◌≡◌, ◌<◌, ◌^◌, map, sum, ◌+◌, drop}
use Rattle.sc_expr.specs.Measure.{scalar_nodes}
use Rattle.sc_expr.specs.Filter.{in_bits}
use Rattle.sc_expr.proofs.nodes.nodes_of_scalars.Given as goal

abbrev pub invariant-loop-scalar : goal.invariant-loop-scalar
invariant-loop-scalar l =
    (l.total < 2 ^ 64) × (in_bits 64 (l.total + sum (map scalar_nodes (drop l.scalar-index l.scalars))) ≡ in_bits 64 (sum (map scalar_nodes l.scalars)))
