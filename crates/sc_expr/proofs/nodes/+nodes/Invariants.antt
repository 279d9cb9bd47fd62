use Rattle.std.proofs.Common.{◌≡◌, ◌<◌, ◌^◌, map, sum, ◌+◌, drop}
use Rattle.sc_expr.specs.Measure.{nodes}
use Rattle.sc_expr.specs.Filter.{in_bits}
use Rattle.sc_expr.proofs.nodes.+nodes.Given as goal

abbrev pub invariant-nodes_of_all-loop-member : goal.invariant-nodes_of_all-loop-member
invariant-nodes_of_all-loop-member l =
    (l.total < 2 ^ 64) × (in_bits 64 (l.total + sum (map nodes (drop l.member-index l.members))) ≡ in_bits 64 (sum (map nodes l.members)))
