use Rattle.std.proofs.Common.{◌≡◌, ◌<◌, ◌^◌, map, max, drop}
use Rattle.sc_expr.specs.Measure.{depth, greatest}
use Rattle.sc_expr.specs.Filter.{in_bits}
use Rattle.sc_expr.proofs.depth.+depth.Given as goal

abbrev pub invariant-deepest-loop-member : goal.invariant-deepest-loop-member
invariant-deepest-loop-member l =
    (l.greatest < 2 ^ 32) × (in_bits 32 (max l.greatest (greatest (map depth (drop l.member-index l.members)))) ≡ in_bits 32 (greatest (map depth l.members)))
