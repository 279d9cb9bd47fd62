use Rattle.std.proofs.Common.{◌≡◌, drop, map}
use Rattle.sc_cqlwrite.specs.Tokens as tokens
use Rattle.sc_cqlwrite.specs.Spelling.{with_tokens, going_on}
use Rattle.sc_cqlwrite.specs.Geometries.{point_part}
use Rattle.sc_cqlwrite.proofs.geometry.push_points.Given as goal

-- with the parts that are left the text is whole
abbrev pub invariant-loop-point : goal.invariant-loop-point
invariant-loop-point l =
    with_tokens l.out (going_on l.is_first tokens.comma (map point_part (drop l.point-index l.points))) ≡ with_tokens l.initial.out (going_on l.initial.is_first tokens.comma (map point_part l.points))
