use Rattle.std.proofs.Common.{◌≡◌, drop, map}
use Rattle.sc_cqlwrite.specs.Tokens as tokens
use Rattle.sc_cqlwrite.specs.Spelling.{with_tokens, going_on}
use Rattle.sc_cqlwrite.specs.Geometries.{position_tokens}
use Rattle.sc_cqlwrite.proofs.geometry.push_positions.Given as goal

-- with the parts that are left the text is whole
abbrev pub invariant-loop-position : goal.invariant-loop-position
invariant-loop-position l =
    with_tokens l.out (going_on l.is_first tokens.comma (map position_tokens (drop l.position-index l.positions))) ≡ with_tokens l.initial.out (going_on l.initial.is_first tokens.comma (map position_tokens l.positions))
