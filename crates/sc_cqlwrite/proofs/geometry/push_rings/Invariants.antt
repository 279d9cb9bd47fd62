use Rattle.std.proofs.Common.{◌≡◌, drop, map}
use Rattle.sc_cqlwrite.specs.Tokens as tokens
use Rattle.sc_cqlwrite.specs.Spelling.{with_tokens, going_on}
use Rattle.sc_cqlwrite.specs.Geometries.{line_tokens}
use Rattle.sc_cqlwrite.proofs.geometry.push_rings.Given as goal

-- with the parts that are left the text is whole
abbrev pub invariant-loop-ring : goal.invariant-loop-ring
invariant-loop-ring l =
    with_tokens l.out (going_on l.is_first tokens.comma (map line_tokens (drop l.ring-index l.rings))) ≡ with_tokens l.initial.out (going_on l.initial.is_first tokens.comma (map line_tokens l.rings))
