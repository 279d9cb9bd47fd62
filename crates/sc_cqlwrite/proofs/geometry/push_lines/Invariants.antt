use Rattle.std.proofs.Common.{◌≡◌, drop, map}
use Rattle.sc_cqlwrite.specs.Tokens as tokens
use Rattle.sc_cqlwrite.specs.Spelling.{with_tokens, going_on}
use Rattle.sc_cqlwrite.specs.Geometries.{line_part}
use Rattle.sc_cqlwrite.proofs.geometry.push_lines.Given as goal

-- with the parts that are left the text is whole
abbrev pub invariant-loop-line : goal.invariant-loop-line
invariant-loop-line l =
    with_tokens l.out (going_on l.is_first tokens.comma (map line_part (drop l.line-index l.lines))) ≡ with_tokens l.initial.out (going_on l.initial.is_first tokens.comma (map line_part l.lines))
