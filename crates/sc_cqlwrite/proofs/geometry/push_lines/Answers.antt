use Rattle.std.proofs.Common.{◌≡◌, ap, ◌∙◌}
use Rattle.sc_cqlwrite.specs.Tokens as tokens
use Rattle.sc_cqlwrite.specs.Spelling.{Spelled, with_tokens}
use Rattle.sc_cqlwrite.specs.Geometries.{line_part, line_tokens}
use Rattle.sc_cqlwrite.proofs.Spellings.{parts_go_on}
use Rattle.sc_cqlwrite.proofs.geometry.push_lines.Goals as goal

pub loop-line-preserved : goal.loop-line-preserved
loop-line-preserved c =
    let line = rw c.as_slice.ensures at c.in_ok-push_line.ensures in
    let part : c.push_line.new.out ≡ with_tokens c.separate.new.self (line_part c.line-item.result) =
    line ∙ ap (λ (s : Spelled). with_tokens s (line_tokens c.line-item.result)) c.in_ok-function.ensures in
    parts_go_on line_part tokens.comma c.args.lines.now c.loop-line.line-index c.loop-line.is_first c.line-item.result c.loop-line.out c.separate.new.self c.push_line.new.out _
    c.loop-line-test.true c.line-item.is c.in_ok-separate.ensures part c.loop-line.invariant
