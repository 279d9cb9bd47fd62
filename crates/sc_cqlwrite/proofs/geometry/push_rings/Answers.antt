use Rattle.sc_cqlwrite.specs.Tokens as tokens
use Rattle.sc_cqlwrite.specs.Geometries.{line_tokens}
use Rattle.sc_cqlwrite.proofs.Spellings.{parts_go_on}
use Rattle.sc_cqlwrite.proofs.geometry.push_rings.Goals as goal

pub loop-ring-preserved : goal.loop-ring-preserved
loop-ring-preserved c =
    let part = rw c.as_slice.ensures at c.in_ok-push_line.ensures in
    parts_go_on line_tokens tokens.comma c.args.rings.now c.loop-ring.ring-index c.loop-ring.is_first c.ring-item.result c.loop-ring.out c.separate.new.self c.push_line.new.out _
    c.loop-ring-test.true c.ring-item.is c.in_ok-separate.ensures part c.loop-ring.invariant
