use Rattle.sc_cqlwrite.specs.Tokens as tokens
use Rattle.sc_cqlwrite.specs.Scalars.{scalar_tokens}
use Rattle.sc_cqlwrite.proofs.Spellings.{parts_go_on}
use Rattle.sc_cqlwrite.proofs.predicates.push_scalars.Goals as goal

pub loop-scalar-preserved : goal.loop-scalar-preserved
loop-scalar-preserved c =
    parts_go_on scalar_tokens tokens.comma c.args.scalars.now c.loop-scalar.scalar-index c.loop-scalar.is_first c.scalar-item.result c.loop-scalar.out c.separate.new.self c.push_scalar.new.out _
    c.loop-scalar-test.true c.scalar-item.is c.in_ok-separate.ensures c.in_ok-push_scalar.ensures c.loop-scalar.invariant
