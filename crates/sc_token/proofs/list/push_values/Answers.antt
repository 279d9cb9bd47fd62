use Rattle.sc_token.proofs.Lists.{written_more}
use Rattle.sc_token.proofs.list.push_values.Goals as goal

pub loop-value-preserved : goal.loop-value-preserved
unfolding lib.Utf8.encode
loop-value-preserved c =
    written_more _ _ _ _ c.args.values.now c.loop-value.value-index c.value-item.result c.loop-value-test.true c.value-item.is c.loop-value.invariant c.in_ok-push_value.ensures c.in_ok-push.ensures.bytes
