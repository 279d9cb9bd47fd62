use Rattle.std.proofs.Common.{arith}
use Rattle.sc_eval.proofs.Tables.{one_more}
use Rattle.sc_eval.proofs.names.Names.of.Goals as goal

pub loop-name-preserved : goal.loop-name-preserved
loop-name-preserved c =
    one_more (λ name. name.now) _ _ _ _ c.in_ok-insert.ensures.keys c.in_ok-insert.ensures.added c.args.names.now c.loop-name.name-index _ (omega arith) c.name-item.is c.as_str.ensures c.loop-name.invariant
