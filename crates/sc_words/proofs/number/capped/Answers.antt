use Rattle.std.proofs.Common.{arith}
use Rattle.sc_words.proofs.Numbers.{capped_more, capped_all}
use Rattle.sc_words.proofs.number.capped.Goals as goal

pub loop-digit-preserved : goal.loop-digit-preserved
loop-digit-preserved c = record {
  small = omega arith;
  ahead = capped_more c.loop-digit.number _ c.loop-digit.digit-index c.args.most c.args.digits.now c.loop-digit-test.true c.min-number.ensures c.loop-digit.invariant.ahead;
}

pub returns : goal.returns
returns c = capped_all _ c.loop-digit.digit-index c.args.most c.args.digits.now (omega arith) c.loop-digit.invariant.small c.loop-digit.invariant.ahead
