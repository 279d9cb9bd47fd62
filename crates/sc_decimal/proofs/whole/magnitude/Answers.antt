use Rattle.std.proofs.Common.{arith}
use Rattle.sc_decimal.proofs.Integers.{great_power, small_power}
use Rattle.sc_decimal.proofs.whole.magnitude.Goals as goal

pub returns-then-e-gt38 : goal.returns-then-e-gt38
returns-then-e-gt38 c = great_power c.args.m c.args.e c.if-e-gt38.true (c.requires c.if-e-gt38.true)

pub pow-requires : goal.pow-requires
pow-requires c = small_power c.args.e (omega (arith, c.if-e-gt38.false))
