use Rattle.std.proofs.Common.{arith}
use Rattle.sc_query.proofs.Counts.{by_power, by_number}
use Rattle.sc_query.proofs.limit.scaled.Goals as goal

pub returns-then-e-ge4 : goal.returns-then-e-ge4
returns-then-e-ge4 c = by_power c.args.m c.args.e (omega arith) c.if-e-ge4.true

pub returns-then-m : goal.returns-then-m
returns-then-m c = by_number c.args.m c.args.e c.if-m.true
