use Rattle.std.proofs.Common.{◌≡◌, ◌%◌, ◌≤◌, arith}
use Rattle.std.proofs.lemmas.Bool.Decides.{nat_tests}
use Rattle.sc_decimal.proofs.Keeping.{few_zeros, one_fewer}
use Rattle.sc_decimal.proofs.make.trimmed.Goals as goal

pub overflow_add-zeros : goal.overflow_add-zeros
overflow_add-zeros c =
    let few : c.loop-rest.zeros ≤ 38 = few_zeros c.loop-rest.rest c.loop-rest.zeros c.args.m c.loop-rest.invariant.0 c.loop-rest.invariant.1 (omega arith) in
    omega arith

pub loop-rest-preserved : goal.loop-rest-preserved
loop-rest-preserved c =
    let ends : c.loop-rest.rest % 10 ≡ 0 = grind (arith, nat_tests) in
    one_fewer c.loop-rest.rest c.loop-rest.zeros c.args.m c.loop-rest.invariant.0 ends c.loop-rest.invariant.1

pub returns-clause-few : goal.returns-clause-few
returns-clause-few c = few_zeros c.loop-rest.rest c.loop-rest.zeros c.args.m c.loop-rest.invariant.0 c.loop-rest.invariant.1 (omega arith)
