use Rattle.std.proofs.Common.{take, refl, []}
use Rattle.std.proofs.lemmas.Result.{err_from_is_err_and}
use Rattle.sc_expr.proofs.Formed.{among_formed}
use Rattle.sc_cqljson.specs.Operators.{listed, scalar}
use Rattle.sc_cqljson.proofs.Applying.{first_of_two, second_of_two, looked_through}
use Rattle.sc_cqljson.proofs.arguments.read_in.Goals as goal

pub returns-in_err-operand-clause-answer : goal.returns-in_err-operand-clause-answer
returns-in_err-operand-clause-answer c =
    let p = err_from_is_err_and c.from_residual.result c.from_residual.ensures.1 in
    rw (p.1, p.2) (first_of_two c.args.args.now [] c.in_err-operand.field-0.0 scalar listed c.index-args-0.result c.requires c.index-args-0.is refl c.in_err-operand.ensures.answer)

pub returns-in_err-list-clause-answer : goal.returns-in_err-list-clause-answer
returns-in_err-list-clause-answer c =
    let p = err_from_is_err_and c.from_residual-in_err-list.result c.from_residual-in_err-list.ensures.1 in
    rw (p.1, p.2) (second_of_two c.args.args.now (take 1 c.args.args.now) c.in_err-list.field-0.0 scalar listed c.index-args-0.result c.index-args-1.result c.requires c.index-args-0.is c.index-args-1.is refl (c.in_ok-operand.operand, c.in_ok-operand.ensures.answer) c.in_err-list.ensures.answer)

pub returns-clause-formed : goal.returns-clause-formed
returns-clause-formed c = rw c.of.ensures (among_formed c.in_ok-operand.operand c.in_ok-list.list.items c.in_ok-operand.ensures.formed c.in_ok-list.ensures.formed.0 c.in_ok-list.ensures.formed.1)

pub returns-clause-answer : goal.returns-clause-answer
returns-clause-answer c =
    rw c.of.ensures (looked_through c.args.args.now c.index-args-0.result c.index-args-1.result c.in_ok-operand.operand c.in_ok-list.list.items c.requires c.index-args-0.is c.index-args-1.is c.in_ok-operand.ensures.answer c.in_ok-list.ensures.answer)
