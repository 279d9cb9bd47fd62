use Rattle.std.proofs.Common.{take, refl, []}
use Rattle.std.proofs.lemmas.Result.{err_from_is_err_and}
use Rattle.sc_expr.proofs.Formed.{compare_formed}
use Rattle.sc_cqljson.specs.Operators.{scalar}
use Rattle.sc_cqljson.proofs.Applying.{first_of_two, second_of_two, compared}
use Rattle.sc_cqljson.proofs.arguments.read_comparison.Goals as goal

pub returns-in_err-left-clause-answer : goal.returns-in_err-left-clause-answer
returns-in_err-left-clause-answer c =
    let p = err_from_is_err_and c.from_residual.result c.from_residual.ensures.1 in
    rw (p.1, p.2) (first_of_two c.args.args.now [] c.in_err-left.field-0.0 scalar scalar c.index-args-0.result c.requires c.index-args-0.is refl c.in_err-left.ensures.answer)

pub returns-in_err-right-clause-answer : goal.returns-in_err-right-clause-answer
returns-in_err-right-clause-answer c =
    let p = err_from_is_err_and c.from_residual-in_err-right.result c.from_residual-in_err-right.ensures.1 in
    rw (p.1, p.2) (second_of_two c.args.args.now (take 1 c.args.args.now) c.in_err-right.field-0.0 scalar scalar c.index-args-0.result c.index-args-1.result c.requires c.index-args-0.is c.index-args-1.is refl (c.in_ok-left.left, c.in_ok-left.ensures.answer) c.in_err-right.ensures.answer)

pub returns-clause-formed : goal.returns-clause-formed
returns-clause-formed c = compare_formed c.args.op c.in_ok-left.left c.in_ok-right.right c.in_ok-left.ensures.formed c.in_ok-right.ensures.formed

pub returns-clause-answer : goal.returns-clause-answer
returns-clause-answer c =
    compared c.args.op c.args.args.now c.index-args-0.result c.index-args-1.result c.in_ok-left.left c.in_ok-right.right c.requires c.index-args-0.is c.index-args-1.is c.in_ok-left.ensures.answer c.in_ok-right.ensures.answer
