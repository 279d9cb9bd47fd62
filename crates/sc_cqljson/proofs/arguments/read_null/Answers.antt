use Rattle.std.proofs.Common.{refl, []}
use Rattle.std.proofs.lemmas.Result.{err_from_is_err_and}
use Rattle.sc_expr.proofs.Formed.{is_null_formed}
use Rattle.sc_cqljson.specs.Operators.{scalar}
use Rattle.sc_cqljson.proofs.Applying.{first_of_one, nulled}
use Rattle.sc_cqljson.proofs.arguments.read_null.Goals as goal

pub returns-in_err-operand-clause-answer : goal.returns-in_err-operand-clause-answer
returns-in_err-operand-clause-answer c =
    let p = err_from_is_err_and c.from_residual.result c.from_residual.ensures.1 in
    rw (p.1, p.2) (first_of_one c.args.args.now [] c.in_err-operand.field-0.0 scalar c.index-args-0.result c.requires c.index-args-0.is refl c.in_err-operand.ensures.answer)

pub returns-clause-formed : goal.returns-clause-formed
returns-clause-formed c = is_null_formed c.in_ok-operand.operand c.in_ok-operand.ensures.formed

pub returns-clause-answer : goal.returns-clause-answer
returns-clause-answer c =
    nulled c.args.args.now c.index-args-0.result c.in_ok-operand.operand c.requires c.index-args-0.is c.in_ok-operand.ensures.answer
