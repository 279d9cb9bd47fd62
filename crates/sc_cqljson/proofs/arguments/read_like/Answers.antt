use Rattle.std.proofs.Common.{take, refl, []}
use Rattle.std.proofs.lemmas.Result.{err_from_is_err_and}
use Rattle.sc_expr.proofs.Formed.{like_formed}
use Rattle.sc_cqljson.specs.Operators.{pattern, scalar}
use Rattle.sc_cqljson.proofs.Applying.{first_of_two, second_of_two, matched}
use Rattle.sc_cqljson.proofs.arguments.read_like.Goals as goal

pub returns-in_err-operand-clause-answer : goal.returns-in_err-operand-clause-answer
returns-in_err-operand-clause-answer c =
    let p = err_from_is_err_and c.from_residual.result c.from_residual.ensures.1 in
    rw (p.1, p.2) (first_of_two c.args.args.now [] c.in_err-operand.field-0.0 scalar pattern c.index-args-0.result c.requires c.index-args-0.is refl c.in_err-operand.ensures.answer)

pub returns-in_err-pattern-clause-answer : goal.returns-in_err-pattern-clause-answer
returns-in_err-pattern-clause-answer c =
    let p = err_from_is_err_and c.from_residual-in_err-pattern.result c.from_residual-in_err-pattern.ensures.1 in
    rw (p.1, p.2) (second_of_two c.args.args.now (take 1 c.args.args.now) c.in_err-pattern.field-0.0 scalar pattern c.index-args-0.result c.index-args-1.result c.requires c.index-args-0.is c.index-args-1.is refl (c.in_ok-operand.operand, c.in_ok-operand.ensures.answer) c.in_err-pattern.ensures)

pub returns-clause-formed : goal.returns-clause-formed
returns-clause-formed c = like_formed c.in_ok-operand.operand c.in_ok-pattern.pattern c.in_ok-operand.ensures.formed

pub returns-clause-answer : goal.returns-clause-answer
returns-clause-answer c =
    matched c.args.args.now c.index-args-0.result c.index-args-1.result c.in_ok-operand.operand c.in_ok-pattern.pattern c.requires c.index-args-0.is c.index-args-1.is c.in_ok-operand.ensures.answer c.in_ok-pattern.ensures
