use Rattle.std.proofs.Common.{take, refl, []}
use Rattle.std.proofs.lemmas.Result.{err_from_is_err_and}
use Rattle.sc_expr.proofs.Formed.{between_formed}
use Rattle.sc_cqljson.specs.Operators.{scalar}
use Rattle.sc_cqljson.proofs.Applying.{first_of_three, second_of_three, third_of_three, ranged}
use Rattle.sc_cqljson.proofs.arguments.read_between.Goals as goal

pub returns-in_err-operand-clause-answer : goal.returns-in_err-operand-clause-answer
returns-in_err-operand-clause-answer c =
    let p = err_from_is_err_and c.from_residual.result c.from_residual.ensures.1 in
    rw (p.1, p.2) (first_of_three c.args.args.now [] c.in_err-operand.field-0.0 scalar scalar scalar c.index-args-0.result c.requires c.index-args-0.is refl c.in_err-operand.ensures.answer)

pub returns-in_err-low-clause-answer : goal.returns-in_err-low-clause-answer
returns-in_err-low-clause-answer c =
    let p = err_from_is_err_and c.from_residual-in_err-low.result c.from_residual-in_err-low.ensures.1 in
    rw (p.1, p.2) (second_of_three c.args.args.now (take 1 c.args.args.now) c.in_err-low.field-0.0 scalar scalar scalar c.index-args-0.result c.index-args-1.result c.requires c.index-args-0.is c.index-args-1.is refl (c.in_ok-operand.operand, c.in_ok-operand.ensures.answer) c.in_err-low.ensures.answer)

pub returns-in_err-high-clause-answer : goal.returns-in_err-high-clause-answer
returns-in_err-high-clause-answer c =
    let p = err_from_is_err_and c.from_residual-in_err-high.result c.from_residual-in_err-high.ensures.1 in
    rw (p.1, p.2) (third_of_three c.args.args.now (take 2 c.args.args.now) c.in_err-high.field-0.0 scalar scalar scalar c.index-args-0.result c.index-args-1.result c.index-args-2.result c.requires c.index-args-0.is c.index-args-1.is c.index-args-2.is refl (c.in_ok-operand.operand, c.in_ok-operand.ensures.answer) (c.in_ok-low.low, c.in_ok-low.ensures.answer) c.in_err-high.ensures.answer)

pub returns-clause-formed : goal.returns-clause-formed
returns-clause-formed c = between_formed c.in_ok-operand.operand c.in_ok-low.low c.in_ok-high.high c.in_ok-operand.ensures.formed c.in_ok-low.ensures.formed c.in_ok-high.ensures.formed

pub returns-clause-answer : goal.returns-clause-answer
returns-clause-answer c =
    ranged c.args.args.now c.index-args-0.result c.index-args-1.result c.index-args-2.result c.in_ok-operand.operand c.in_ok-low.low c.in_ok-high.high c.requires c.index-args-0.is c.index-args-1.is c.index-args-2.is c.in_ok-operand.ensures.answer c.in_ok-low.ensures.answer c.in_ok-high.ensures.answer
