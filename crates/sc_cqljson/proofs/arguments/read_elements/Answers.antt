use Rattle.std.proofs.Common.{sym, subst, []}
use Rattle.std.specs.List.{All}
use Rattle.std.proofs.lemmas.Result.{err_from_is_err_and}
use Rattle.std.proofs.lemmas.List.Elements.{All-nil, All-push}
use Rattle.sc_expr.specs.Form.{IsFormedScalar}
use Rattle.sc_cqljson.specs.Spells.{SpellScalars, no_scalars}
use Rattle.sc_cqljson.proofs.Applying.{scalars_grow, told_scalar}
use Rattle.sc_cqljson.proofs.arguments.read_elements.Goals as goal

pub loop-i-init : goal.loop-i-init
loop-i-init c = (subst (SpellScalars []) (sym c.in_ok-list.ensures.items) no_scalars, subst (All IsFormedScalar) (sym c.in_ok-list.ensures.items) (All-nil IsFormedScalar))

pub returns-in_err-scalar_behind-clause-answer : goal.returns-in_err-scalar_behind-clause-answer
returns-in_err-scalar_behind-clause-answer c =
    let p = err_from_is_err_and c.from_residual-in_err-scalar_behind.result c.from_residual-in_err-scalar_behind.ensures.1 in
    rw (p.1, p.2)
    (told_scalar c.args.elements.now c.loop-i.i c.index-elements-i.result c.loop-i.list.items c.in_err-scalar_behind.field-0.0 c.loop-i-test.true c.index-elements-i.is c.loop-i.invariant.0
    c.in_err-scalar_behind.ensures.answer)

pub loop-i-preserved : goal.loop-i-preserved
loop-i-preserved c = (
  scalars_grow c.args.elements.now c.loop-i.i c.index-elements-i.result c.loop-i.list.items c.push.new.self.items c.in_ok-scalar_behind.field-0 c.loop-i-test.true c.index-elements-i.is
      c.loop-i.invariant.0 c.in_ok-scalar_behind.ensures.answer c.in_ok-push.ensures.items,
  subst (All IsFormedScalar) (sym c.in_ok-push.ensures.items) (All-push IsFormedScalar c.loop-i.list.items c.in_ok-scalar_behind.field-0 c.loop-i.invariant.1 c.in_ok-scalar_behind.ensures.formed),
)
