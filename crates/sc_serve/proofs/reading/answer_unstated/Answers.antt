use Rattle.std.proofs.Common.{inl, refl, sym, ◌∙◌, ap}
use Rattle.std.proofs.lemmas.Result.{IfOk-weaker, err_from_is_err_and}
use Rattle.sc_serve.proofs.Replying.{fixed_said, looks, said_text}
use Rattle.sc_serve.proofs.reading.answer_unstated.Goals as goal

pub returns-in_err-fixed : goal.returns-in_err-fixed
returns-in_err-fixed g c begun old stands =
    let p = err_from_is_err_and c.from_residual.result c.from_residual.ensures.1 in
    rw p.1 (old, stands, inl refl)

pub returns-in-Some : goal.returns-in-Some
returns-in-Some g c begun old stands = (
  old,
  stands,
  fixed_said g.D.Desk.may_fail c.args.base.now c.args.close c.args.work.now old c.in-Some.text c.seen.result c.reply_text.result (sym c.in-Some.is ∙ c.in_ok-fixed.ensures) (c.seen.ensures begun old stands)
      (IfOk-weaker c.reply_text.result _ _ (λ text t. t ∙ ap (λ said. said_text said c.seen.result c.args.close) c.of-said.ensures) c.reply_text.ensures),
)

pub answer_by_snapshot-requires-clause-looks : goal.answer_by_snapshot-requires-clause-looks
answer_by_snapshot-requires-clause-looks g c = looks c.args.base.now c.args.work.now c.requires (sym c.in-None.is ∙ c.in_ok-fixed.ensures)
