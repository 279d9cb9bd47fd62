use Rattle.std.proofs.Common.{inl, inr, ◌∙◌}
use Rattle.std.proofs.lemmas.Result.{err_from_is_err_and}
use Rattle.sc_serve.proofs.Replying.{looked}
use Rattle.sc_serve.proofs.reading.answer_by_snapshot.Goals as goal

pub returns-in_err-snapshot : goal.returns-in_err-snapshot
returns-in_err-snapshot g c begun old stands = let x = c.take_snapshot.ensures begun old stands in
    let p = err_from_is_err_and c.from_residual.result c.from_residual.ensures.1 in
    rw p.1 (x.0, x.1, inr (inl x.2.turn))

pub returns-in_err-said : goal.returns-in_err-said
returns-in_err-said g c begun old stands = let x = c.in_ok-snapshot.ensures begun old stands in
    let p = err_from_is_err_and c.from_residual-in_err-said.result c.from_residual-in_err-said.ensures.1 in
    rw p.1 (x.0, x.1, inr (inl x.2.turn))

pub returns : goal.returns
returns g c begun old stands =
    let x = c.in_ok-snapshot.ensures begun old stands in (
      x.0,
      x.1,
      looked g.D.Desk.may_fail c.args.base.now c.args.close c.args.seen c.args.work.now old x.0 c.in_ok-said.said c.revision.result c.reply_text.result x.2.turn c.requires.looks
          (c.revision.ensures.revision ∙ x.2.is.revision_is) (c.in_ok-said.ensures x.0.seen x.2.is) c.reply_text.ensures,
    )
