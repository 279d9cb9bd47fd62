use Rattle.std.proofs.Common.{inl, inr, ap, ◌∙◌, arith}
use Rattle.std.proofs.lemmas.Result.{IfOk-weaker, err_from_is_err_and}
use Rattle.sc_serve.proofs.Replying.{is_told_behind, tried_from, said_text}
use Rattle.sc_serve.proofs.loading.load_from.Goals as goal

pub returns-in_err-snapshot : goal.returns-in_err-snapshot
returns-in_err-snapshot g c base begun old stands = let x = c.take_snapshot.ensures begun old stands in let p = err_from_is_err_and c.from_residual.result c.from_residual.ensures.1 in
    rw p.1 (x.0, x.1, inr (inl x.2.turn))

pub returns-in_err-said : goal.returns-in_err-said
returns-in_err-said g c base begun old stands = let x = c.in_ok-snapshot.ensures begun old stands in let p = err_from_is_err_and c.from_residual-in_err-said.result c.from_residual-in_err-said.ensures.1 in
    rw p.1 (x.0, x.1, inr (inl x.2.turn))

pub returns-then-revision-stated : goal.returns-then-revision-stated
returns-then-revision-stated g c base begun old stands =
    let x = c.in_ok-snapshot.ensures begun old stands in (
      x.0,
      x.1,
      is_told_behind g.D.Desk.may_fail base c.args.close c.args.stated c.args.load old x.0 x.2.turn c.reply_text.result c.revision-revision.result c.if-revision-stated.true (c.revision-revision.ensures.revision ∙ x.2.is.revision_is)
          (IfOk-weaker c.reply_text.result _ _ (λ text t. t ∙ ap (λ said. said_text said c.revision-revision.result c.args.close) c.in_ok-said.ensures) c.reply_text.ensures),
    )

pub returns : goal.returns
returns g c base begun old stands =
    let x = c.in_ok-snapshot.ensures begun old stands in
    let y = c.try_load.ensures base begun x.0 x.1 in
    (y.0, y.1, tried_from g.D.Desk.may_fail base c.args.close c.args.stated c.args.load old x.0 x.2.turn c.try_load.result y.0 (omega (arith, c.if-revision-stated.false, c.revision-revision.ensures.revision, x.2.is.revision_is)) y.2)
