use Rattle.std.proofs.Common.{inl, inr, refl}
use Rattle.std.proofs.lemmas.Result.{err_from_is_err_and}
use Rattle.sc_serve.proofs.Replying.{refused, taken}
use Rattle.sc_serve.proofs.loading.try_load.Goals as goal

pub returns-in_err-room : goal.returns-in_err-room
returns-in_err-room g c base begun old stands =
    let p = err_from_is_err_and c.from_residual.result c.from_residual.ensures.1 in
    rw p.1 (old, stands, inl refl)

pub returns-in-Ok : goal.returns-in-Ok
returns-in-Ok g c base begun old stands =
    let x = c.in-Ok.ensures begun old stands in
    (x.0, x.1, taken g.D.Desk.may_fail base c.args.close c.args.load c.in-Ok.tried old x.0 c.makes-made.result c.count_of-items.result c.tried_text.result x.2 c.makes-made.ensures c.count_of-items.ensures c.tried_text.ensures)

pub returns-in_err-said-in-Err : goal.returns-in_err-said-in-Err
returns-in_err-said-in-Err g c base begun old stands =
    let x = c.in-Err.ensures begun old stands in
    let p = err_from_is_err_and c.from_residual-in_err-said-in-Err.result c.from_residual-in_err-said-in-Err.ensures.1 in
    rw p.1 (x.0, x.1, inr x.2.turn)

pub returns-in_ok-said-in-Err : goal.returns-in_ok-said-in-Err
returns-in_ok-said-in-Err g c base begun old stands =
    let x = c.in-Err.ensures begun old stands in
    (x.0, x.1, refused g.D.Desk.may_fail base c.args.close c.args.load c.in-Err.refused old x.0 c.in_ok-said-in-Err.said c.reply_text.result x.2 c.in_ok-said-in-Err.ensures.known c.in_ok-said-in-Err.ensures.said c.reply_text.ensures)
