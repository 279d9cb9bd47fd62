use Rattle.std.proofs.Common.{[], inl, refl, subst, sym}
use Rattle.sc_http.specs.Intake.{nothing_held}
use Rattle.sc_session.proofs.Known.{consumes_none}
use Rattle.sc_session.proofs.Steps.{nothing_yet, ends_wanting}
use Rattle.sc_serve.specs.Desks.{IsAlone}
use Rattle.sc_serve.specs.Service.{api}
use Rattle.sc_serve.proofs.connection.pipe.Goals as goal

pub returns-in-Err : goal.returns-in-Err
returns-in-Err g c old alone =
    let service = api c.args.base.now in
    (old, alone.own, rw c.give_up.ensures.result (ends_wanting service _ _ _ nothing_held (nothing_yet service _) [] (consumes_none _) (inl refl) c.give_up.ensures.wrote))

pub returns-in-Ok : goal.returns-in-Ok
returns-in-Ok g c old alone =
    let x = c.serve_desk.ensures.session old (subst (λ entries. IsAlone entries old) (sym c.in-Ok.ensures) alone) in
    (x.0, x.1.own, x.2)
