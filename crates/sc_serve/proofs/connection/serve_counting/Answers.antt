use Rattle.std.proofs.Common.{[], inl, refl}
use Rattle.sc_http.specs.Intake.{nothing_held}
use Rattle.sc_session.proofs.Known.{consumes_none}
use Rattle.sc_session.proofs.Steps.{nothing_yet, ends_wanting}
use Rattle.sc_serve.specs.Service.{api_of}
use Rattle.sc_serve.proofs.connection.serve_counting.Goals as goal

pub returns-in-Err : goal.returns-in-Err
returns-in-Err g c begun old stands =
    let service = api_of g.D.Desk.may_fail c.args.base.now in
    (old, stands, rw c.give_up.ensures.result (ends_wanting service _ _ _ nothing_held (nothing_yet service _) [] (consumes_none _) (inl refl) c.give_up.ensures.wrote))
