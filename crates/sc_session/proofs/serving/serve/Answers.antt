use Rattle.std.proofs.Common.{inl, refl, sym, subst, []}
use Rattle.sc_session.specs.Session.{Place}
use Rattle.sc_session.specs.Steps.{SoFar}
use Rattle.sc_http.specs.Intake.{nothing_held}
use Rattle.sc_session.proofs.Known.{consumes_none}
use Rattle.sc_session.proofs.Steps.{nothing_yet, ends_wanting}
use Rattle.sc_session.proofs.serving.serve.Goals as goal

pub returns-in-Err : goal.returns-in-Err
returns-in-Err g c begun old stands =
    let service = g.C.Clerk.service c.args.clerk.now in
    (old, stands, rw c.give_up.ensures.result (ends_wanting service _ _ _ nothing_held (nothing_yet service _) [] (consumes_none _) (inl refl) c.give_up.ensures.wrote))

pub returns-in-Ok : goal.returns-in-Ok
returns-in-Ok g c begun old stands =
    let service = g.C.Clerk.service c.args.clerk.now in
    let r = g.S.Source in
    let o = g.K.Sink in
    let first : Place g.row.C-Entry.Denot = record { left = r.left c.args.source.now; ended = r.ended c.args.source.now; faults = r.faults c.args.source.now; written = o.written c.args.sink.now; write_faults = o.faults c.args.sink.now; visitor = old } in
    c.serve_on.ensures begun first old stands (subst (λ h. SoFar service first first h) (sym c.in-Ok.ensures) (nothing_yet service first))
