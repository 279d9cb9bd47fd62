use Rattle.std.proofs.Common.{arith, refl}
use Rattle.sc_server.proofs.Connections.{handed_then, owed, taken_then}
use Rattle.sc_server.proofs.listening.serve_next.Goals as goal

pub done-requires : goal.done-requires
done-requires g c =
    let got = rw c.in-Ok-Some.field-0-is at c.in-Ok-Some.ensures.connections in
    owed (g.L.Listen.handed_out c.args.net.now) (g.L.Listen.handed_out c.accept.new.self) (g.L.Listen.handed_back c.args.net.now) (g.L.Listen.handed_back c.accept.new.self)
    (g.met.L.Listen.fewer_back c.args.net.now) got.1 c.in-Ok-Some.ensures.back

pub returns-in-Ok-Some : goal.returns-in-Ok-Some
returns-in-Ok-Some g c begun old stands =
    let got = rw c.in-Ok-Some.field-0-is at c.in-Ok-Some.ensures.connections in
    let later = c.in-Ok-Some.ensures.cause.later in
    let more = c.done.ensures.faults in
    let x = c.serve_desk-end.ensures.chained begun old stands in (
      x.0,
      x.1,
      (
        (c.in-Ok-Some.source, c.in-Ok-Some.sink),
        (c.serve_desk-end.new.source, c.serve_desk-end.new.sink),
        c.serve_desk-end.result,
        x.2,
        handed_then (g.L.Listen.left c.args.net.now) (g.L.Listen.left c.accept.new.self) (g.L.Listen.left c.done.new.self) _ got.0 c.done.ensures.left,
        taken_then (g.L.Listen.handed_back c.args.net.now) (g.L.Listen.handed_back c.accept.new.self) (g.L.Listen.handed_back c.done.new.self) _ c.in-Ok-Some.ensures.back c.done.ensures.back,
        omega (arith, later, more),
      ),
    )

pub returns-in-Ok-None : goal.returns-in-Ok-None
returns-in-Ok-None g c begun old stands =
    let got = rw c.in-Ok-None.field-0-is at c.in-Ok-None.ensures.connections in
    (old, stands, (refl, got.0, got.1, c.in-Ok-None.ensures.back, c.in-Ok-None.ensures.cause.later))

pub returns-in-Err : goal.returns-in-Err
returns-in-Err g c begun old stands =
    let got = c.in-Err.ensures.connections in
    (old, stands, (refl, got.0, c.in-Err.ensures.back, c.in-Err.ensures.cause.later, c.in-Err.ensures.cause.failed))
