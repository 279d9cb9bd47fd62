use Rattle.std.proofs.Common.{rules, ◌≡◌, ◌≤◌}
use Rattle.sc_serve.specs.Service.{api_of}
use Rattle.sc_server.proofs.Connections.{ends_failed, ends_full, ends_none, none_yet, one_more}
use Rattle.sc_server.proofs.listening.serve_listener.Goals as goal

pub loop-served-init : goal.loop-served-init
loop-served-init g c old stands = (
  old,
  stands,
  none_yet g.L.In.Source.left g.L.In.Source.ended g.L.In.Source.faults g.L.Out.Sink.written g.L.Out.Sink.faults (api_of g.D.Desk.may_fail c.args.base.now) g.L.Listen.left g.L.Listen.handed_back g.L.Listen.faults
      c.args.net.now old,
)

pub loop-served-preserved : goal.loop-served-preserved
loop-served-preserved g c old stands =
    let now = c.loop-served in
    let x = now.invariant old stands in
    let y = c.in-Served.ensures c.args.desk.now x.0 x.1 in (
      y.0,
      y.1,
      one_more g.L.In.Source.left g.L.In.Source.ended g.L.In.Source.faults g.L.Out.Sink.written g.L.Out.Sink.faults (api_of g.D.Desk.may_fail c.args.base.now) g.L.Listen.left g.L.Listen.handed_back g.L.Listen.faults
          now.served c.args.net.now now.net _ old x.0 y.0 x.2 y.2,
    )

pub returns-in-NoneLeft : goal.returns-in-NoneLeft
returns-in-NoneLeft g c old stands =
    let now = c.loop-served in
    let x = now.invariant old stands in
    let y = c.in-NoneLeft.ensures c.args.desk.now x.0 x.1 in
    let few : now.served ≤ c.args.most = search rules in (
      y.0,
      y.1,
      ends_none g.L.In.Source.left g.L.In.Source.ended g.L.In.Source.faults g.L.Out.Sink.written g.L.Out.Sink.faults (api_of g.D.Desk.may_fail c.args.base.now) g.L.Listen.left g.L.Listen.handed_back g.L.Listen.faults
          now.served c.args.most c.args.net.now now.net _ old x.0 y.0 few x.2 y.2,
    )

pub returns-in-Failed : goal.returns-in-Failed
returns-in-Failed g c old stands =
    let now = c.loop-served in
    let x = now.invariant old stands in
    let y = c.in-Failed.ensures c.args.desk.now x.0 x.1 in
    let few : now.served ≤ c.args.most = search rules in (
      y.0,
      y.1,
      ends_failed g.L.In.Source.left g.L.In.Source.ended g.L.In.Source.faults g.L.Out.Sink.written g.L.Out.Sink.faults (api_of g.D.Desk.may_fail c.args.base.now) g.L.Listen.left g.L.Listen.handed_back g.L.Listen.faults
          now.served c.args.most c.args.net.now now.net _ old x.0 y.0 few x.2 y.2,
    )

pub returns : goal.returns
returns g c old stands =
    let now = c.loop-served in
    let x = now.invariant old stands in
    let full : now.served ≡ c.args.most = search rules in (
      x.0,
      x.1,
      ends_full g.L.In.Source.left g.L.In.Source.ended g.L.In.Source.faults g.L.Out.Sink.written g.L.Out.Sink.faults (api_of g.D.Desk.may_fail c.args.base.now) g.L.Listen.left g.L.Listen.handed_back g.L.Listen.faults
          now.served c.args.most c.args.net.now _ old x.0 full x.2,
    )
