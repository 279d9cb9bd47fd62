use Rattle.std.proofs.Common.{refl, rules, subst}
use Rattle.sc_serve.specs.Notices.{TellsOfLoads}
use Rattle.sc_serve.specs.Service.{api}
use Rattle.sc_serve.proofs.Notices.{tells_nothing}
use Rattle.sc_server.specs.Listening.{IsListened}
use Rattle.sc_server.proofs.listening.serve_connections.Goals as goal

pub returns-clause-listened : goal.returns-clause-listened
returns-clause-listened g c =
    let x = c.serve_listener.ensures c.args.pass.now (refl, refl, refl, tells_nothing c.args.pass.now c.args.notices.now) in
    let name = x.1.0 in
    let is : IsListened g.L.In.Source.left g.L.In.Source.ended g.L.In.Source.faults g.L.Out.Sink.written g.L.Out.Sink.faults (api c.args.base.now) g.L.Listen.left g.L.Listen.handed_back g.L.Listen.faults
    c.args.most c.serve_listener.result c.args.net.now c.serve_listener.new.net c.args.pass.now c.serve_listener.new.desk.pass.now =
    subst (λ v. IsListened g.L.In.Source.left g.L.In.Source.ended g.L.In.Source.faults g.L.Out.Sink.written g.L.Out.Sink.faults (api c.args.base.now) g.L.Listen.left g.L.Listen.handed_back g.L.Listen.faults
    c.args.most c.serve_listener.result c.args.net.now c.serve_listener.new.net c.args.pass.now v) x.1.2 x.2 in
    search rules

pub returns-clause-told : goal.returns-clause-told
returns-clause-told g c =
    let x = c.serve_listener.ensures c.args.pass.now (refl, refl, refl, tells_nothing c.args.pass.now c.args.notices.now) in
    let pass = x.1.0 in
    let notices = x.1.1 in
    let told : TellsOfLoads c.args.pass.now c.serve_listener.new.desk.pass.now c.args.notices.now c.serve_listener.new.desk.notices.now = x.1.3 in
    search rules
