use Rattle.std.proofs.Common.{refl, subst}
use Rattle.sc_keep.specs.Turns.{kept_api}
use Rattle.sc_server.specs.Listening.{IsListened}
use Rattle.sc_server.proofs.keeper.Keeper.work.Goals as goal

pub returns : goal.returns
returns g c =
    let x = c.serve_listener-self.ensures c.args.self.now.pass refl in
    subst (λ v. IsListened g.L.In.Source.left g.L.In.Source.ended g.L.In.Source.faults g.L.Out.Sink.written g.L.Out.Sink.faults (kept_api g.D.Disk.faults c.args.base.now) g.L.Listen.left g.L.Listen.handed_back g.L.Listen.faults
    c.args.most c.serve_listener-self.result c.args.self.now.net c.serve_listener-self.new.net c.args.self.now.pass v) x.1 x.2
