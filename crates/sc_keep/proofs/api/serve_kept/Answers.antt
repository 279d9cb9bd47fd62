use Rattle.std.proofs.Common.{refl, subst}
use Rattle.sc_catalog.specs.declared.entry.Entry.{Entry}
use Rattle.sc_visit.specs.Visits.{Visitor}
use Rattle.sc_session.specs.Session.{Place, Session}
use Rattle.sc_keep.specs.Turns.{kept_api}
use Rattle.sc_keep.proofs.api.serve_kept.Goals as goal

pub returns : goal.returns
returns g c =
    let r = g.S.Source in
    let o = g.K.Sink in
    let service = kept_api g.D.Disk.faults c.args.base.now in
    let x = c.serve_desk.ensures.session c.args.pass.now refl in
    let first : Place Entry = record {
      left = r.left c.args.source.now;
      ended = r.ended c.args.source.now;
      faults = r.faults c.args.source.now;
      written = o.written c.args.sink.now;
      write_faults = o.faults c.args.sink.now;
      visitor = c.args.pass.now;
    } in
    let last : Visitor Entry → Place Entry = λ v. record {
      left = r.left c.serve_desk.new.source;
      ended = r.ended c.serve_desk.new.source;
      faults = r.faults c.serve_desk.new.source;
      written = o.written c.serve_desk.new.sink;
      write_faults = o.faults c.serve_desk.new.sink;
      visitor = v;
    } in
    subst (λ v. Session service first (last v) c.serve_desk.result) x.1 x.2
