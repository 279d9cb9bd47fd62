use Rattle.std.proofs.Common.{refl, rules, subst}
use Rattle.sc_catalog.specs.declared.entry.Entry.{Entry}
use Rattle.sc_visit.specs.Visits.{Visitor}
use Rattle.sc_session.specs.Session.{Place, Session}
use Rattle.sc_serve.specs.Notices.{TellsOfLoads}
use Rattle.sc_serve.specs.Service.{api}
use Rattle.sc_serve.proofs.Notices.{tells_nothing}
use Rattle.sc_serve.proofs.connection.serve_connection.Goals as goal

pub returns-clause-session : goal.returns-clause-session
returns-clause-session g c =
    let r = g.S.Source in
    let o = g.K.Sink in
    let x = c.serve_desk.ensures.session c.args.pass.now (refl, refl, refl, tells_nothing c.args.pass.now c.args.notices.now) in
    let first : Place Entry = record {
      left = r.left c.args.source.now;
      ended = r.ended c.args.source.now;
      faults = r.faults c.args.source.now;
      written = o.written c.args.sink.now;
      write_faults = o.faults c.args.sink.now;
      visitor = c.args.pass.now;
    } in
    let last : Visitor Entry → Place Entry = λ v. record {
      left = r.left c.serve_desk.new.source;
      ended = r.ended c.serve_desk.new.source;
      faults = r.faults c.serve_desk.new.source;
      written = o.written c.serve_desk.new.sink;
      write_faults = o.faults c.serve_desk.new.sink;
      visitor = v;
    } in
    let name = x.1.0 in
    let is : Session (api c.args.base.now) first (last c.serve_desk.new.desk.pass.now) c.serve_desk.result = subst (λ v. Session (api c.args.base.now) first (last v) c.serve_desk.result) x.1.2 x.2 in
    search rules

pub returns-clause-told : goal.returns-clause-told
returns-clause-told g c =
    let x = c.serve_desk.ensures.session c.args.pass.now (refl, refl, refl, tells_nothing c.args.pass.now c.args.notices.now) in
    let pass = x.1.0 in
    let notices = x.1.1 in
    let told : TellsOfLoads c.args.pass.now c.serve_desk.new.desk.pass.now c.args.notices.now c.serve_desk.new.desk.notices.now = x.1.3 in
    search rules
