use Rattle.sc_catalog.specs.declared.entry.Entry.{Entry}
use Rattle.sc_visit.specs.Visits.{Visitor}
use Rattle.sc_serve.specs.Service.{api_of}
use Rattle.sc_server.proofs.Connections.{SoFar}
use Rattle.sc_server.proofs.listening.serve_listener.Given as goal

abbrev pub invariant-loop-served : goal.invariant-loop-served
invariant-loop-served g l =
    (old : Visitor Entry) → g.D.Desk.stands l.fn.desk l.fn.desk old → (now : Visitor Entry) × g.D.Desk.stands l.fn.desk l.desk now
    × SoFar g.L.In.Source.left g.L.In.Source.ended g.L.In.Source.faults g.L.Out.Sink.written g.L.Out.Sink.faults (api_of g.D.Desk.may_fail l.base) g.L.Listen.left g.L.Listen.handed_back g.L.Listen.faults
    l.served l.fn.net l.net old now
