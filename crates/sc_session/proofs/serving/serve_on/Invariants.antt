use Rattle.std.proofs.Common.{◌≤◌, ◌+◌, ◌^◌, length}
use Rattle.sc_visit.specs.Visits.{Visitor}
use Rattle.sc_session.specs.Session.{Place}
use Rattle.sc_session.specs.Steps.{SoFar}
use Rattle.sc_session.proofs.serving.serve_on.Given as goal

abbrev pub invariant-loop : goal.invariant-loop
invariant-loop g l = record {
  few : l.intake.taken ≤ 2 ^ 40;
  fewer : l.counter + length l.intake.bytes ≤ l.intake.taken;
  so_far : (begun : g.row.P.Denot) (first : Place g.row.C-Entry.Denot) (mid : Visitor g.row.C-Entry.Denot) → g.C.Clerk.stands begun l.fn.pass mid →
      SoFar (g.C.Clerk.service l.fn.clerk) first
      (record { left = g.S.Source.left l.fn.source; ended = g.S.Source.ended l.fn.source; faults = g.S.Source.faults l.fn.source; written = g.K.Sink.written l.fn.sink; write_faults = g.K.Sink.faults l.fn.sink; visitor = mid })
      l.fn.intake →
      (last : Visitor g.row.C-Entry.Denot) × g.C.Clerk.stands begun l.pass last ×
      SoFar (g.C.Clerk.service l.fn.clerk) first
      (record { left = g.S.Source.left l.source; ended = g.S.Source.ended l.source; faults = g.S.Source.faults l.source; written = g.K.Sink.written l.sink; write_faults = g.K.Sink.faults l.sink; visitor = last })
      l.intake;
}
