use Rattle.std.proofs.Common.{◌≤◌, ◌+◌, ◌-◌, ◌^◌, ℕ, List, length}
use Rattle.std.specs.Io.KnownBytes.{Consumes}
use Rattle.sc_weave.specs.Inside.{HasTaken}
use Rattle.sc_weave.proofs.run.weave.Given as goal

abbrev pub invariant-reading : goal.invariant-reading
invariant-reading g l = record {
  taken : (bytes : List ℕ) × Consumes (g.S.Source.left l.fn.source) (g.S.Source.left l.source) bytes × HasTaken (g.K.Sink.written l.fn.sink) (g.K.Sink.written l.sink) l.progress l.pending.items bytes;
  source_later : g.S.Source.faults l.fn.source ≤ g.S.Source.faults l.source;
  sink_later : g.K.Sink.faults l.fn.sink ≤ g.K.Sink.faults l.sink;
}

abbrev pub decreases-reading : goal.decreases-reading
decreases-reading g l = 2 ^ 28 + 1 - (l.progress.read + length l.pending.items)
