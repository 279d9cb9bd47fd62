use Rattle.std.proofs.Common.{◌≤◌, length}
use Rattle.sc_outside.proofs.Written.{Written}
use Rattle.sc_outside.proofs.writing.write_all.Given as goal

abbrev pub invariant-writing : goal.invariant-writing
invariant-writing g l = record {
  written : Written l.bytes l.rest (g.K.Sink.written l.fn.sink) (g.K.Sink.written l.sink);
  later : g.K.Sink.faults l.fn.sink ≤ g.K.Sink.faults l.sink;
}

abbrev pub decreases-writing : goal.decreases-writing
decreases-writing g l = length l.rest
