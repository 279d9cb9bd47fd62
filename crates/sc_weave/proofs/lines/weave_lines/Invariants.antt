use Rattle.std.proofs.Common.{◌≤◌, ℕ, List, length}
use Rattle.std.specs.declared.option.Option.{Option}
use Rattle.sc_outside.specs.Lines.{lines_of}
use Rattle.sc_weave.specs.Inside.{HasTold}
use Rattle.sc_weave.proofs.Taking.{Midway}
use Rattle.sc_weave.proofs.lines.weave_lines.Given as goal

abbrev pub invariant-weaving : goal.invariant-weaving
invariant-weaving g l = record {
  midway : (start : Option (List ℕ)) (lines : List (List ℕ)) → HasTold start (g.K.Sink.written l.fn.sink) l.fn.progress lines → Midway start (g.K.Sink.written l.sink) l.progress lines (lines_of l.bytes) l.rest;
  later : g.K.Sink.faults l.fn.sink ≤ g.K.Sink.faults l.sink;
}

abbrev pub decreases-weaving : goal.decreases-weaving
decreases-weaving g l = length l.rest
