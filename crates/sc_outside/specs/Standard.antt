-- What a new adapter over a reader or writer of std tells.
use Rattle.std.specs.Prelude.{◌≡◌, ℕ, List, false}
use Rattle.std.specs.declared.option.Option.{Option}
use Rattle.sc_outside.specs.declared.standard.StdSource.{StdSource}
use Rattle.sc_outside.specs.declared.standard.StdSink.{StdSink}

-- it has what its reader has left, no fault, and it hasn't ended
pub record IsNewSource {R : Type 0} (remaining : R → Option (List ℕ)) (reader : R) (source : StdSource R) : Type 0 where
  pub left : remaining source.reader ≡ remaining reader
  pub faults : source.faults ≡ 0
  pub ended : source.ended ≡ false

-- it has what its writer has, and no fault
pub record IsNewSink {W : Type 0} (contents : W → Option (List ℕ)) (writer : W) (sink : StdSink W) : Type 0 where
  pub written : contents sink.writer ≡ contents writer
  pub faults : sink.faults ≡ 0
