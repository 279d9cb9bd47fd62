use Rattle.sc_cqlgrammar.specs.Reading.{Nothing, stays}
use Rattle.sc_cqlgrammar.proofs.Readings.{derived_is_taken, taken_is_derived}
use Rattle.sc_cqlgrammar.proofs.laws.what_is_taken_whole_is_derived.Goals as goal

pub returns : goal.returns
returns c = λ n tokens start. (derived_is_taken Nothing stays stays n start tt tokens tt, taken_is_derived Nothing stays stays n tt tokens tt)
