use Rattle.sc_cqlgrammar.specs.Reading.{Nothing, stays}
use Rattle.sc_cqlgrammar.proofs.Readings.{taken_is_front}
use Rattle.sc_cqlgrammar.proofs.laws.what_is_taken_is_a_front.Goals as goal

pub returns : goal.returns
returns c = λ n tokens items r. taken_is_front Nothing stays stays n tt tokens items tt r
