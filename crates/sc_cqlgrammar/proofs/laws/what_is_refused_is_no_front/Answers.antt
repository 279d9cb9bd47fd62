use Rattle.sc_cqlgrammar.specs.Reading.{Nothing, stays}
use Rattle.sc_cqlgrammar.proofs.Readings.{refused_is_none}
use Rattle.sc_cqlgrammar.proofs.laws.what_is_refused_is_no_front.Goals as goal

pub returns : goal.returns
returns c = λ n tokens items t r. refused_is_none Nothing stays stays n tt tokens items tt r t
