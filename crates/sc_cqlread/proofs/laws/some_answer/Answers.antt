use Rattle.sc_cqlread.proofs.Total.{answered}
use Rattle.sc_cqlread.proofs.laws.some_answer.Goals as goal

pub returns : goal.returns
returns c = answered
