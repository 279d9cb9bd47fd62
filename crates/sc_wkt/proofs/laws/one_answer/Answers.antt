use Rattle.sc_wkt.proofs.OneAnswer.{answers_are_one}
use Rattle.sc_wkt.proofs.laws.one_answer.Goals as goal

pub returns : goal.returns
returns c = answers_are_one
