use Rattle.stacd.proofs.Ends as lemmas
use Rattle.stacd.proofs.laws.one_answer.Goals as goal

pub returns : goal.returns
returns c = lemmas.one_answer
