use Rattle.sc_token.proofs.Answered as lemmas
use Rattle.sc_token.proofs.laws.one_answer.Goals as goal

pub returns : goal.returns
returns c = lemmas.one_answer
