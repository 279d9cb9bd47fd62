use Rattle.sc_token.proofs.Lists as lemmas
use Rattle.sc_token.proofs.laws.one_token.Goals as goal

pub returns : goal.returns
returns c = lemmas.one_token
