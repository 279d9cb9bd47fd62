use Rattle.sc_chain.proofs.Chaining as lemmas
use Rattle.sc_chain.proofs.laws.pages_end.Goals as goal

pub returns : goal.returns
returns c = record { fewer = lemmas.fewer; few = lemmas.few }
