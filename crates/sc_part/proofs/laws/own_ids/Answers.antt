use Rattle.sc_part.proofs.Scanning as lemmas
use Rattle.sc_part.proofs.laws.own_ids.Goals as goal

pub returns : goal.returns
returns c = lemmas.own_ids
