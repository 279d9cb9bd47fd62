use Rattle.sc_part.proofs.Changing as lemmas
use Rattle.sc_part.proofs.laws.one_scan.Goals as goal

pub returns : goal.returns
returns c = lemmas.one_scan
