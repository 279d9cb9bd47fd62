use Rattle.sc_part.proofs.Scanning as lemmas
use Rattle.sc_part.proofs.laws.scan_of_items.Goals as goal

pub returns : goal.returns
returns c = lemmas.scan_is
