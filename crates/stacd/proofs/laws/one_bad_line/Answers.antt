use Rattle.stacd.proofs.Judging as lemmas
use Rattle.stacd.proofs.laws.one_bad_line.Goals as goal

pub returns : goal.returns
returns c = lemmas.one_bad_line
