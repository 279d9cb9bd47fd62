use Rattle.sc_cut.proofs.laws.key_test.Goals as goal
use Rattle.sc_cut.proofs.Keys.{tested}

pub returns : goal.returns
returns c = tested
