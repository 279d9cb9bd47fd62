use Rattle.sc_cut.proofs.laws.one_key.Goals as goal
use Rattle.sc_cut.proofs.Keys.{one_key_only}

pub returns : goal.returns
returns c = one_key_only
