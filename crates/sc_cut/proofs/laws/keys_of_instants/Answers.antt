use Rattle.sc_cut.proofs.laws.keys_of_instants.Goals as goal
use Rattle.sc_cut.proofs.Keys.{key_used, key_in_range}

pub returns : goal.returns
returns c = record { used = key_used; all = key_in_range }
