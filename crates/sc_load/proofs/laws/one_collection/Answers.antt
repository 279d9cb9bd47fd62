use Rattle.sc_load.proofs.Cuts.{one_id_and_cut}
use Rattle.sc_load.proofs.laws.one_collection.Goals as goal

pub returns : goal.returns
returns c = one_id_and_cut
