use Rattle.sc_load.proofs.Places.{one_place}
use Rattle.sc_load.proofs.laws.one_first_bad_item.Goals as goal

pub returns : goal.returns
returns c = one_place
