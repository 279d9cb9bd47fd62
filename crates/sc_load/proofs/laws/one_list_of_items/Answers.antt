use Rattle.sc_load.proofs.Places.{one_list}
use Rattle.sc_load.proofs.laws.one_list_of_items.Goals as goal

pub returns : goal.returns
returns c = one_list
