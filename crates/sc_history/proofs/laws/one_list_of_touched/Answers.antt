use Rattle.sc_history.proofs.Covering.{are_touched, one_touched}
use Rattle.sc_history.proofs.laws.one_list_of_touched.Goals as goal

pub returns : goal.returns
returns c = record { are = are_touched; one = one_touched }
