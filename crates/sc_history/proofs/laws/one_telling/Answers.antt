use Rattle.sc_history.proofs.Telling.{one_telling}
use Rattle.sc_history.proofs.laws.one_telling.Goals as goal

pub returns : goal.returns
returns c = one_telling
