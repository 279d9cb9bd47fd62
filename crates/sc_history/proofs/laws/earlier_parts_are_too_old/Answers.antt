use Rattle.sc_history.proofs.Limits.{earlier_too_old}
use Rattle.sc_history.proofs.laws.earlier_parts_are_too_old.Goals as goal

pub returns : goal.returns
returns c = earlier_too_old
