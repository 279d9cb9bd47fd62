use Rattle.sc_cross.proofs.Decided.{meet_test}
use Rattle.sc_cross.proofs.laws.meeting_is_tested.Goals as goal

pub returns : goal.returns
returns c = meet_test
