use Rattle.sc_cross.proofs.Meetings.{meets_turned}
use Rattle.sc_cross.proofs.laws.meeting_is_symmetric.Goals as goal

pub returns : goal.returns
returns c = meets_turned
