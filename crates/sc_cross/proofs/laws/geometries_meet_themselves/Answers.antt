use Rattle.sc_cross.proofs.Meetings.{meets_itself}
use Rattle.sc_cross.proofs.laws.geometries_meet_themselves.Goals as goal

pub returns : goal.returns
returns c = meets_itself
