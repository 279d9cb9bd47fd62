use Rattle.std.proofs.Common.{IsTrue}
use Rattle.sc_cross.specs.Meets.{segments_in}
use Rattle.sc_cross.specs.Parts.{IsOnOneOf}
use Rattle.sc_cross.proofs.Meetings.{on_one_of}
use Rattle.sc_cross.proofs.touching.is_on_one_of.Goals as goal

pub returns : goal.returns
unfolding IsOnOneOf
returns c = on_one_of c.args.at (segments_in c.args.other.now) (IsTrue c.touches_one_of.result) c.touches_one_of.ensures
