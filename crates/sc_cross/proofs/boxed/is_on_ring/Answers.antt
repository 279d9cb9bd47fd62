use Rattle.std.proofs.Common.{IsTrue}
use Rattle.sc_cross.specs.Segment.{segments_of}
use Rattle.sc_cross.specs.Parts.{TouchesPath, IsOnRing}
use Rattle.sc_cross.proofs.Meetings.{on_one_of}
use Rattle.sc_cross.proofs.boxed.is_on_ring.Goals as goal

pub returns : goal.returns
unfolding TouchesPath IsOnRing
returns c = on_one_of c.args.at (segments_of c.args.ring.now) (IsTrue c.touches_path.result) c.touches_path.ensures
