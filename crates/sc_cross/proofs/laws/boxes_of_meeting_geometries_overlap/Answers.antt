use Rattle.sc_cross.proofs.Meetings.{meeting_overlaps}
use Rattle.sc_cross.proofs.laws.boxes_of_meeting_geometries_overlap.Goals as goal

pub returns : goal.returns
returns c a b r s is_a is_b around_a around_b = meeting_overlaps r s a b is_a is_b around_a.holds around_b.holds
