use Rattle.sc_cross.specs.Meets.{at_points, point_on_segment, segment_under_point, position_inside, position_around}
use Rattle.sc_cross.proofs.Verdicts.{found_way}
use Rattle.sc_cross.proofs.Meetings.{meets_last}
use Rattle.sc_cross.proofs.meeting.meet_in_boxes.Goals as goal

pub returns-then-share_a_point : goal.returns-then-share_a_point
returns-then-share_a_point c = found_way c.share_a_point.result c.share_a_point.ensures c.if-share_a_point.true at_points

pub returns-then-points_touch : goal.returns-then-points_touch
returns-then-points_touch c = found_way c.points_touch.result c.points_touch.ensures c.if-points_touch.true point_on_segment

pub returns-then-points_touch-2 : goal.returns-then-points_touch-2
returns-then-points_touch-2 c = found_way c.points_touch-2.result c.points_touch-2.ensures c.if-points_touch-2.true segment_under_point

pub returns-then-enters : goal.returns-then-enters
returns-then-enters c = found_way c.enters.result c.enters.ensures c.if-enters.true position_inside

pub returns-then-enters-2 : goal.returns-then-enters-2
returns-then-enters-2 c = found_way c.enters-2.result c.enters-2.ensures c.if-enters-2.true position_around

pub returns : goal.returns
returns c =
    meets_last c.args.a.now c.args.b.now c.share_a_point.result c.points_touch.result c.points_touch-2.result c.enters.result c.enters-2.result c.segments_touch.result
    c.share_a_point.ensures c.if-share_a_point.false
    c.points_touch.ensures c.if-points_touch.false
    c.points_touch-2.ensures c.if-points_touch-2.false
    c.enters.ensures c.if-enters.false
    c.enters-2.ensures c.if-enters-2.false
    c.segments_touch.ensures
