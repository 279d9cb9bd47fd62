use Rattle.sc_cross.proofs.Verdicts.{else_not}
use Rattle.sc_cross.proofs.Meetings.{meeting_overlaps}
use Rattle.sc_cross.proofs.Decided.{meet_is}
use Rattle.sc_cross.proofs.meeting.meets_within.Goals as goal

pub returns-then-overlaps : goal.returns-then-overlaps
returns-then-overlaps c =
    record { meets = c.meet_in_boxes.ensures; test = meet_is c.args.a.now c.args.b.now c.meet_in_boxes.result c.meet_in_boxes.ensures }

pub returns-else-overlaps : goal.returns-else-overlaps
returns-else-overlaps c =
    let apart = else_not c.overlaps.result c.overlaps.ensures.fact c.if-overlaps.false
    (meeting_overlaps c.args.of_a.now c.args.of_b.now c.args.a.now c.args.b.now c.points-points.ensures.kept c.points-others.ensures.kept c.requires.of_a c.requires.of_b) in
    record { meets = apart; test = meet_is c.args.a.now c.args.b.now c.overlaps.result apart }
