use Rattle.sc_cross.proofs.Verdicts.{else_not}
use Rattle.sc_cross.proofs.Meetings.{touched_reaches}
use Rattle.sc_cross.proofs.touching.touches_one_of.Goals as goal

pub returns-else-reaches_box : goal.returns-else-reaches_box
returns-else-reaches_box c =
    else_not c.reaches_box.result c.reaches_box.ensures c.if-reaches_box.false (touched_reaches c.args.extent.now c.args.segment c.args.other.now c.requires.extent)
