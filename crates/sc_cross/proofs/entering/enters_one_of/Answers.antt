use Rattle.sc_cross.proofs.Verdicts.{else_not}
use Rattle.sc_cross.proofs.Meetings.{entered_holds}
use Rattle.sc_cross.proofs.entering.enters_one_of.Goals as goal

pub returns-else-holds : goal.returns-else-holds
returns-else-holds c =
    else_not c.holds.result c.holds.ensures c.if-holds.false (entered_holds c.args.extent.now c.args.at c.args.areas.now c.requires.areas)
