use Rattle.sc_shelf.proofs.Midway.{IsMidway}
use Rattle.std.proofs.Common.{drop}
use Rattle.sc_shelf.proofs.publish.changed_parts.Given as goal

abbrev pub invariant-loop-change : goal.invariant-loop-change
invariant-loop-change l = IsMidway l.revision l.changes (drop l.change-index l.changes) l.old l.new.items l.rest
