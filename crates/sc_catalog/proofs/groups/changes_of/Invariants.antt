use Rattle.std.proofs.Common.{◌≡◌, ◌++◌, map}
use Rattle.sc_catalog.specs.Groups.{change_at}
use Rattle.sc_catalog.proofs.groups.changes_of.Given as goal

abbrev pub invariant-loop-key : goal.invariant-loop-key
invariant-loop-key l = l.changes.items ++ map (change_at l.collection l.cut) l.key-iterator ≡ map (change_at l.collection l.cut) l.fn.groups.entries
