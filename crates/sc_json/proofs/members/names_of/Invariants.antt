use Rattle.std.proofs.Common.{take}
use Rattle.sc_json.specs.Names.{Agree}
use Rattle.sc_json.proofs.members.names_of.Given as goal

abbrev pub invariant-loop-i : goal.invariant-loop-i
invariant-loop-i l = Agree l.names (take l.i l.members)
