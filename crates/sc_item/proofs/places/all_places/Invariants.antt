use Rattle.std.proofs.Common.{take}
use Rattle.sc_item.specs.Places.{Agree}
use Rattle.sc_item.proofs.places.all_places.Given as goal

abbrev pub invariant-loop-i : goal.invariant-loop-i
invariant-loop-i l = Agree l.places (take l.i l.members)
