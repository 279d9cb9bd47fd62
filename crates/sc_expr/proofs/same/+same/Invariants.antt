use Rattle.std.proofs.Common.{◌≡◌, take}
use Rattle.sc_expr.proofs.same.+same.Given as goal

abbrev pub invariant-are_same_members-loop-i : goal.invariant-are_same_members-loop-i
invariant-are_same_members-loop-i l = take l.i l.a ≡ take l.i l.b
