use Rattle.std.proofs.Common.{take}
use Rattle.std.specs.List.{All}
use Rattle.sc_expr.specs.Kept.{IsKept}
use Rattle.sc_expr.proofs.kept.+kept.Given as goal

abbrev pub invariant-members_keep-loop-member : goal.invariant-members_keep-loop-member
invariant-members_keep-loop-member l = All IsKept (take l.member-index l.members)
