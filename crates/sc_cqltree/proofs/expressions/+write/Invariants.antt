use Rattle.std.proofs.Common.{◌≡◌, map, take}
use Rattle.sc_cqltree.specs.Written.{written}
use Rattle.sc_cqltree.proofs.expressions.+write.Given as goal

abbrev pub invariant-member_trees-loop-member : goal.invariant-member_trees-loop-member
invariant-member_trees-loop-member l = l.trees.items ≡ map written (take l.member-index l.members)
