use Rattle.std.proofs.Common.{◌≡◌, map, take}
use Rattle.sc_cqltree.specs.Scalars.{scalar_tree}
use Rattle.sc_cqltree.proofs.scalars.scalar_trees.Given as goal

abbrev pub invariant-loop-scalar : goal.invariant-loop-scalar
invariant-loop-scalar l = l.trees.items ≡ map scalar_tree (take l.scalar-index l.scalars)
