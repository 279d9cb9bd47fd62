use Rattle.std.proofs.Common.{◌≡◌, map, take}
use Rattle.sc_sort.specs.Sorts.{key_of}
use Rattle.sc_sort.proofs.tree.keys_of.Given as goal

abbrev pub invariant-loop-tree : goal.invariant-loop-tree
invariant-loop-tree l = l.keys.items ≡ map key_of (take l.tree-index l.trees)
