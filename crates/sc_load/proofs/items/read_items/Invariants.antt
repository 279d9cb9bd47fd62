use Rattle.std.proofs.Common.{map}
use Rattle.std.specs.Arc.{arc_value}
use Rattle.std.specs.Vec.Iter.{into_iter_items}
use Rattle.sc_load.proofs.Reading.{AreSoFar}
use Rattle.sc_load.proofs.items.read_items.Given as goal

abbrev pub invariant-loop-tree : goal.invariant-loop-tree
invariant-loop-tree l = AreSoFar l.fn.collection l.fn.trees.items l.yielded (into_iter_items l.tree-iterator) (map arc_value l.items.items)
