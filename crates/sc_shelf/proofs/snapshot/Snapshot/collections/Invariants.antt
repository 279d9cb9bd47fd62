use Rattle.std.proofs.Common.{◌≡◌, map, take}
use Rattle.sc_shelf.proofs.snapshot.Snapshot.collections.Given as goal

abbrev pub invariant-loop-collection : goal.invariant-loop-collection
invariant-loop-collection l = l.trees.items ≡ map (λ c. c.tree) (take l.collection-index l.collection-items)
