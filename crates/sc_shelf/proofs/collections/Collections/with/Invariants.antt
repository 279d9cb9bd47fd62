use Rattle.std.proofs.Common.{◌≡◌, take}
use Rattle.sc_shelf.proofs.collections.Collections.with.Given as goal

abbrev pub invariant-loop-collection : goal.invariant-loop-collection
invariant-loop-collection l = l.new.items ≡ take l.collection-index l.collection-items
