use Rattle.sc_part.specs.Scan.{shared}
use Rattle.std.proofs.Common.{◌≡◌, ◌++◌, take}
use Rattle.sc_shelf.proofs.snapshot.push_items.Given as goal

abbrev pub invariant-loop-item : goal.invariant-loop-item
invariant-loop-item l = shared l.all.items ≡ shared l.initial.all.items ++ take l.item-index (shared l.items)
