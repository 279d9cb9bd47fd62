use Rattle.std.proofs.Common.{◌≡◌, take}
use Rattle.sc_part.specs.Scan.{shared}
use Rattle.sc_part.proofs.order.copies.Given as goal

abbrev pub invariant-loop-item : goal.invariant-loop-item
invariant-loop-item l = shared l.copies.items ≡ take l.item-index (shared l.items)
