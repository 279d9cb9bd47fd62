use Rattle.sc_part.specs.Scan.{shared}
use Rattle.sc_shelf.specs.Kept.{all_items}
use Rattle.std.proofs.Common.{◌≡◌, ◌+◌, length, take}
use Rattle.sc_shelf.proofs.snapshot.Snapshot.items.Given as goal

abbrev pub invariant-loop-part : goal.invariant-loop-part
invariant-loop-part g l = (shared l.all.items ≡ all_items (take l.part-index l.part-items)) × (l.steps ≡ l.initial.steps + l.part-index + length (all_items (take l.part-index l.part-items)))
