use Rattle.sc_shelf.specs.Kept.{all_items}
use Rattle.std.proofs.Common.{◌≡◌, ◌-◌, ◌^◌, min, length, take}
use Rattle.sc_shelf.proofs.snapshot.count_items.Given as goal

abbrev pub invariant-loop-part : goal.invariant-loop-part
invariant-loop-part l = l.count ≡ min (length (all_items (take l.part-index l.parts))) (2 ^ 64 - 1)
