use Rattle.std.proofs.Common.{◌≡◌, ◌-◌, ◌^◌, min, map, take}
use Rattle.std.specs.Arc.{arc_value}
use Rattle.sc_load.specs.Load.{documents_size}
use Rattle.sc_load.proofs.load.documents_size.Given as goal

abbrev pub invariant-loop-item : goal.invariant-loop-item
invariant-loop-item l = l.bytes ≡ min (documents_size (map arc_value (take l.item-index l.items))) (2 ^ 64 - 1)
