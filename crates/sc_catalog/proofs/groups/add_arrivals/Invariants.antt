use Rattle.std.proofs.Common.{List, [], map, take}
use Rattle.std.specs.Arc.{arc_value}
use Rattle.sc_item.specs.Feature.{Feature}
use Rattle.sc_catalog.specs.Groups.{AreGrouped}
use Rattle.sc_catalog.proofs.groups.add_arrivals.Given as goal

abbrev pub invariant-loop-item : goal.invariant-loop-item
invariant-loop-item l = (items : List Feature) → AreGrouped items l.collection l.cut [] [] l.fn.groups → AreGrouped items l.collection l.cut [] (map arc_value (take l.item-index l.come)) l.groups
