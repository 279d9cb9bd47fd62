use Rattle.std.proofs.Common.{List, [], take}
use Rattle.std.specs.List.{All}
use Rattle.sc_item.specs.Feature.{Feature}
use Rattle.sc_load.specs.Load.{IsItemOf}
use Rattle.sc_index.specs.Found.{Indexes}
use Rattle.sc_catalog.specs.Groups.{AreGrouped}
use Rattle.sc_catalog.proofs.groups.add_departures.Given as goal

abbrev pub invariant-loop-id : goal.invariant-loop-id
invariant-loop-id l = (items come : List Feature) → Indexes items l.index → All (λ item. IsItemOf item.collection item) items → AreGrouped items l.collection l.cut [] come l.fn.groups → AreGrouped items l.collection l.cut (take l.id-index l.gone) come l.groups
