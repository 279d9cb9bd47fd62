use Rattle.std.proofs.Common.{◌≡◌, List, map, drop}
use Rattle.std.specs.Arc.{arc_value}
use Rattle.sc_item.specs.Feature.{Feature}
use Rattle.sc_index.specs.Found.{Indexes}
use Rattle.sc_history.specs.Refusals.{first_there}
use Rattle.sc_catalog.proofs.refusal.first_there.Given as goal

abbrev pub invariant-loop-item : goal.invariant-loop-item
invariant-loop-item l = (content : List Feature) → Indexes content l.index → first_there content l.collection (map arc_value l.items) ≡ first_there content l.collection (map arc_value (drop l.item-index l.items))
