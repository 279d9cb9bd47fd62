use Rattle.std.proofs.Common.{◌++◌, List, take}
use Rattle.sc_item.specs.Feature.{Feature}
use Rattle.sc_item.specs.Names.{AreApart}
use Rattle.sc_page.specs.Kept.{HasFound}
use Rattle.sc_page.specs.Search.{shared}
use Rattle.sc_page.proofs.first.FirstItems.add_from_start.Given as goal

abbrev pub invariant-loop-item : goal.invariant-loop-item
invariant-loop-item l =
    (before : List Feature) → AreApart (before ++ shared l.items) → HasFound l.search l.fn.self before → HasFound l.search l.self (before ++ shared (take l.item-index l.items))
