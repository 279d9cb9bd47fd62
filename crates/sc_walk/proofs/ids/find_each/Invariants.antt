use Rattle.std.proofs.Common.{◌≡◌, take}
use Rattle.sc_page.specs.Search.{shared}
use Rattle.sc_walk.specs.Ids.{looked_up}
use Rattle.sc_walk.proofs.ids.find_each.Given as goal

abbrev pub invariant-loop-id : goal.invariant-loop-id
invariant-loop-id l = shared l.found.items ≡ looked_up (take l.id-index l.ids) l.version.items
