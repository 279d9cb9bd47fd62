use Rattle.std.proofs.Common.{map, take}
use Rattle.sc_eval.specs.Names.{AreSameNames}
use Rattle.sc_walk.specs.Ids.{AreOnce}
use Rattle.sc_walk.proofs.ids.each_once.Given as goal

abbrev pub invariant-loop-id : goal.invariant-loop-id
invariant-loop-id l =
    AreSameNames (map (λ name. name.now) l.seen.keys) (take l.id-index l.ids)
    × AreOnce l.once.items
    × AreSameNames l.once.items (take l.id-index l.ids)
