use Rattle.std.proofs.Common.{◌≡◌, ◌+◌, take}
use Rattle.sc_shelf.specs.Kept.{all_items}
use Rattle.sc_page.specs.Kept.{HasFound}
use Rattle.sc_walk.specs.Walk.{cost}
use Rattle.sc_walk.proofs.walking.take_all_parts.Given as goal

abbrev pub invariant-loop-candidate : goal.invariant-loop-candidate
invariant-loop-candidate g l =
    HasFound l.search l.first (all_items (take l.candidate-index l.candidates))
    × (l.steps ≡ l.fn.steps + cost (take l.candidate-index l.candidates))
