use Rattle.std.proofs.Common.{◌≡◌, ◌≤◌, ◌∷◌, take}
use Rattle.sc_shelf.proofs.touch.additions_with.Given as goal

abbrev pub invariant-loop-addition : goal.invariant-loop-addition
invariant-loop-addition l = (l.all.items ≡ l.fn.newest ∷ take l.addition-index l.additions) × (l.addition-index ≤ 63)
