use Rattle.std.proofs.Common.{◌≡◌, ◌-◌, [], length}
use Rattle.sc_wkt.proofs.Ahead.{IsAhead}
use Rattle.sc_wkt.proofs.read.read_geometry.Given as goal

abbrev pub invariant-loop-drawing : goal.invariant-loop-drawing
invariant-loop-drawing l = IsAhead l.text l.fn.is_whole l.at l.level l.stack l.drawing l.wide × (l.stack ≡ [] → ⊥)

abbrev pub decreases-loop-drawing : goal.decreases-loop-drawing
decreases-loop-drawing l = length l.text - l.at
