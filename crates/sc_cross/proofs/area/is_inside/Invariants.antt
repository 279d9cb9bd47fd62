use Rattle.std.proofs.Common.{◌≡◌, drop, false}
use Rattle.sc_cross.specs.Area.{edges_of}
use Rattle.sc_cross.specs.Parts.{turned_over}
use Rattle.sc_cross.proofs.area.is_inside.Given as goal

abbrev pub invariant-loop-ring : goal.invariant-loop-ring
invariant-loop-ring l = turned_over l.at l.odd (edges_of (drop l.ring-index l.rings)) ≡ turned_over l.at false (edges_of l.rings)
