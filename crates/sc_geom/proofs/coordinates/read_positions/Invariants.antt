use Rattle.std.proofs.Common.{◌≡◌, List, Option, Some, take}
use Rattle.sc_geom.specs.declared.point.Pt.{Pt}
use Rattle.sc_geom.specs.Drawn.{position_of, all_read}
use Rattle.sc_geom.specs.Building.{IsPath}
use Rattle.sc_geom.proofs.coordinates.read_positions.Given as goal

abbrev pub invariant-loop-element : goal.invariant-loop-element
invariant-loop-element l = (so_far : List (Option Pt)) × (all_read position_of (take l.element-index l.elements) ≡ Some so_far) × IsPath l.path so_far
