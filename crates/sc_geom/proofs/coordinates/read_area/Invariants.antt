use Rattle.std.proofs.Common.{◌≡◌, List, Option, Some, take}
use Rattle.sc_geom.specs.declared.point.Pt.{Pt}
use Rattle.sc_geom.specs.Drawn.{positions, all_read}
use Rattle.sc_geom.specs.Building.{IsArea}
use Rattle.sc_geom.proofs.coordinates.read_area.Given as goal

abbrev pub invariant-loop-element : goal.invariant-loop-element
invariant-loop-element l = (so_far : List (List (Option Pt))) × (all_read positions (take l.element-index l.elements) ≡ Some so_far) × IsArea l.area so_far
