use Rattle.std.proofs.Common.{◌≡◌, List, Option, Some, take}
use Rattle.sc_geom.specs.declared.point.Pt.{Pt}
use Rattle.sc_geom.specs.Shapes.{beside}
use Rattle.sc_geom.specs.Sketch.{Sketch}
use Rattle.sc_geom.specs.Drawn.{area_of, all_read, areas_only}
use Rattle.sc_geom.specs.Building.{IsDraft}
use Rattle.sc_geom.proofs.coordinates.add_areas.Given as goal

abbrev pub invariant-loop-element : goal.invariant-loop-element
invariant-loop-element l = (s : Sketch) → IsDraft l.fn.draft s → (so_far : List (List (List (Option Pt)))) × (all_read area_of (take l.element-index l.elements) ≡ Some so_far) × IsDraft l.draft (beside s (areas_only so_far))
