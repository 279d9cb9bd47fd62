use Rattle.std.proofs.Common.{List, ◌++◌, take}
use Rattle.sc_geom.specs.declared.point.Pt.{Pt}
use Rattle.sc_geom.specs.Rectangle.{Encloses}
use Rattle.sc_geom.proofs.extent.over_points.Given as goal

abbrev pub invariant-loop-point : goal.invariant-loop-point
invariant-loop-point l = (before : List Pt) → Encloses l.fn.extent before → Encloses l.extent (before ++ take l.point-index l.points)
