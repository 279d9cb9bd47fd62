use Rattle.std.proofs.Common.{List, ◌++◌, take}
use Rattle.sc_geom.specs.declared.point.Pt.{Pt}
use Rattle.sc_geom.specs.Shapes.{joined}
use Rattle.sc_geom.specs.Rectangle.{Encloses}
use Rattle.sc_geom.proofs.extent.over_areas.Given as goal

abbrev pub invariant-loop-rings : goal.invariant-loop-rings
invariant-loop-rings l = (before : List Pt) → Encloses l.fn.extent before → Encloses l.extent (before ++ joined (joined (take l.rings-index l.areas)))
