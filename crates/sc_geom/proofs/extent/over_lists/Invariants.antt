use Rattle.std.proofs.Common.{List, ◌++◌, take}
use Rattle.sc_geom.specs.declared.point.Pt.{Pt}
use Rattle.sc_geom.specs.Shapes.{joined}
use Rattle.sc_geom.specs.Rectangle.{Encloses}
use Rattle.sc_geom.proofs.extent.over_lists.Given as goal

abbrev pub invariant-loop-list : goal.invariant-loop-list
invariant-loop-list l = (before : List Pt) → Encloses l.fn.extent before → Encloses l.extent (before ++ joined (take l.list-index l.lists))
