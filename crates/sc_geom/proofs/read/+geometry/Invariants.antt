use Rattle.std.proofs.Common.{take}
use Rattle.sc_geom.specs.Shapes.{beside}
use Rattle.sc_geom.specs.Sketch.{Sketch}
use Rattle.sc_geom.specs.Depicts.{AllDepict}
use Rattle.sc_geom.specs.Building.{IsDraft}
use Rattle.sc_geom.proofs.read.+geometry.Given as goal

abbrev pub invariant-add_geometries-loop-tree : goal.invariant-add_geometries-loop-tree
invariant-add_geometries-loop-tree l = (s : Sketch) → IsDraft l.fn.draft s → (t : Sketch) × AllDepict (take l.tree-index l.trees) t × IsDraft l.draft (beside s t)
