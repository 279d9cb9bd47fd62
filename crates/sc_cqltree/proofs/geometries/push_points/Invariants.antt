use Rattle.std.proofs.Common.{◌≡◌, ◌++◌, map, take}
use Rattle.sc_cqltree.specs.Geometries.{point_part}
use Rattle.sc_cqltree.proofs.geometries.push_points.Given as goal

abbrev pub invariant-loop-point : goal.invariant-loop-point
invariant-loop-point l = l.out.items ≡ l.initial.out.items ++ map point_part (take l.point-index l.points)
