use Rattle.std.proofs.Common.{◌≡◌, ◌++◌, map, take}
use Rattle.sc_cqltree.specs.Geometries.{area_part}
use Rattle.sc_cqltree.proofs.geometries.push_areas.Given as goal

abbrev pub invariant-loop-area : goal.invariant-loop-area
invariant-loop-area l = l.out.items ≡ l.initial.out.items ++ map area_part (take l.area-index l.areas)
