use Rattle.std.proofs.Common.{◌≡◌, map, take}
use Rattle.sc_cqltree.specs.Geometries.{line_tree}
use Rattle.sc_cqltree.proofs.geometries.area_tree.Given as goal

abbrev pub invariant-loop-ring : goal.invariant-loop-ring
invariant-loop-ring l = l.rings.items ≡ map line_tree (take l.ring-index l.area)
