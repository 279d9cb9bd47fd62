use Rattle.std.proofs.Common.{◌≡◌, map, take}
use Rattle.sc_cqltree.specs.Geometries.{position_tree}
use Rattle.sc_cqltree.proofs.geometries.line_tree.Given as goal

abbrev pub invariant-loop-position : goal.invariant-loop-position
invariant-loop-position l = l.positions.items ≡ map position_tree (take l.position-index l.line)
