use Rattle.std.proofs.Common.{◌≡◌, List, Some, take}
use Rattle.sc_decimal.specs.Number.{Number}
use Rattle.sc_geom.specs.Tree.{number_of}
use Rattle.sc_geom.specs.Drawn.{all_read}
use Rattle.sc_geom.proofs.coordinates.are_numbers.Given as goal

abbrev pub invariant-loop-tree : goal.invariant-loop-tree
invariant-loop-tree l = (numbers : List Number) × (all_read number_of (take l.tree-index l.trees) ≡ Some numbers)
