use Rattle.std.proofs.Common.{map, take}
use Rattle.sc_eval.specs.Names.{AreSameNames}
use Rattle.sc_eval.proofs.names.Names.of.Given as goal

abbrev pub invariant-loop-name : goal.invariant-loop-name
invariant-loop-name l = AreSameNames (map (λ name. name.now) l.table.keys) (take l.name-index l.names)
