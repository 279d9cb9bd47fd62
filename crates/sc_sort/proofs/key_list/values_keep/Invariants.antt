use Rattle.std.proofs.Common.{take}
use Rattle.std.specs.Prelude.{All}
use Rattle.sc_sort.specs.Keys.{IsKept}
use Rattle.sc_sort.proofs.key_list.values_keep.Given as goal

abbrev pub invariant-loop-value : goal.invariant-loop-value
invariant-loop-value l = All IsKept (take l.value-index l.values)
