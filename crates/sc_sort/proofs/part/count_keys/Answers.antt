use Rattle.std.proofs.Common.{arith}
use Rattle.sc_sort.proofs.Commas.{few_keys}
use Rattle.sc_sort.proofs.part.count_keys.Goals as goal

pub overflow_add-count : goal.overflow_add-count
overflow_add-count c =
    let few = few_keys c.args.text.now in
    let counted = c.loop-left.invariant.counted in
    omega (arith, few, counted)
