use Rattle.std.proofs.Common.{◌≡◌, map, drop}
use Rattle.sc_expr.specs.declared.expr.CompOp.TheVariants.{Eq}
use Rattle.sc_expr.specs.declared.expr.Truth3.TheVariants.{False}
use Rattle.sc_eval.specs.Held.{held}
use Rattle.sc_eval.specs.Comparison.{any3, or3, compared, if_known}
use Rattle.sc_eval.specs.Meaning.{value_in}
use Rattle.sc_eval.proofs.truth.equals_one.Given as goal

abbrev pub invariant-loop-scalar : goal.invariant-loop-scalar
invariant-loop-scalar l =
    or3 (if_known False l.unknown) (any3 (map (λ s. compared Eq (held l.value) (value_in l.item s)) (drop l.scalar-index l.listed)))
    ≡ any3 (map (λ s. compared Eq (held l.fn.value) (value_in l.fn.item s)) l.fn.listed)
