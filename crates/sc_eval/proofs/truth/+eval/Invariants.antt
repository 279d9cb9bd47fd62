use Rattle.std.proofs.Common.{◌≡◌, map, drop}
use Rattle.sc_expr.specs.declared.expr.Truth3.TheVariants.{True, False}
use Rattle.sc_eval.specs.Comparison.{all3, and3, any3, or3, if_known}
use Rattle.sc_eval.specs.Meaning.{truth_in}
use Rattle.sc_eval.proofs.truth.+eval.Given as goal

abbrev pub invariant-all_of-loop-member : goal.invariant-all_of-loop-member
invariant-all_of-loop-member l =
    and3 (if_known True l.unknown) (all3 (map (truth_in l.item) (drop l.member-index l.members))) ≡ all3 (map (truth_in l.fn.item) l.fn.members)

abbrev pub invariant-any_of-loop-member : goal.invariant-any_of-loop-member
invariant-any_of-loop-member l =
    or3 (if_known False l.unknown) (any3 (map (truth_in l.item) (drop l.member-index l.members))) ≡ any3 (map (truth_in l.fn.item) l.fn.members)
