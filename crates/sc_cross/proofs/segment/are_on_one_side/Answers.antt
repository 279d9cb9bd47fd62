use Rattle.std.proofs.Common.{◌≡◌, ◌∙◌, rules, arith, to_z, of_z, FitsSigned}
use Rattle.std.specs.Int.{w128}
use Rattle.std.proofs.lemmas.Int.{ints}
use Rattle.sc_cross.proofs.Sides.{on_left, on_right}
use Rattle.sc_cross.proofs.segment.are_on_one_side.Goals as goal

pub returns-then-are_both_above : goal.returns-then-are_both_above
returns-then-are_both_above c =
    let from_fits : FitsSigned w128 c.side-from.result = search rules in
    let to_fits : FitsSigned w128 c.side-to.result = search rules in
    let from : to_z w128 (of_z w128 c.side-from.result) ≡ c.side-from.result = omega (arith, ints) in
    let to : to_z w128 (of_z w128 c.side-to.result) ≡ c.side-to.result = omega (arith, ints) in
    on_left c.args.line c.args.other c.are_both_above.result _ _ (from ∙ c.side-from.ensures) (to ∙ c.side-to.ensures) c.are_both_above.ensures c.if-are_both_above.true

pub returns-else-are_both_above : goal.returns-else-are_both_above
returns-else-are_both_above c =
    let from_fits : FitsSigned w128 c.side-from.result = search rules in
    let to_fits : FitsSigned w128 c.side-to.result = search rules in
    let from : to_z w128 (of_z w128 c.side-from.result) ≡ c.side-from.result = omega (arith, ints) in
    let to : to_z w128 (of_z w128 c.side-to.result) ≡ c.side-to.result = omega (arith, ints) in
    on_right c.args.line c.args.other c.are_both_above.result c.are_both_below.result _ _ (from ∙ c.side-from.ensures) (to ∙ c.side-to.ensures) c.are_both_above.ensures c.if-are_both_above.false c.are_both_below.ensures
