use Rattle.std.proofs.Common.{◌∙◌, arith, to_z, of_z, w64}
use Rattle.std.proofs.lemmas.Int.{ints}
use Rattle.sc_cross.proofs.Sides.{difference_fits, side_value}
use Rattle.sc_cross.proofs.segment.side.Goals as goal

pub overflow_sub-result : goal.overflow_sub-result
overflow_sub-result c = omega (arith, ints, c.product-left.ensures.size, c.product-right.ensures.size)

pub returns : goal.returns
returns c =
    difference_fits c.product-left.result c.product-right.result c.product-left.ensures.size c.product-right.ensures.size
    ∙ side_value c.args.segment c.args.at c.product-left.result c.product-right.result
    (to_z w64 (of_z w64 c.difference-east.result)) (to_z w64 (of_z w64 c.difference-north.result))
    (to_z w64 (of_z w64 c.difference-east_at.result)) (to_z w64 (of_z w64 c.difference-north_at.result))
    c.product-left.ensures.value c.product-right.ensures.value
    (omega (arith, ints)) (omega (arith, ints)) (omega (arith, ints)) (omega (arith, ints))
