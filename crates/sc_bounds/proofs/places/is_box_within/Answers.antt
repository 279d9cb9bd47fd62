use Rattle.std.proofs.Common.{arith}
use Rattle.std.proofs.lemmas.Int.{ints}
use Rattle.sc_bounds.proofs.PointSets.{sides_within}
use Rattle.sc_bounds.proofs.places.is_box_within.Goals as goal

pub returns-then-across-clause-within : goal.returns-then-across-clause-within
returns-then-across-clause-within c =
    sides_within c.args.inner.now c.args.outer.now c.is_within-across.result c.is_within-up.result _ _ _ _ _ _ _ _ c.is_within-across.ensures c.is_within-up.ensures c.if-across.true
    (omega (arith, ints)) (omega (arith, ints)) (omega (arith, ints)) (omega (arith, ints)) (omega (arith, ints)) (omega (arith, ints)) (omega (arith, ints)) (omega (arith, ints))
