use Rattle.std.proofs.Common.{arith}
use Rattle.std.proofs.lemmas.Int.{ints}
use Rattle.sc_cross.proofs.Sides.{same_sides}
use Rattle.sc_cross.proofs.segment.reaches_box.Goals as goal

pub returns : goal.returns
returns c =
    c.reaches.ensures c.args.extent.now
    (same_sides c.args.extent.now _ (omega (arith, ints)) (omega (arith, ints)) (omega (arith, ints)) (omega (arith, ints)))
