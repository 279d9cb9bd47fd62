use Rattle.std.proofs.Common.{arith}
use Rattle.std.proofs.lemmas.Int.{ints, clamps}
use Rattle.sc_cross.specs.Segment.{sides_of}
use Rattle.sc_cross.proofs.Sides.{same_sides}
use Rattle.sc_cross.proofs.segment.are_overlapping.Goals as goal

pub returns : goal.returns
returns c =
    c.reaches.ensures (sides_of c.args.b)
    (same_sides (sides_of c.args.b) _ (omega (arith, ints, clamps)) (omega (arith, ints, clamps)) (omega (arith, ints, clamps)) (omega (arith, ints, clamps)))
