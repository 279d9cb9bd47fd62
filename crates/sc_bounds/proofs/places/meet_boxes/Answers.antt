use Rattle.std.proofs.Common.{arith}
use Rattle.std.proofs.lemmas.Int.{ints, clamps}
use Rattle.sc_bounds.specs.Places.{box_meet}
use Rattle.sc_bounds.proofs.PointSets.{same_sides}
use Rattle.sc_bounds.proofs.places.meet_boxes.Goals as goal

pub box_between-requires-clause-west_in : goal.box_between-requires-clause-west_in
box_between-requires-clause-west_in c = (omega (arith, ints, clamps), omega (arith, ints, clamps))

pub box_between-requires-clause-south_in : goal.box_between-requires-clause-south_in
box_between-requires-clause-south_in c = (omega (arith, ints, clamps), omega (arith, ints, clamps))

pub box_between-requires-clause-east_in : goal.box_between-requires-clause-east_in
box_between-requires-clause-east_in c = (omega (arith, ints, clamps), omega (arith, ints, clamps))

pub box_between-requires-clause-north_in : goal.box_between-requires-clause-north_in
box_between-requires-clause-north_in c = (omega (arith, ints, clamps), omega (arith, ints, clamps))

pub returns : goal.returns
returns c =
    c.box_between.ensures (box_meet c.args.a.now c.args.b.now)
    (same_sides (box_meet c.args.a.now c.args.b.now) _ (omega (arith, ints, clamps)) (omega (arith, ints, clamps)) (omega (arith, ints, clamps)) (omega (arith, ints, clamps)))
