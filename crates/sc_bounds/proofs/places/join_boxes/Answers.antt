use Rattle.std.proofs.Common.{ap, arith}
use Rattle.std.proofs.lemmas.Int.{ints, clamps}
use Rattle.sc_geom.specs.Rectangle.{Rectangle}
use Rattle.sc_bounds.specs.Places.{box_join}
use Rattle.sc_bounds.proofs.PointSets.{same_sides}
use Rattle.sc_bounds.proofs.places.join_boxes.Goals as goal

pub new-requires : goal.new-requires
new-requires c = record {
  west_in = (omega (arith, ints, clamps), omega (arith, ints, clamps));
  east_in = (omega (arith, ints, clamps), omega (arith, ints, clamps));
  south_in = (omega (arith, ints, clamps), omega (arith, ints, clamps));
  north_in = (omega (arith, ints, clamps), omega (arith, ints, clamps));
  across = omega (arith, ints, clamps);
  up = omega (arith, ints, clamps);
}

pub returns-clause-join : goal.returns-clause-join
returns-clause-join c =
    same_sides c.new.result (box_join c.args.a.now c.args.b.now)
    (omega (arith, ints, clamps, ap (λ (r : Rectangle). r.west) c.new.ensures))
    (omega (arith, ints, clamps, ap (λ (r : Rectangle). r.south) c.new.ensures))
    (omega (arith, ints, clamps, ap (λ (r : Rectangle). r.east) c.new.ensures))
    (omega (arith, ints, clamps, ap (λ (r : Rectangle). r.north) c.new.ensures))
