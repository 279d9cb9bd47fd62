use Rattle.sc_cross.specs.Parts.{PathTouches}
use Rattle.sc_cross.proofs.Verdicts.{found_way}
use Rattle.sc_cross.proofs.Rings.{inside_ring, round_ring, on_ring, touching_last}
use Rattle.sc_cross.proofs.boxed.meets_ring.Goals as goal

pub returns-then-enters_ring : goal.returns-then-enters_ring
returns-then-enters_ring c = found_way c.enters_ring.result c.enters_ring.ensures c.if-enters_ring.true (inside_ring c.args.geom.now c.args.ring.now)

pub returns-then-ring_enters : goal.returns-then-ring_enters
returns-then-ring_enters c = found_way c.ring_enters.result c.ring_enters.ensures c.if-ring_enters.true (round_ring c.args.geom.now c.args.ring.now)

pub returns-then-points_touch_ring : goal.returns-then-points_touch_ring
returns-then-points_touch_ring c = found_way c.points_touch_ring.result c.points_touch_ring.ensures c.if-points_touch_ring.true (on_ring c.args.geom.now c.args.ring.now)

pub returns : goal.returns
unfolding PathTouches
returns c =
    touching_last c.args.geom.now c.args.ring.now c.enters_ring.result c.ring_enters.result c.points_touch_ring.result c.path_touches.result
    c.enters_ring.ensures c.if-enters_ring.false c.ring_enters.ensures c.if-ring_enters.false c.points_touch_ring.ensures c.if-points_touch_ring.false c.path_touches.ensures
