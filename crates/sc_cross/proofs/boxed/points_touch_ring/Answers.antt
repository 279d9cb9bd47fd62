use Rattle.std.proofs.Common.{refl}
use Rattle.std.proofs.lemmas.List.Elements.{All-same}
use Rattle.sc_geom.specs.Point.{IsInWorld}
use Rattle.sc_cross.specs.Segment.{segments_of, IsOn}
use Rattle.sc_cross.specs.Parts.{IsOnRing}
use Rattle.sc_cross.proofs.Geometries.{points_all, pairs_at}
use Rattle.sc_cross.proofs.boxed.points_touch_ring.Goals as goal

pub any_is_on_ring-requires-clause-points : goal.any_is_on_ring-requires-clause-points
any_is_on_ring-requires-clause-points c =
    All-same IsInWorld c.points.result.now c.args.geom.now.points c.points.ensures.points (points_all IsInWorld c.args.geom.now c.points.ensures.kept.in_world)

pub returns : goal.returns
unfolding IsOnRing
returns c =
    pairs_at IsOn c.points.result.now c.args.geom.now.points (segments_of c.args.ring.now) (segments_of c.args.ring.now) c.any_is_on_ring.result
    c.points.ensures.points refl c.any_is_on_ring.ensures
