use Rattle.std.proofs.Common.{◌≡◌}
use Rattle.sc_geom.specs.declared.point.Pt.{Pt}
use Rattle.sc_cross.proofs.Geometries.{pairs_at}
use Rattle.sc_cross.proofs.meeting.share_a_point.Goals as goal

pub returns : goal.returns
returns c =
    pairs_at (λ (p : Pt) (q : Pt). p ≡ q) c.points.result.now c.args.a.now.points c.points-2.result.now c.args.b.now.points c.have_equal.result
    c.points.ensures.points c.points-2.ensures.points c.have_equal.ensures
