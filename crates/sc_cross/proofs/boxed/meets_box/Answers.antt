use Rattle.std.proofs.Common.{◌↔◌, IsTrue, List, All, sym, subst}
use Rattle.sc_geom.specs.declared.point.Pt.{Pt}
use Rattle.sc_geom.specs.Point.{IsInWorld}
use Rattle.sc_cross.specs.Meets.{Meets}
use Rattle.sc_cross.specs.Parts.{area_of}
use Rattle.sc_cross.proofs.Verdicts.{else_not}
use Rattle.sc_cross.proofs.Rings.{ring_in_world, box_overlaps}
use Rattle.sc_cross.proofs.boxed.meets_box.Goals as goal

pub meets_ring-requires-clause-ring : goal.meets_ring-requires-clause-ring
meets_ring-requires-clause-ring c = subst (All IsInWorld) (sym c.ring-ring.ensures.ring) (ring_in_world c.args.area.now c.ring-ring.ensures.kept)

pub returns-then-overlaps : goal.returns-then-overlaps
returns-then-overlaps c = subst (λ (ring : List Pt). IsTrue c.meets_ring.result ↔ Meets c.args.geom.now (area_of ring)) c.ring-ring.ensures.ring c.meets_ring.ensures

pub returns-else-overlaps : goal.returns-else-overlaps
returns-else-overlaps c =
    else_not c.overlaps.result c.overlaps.ensures.fact c.if-overlaps.false
    (box_overlaps c.args.extent.now c.args.area.now c.args.geom.now c.points-points.ensures.kept c.requires c.ring-ring.ensures.kept)
