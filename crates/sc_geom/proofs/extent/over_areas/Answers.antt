use Rattle.std.proofs.Common.{List, subst, sym}
use Rattle.std.specs.Prelude.{All}
use Rattle.sc_geom.specs.declared.point.Pt.{Pt}
use Rattle.sc_geom.specs.Point.{IsInWorld}
use Rattle.sc_geom.specs.Shapes.{joined}
use Rattle.sc_geom.proofs.Smallest.{all_parts}
use Rattle.sc_geom.proofs.extent.over_areas.Goals as goal

pub over_lists-extent-requires : goal.over_lists-extent-requires
over_lists-extent-requires c = subst (λ (l : List (List Pt)). All IsInWorld (joined l)) (sym c.as_slice.ensures) (all_parts IsInWorld c.args.areas.now c.loop-rings.rings-index c.rings-item.result c.loop-rings-test.true c.rings-item.is c.requires)
