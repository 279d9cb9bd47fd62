use Rattle.std.proofs.Common.{◌↔◌, IsTrue, List, Any, subst}
use Rattle.std.proofs.lemmas.List.Elements.{All-same}
use Rattle.sc_geom.specs.declared.point.Pt.{Pt}
use Rattle.sc_geom.specs.Point.{IsInWorld}
use Rattle.sc_cross.specs.Parts.{IsOnOneOf}
use Rattle.sc_cross.proofs.Geometries.{points_all}
use Rattle.sc_cross.proofs.touching.points_touch.Goals as goal

pub any_is_on-requires-clause-points : goal.any_is_on-requires-clause-points
any_is_on-requires-clause-points c =
    All-same IsInWorld c.points.result.now c.args.a.now.points c.points.ensures.points (points_all IsInWorld c.args.a.now c.points.ensures.kept.in_world)

pub returns : goal.returns
unfolding IsOnOneOf
returns c = subst (λ (l : List Pt). IsTrue c.any_is_on.result ↔ Any (IsOnOneOf c.args.b.now) l) c.points.ensures.points c.any_is_on.ensures
