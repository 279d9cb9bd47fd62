use Rattle.std.proofs.Common.{◌≡◌, IfOk, subst}
use Rattle.sc_need.proofs.Boxed.{smallest_box}
use Rattle.sc_need.proofs.predicate.of_geometry.Goals as goal

pub returns : goal.returns
returns c =
    subst (λ n. IfOk c.of_places.result (λ need. need ≡ n)) (smallest_box c.args.geometry.now c.box_of.result c.points-points.ensures.kept c.box_of.ensures) c.of_places.ensures
