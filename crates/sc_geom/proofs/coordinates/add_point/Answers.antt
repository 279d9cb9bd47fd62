use Rattle.std.proofs.Common.{◌≡◌, [], ◌∷◌, Option, subst}
use Rattle.sc_geom.specs.declared.point.Pt.{Pt}
use Rattle.sc_geom.specs.Shapes.{beside}
use Rattle.sc_geom.specs.Drawn.{position_of, points_only}
use Rattle.sc_geom.specs.Building.{IsDraft}
use Rattle.sc_geom.proofs.Steps.{read_ok}
use Rattle.sc_geom.proofs.coordinates.add_point.Goals as goal

pub returns : goal.returns
returns c = λ s is.
    let read = read_ok (λ (place expected : Option Pt). place ≡ expected) c.in_ok-read_position.field-0 (position_of c.args.tree.now) c.in_ok-read_position.ensures.read in
    rw (read.1) (subst (λ (place : Option Pt). IsDraft c.add_points.new.self (beside s (points_only (place ∷ [])))) read.2
    (c.in_ok-add_points.ensures s (c.in_ok-read_position.field-0 ∷ []) is (c.in_ok-push.ensures [] c.in_ok-path.ensures)))
