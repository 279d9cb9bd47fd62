use Rattle.sc_bounds.proofs.PointSets.{all_points, never, not_all_points}
use Rattle.sc_bounds.proofs.places.is_place_within.Goals as goal

pub returns-in-Some-Some : goal.returns-in-Some-Some
returns-in-Some-Some c =
    all_points c.args.inner.now c.args.outer.now c.in-Some-Some.inner c.in-Some-Some.outer c.is_box_within.result c.in-Some-Some.is-0 c.in-Some-Some.is-1 c.is_box_within.ensures.kept c.is_box_within.ensures.within

pub returns-in-Some-None : goal.returns-in-Some-None
returns-in-Some-None c = (
  λ yes. absurd (never c.has_no_point.result c.has_no_point.ensures.never yes),
  λ all. absurd (not_all_points c.args.inner.now c.args.outer.now c.in-Some-None.inner c.in-Some-None.is-0 c.in-Some-None.is-1 c.has_no_point.ensures.kept all),
)
