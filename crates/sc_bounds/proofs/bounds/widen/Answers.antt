use Rattle.std.proofs.Common.{◌≡◌, refl, subst, sym}
use Rattle.sc_bounds.specs.Extent.{Extent, AreBounds}
use Rattle.sc_bounds.specs.Sets.{IsWidened, join_of, only}
use Rattle.sc_bounds.proofs.Extents.{joined, join_bounds, only_bounds, widened}
use Rattle.sc_bounds.proofs.bounds.widen.Goals as goal

pub invariant_of-result : goal.invariant_of-result
invariant_of-result c =
    let r : Extent = record { starts = c.join_moments.result; ends = c.join_moments-2.result; place = c.join_places.result } in
    let same : r ≡ join_of c.args.bounds.now (only c.args.reach.now) = joined _ (only c.args.reach.now) c.args.bounds.now (only c.args.reach.now) r c.bounds.view_is refl c.join_moments.ensures c.join_moments-2.ensures c.join_places.ensures.join in
    subst AreBounds (sym same) (join_bounds c.args.bounds.now (only c.args.reach.now) (subst AreBounds c.bounds.view_is c.bounds.invariant) (only_bounds c.args.reach.now c.join_places.ensures.right))

pub returns-clause-widened : goal.returns-clause-widened
returns-clause-widened c =
    let r : Extent = record { starts = c.join_moments.result; ends = c.join_moments-2.result; place = c.join_places.result } in
    let same : r ≡ join_of c.args.bounds.now (only c.args.reach.now) = joined _ (only c.args.reach.now) c.args.bounds.now (only c.args.reach.now) r c.bounds.view_is refl c.join_moments.ensures c.join_moments-2.ensures c.join_places.ensures.join in
    let P : Extent → Type 0 = λ x. IsWidened x c.args.bounds.now c.args.reach.now in
    subst P (sym same) (widened c.args.bounds.now c.args.reach.now (subst AreBounds c.bounds.view_is c.bounds.invariant) c.join_places.ensures.right)

pub returns-clause-value : goal.returns-clause-value
returns-clause-value c =
    let r : Extent = record { starts = c.join_moments.result; ends = c.join_moments-2.result; place = c.join_places.result } in
    joined _ (only c.args.reach.now) c.args.bounds.now (only c.args.reach.now) r c.bounds.view_is refl c.join_moments.ensures c.join_moments-2.ensures c.join_places.ensures.join
