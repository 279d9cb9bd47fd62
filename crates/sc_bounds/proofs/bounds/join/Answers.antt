use Rattle.std.proofs.Common.{◌≡◌, subst, sym}
use Rattle.sc_bounds.specs.Extent.{Extent, AreBounds}
use Rattle.sc_bounds.specs.Sets.{IsJoin, join_of}
use Rattle.sc_bounds.proofs.Extents.{joined, join_is, join_bounds}
use Rattle.sc_bounds.proofs.bounds.join.Goals as goal

pub invariant_of-result : goal.invariant_of-result
invariant_of-result c =
    let r : Extent = record { starts = c.join_moments.result; ends = c.join_moments-2.result; place = c.join_places.result } in
    let same : r ≡ join_of c.args.a.now c.args.b.now = joined _ _ c.args.a.now c.args.b.now r c.a.view_is c.b.view_is c.join_moments.ensures c.join_moments-2.ensures c.join_places.ensures.join in
    subst AreBounds (sym same) (join_bounds c.args.a.now c.args.b.now (subst AreBounds c.a.view_is c.a.invariant) (subst AreBounds c.b.view_is c.b.invariant))

pub returns-clause-join : goal.returns-clause-join
returns-clause-join c =
    let r : Extent = record { starts = c.join_moments.result; ends = c.join_moments-2.result; place = c.join_places.result } in
    let same : r ≡ join_of c.args.a.now c.args.b.now = joined _ _ c.args.a.now c.args.b.now r c.a.view_is c.b.view_is c.join_moments.ensures c.join_moments-2.ensures c.join_places.ensures.join in
    let P : Extent → Type 0 = λ x. IsJoin x c.args.a.now c.args.b.now in
    subst P (sym same) (join_is c.args.a.now c.args.b.now (subst AreBounds c.a.view_is c.a.invariant) (subst AreBounds c.b.view_is c.b.invariant))

pub returns-clause-value : goal.returns-clause-value
returns-clause-value c =
    let r : Extent = record { starts = c.join_moments.result; ends = c.join_moments-2.result; place = c.join_places.result } in
    joined _ _ c.args.a.now c.args.b.now r c.a.view_is c.b.view_is c.join_moments.ensures c.join_moments-2.ensures c.join_places.ensures.join
