use Rattle.std.proofs.Common.{◌≡◌, subst, sym}
use Rattle.sc_bounds.specs.Extent.{Extent, AreBounds}
use Rattle.sc_bounds.specs.Sets.{IsMeet, meet_of}
use Rattle.sc_bounds.proofs.Extents.{met, meet_is, meet_bounds}
use Rattle.sc_bounds.proofs.bounds.meet.Goals as goal

pub invariant_of-result : goal.invariant_of-result
invariant_of-result c =
    let r : Extent = record { starts = c.meet_moments.result; ends = c.meet_moments-2.result; place = c.meet_places.result } in
    let same : r ≡ meet_of c.args.a.now c.args.b.now = met _ _ c.args.a.now c.args.b.now r c.a.view_is c.b.view_is c.meet_moments.ensures c.meet_moments-2.ensures c.meet_places.ensures in
    subst AreBounds (sym same) (meet_bounds c.args.a.now c.args.b.now (subst AreBounds c.a.view_is c.a.invariant) (subst AreBounds c.b.view_is c.b.invariant))

pub returns-clause-meet : goal.returns-clause-meet
returns-clause-meet c =
    let r : Extent = record { starts = c.meet_moments.result; ends = c.meet_moments-2.result; place = c.meet_places.result } in
    let same : r ≡ meet_of c.args.a.now c.args.b.now = met _ _ c.args.a.now c.args.b.now r c.a.view_is c.b.view_is c.meet_moments.ensures c.meet_moments-2.ensures c.meet_places.ensures in
    let P : Extent → Type 0 = λ x. IsMeet x c.args.a.now c.args.b.now in
    subst P (sym same) (meet_is c.args.a.now c.args.b.now)

pub returns-clause-value : goal.returns-clause-value
returns-clause-value c =
    let r : Extent = record { starts = c.meet_moments.result; ends = c.meet_moments-2.result; place = c.meet_places.result } in
    met _ _ c.args.a.now c.args.b.now r c.a.view_is c.b.view_is c.meet_moments.ensures c.meet_moments-2.ensures c.meet_places.ensures
