-- A walk along positions that looks for a segment: what it has still to see has one exactly where the whole way has.
use Rattle.std.proofs.Common.{◌↔◌, inl, inr, subst, ℕ, ◌+◌, ◌<◌, ◌≤◌, List, length, get_or, drop, Any}
use Rattle.sc_geom.specs.declared.point.Pt.{Pt}
use Rattle.sc_cross.specs.declared.segment.Segment.{Segment}
use Rattle.sc_cross.specs.Segment.{segments_from}
use Rattle.sc_cross.proofs.Anys.{any_first, any_here, any_later, any_none, rest_at, rest_none}

-- the segment at hand isn't one
pub walk_on : (P : Segment → Type 0) (whole : Type 0) (from : Pt) (rest : List Pt) (i : ℕ) (d : Pt) → i < length rest →
    (let to = get_or rest i d in let s : Segment = record { from = from; to = to } in
    (P s → ⊥) → Any P (segments_from from (drop i rest)) ↔ whole → Any P (segments_from to (drop (i + 1) rest)) ↔ whole)
walk_on P whole from rest i d below none so_far =
    let to = get_or rest i d in
    let s : Segment = record { from = from; to = to } in
    let later = segments_from to (drop (i + 1) rest) in
    let Q : List Pt → Type 0 = λ left. Any P (segments_from from left) ↔ whole in
    let here = subst Q (rest_at rest i d below) so_far in (
      λ h. here.0 (any_later P s later h),
      λ w. elim (any_first P s later (here.1 w)) [ inl p ↦ absurd (none p) | inr h ↦ h ],
    )

-- it is one
pub walk_found : (P : Segment → Type 0) (whole : Type 0) (from : Pt) (rest : List Pt) (i : ℕ) (d : Pt) → i < length rest →
    (let to = get_or rest i d in let s : Segment = record { from = from; to = to } in
    P s → Any P (segments_from from (drop i rest)) ↔ whole → whole)
walk_found P whole from rest i d below found so_far =
    let to = get_or rest i d in
    let s : Segment = record { from = from; to = to } in
    let Q : List Pt → Type 0 = λ left. Any P (segments_from from left) ↔ whole in
    let here = subst Q (rest_at rest i d below) so_far in
    here.0 (any_here P s (segments_from to (drop (i + 1) rest)) found)

-- none was
pub walk_none : (P : Segment → Type 0) (whole : Type 0) (from : Pt) (rest : List Pt) (i : ℕ) → length rest ≤ i →
    Any P (segments_from from (drop i rest)) ↔ whole → whole → ⊥
walk_none P whole from rest i past so_far w =
    let Q : List Pt → Type 0 = λ left. Any P (segments_from from left) ↔ whole in
    let here = subst Q (rest_none rest i past) so_far in
    any_none P (here.1 w)
