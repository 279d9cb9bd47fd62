-- A geometry that meets the areas of one or two boxes meets the area of one of them.
use Rattle.std.proofs.Common.{ℤ, ◌≤ℤ◌, ◌≤◌, All, length, ◌≡◌, ◌⊎◌, inl, inr, ℕ, List, [], ◌∷◌, ◌++◌, map, refl, sym, ap, ◌∙◌, subst, arith, Any, Bool, true, false, ◌||◌}
use Rattle.std.specs.Prelude.{Option, Some, None}
use Rattle.std.specs.List.{list_any}
use Rattle.std.proofs.lemmas.Int.{ints}
use Rattle.std.proofs.lemmas.List.Elements.{All-nil, All-from_recursion}
use Rattle.sc_geom.specs.declared.point.Pt.{Pt}
use Rattle.sc_geom.specs.Shapes.{Shapes, positions_of}
use Rattle.sc_geom.specs.Point.{IsLongitude, IsLatitude, IsInWorld}
use Rattle.sc_geom.specs.Rectangle.{Rectangle, Holds, IsBox, IsSmallest, overlap, smallest}
use Rattle.sc_geom.specs.Geometry.{IsGeometry, IsRing}
use Rattle.sc_geom.specs.Rects.{ring_of, rectangles_from}
use Rattle.sc_cross.specs.Segment.{IsOn, Touches, segments_of}
use Rattle.sc_cross.specs.Area.{IsInside}
use Rattle.sc_cross.specs.Meets.{Meets, SomePair, segments_in, at_points, point_on_segment, segment_under_point, at_segments, position_inside, position_around}
use Rattle.sc_cross.proofs.Meetings.{meeting_overlaps}
use Rattle.sc_bounds.specs.Places.{IsPlace}
use Rattle.sc_geom.proofs.Deciding.{overlap_test}
use Rattle.sc_geom.proofs.Smallest.{one_smallest, smallest_is}
use Rattle.sc_need.specs.Need.{of_places, of_geometry}
use Rattle.sc_cross.proofs.Anys.{any_none, any_append, any_weaker}

abbrev pub areas_over : List Rectangle → Shapes Pt
areas_over boxes = record { points = []; lines = []; areas = map (λ r. ring_of r ∷ []) boxes }

pair_none : {A B : Type 0} (R : A → B → Type 0) (xs : List A) → SomePair R xs [] → ⊥
pair_none R xs h = any_none (R h.1) h.4

left_or_right : {A : Type 0} (P : A → Type 0) (s t : List A) → Any P (s ++ (t ++ [])) → Any P (s ++ []) ⊎ Any P (t ++ [])
left_or_right P s t h = elim ((any_append P s (t ++ [])).0 h) [ inl a ↦ inl ((any_append P s []).1 (inl a)) | inr b ↦ inr b ]

pair_right : {A B : Type 0} (R : A → B → Type 0) (xs : List A) (s t : List B) → SomePair R xs (s ++ (t ++ [])) → SomePair R xs (s ++ []) ⊎ SomePair R xs (t ++ [])
pair_right R xs s t h = elim (left_or_right (R h.1) s t h.4) [ inl a ↦ inl (h.0, h.1, h.2, h.3, a) | inr b ↦ inr (h.0, h.1, h.2, h.3, b) ]

pub meets_one : (a : Shapes Pt) (r s : Rectangle) → Meets a (areas_over (r ∷ s ∷ [])) → Meets a (areas_over (r ∷ [])) ⊎ Meets a (areas_over (s ∷ []))
meets_one a r s (at_points h) = absurd (pair_none (λ (p : Pt) (q : Pt). p ≡ q) a.points h)
meets_one a r s (point_on_segment h) =
    elim (pair_right IsOn a.points (segments_of (ring_of r)) (segments_of (ring_of s)) h) [ inl x ↦ inl (point_on_segment x) | inr y ↦ inr (point_on_segment y) ]
meets_one a r s (segment_under_point h) = absurd (any_none (λ (p : Pt). Any (IsOn p) (segments_in a)) h)
meets_one a r s (at_segments h) =
    elim (pair_right Touches (segments_in a) (segments_of (ring_of r)) (segments_of (ring_of s)) h) [ inl x ↦ inl (at_segments x) | inr y ↦ inr (at_segments y) ]
meets_one a r s (position_inside h) =
    elim (pair_right IsInside (positions_of a) ((ring_of r ∷ []) ∷ []) ((ring_of s ∷ []) ∷ []) h) [ inl x ↦ inl (position_inside x) | inr y ↦ inr (position_inside y) ]
meets_one a r s (position_around h) =
    elim (left_or_right (λ (p : Pt). Any (IsInside p) a.areas) (ring_of r) (ring_of s) h) [ inl x ↦ inl (position_around x) | inr y ↦ inr (position_around y) ]

-- ---- the area of one box

corner : (x y : ℤ) → IsLongitude x → IsLatitude y → IsInWorld (record { x = x; y = y })
corner x y h k = (h, k)

box_geometry : (r : Rectangle) → IsBox r → IsGeometry (areas_over (r ∷ []))
box_geometry r is = record {
  in_world = All-from_recursion IsInWorld (positions_of (areas_over (r ∷ []))) (
    corner r.west r.south is.west_in is.south_in,
    (
      corner r.east r.south is.east_in is.south_in,
      (
        corner r.east r.north is.east_in is.north_in,
        (corner r.west r.north is.west_in is.north_in, (corner r.west r.south is.west_in is.south_in, tt)),
      ),
    ),
  );
  lines = All-nil (λ (line : List Pt). 2 ≤ length line);
  areas = All-from_recursion (λ (area : List (List Pt)). 1 ≤ length area) ((ring_of r ∷ []) ∷ []) (omega arith, tt);
  rings = All-from_recursion IsRing (ring_of r ∷ []) (record { long = omega arith; closed = refl }, tt);
  some = omega arith;
}

held_corner : (r : Rectangle) (x y : ℤ) → r.west ≤ℤ x → x ≤ℤ r.east → r.south ≤ℤ y → y ≤ℤ r.north → Holds r (record { x = x; y = y })
held_corner r x y w e s n = record { west = w; east = e; south = s; north = n }

box_holds : (r : Rectangle) → IsBox r → All (Holds r) (positions_of (areas_over (r ∷ [])))
box_holds r is =
    let ww : r.west ≤ℤ r.west = omega (arith, ints) in
    let ee : r.east ≤ℤ r.east = omega (arith, ints) in
    let ss : r.south ≤ℤ r.south = omega (arith, ints) in
    let nn : r.north ≤ℤ r.north = omega (arith, ints) in
    All-from_recursion (Holds r) (positions_of (areas_over (r ∷ []))) (
      held_corner r r.west r.south ww is.across ss is.up,
      (
        held_corner r r.east r.south is.across ee ss is.up,
        (
          held_corner r r.east r.north is.across ee is.up nn,
          (held_corner r r.west r.north ww is.across is.up nn, (held_corner r r.west r.south ww is.across ss is.up, tt)),
        ),
      ),
    )

one_touches : (place r : Rectangle) (h : Shapes Pt) → IsGeometry h → All (Holds place) (positions_of h) → IsBox r → Meets h (areas_over (r ∷ [])) → overlap place r ≡ true
one_touches place r h is_h holds is m = (overlap_test place r).1 (meeting_overlaps place r h (areas_over (r ∷ [])) is_h (box_geometry r is) holds (box_holds r is) m)

or_left : (a b : Bool) → a ≡ true → (a || b) ≡ true
or_left true b e = refl
or_left false b e = cc

or_right : (a b : Bool) → b ≡ true → (a || b) ≡ true
or_right true b e = refl
or_right false b e = e

-- a geometry that meets one of one or two boxes touches one of them
pub touches_one : (place first : Rectangle) (second : Option Rectangle) (h : Shapes Pt) → IsGeometry h → All (Holds place) (positions_of h) → IsBox first → IsPlace second →
    Meets h (areas_over (rectangles_from first second)) → list_any (overlap place) (rectangles_from first second) ≡ true
touches_one place first None h is_h holds is boxed m = or_left (overlap place first) false (one_touches place first h is_h holds is m)
touches_one place first (Some second) h is_h holds is boxed m =
    elim (meets_one h first second m) [
      | inl x ↦ or_left (overlap place first) (overlap place second || false) (one_touches place first h is_h holds is x)
      | inr y ↦ or_right (overlap place first) (overlap place second || false) (or_left (overlap place second) false (one_touches place second h is_h holds boxed y))
    ]

-- the need of the smallest box of a geometry
pub smallest_box : (g : Shapes Pt) (r : Rectangle) → IsGeometry g → IsSmallest r (positions_of g) → of_places (r ∷ []) ≡ of_geometry g
smallest_box g r is_g is = ap (λ b. of_places (b ∷ [])) (one_smallest r (smallest g) (positions_of g) is (smallest_is g is_g))
