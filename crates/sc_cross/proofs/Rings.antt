-- Geometries and the area of one ring, of one box, and of one or two.
use Rattle.std.proofs.Common.{◌≡◌, ◌↔◌, ◌≤◌, length, ◌⊎◌, inl, inr, List, [], ◌∷◌, ◌++◌, map, Option, Some, None, refl, sym, subst, arith, Bool, false, IsTrue, All, Any}
use Rattle.std.proofs.lemmas.Int.{ints}
use Rattle.std.proofs.lemmas.List.{append-nil}
use Rattle.std.proofs.lemmas.List.Elements.{All-nil, All-cons, All-from_recursion}
use Rattle.sc_geom.specs.declared.point.Pt.{Pt}
use Rattle.sc_geom.specs.Point.{IsInWorld}
use Rattle.sc_geom.specs.Rectangle.{Rectangle, IsBox, Holds, AreOverlapping}
use Rattle.sc_geom.specs.Rects.{ring_of, rectangles_from}
use Rattle.sc_geom.specs.Shapes.{Shapes, positions_of}
use Rattle.sc_geom.specs.Geometry.{IsRing, IsGeometry}
use Rattle.sc_cross.specs.declared.segment.Segment.{Segment}
use Rattle.sc_cross.specs.Segment.{segments_of, IsOn, Touches}
use Rattle.sc_cross.specs.Area.{IsInside}
use Rattle.sc_cross.specs.Parts.{IsInRing, area_of}
use Rattle.sc_cross.specs.Meets.{segments_in, SomePair, Meets, at_points, point_on_segment, segment_under_point, at_segments, position_inside, position_around}
use Rattle.sc_cross.proofs.Anys.{any_none, any_here, any_first, any_append, any_weaker}
use Rattle.sc_cross.proofs.Meetings.{any_turned, touches_turned, meeting_overlaps}
use Rattle.sc_cross.proofs.Verdicts.{no_of}

-- ---- one ring

segments_ring : (ring : List Pt) → segments_in (area_of ring) ≡ segments_of ring
segments_ring ring = append-nil (segments_of ring)

positions_ring : (ring : List Pt) → positions_of (area_of ring) ≡ ring
positions_ring ring = append-nil ring

in_area : (ring : List Pt) (p : Pt) → IsInRing ring p → Any (IsInside p) ((ring ∷ []) ∷ [])
unfolding IsInRing
in_area ring p x = any_here (IsInside p) (ring ∷ []) [] x

in_ring : (ring : List Pt) (p : Pt) → Any (IsInside p) ((ring ∷ []) ∷ []) → IsInRing ring p
unfolding IsInRing
in_ring ring p x = elim (any_first (IsInside p) (ring ∷ []) [] x) [ inl here ↦ here | inr none ↦ absurd (any_none (IsInside p) none) ]

module _ (g : Shapes Pt) (ring : List Pt) where
  pub inside_ring : Any (IsInRing ring) (positions_of g) → Meets g (area_of ring)
  inside_ring h = position_inside (any_weaker (IsInRing ring) (λ p. Any (IsInside p) ((ring ∷ []) ∷ [])) (in_area ring) (positions_of g) h)

  pub round_ring : SomePair IsInside ring g.areas → Meets g (area_of ring)
  round_ring h = position_around (subst (λ (ps : List Pt). SomePair IsInside ps g.areas) (sym (positions_ring ring)) h)

  pub on_ring : SomePair IsOn g.points (segments_of ring) → Meets g (area_of ring)
  on_ring h = point_on_segment (subst (λ (ss : List Segment). SomePair IsOn g.points ss) (sym (segments_ring ring)) h)

  touching_ring : SomePair Touches (segments_of ring) (segments_in g) → Meets g (area_of ring)
  touching_ring h =
      at_segments (subst (λ (ss : List Segment). SomePair Touches (segments_in g) ss) (sym (segments_ring ring)) (any_turned Touches Touches touches_turned (segments_of ring) (segments_in g) h))

  -- all ways, of which the first three aren't found
  pub touching_last : (inside round on touching : Bool) →
      IsTrue inside ↔ Any (IsInRing ring) (positions_of g) → inside ≡ false →
      IsTrue round ↔ SomePair IsInside ring g.areas → round ≡ false →
      IsTrue on ↔ SomePair IsOn g.points (segments_of ring) → on ≡ false →
      IsTrue touching ↔ SomePair Touches (segments_of ring) (segments_in g) → IsTrue touching ↔ Meets g (area_of ring)
  touching_last inside round on touching test1 is1 test2 is2 test3 is3 test4 = (λ yes. touching_ring (test4.0 yes), last)
    where
      last : Meets g (area_of ring) → IsTrue touching
      last (at_points h) = absurd (any_none (λ (q : Pt). h.1 ≡ q) h.4)
      last (point_on_segment h) = absurd (no_of on test3 is3 (subst (λ (ss : List Segment). SomePair IsOn g.points ss) (segments_ring ring) h))
      last (segment_under_point h) = absurd (any_none (λ (p : Pt). Any (IsOn p) (segments_in g)) h)
      last (at_segments h) =
          test4.1 (any_turned Touches Touches touches_turned (segments_in g) (segments_of ring) (subst (λ (ss : List Segment). SomePair Touches (segments_in g) ss) (segments_ring ring) h))
      last (position_inside h) = absurd (no_of inside test1 is1 (any_weaker (λ p. Any (IsInside p) ((ring ∷ []) ∷ [])) (IsInRing ring) (in_ring ring) (positions_of g) h))
      last (position_around h) = absurd (no_of round test2 is2 (subst (λ (ps : List Pt). SomePair IsInside ps g.areas) (positions_ring ring) h))

-- ---- one box

pub ring_in_world : (r : Rectangle) → IsBox r → All IsInWorld (ring_of r)
ring_in_world r box =
    All-from_recursion IsInWorld (ring_of r)
    ((box.west_in, box.south_in), ((box.east_in, box.south_in), ((box.east_in, box.north_in), ((box.west_in, box.north_in), ((box.west_in, box.south_in), tt)))))

corner : (r : Rectangle) (p : Pt) → IsBox r → (p.x ≡ r.west) ⊎ (p.x ≡ r.east) → (p.y ≡ r.south) ⊎ (p.y ≡ r.north) → Holds r p
corner r p box (inl x) (inl y) = (let across = box.across in let up = box.up in record { west = omega (arith, ints); east = omega (arith, ints); south = omega (arith, ints); north = omega (arith, ints) })
corner r p box (inl x) (inr y) = (let across = box.across in let up = box.up in record { west = omega (arith, ints); east = omega (arith, ints); south = omega (arith, ints); north = omega (arith, ints) })
corner r p box (inr x) (inl y) = (let across = box.across in let up = box.up in record { west = omega (arith, ints); east = omega (arith, ints); south = omega (arith, ints); north = omega (arith, ints) })
corner r p box (inr x) (inr y) = (let across = box.across in let up = box.up in record { west = omega (arith, ints); east = omega (arith, ints); south = omega (arith, ints); north = omega (arith, ints) })

ring_held : (r : Rectangle) → IsBox r → All (Holds r) (ring_of r)
ring_held r box =
    let west_south : Pt = record { x = r.west; y = r.south } in
    let east_south : Pt = record { x = r.east; y = r.south } in
    let east_north : Pt = record { x = r.east; y = r.north } in
    let west_north : Pt = record { x = r.west; y = r.north } in
    All-from_recursion (Holds r) (ring_of r) (
      corner r west_south box (inl refl) (inl refl),
      (
        corner r east_south box (inr refl) (inl refl),
        (
          corner r east_north box (inr refl) (inr refl),
          (corner r west_north box (inl refl) (inr refl), (corner r west_south box (inl refl) (inl refl), tt)),
        ),
      ),
    )

pub box_geometry : (r : Rectangle) → IsBox r → IsGeometry (area_of (ring_of r))
box_geometry r box = record {
  in_world = ring_in_world r box;
  lines = All-nil (λ (line : List Pt). 2 ≤ length line);
  areas = All-cons (λ (area : List (List Pt)). 1 ≤ length area) (ring_of r ∷ []) [] (omega arith) (All-nil (λ (area : List (List Pt)). 1 ≤ length area));
  rings = All-cons IsRing (ring_of r) [] (record { long = omega arith; closed = refl }) (All-nil IsRing);
  some = omega arith;
}

pub box_overlaps : (s r : Rectangle) (g : Shapes Pt) → IsGeometry g → All (Holds s) (positions_of g) → IsBox r → Meets g (area_of (ring_of r)) → AreOverlapping s r
box_overlaps s r g kept held box = meeting_overlaps s r g (area_of (ring_of r)) kept (box_geometry r box) held (ring_held r box)

-- ---- one box or two

abbrev areas_over : List Rectangle → Shapes Pt
areas_over boxes = record { points = []; lines = []; areas = map (λ r. ring_of r ∷ []) boxes }

left_or_right : {A : Type 0} (P : A → Type 0) (s t : List A) → Any P (s ++ (t ++ [])) → Any P (s ++ []) ⊎ Any P (t ++ [])
left_or_right P s t h = elim ((any_append P s (t ++ [])).0 h) [ inl a ↦ inl ((any_append P s []).1 (inl a)) | inr b ↦ inr b ]

left : {A : Type 0} (P : A → Type 0) (s t : List A) → Any P (s ++ []) → Any P (s ++ (t ++ []))
left P s t h = (any_append P s (t ++ [])).1 (inl (subst (Any P) (append-nil s) h))

right : {A : Type 0} (P : A → Type 0) (s t : List A) → Any P (t ++ []) → Any P (s ++ (t ++ []))
right P s t h = (any_append P s (t ++ [])).1 (inr h)

pair_right : {A B : Type 0} (R : A → B → Type 0) (xs : List A) (s t : List B) → SomePair R xs (s ++ (t ++ [])) → SomePair R xs (s ++ []) ⊎ SomePair R xs (t ++ [])
pair_right R xs s t h = elim (left_or_right (R h.1) s t h.4) [ inl a ↦ inl (h.0, h.1, h.2, h.3, a) | inr b ↦ inr (h.0, h.1, h.2, h.3, b) ]

-- a way into more of the second's parts
abbrev Wider : List Rectangle → List Rectangle → Type 1
Wider few many =
    ((P : Segment → Type 0) → Any P (segments_in (areas_over few)) → Any P (segments_in (areas_over many)))
    × ((P : Pt → Type 0) → Any P (positions_of (areas_over few)) → Any P (positions_of (areas_over many)))
    × ((P : List (List Pt) → Type 0) → Any P (areas_over few).areas → Any P (areas_over many).areas)

widened : (g : Shapes Pt) (few many : List Rectangle) → Wider few many → Meets g (areas_over few) → Meets g (areas_over many)
widened g few many w (at_points h) = absurd (any_none (λ (q : Pt). h.1 ≡ q) h.4)
widened g few many w (point_on_segment h) = point_on_segment (any_weaker _ _ (λ p x. w.0 (IsOn p) x) g.points h)
widened g few many w (segment_under_point h) = absurd (any_none (λ (p : Pt). Any (IsOn p) (segments_in g)) h)
widened g few many w (at_segments h) = at_segments (any_weaker _ _ (λ s x. w.0 (Touches s) x) (segments_in g) h)
widened g few many w (position_inside h) = position_inside (any_weaker _ _ (λ p x. w.2 (IsInside p) x) (positions_of g) h)
widened g few many w (position_around h) = position_around (w.1 (λ p. Any (IsInside p) g.areas) h)

either_of : (g : Shapes Pt) (r s : Rectangle) → Meets g (areas_over (r ∷ s ∷ [])) → Meets g (area_of (ring_of r)) ⊎ Meets g (area_of (ring_of s))
either_of g r s (at_points h) = absurd (any_none (λ (q : Pt). h.1 ≡ q) h.4)
either_of g r s (point_on_segment h) =
    elim (pair_right IsOn g.points (segments_of (ring_of r)) (segments_of (ring_of s)) h) [ inl x ↦ inl (point_on_segment x) | inr y ↦ inr (point_on_segment y) ]
either_of g r s (segment_under_point h) = absurd (any_none (λ (p : Pt). Any (IsOn p) (segments_in g)) h)
either_of g r s (at_segments h) =
    elim (pair_right Touches (segments_in g) (segments_of (ring_of r)) (segments_of (ring_of s)) h) [ inl x ↦ inl (at_segments x) | inr y ↦ inr (at_segments y) ]
either_of g r s (position_inside h) =
    elim (pair_right IsInside (positions_of g) ((ring_of r ∷ []) ∷ []) ((ring_of s ∷ []) ∷ []) h) [ inl x ↦ inl (position_inside x) | inr y ↦ inr (position_inside y) ]
either_of g r s (position_around h) =
    elim (left_or_right (λ (p : Pt). Any (IsInside p) g.areas) (ring_of r) (ring_of s) h) [ inl x ↦ inl (position_around x) | inr y ↦ inr (position_around y) ]

pub first_meets : (g : Shapes Pt) (r : Rectangle) (second : Option Rectangle) → Meets g (area_of (ring_of r)) → Meets g (areas_over (rectangles_from r second))
first_meets g r None h = h
first_meets g r (Some s) h =
    widened g (r ∷ []) (r ∷ s ∷ [])
    (λ P x. left P (segments_of (ring_of r)) (segments_of (ring_of s)) x, λ P x. left P (ring_of r) (ring_of s) x, λ P x. left P ((ring_of r ∷ []) ∷ []) ((ring_of s ∷ []) ∷ []) x) h

second_meets : (g : Shapes Pt) (r s : Rectangle) → Meets g (area_of (ring_of s)) → Meets g (areas_over (r ∷ s ∷ []))
second_meets g r s h =
    widened g (s ∷ []) (r ∷ s ∷ [])
    (λ P x. right P (segments_of (ring_of r)) (segments_of (ring_of s)) x, λ P x. right P (ring_of r) (ring_of s) x, λ P x. right P ((ring_of r ∷ []) ∷ []) ((ring_of s ∷ []) ∷ []) x) h

-- the first isn't met
pub first_alone : (g : Shapes Pt) (r : Rectangle) (second : Option Rectangle) (first : Bool) → IsTrue first ↔ Meets g (area_of (ring_of r)) → first ≡ false → second ≡ None →
    IsTrue false ↔ Meets g (areas_over (rectangles_from r second))
first_alone g r second first test is none =
    subst (λ (o : Option Rectangle). IsTrue false ↔ Meets g (areas_over (rectangles_from r o))) (sym none) (λ yes. absurd cc, λ h. absurd (no_of first test is h))

pub second_last : (g : Shapes Pt) (r s : Rectangle) (second : Option Rectangle) (first last : Bool) → IsTrue first ↔ Meets g (area_of (ring_of r)) → first ≡ false →
    second ≡ Some s → IsTrue last ↔ Meets g (area_of (ring_of s)) → IsTrue last ↔ Meets g (areas_over (rectangles_from r second))
second_last g r s second first last test is some test' =
    subst (λ (o : Option Rectangle). IsTrue last ↔ Meets g (areas_over (rectangles_from r o))) (sym some)
    (λ yes. second_meets g r s (test'.0 yes), λ h. elim (either_of g r s h) [ inl x ↦ absurd (no_of first test is x) | inr y ↦ test'.1 y ])
