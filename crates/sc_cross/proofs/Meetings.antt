-- What touching, lying on a segment and meeting imply of boxes, and that meeting is symmetric and reflexive.
use Rattle.std.proofs.Common.{◌≡◌, ◌↔◌, ◌⊎◌, inl, inr, refl, sym, subst, arith, Bool, false, IsTrue, ◌≤◌, List, [], ◌∷◌, ◌++◌, length, All, Any, ℤ, pos, ◌-ℤ◌, ◌<ℤ◌}
use Rattle.std.proofs.lemmas.Int.{ints, clamps, by_lt_z}
use Rattle.std.proofs.lemmas.List.Elements.{All-head}
use Rattle.std.proofs.Math.IntN.{*ℤ-zero, zero-*ℤ}
use Rattle.sc_geom.specs.declared.point.Pt.{Pt}
use Rattle.sc_geom.specs.Rectangle.{Rectangle, Holds, AreOverlapping}
use Rattle.sc_geom.specs.Shapes.{Shapes, joined, positions_of}
use Rattle.sc_geom.specs.Geometry.{IsRing, IsGeometry}
use Rattle.sc_cross.specs.declared.segment.Segment.{Segment}
use Rattle.sc_cross.specs.Segment.{segments_from, segments_of, side, sides_of, IsOn, AreOnOneSide, Touches}
use Rattle.sc_cross.specs.Area.{IsInside}
use Rattle.sc_cross.specs.Parts.{IsRingIn}
use Rattle.sc_cross.specs.Meets.{segments_in, SomePair, Meets, at_points, point_on_segment, segment_under_point, at_segments, position_inside, position_around}
use Rattle.sc_cross.proofs.Anys.{any_here, any_weaker}
use Rattle.sc_cross.proofs.Geometries.{at_any, any_segment, found_in, points_all, areas_in}
use Rattle.sc_cross.proofs.Inside.{inside_box}
use Rattle.sc_cross.proofs.Verdicts.{no_of}

-- nothing lies to a side of a single position's line, nor an end to a side of its own
side_none : (p q : Pt) → (let s : Segment = record { from = p; to = p } in side s q ≡ pos 0)
side_none p q =
    let across : p.x -ℤ p.x ≡ pos 0 = omega (arith, ints) in
    let up : p.y -ℤ p.y ≡ pos 0 = omega (arith, ints) in
    rw (across, up, zero-*ℤ (q.y -ℤ p.y), zero-*ℤ (q.x -ℤ p.x)) refl

side_start : (s : Segment) → side s s.from ≡ pos 0
side_start s =
    let across : s.from.x -ℤ s.from.x ≡ pos 0 = omega (arith, ints) in
    let up : s.from.y -ℤ s.from.y ≡ pos 0 = omega (arith, ints) in
    rw (across, up, *ℤ-zero (s.to.x -ℤ s.from.x), *ℤ-zero (s.to.y -ℤ s.from.y)) refl

not_on_one_side : (s t : Segment) → side s t.from ≡ pos 0 → AreOnOneSide s t → ⊥
not_on_one_side s t zero h =
    elim h [
      | inl left ↦ absurd (omega (arith, ints, subst (λ (z : ℤ). pos 0 <ℤ z) zero left.0))
      | inr right ↦ absurd (omega (arith, ints, subst (λ (z : ℤ). z <ℤ pos 0) zero right.0))
    ]

in_line : (z : ℤ) → (((pos 0 <ℤ z) × (pos 0 <ℤ z)) ⊎ ((z <ℤ pos 0) × (z <ℤ pos 0)) → ⊥) → z ≡ pos 0
in_line z neither =
    by_lt_z (pos 0) z
    (λ left. absurd (neither (inl (left, left))))
    (λ at_most. by_lt_z z (pos 0) (λ right. absurd (neither (inr (right, right)))) (λ at_least. omega (arith, ints)))

-- a position touches a segment, as a segment from it to itself, exactly where it is on it
on_of : (p : Pt) (t : Segment) → (let s : Segment = record { from = p; to = p } in Touches s t → IsOn p t)
on_of p t h = record {
  in_box = record {
    west = omega (arith, ints, clamps, h.boxes.east);
    east = omega (arith, ints, clamps, h.boxes.west);
    south = omega (arith, ints, clamps, h.boxes.north);
    north = omega (arith, ints, clamps, h.boxes.south);
  };
  in_line = in_line (side t p) h.second;
}

of_on : (p : Pt) (t : Segment) → (let s : Segment = record { from = p; to = p } in IsOn p t → Touches s t)
of_on p t h =
    let s : Segment = record { from = p; to = p } in
    record {
      boxes = record {
        west = omega (arith, ints, clamps, h.in_box.east);
        east = omega (arith, ints, clamps, h.in_box.west);
        south = omega (arith, ints, clamps, h.in_box.north);
        north = omega (arith, ints, clamps, h.in_box.south);
      };
      first = not_on_one_side s t (side_none p t.from);
      second = not_on_one_side t s h.in_line;
    }

pub on_one_of : (p : Pt) (ts : List Segment) (r : Type 0) → (let s : Segment = record { from = p; to = p } in
    r ↔ Any (Touches s) ts → r ↔ Any (IsOn p) ts)
on_one_of p ts r test =
    let s : Segment = record { from = p; to = p } in
    (λ yes. any_weaker (Touches s) (IsOn p) (on_of p) ts (test.0 yes), λ on. test.1 (any_weaker (IsOn p) (Touches s) (of_on p) ts on))

-- boxes with a position in common
overlap_at : (r s : Rectangle) (p : Pt) → Holds r p → Holds s p → AreOverlapping r s
overlap_at r s p h k = record {
  west = omega (arith, ints, h.west, k.east);
  east = omega (arith, ints, h.east, k.west);
  south = omega (arith, ints, h.south, k.north);
  north = omega (arith, ints, h.north, k.south);
}

-- boxes round boxes that overlap
overlap_wider : (r : Rectangle) (s t : Segment) → Holds r t.from → Holds r t.to → AreOverlapping (sides_of s) (sides_of t) → AreOverlapping (sides_of s) r
overlap_wider r s t from to h = record {
  west = omega (arith, ints, clamps, h.west, from.east, to.east);
  east = omega (arith, ints, clamps, h.east, from.west, to.west);
  south = omega (arith, ints, clamps, h.south, from.north, to.north);
  north = omega (arith, ints, clamps, h.north, from.south, to.south);
}

overlap_both : (r q : Rectangle) (s : Segment) → Holds r s.from → Holds r s.to → AreOverlapping (sides_of s) q → AreOverlapping r q
overlap_both r q s from to h = record {
  west = omega (arith, ints, clamps, h.west, from.west, to.west);
  east = omega (arith, ints, clamps, h.east, from.east, to.east);
  south = omega (arith, ints, clamps, h.south, from.south, to.south);
  north = omega (arith, ints, clamps, h.north, from.north, to.north);
}

held_on : (r : Rectangle) (p : Pt) (t : Segment) → Holds r t.from → Holds r t.to → IsOn p t → Holds r p
held_on r p t from to on = record {
  west = omega (arith, ints, clamps, on.in_box.west, from.west, to.west);
  east = omega (arith, ints, clamps, on.in_box.east, from.east, to.east);
  south = omega (arith, ints, clamps, on.in_box.south, from.south, to.south);
  north = omega (arith, ints, clamps, on.in_box.north, from.north, to.north);
}

-- a segment that touches one of a geometry reaches the geometry's box
pub touched_reaches : (r : Rectangle) (s : Segment) (g : Shapes Pt) → All (Holds r) (positions_of g) → Any (Touches s) (segments_in g) → AreOverlapping (sides_of s) r
touched_reaches r s g held any =
    let at = found_in (Holds r) (Touches s) g held any in
    overlap_wider r s at.0 at.1 at.2 at.3.boxes

-- a position that lies in one of the areas of a geometry lies in its box
pub entered_holds : (r : Rectangle) (p : Pt) (areas : List (List (List Pt))) → All (All (IsRingIn r)) areas → Any (IsInside p) areas → Holds r p
entered_holds r p areas rings any =
    let at = at_any (All (IsRingIn r)) (IsInside p) areas rings any in
    inside_box r p at.0 at.1 at.2

-- boxes of geometries that meet overlap
module _ (r s : Rectangle) (a b : Shapes Pt) (in_r : All (Holds r) (positions_of a)) (in_s : All (Holds s) (positions_of b)) where
  overlap_points : SomePair (λ (p : Pt) (q : Pt). p ≡ q) a.points b.points → AreOverlapping r s
  overlap_points h =
      let p = at_any (Holds r) (λ (p : Pt). Any (λ (q : Pt). p ≡ q) b.points) a.points (points_all (Holds r) a in_r) h in
      let q = at_any (Holds s) (λ (q : Pt). p.0 ≡ q) b.points (points_all (Holds s) b in_s) p.2 in
      overlap_at r s p.0 p.1 (subst (Holds s) (sym q.2) q.1)

  overlap_on : SomePair IsOn a.points (segments_in b) → AreOverlapping r s
  overlap_on h =
      let p = at_any (Holds r) (λ (p : Pt). Any (IsOn p) (segments_in b)) a.points (points_all (Holds r) a in_r) h in
      let t = found_in (Holds s) (IsOn p.0) b in_s p.2 in
      overlap_at r s p.0 p.1 (held_on s p.0 t.0 t.1 t.2 t.3)

  overlap_segments : SomePair Touches (segments_in a) (segments_in b) → AreOverlapping r s
  overlap_segments h =
      let one = found_in (Holds r) (λ (t : Segment). Any (Touches t) (segments_in b)) a in_r h in
      overlap_both r s one.0 one.1 one.2 (touched_reaches s one.0 b in_s one.3)

  overlap_inside : IsGeometry b → SomePair IsInside (positions_of a) b.areas → AreOverlapping r s
  overlap_inside is h =
      let p = at_any (Holds r) (λ (p : Pt). Any (IsInside p) b.areas) (positions_of a) in_r h in
      overlap_at r s p.0 p.1 (entered_holds s p.0 b.areas (areas_in s b is in_s) p.2)

overlap_turned : (r s : Rectangle) → AreOverlapping r s → AreOverlapping s r
overlap_turned r s h = record { west = h.east; east = h.west; south = h.north; north = h.south }

pub meeting_overlaps : (r s : Rectangle) (a b : Shapes Pt) → IsGeometry a → IsGeometry b →
    All (Holds r) (positions_of a) → All (Holds s) (positions_of b) → Meets a b → AreOverlapping r s
meeting_overlaps r s a b is_a is_b in_r in_s (at_points h) = overlap_points r s a b in_r in_s h
meeting_overlaps r s a b is_a is_b in_r in_s (point_on_segment h) = overlap_on r s a b in_r in_s h
meeting_overlaps r s a b is_a is_b in_r in_s (segment_under_point h) = overlap_turned s r (overlap_on s r b a in_s in_r h)
meeting_overlaps r s a b is_a is_b in_r in_s (at_segments h) = overlap_segments r s a b in_r in_s h
meeting_overlaps r s a b is_a is_b in_r in_s (position_inside h) = overlap_inside r s a b in_r in_s is_b h
meeting_overlaps r s a b is_a is_b in_r in_s (position_around h) = overlap_turned s r (overlap_inside s r b a in_s in_r is_a h)

-- meeting is symmetric
pub any_turned : {X Y : Type 0} (R : X → Y → Type 0) (S : Y → X → Type 0) → ((x : X) (y : Y) → R x y → S y x) → (xs : List X) (ys : List Y) → SomePair R xs ys → SomePair S ys xs
any_turned R S f xs ys h = let inner = h.4 in (inner.0, inner.1, inner.2, inner.3, (h.0, h.1, h.2, h.3, f h.1 inner.1 inner.4))

pub touches_turned : (s t : Segment) → Touches s t → Touches t s
touches_turned s t h = record { boxes = overlap_turned (sides_of s) (sides_of t) h.boxes; first = h.second; second = h.first }

pub meets_turned : (a b : Shapes Pt) → Meets a b → Meets b a
meets_turned a b (at_points h) = at_points (any_turned (λ (p : Pt) (q : Pt). p ≡ q) (λ (p : Pt) (q : Pt). p ≡ q) (λ p q e. sym e) a.points b.points h)
meets_turned a b (point_on_segment h) = segment_under_point h
meets_turned a b (segment_under_point h) = point_on_segment h
meets_turned a b (at_segments h) = at_segments (any_turned Touches Touches touches_turned (segments_in a) (segments_in b) h)
meets_turned a b (position_inside h) = position_around h
meets_turned a b (position_around h) = position_inside h

-- a geometry meets itself
touches_itself : (s : Segment) → Touches s s
touches_itself s = record {
  boxes = record { west = omega (arith, ints, clamps); east = omega (arith, ints, clamps); south = omega (arith, ints, clamps); north = omega (arith, ints, clamps) };
  first = not_on_one_side s s (side_start s);
  second = not_on_one_side s s (side_start s);
}

any_segment_of : (path : List Pt) → 2 ≤ length path → Any (λ (s : Segment). Unit {0}) (segments_of path)
any_segment_of [] long = absurd (omega (arith, long))
any_segment_of (v ∷ []) long = absurd (omega (arith, long))
any_segment_of (v ∷ (w ∷ ws)) long = any_here (λ (s : Segment). Unit {0}) (record { from = v; to = w }) (segments_from w ws) tt

itself_by_segment : (g : Shapes Pt) → Any (λ (s : Segment). Unit {0}) (segments_in g) → Meets g g
itself_by_segment g any = at_segments (any.0, any.1, any.2, any.3, (any.0, any.1, any.2, any.3, touches_itself any.1))

itself_of : (points : List Pt) (lines : List (List Pt)) (areas : List (List (List Pt))) →
    (let g : Shapes Pt = record { points = points; lines = lines; areas = areas } in IsGeometry g → Meets g g)
itself_of (p ∷ ps) lines areas is =
    at_points (any_here (λ (v : Pt). Any (λ (q : Pt). v ≡ q) (p ∷ ps)) p ps (any_here (λ (q : Pt). p ≡ q) p ps refl))
itself_of [] (line ∷ lines) areas is =
    let g : Shapes Pt = record { points = []; lines = line ∷ lines; areas = areas } in
    let P : Segment → Type 0 = λ s. Unit {0} in
    let O : List Pt → Type 0 = λ path. Any P (segments_of path) in
    let long : 2 ≤ length line = All-head (λ (path : List Pt). 2 ≤ length path) line lines is.lines in
    itself_by_segment g ((any_segment P g).1 (inl (any_here O line lines (any_segment_of line long))))
itself_of [] [] ((ring ∷ rings) ∷ areas) is =
    let g : Shapes Pt = record { points = []; lines = []; areas = (ring ∷ rings) ∷ areas } in
    let P : Segment → Type 0 = λ s. Unit {0} in
    let O : List Pt → Type 0 = λ path. Any P (segments_of path) in
    let long = (All-head IsRing ring (rings ++ joined areas) is.rings).long in
    itself_by_segment g ((any_segment P g).1 (inr (any_here (Any O) (ring ∷ rings) areas (any_here O ring rings (any_segment_of ring (omega (arith, long)))))))
itself_of [] [] ([] ∷ areas) is =
    let filled = All-head (λ (area : List (List Pt)). 1 ≤ length area) [] areas is.areas in
    absurd (omega (arith, filled))
itself_of [] [] [] is = let some = is.some in absurd (omega (arith, some))

pub meets_itself : (g : Shapes Pt) → IsGeometry g → Meets g g
meets_itself g is = itself_of g.points g.lines g.areas is

last_way : (a b : Shapes Pt) (R : Type 0) →
    (SomePair (λ (p : Pt) (q : Pt). p ≡ q) a.points b.points → ⊥) → (SomePair IsOn a.points (segments_in b) → ⊥) → (SomePair IsOn b.points (segments_in a) → ⊥) →
    (SomePair IsInside (positions_of a) b.areas → ⊥) → (SomePair IsInside (positions_of b) a.areas → ⊥) →
    (SomePair Touches (segments_in a) (segments_in b) → R) → Meets a b → R
last_way a b R n1 n2 n3 n4 n5 f (at_points h) = absurd (n1 h)
last_way a b R n1 n2 n3 n4 n5 f (point_on_segment h) = absurd (n2 h)
last_way a b R n1 n2 n3 n4 n5 f (segment_under_point h) = absurd (n3 h)
last_way a b R n1 n2 n3 n4 n5 f (position_inside h) = absurd (n4 h)
last_way a b R n1 n2 n3 n4 n5 f (position_around h) = absurd (n5 h)
last_way a b R n1 n2 n3 n4 n5 f (at_segments h) = f h

-- all six ways, of which the first five aren't found
pub meets_last : (a b : Shapes Pt) (equal on under inside around segments : Bool) →
    IsTrue equal ↔ SomePair (λ (p : Pt) (q : Pt). p ≡ q) a.points b.points → equal ≡ false →
    IsTrue on ↔ SomePair IsOn a.points (segments_in b) → on ≡ false →
    IsTrue under ↔ SomePair IsOn b.points (segments_in a) → under ≡ false →
    IsTrue inside ↔ SomePair IsInside (positions_of a) b.areas → inside ≡ false →
    IsTrue around ↔ SomePair IsInside (positions_of b) a.areas → around ≡ false →
    IsTrue segments ↔ SomePair Touches (segments_in a) (segments_in b) →
    IsTrue segments ↔ Meets a b
meets_last a b equal on under inside around segments test1 is1 test2 is2 test3 is3 test4 is4 test5 is5 test6 =
    (λ yes. at_segments (test6.0 yes), last_way a b (IsTrue segments) (no_of equal test1 is1) (no_of on test2 is2) (no_of under test3 is3) (no_of inside test4 is4) (no_of around test5 is5) test6.1)
