-- The test for a meeting of two geometries is the relation.
use Rattle.std.proofs.Common.{◌≡◌, ◌↔◌, ◌⊎◌, inl, inr, ℤ, pos, ◌%◌, Bool, ◌&&◌, not, List, ap, ap₂, Any, IsTrue, int_lt}
use Rattle.std.specs.Ordering.{int_eq}
use Rattle.std.specs.List.{list_any, count_by}
use Rattle.std.proofs.lemmas.List.Folds.{Any-from_list_any, list_any-from_Any}
use Rattle.std.proofs.lemmas.Bool.Decides.{Decides-int_eq, Decides-eqb}
use Rattle.sc_geom.specs.declared.point.Pt.{Pt}
use Rattle.sc_geom.specs.Shapes.{Shapes, positions_of}
use Rattle.sc_geom.specs.Rectangle.{Holds, AreOverlapping, has_position, overlap}
use Rattle.sc_geom.proofs.Deciding.{Tests, both, either, neither, same, lt_test, holds_test, overlap_test, one_truth}
use Rattle.sc_cross.specs.declared.segment.Segment.{Segment}
use Rattle.sc_cross.specs.Segment.{side, sides_of, IsOn, AreOnOneSide, Touches}
use Rattle.sc_cross.specs.Area.{IsInside, is_crossed, edges_of}
use Rattle.sc_cross.specs.Meets.{SomePair, segments_in, Meets, at_points, point_on_segment, segment_under_point, at_segments, position_inside, position_around}
use Rattle.sc_cross.specs.Meeting.{some_pair, is_same, is_on, is_one_sided, touch, is_inside, do_meet}

any_test : {A : Type 0} (p : A → Bool) (P : A → Type 0) → ((x : A) → Tests (p x) (P x)) → (xs : List A) → Tests (list_any p xs) (Any P xs)
any_test p P t xs = (
  λ e. let h = Any-from_list_any p xs e in (h.0, h.1, h.2, h.3, (t h.1).0 h.4),
  λ h. list_any-from_Any p xs (h.0, h.1, h.2, h.3, (t h.1).1 h.4),
)

pair_test : {A B : Type 0} (r : A → B → Bool) (R : A → B → Type 0) → ((x : A) (y : B) → Tests (r x y) (R x y)) → (xs : List A) (ys : List B) → Tests (some_pair r xs ys) (SomePair R xs ys)
pair_test r R t xs ys = any_test (λ x. list_any (r x) ys) (λ x. Any (R x) ys) (λ x. any_test (r x) (R x) (t x) ys) xs

eq_test : (a b : ℤ) → Tests (int_eq a b) (a ≡ b)
eq_test a b = Decides-int_eq a b

same_test : (p q : Pt) → Tests (is_same p q) (p ≡ q)
same_test p q =
    same (is_same p q) ((p.x ≡ q.x) × (p.y ≡ q.y)) (p ≡ q) (λ h. ap₂ (λ (x y : ℤ). record { x = x; y = y }) h.0 h.1) (λ e. (ap (λ t. t.x) e, ap (λ t. t.y) e))
    (both (int_eq p.x q.x) (int_eq p.y q.y) (p.x ≡ q.x) (p.y ≡ q.y) (eq_test p.x q.x) (eq_test p.y q.y))

on_test : (p : Pt) (s : Segment) → Tests (is_on p s) (IsOn p s)
on_test p s =
    same (is_on p s) (Holds (sides_of s) p × (side s p ≡ pos 0)) (IsOn p s)
    (λ h. record { in_box = h.0; in_line = h.1 }) (λ h. (h.in_box, h.in_line))
    (both (has_position (sides_of s) p) (int_eq (side s p) (pos 0)) _ _ (holds_test (sides_of s) p) (eq_test (side s p) (pos 0)))

sided_test : (s t : Segment) → Tests (is_one_sided s t) (AreOnOneSide s t)
sided_test s t =
    either (int_lt (pos 0) (side s t.from) && int_lt (pos 0) (side s t.to)) (int_lt (side s t.from) (pos 0) && int_lt (side s t.to) (pos 0)) _ _
    (both (int_lt (pos 0) (side s t.from)) (int_lt (pos 0) (side s t.to)) _ _ (lt_test (pos 0) (side s t.from)) (lt_test (pos 0) (side s t.to)))
    (both (int_lt (side s t.from) (pos 0)) (int_lt (side s t.to) (pos 0)) _ _ (lt_test (side s t.from) (pos 0)) (lt_test (side s t.to) (pos 0)))

touch_test : (s t : Segment) → Tests (touch s t) (Touches s t)
touch_test s t =
    same (touch s t) (AreOverlapping (sides_of s) (sides_of t) × ((AreOnOneSide s t → ⊥) × (AreOnOneSide t s → ⊥))) (Touches s t)
    (λ h. record { boxes = h.0; first = h.1.0; second = h.1.1 }) (λ h. (h.boxes, (h.first, h.second)))
    (both (overlap (sides_of s) (sides_of t)) (not (is_one_sided s t) && not (is_one_sided t s)) _ _ (overlap_test (sides_of s) (sides_of t))
    (both (not (is_one_sided s t)) (not (is_one_sided t s)) _ _ (neither (is_one_sided s t) _ (sided_test s t)) (neither (is_one_sided t s) _ (sided_test t s))))

inside_test : (p : Pt) (rings : List (List Pt)) → Tests (is_inside p rings) (IsInside p rings)
inside_test p rings = Decides-eqb (count_by (is_crossed p) (edges_of rings) % 2) 1

abbrev Ways : Shapes Pt → Shapes Pt → Type 0
Ways a b =
    SomePair (λ (p : Pt) (q : Pt). p ≡ q) a.points b.points ⊎ (SomePair IsOn a.points (segments_in b) ⊎ (SomePair IsOn b.points (segments_in a)
    ⊎ (SomePair Touches (segments_in a) (segments_in b) ⊎ (SomePair IsInside (positions_of a) b.areas ⊎ SomePair IsInside (positions_of b) a.areas))))

to_meeting : (a b : Shapes Pt) → Ways a b → Meets a b
to_meeting a b (inl h) = at_points h
to_meeting a b (inr (inl h)) = point_on_segment h
to_meeting a b (inr (inr (inl h))) = segment_under_point h
to_meeting a b (inr (inr (inr (inl h)))) = at_segments h
to_meeting a b (inr (inr (inr (inr (inl h))))) = position_inside h
to_meeting a b (inr (inr (inr (inr (inr h))))) = position_around h

from_meeting : (a b : Shapes Pt) → Meets a b → Ways a b
from_meeting a b (at_points h) = inl h
from_meeting a b (point_on_segment h) = inr (inl h)
from_meeting a b (segment_under_point h) = inr (inr (inl h))
from_meeting a b (at_segments h) = inr (inr (inr (inl h)))
from_meeting a b (position_inside h) = inr (inr (inr (inr (inl h))))
from_meeting a b (position_around h) = inr (inr (inr (inr (inr h))))

pub meet_test : (a b : Shapes Pt) → Tests (do_meet a b) (Meets a b)
unfolding do_meet
meet_test a b =
    same (do_meet a b) (Ways a b) (Meets a b) (to_meeting a b) (from_meeting a b)
    (either (some_pair is_same a.points b.points) _ _ _ (pair_test is_same (λ (p : Pt) (q : Pt). p ≡ q) same_test a.points b.points)
    (either (some_pair is_on a.points (segments_in b)) _ _ _ (pair_test is_on IsOn on_test a.points (segments_in b))
    (either (some_pair is_on b.points (segments_in a)) _ _ _ (pair_test is_on IsOn on_test b.points (segments_in a))
    (either (some_pair touch (segments_in a) (segments_in b)) _ _ _ (pair_test touch Touches touch_test (segments_in a) (segments_in b))
    (either (some_pair is_inside (positions_of a) b.areas) (some_pair is_inside (positions_of b) a.areas) _ _ (pair_test is_inside IsInside inside_test (positions_of a) b.areas)
    (pair_test is_inside IsInside inside_test (positions_of b) a.areas))))))

pub meet_is : (a b : Shapes Pt) (r : Bool) → IsTrue r ↔ Meets a b → r ≡ do_meet a b
meet_is a b r test = one_truth r (do_meet a b) (Meets a b) test (meet_test a b)
