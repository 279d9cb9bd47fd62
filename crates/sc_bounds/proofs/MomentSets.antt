-- Sets of moments: joins and meets, and that a set is known by its moments.
use Rattle.std.proofs.Common.{rules, ◌≡◌, ◌↔◌, refl, ap, arith, Bool, true, false, cond, ℤ, ◌≤ℤ◌, int_le, Option, Some, None}
use Rattle.std.specs.Int.{int_min, int_max}
use Rattle.std.proofs.lemmas.Int.{ints, clamps}
use Rattle.sc_bounds.specs.Moments.{HasMoment, AreMoments, moments_join, moments_meet}
use Rattle.sc_bounds.specs.Sets.{AreMomentsOf}

pub join_left : (a b : Option (ℤ × ℤ)) → AreMomentsOf a (moments_join a b)
join_left None b at h = absurd h
join_left (Some a) None at h = h
join_left (Some a) (Some b) at h = (omega (arith, ints, clamps, h.0), omega (arith, ints, clamps, h.1))

pub join_right : (a b : Option (ℤ × ℤ)) → AreMomentsOf b (moments_join a b)
join_right None b at h = h
join_right (Some a) None at h = absurd h
join_right (Some a) (Some b) at h = (omega (arith, ints, clamps, h.0), omega (arith, ints, clamps, h.1))

-- the first and the last moment
first_is : (a : ℤ × ℤ) → a.0 ≤ℤ a.1 → HasMoment (Some a) a.0
first_is a le = (omega (arith, ints), le)

last_is : (a : ℤ × ℤ) → a.0 ≤ℤ a.1 → HasMoment (Some a) a.1
last_is a le = (le, omega (arith, ints))

pub join_least : (a b d : Option (ℤ × ℤ)) → AreMoments a → AreMoments b → AreMomentsOf a d → AreMomentsOf b d → AreMomentsOf (moments_join a b) d
join_least None b d ok ok' in_a in_b at h = in_b at h
join_least (Some a) None d ok ok' in_a in_b at h = in_a at h
join_least (Some a) (Some b) None ok ok' in_a in_b at h = absurd (in_a a.0 (first_is a ok))
join_least (Some a) (Some b) (Some d) ok ok' in_a in_b at h =
    let a_first = in_a a.0 (first_is a ok) in
    let a_last = in_a a.1 (last_is a ok) in
    let b_first = in_b b.0 (first_is b ok') in
    let b_last = in_b b.1 (last_is b ok') in
    (omega (arith, ints, clamps, h.0, a_first.0, b_first.0), omega (arith, ints, clamps, h.1, a_last.1, b_last.1))

pub join_ordered : (a b : Option (ℤ × ℤ)) → AreMoments a → AreMoments b → AreMoments (moments_join a b)
join_ordered None b ok ok' = ok'
join_ordered (Some a) None ok ok' = ok
join_ordered (Some a) (Some b) ok ok' = omega (arith, ints, clamps)

pub le_test : (a b : ℤ) → int_le a b ≡ true → a ≤ℤ b
le_test a b test = search rules

pub le_tested : (a b : ℤ) → a ≤ℤ b → int_le a b ≡ true
le_tested a b le = search rules

within_both : (first last a b c d at : ℤ) → first ≡ int_max a c → last ≡ int_min b d → (t : Bool) → int_le first last ≡ t →
    HasMoment (cond t (Some (first, last)) None) at ↔ (((a ≤ℤ at) × (at ≤ℤ b)) × ((c ≤ℤ at) × (at ≤ℤ d)))
within_both first last a b c d at is is' true test = (
  λ h. ((omega (arith, ints, clamps, h.0, h.1), omega (arith, ints, clamps, h.0, h.1)), (omega (arith, ints, clamps, h.0, h.1), omega (arith, ints, clamps, h.0, h.1))),
  λ h. (omega (arith, ints, clamps, h.0.0, h.0.1, h.1.0, h.1.1), omega (arith, ints, clamps, h.0.0, h.0.1, h.1.0, h.1.1)),
)
within_both first last a b c d at is is' false test = (
  λ h. absurd h,
  λ h. let le : first ≤ℤ last = omega (arith, ints, clamps, h.0.0, h.0.1, h.1.0, h.1.1) in let yes = le_tested first last le in cc,
)

pub meet_is : (a b : Option (ℤ × ℤ)) (at : ℤ) → HasMoment (moments_meet a b) at ↔ (HasMoment a at × HasMoment b at)
meet_is None b at = (λ h. absurd h, λ h. absurd h.0)
meet_is (Some a) None at = (λ h. absurd h, λ h. absurd h.1)
meet_is (Some a) (Some b) at = within_both (int_max a.0 b.0) (int_min a.1 b.1) a.0 a.1 b.0 b.1 at refl refl (int_le (int_max a.0 b.0) (int_min a.1 b.1)) refl

ordered_cut : (first last : ℤ) (t : Bool) → int_le first last ≡ t → AreMoments (cond t (Some (first, last)) None)
ordered_cut first last true test = le_test first last test
ordered_cut first last false test = tt

pub meet_ordered : (a b : Option (ℤ × ℤ)) → AreMoments (moments_meet a b)
meet_ordered None b = tt
meet_ordered (Some a) None = tt
meet_ordered (Some a) (Some b) = ordered_cut (int_max a.0 b.0) (int_min a.1 b.1) (int_le (int_max a.0 b.0) (int_min a.1 b.1)) refl

pairs : (a b d e : ℤ) → a ≡ d → b ≡ e → (let p : ℤ × ℤ = (a, b) in let q : ℤ × ℤ = (d, e) in p ≡ q)
pairs a b d e first last = rw (first, last) refl

same_pair : (a b : ℤ × ℤ) → a.0 ≡ b.0 → a.1 ≡ b.1 → a ≡ b
same_pair a b first last = pairs a.0 a.1 b.0 b.1 first last

pub same_moments : (a b : Option (ℤ × ℤ)) → AreMoments a → AreMoments b → AreMomentsOf a b → AreMomentsOf b a → a ≡ b
same_moments None None ok ok' in_a in_b = refl
same_moments None (Some b) ok ok' in_a in_b = absurd (in_b b.0 (first_is b ok'))
same_moments (Some a) None ok ok' in_a in_b = absurd (in_a a.0 (first_is a ok))
same_moments (Some a) (Some b) ok ok' in_a in_b =
    let a_first = in_a a.0 (first_is a ok) in
    let a_last = in_a a.1 (last_is a ok) in
    let b_first = in_b b.0 (first_is b ok') in
    let b_last = in_b b.1 (last_is b ok') in
    ap Some (same_pair a b (omega (arith, ints, a_first.0, b_first.0)) (omega (arith, ints, a_last.1, b_last.1)))
