-- The parity of the crossed edges, as the code counts it.
use Rattle.std.proofs.Common.{◌≡◌, ◌↔◌, refl, subst, sym, arith, ℕ, ◌+◌, ◌<◌, ◌%◌, List, [], ◌∷◌, ◌++◌, length, get_or, drop, ◌≤◌, Bool, true, false, not, cond}
use Rattle.std.specs.List.{count_by}
use Rattle.std.proofs.lemmas.List.Sums.{sum_by-cons}
use Rattle.sc_geom.specs.declared.point.Pt.{Pt}
use Rattle.sc_cross.specs.declared.segment.Segment.{Segment}
use Rattle.sc_cross.specs.Segment.{segments_of, segments_from}
use Rattle.sc_cross.specs.Area.{is_crossed, edges_of, IsInside}
use Rattle.sc_cross.specs.Parts.{turned_over}
use Rattle.sc_cross.proofs.Anys.{rest_at, rest_from, rest_none}

start : (b : Bool) → (b ≡ true) ↔ ((cond b 1 0 + 0) % 2 ≡ 1)
start true = (λ h. refl, λ h. refl)
start false = (λ h. absurd (let e : false ≡ true = h in cc), λ h. absurd (omega (arith, h)))

step : (c b : Bool) (n : ℕ) → ((cond (cond c (not b) b) 1 0 + n) % 2 ≡ 1) ↔ ((cond b 1 0 + (cond c 1 0 + n)) % 2 ≡ 1)
step false true n = (λ h. omega (arith, h), λ h. omega (arith, h))
step false false n = (λ h. omega (arith, h), λ h. omega (arith, h))
step true true n = (λ h. omega (arith, h), λ h. omega (arith, h))
step true false n = (λ h. omega (arith, h), λ h. omega (arith, h))

pub odd_count : (p : Pt) (b : Bool) (es : List Segment) → (turned_over p b es ≡ true) ↔ ((cond b 1 0 + count_by (is_crossed p) es) % 2 ≡ 1)
odd_count p b [] = start b
odd_count p b (e ∷ es) =
    let n = count_by (is_crossed p) es in
    let here = step (is_crossed p e) b n in
    let rest = odd_count p (cond (is_crossed p e) (not b) b) es in
    let count : count_by (is_crossed p) (e ∷ es) ≡ cond (is_crossed p e) 1 0 + n = sum_by-cons (λ (x : Segment). cond (is_crossed p x) 1 0) e es in
    let P : ℕ → Type 0 = λ m. (cond b 1 0 + m) % 2 ≡ 1 in
    (λ h. subst P (sym count) (here.0 (rest.0 h)), λ h. rest.1 (here.1 (subst P count h)))

pub inside : (p : Pt) (rings : List (List Pt)) → (turned_over p false (edges_of rings) ≡ true) ↔ IsInside p rings
inside p rings =
    let whole = odd_count p false (edges_of rings) in
    (λ h. omega (arith, whole.0 h), λ h. whole.1 (omega (arith, h)))

pub turned_append : (p : Pt) (b : Bool) (es fs : List Segment) → turned_over p b (es ++ fs) ≡ turned_over p (turned_over p b es) fs
turned_append p b [] fs = refl
turned_append p b (e ∷ es) fs = turned_append p (cond (is_crossed p e) (not b) b) es fs

-- a step of the code's loop over a ring
pub turned_step : (p : Pt) (odd : Bool) (from : Pt) (rest : List Pt) (i : ℕ) (d : Pt) → i < length rest →
    (let to = get_or rest i d in let edge : Segment = record { from = from; to = to } in
    turned_over p odd (segments_from from (drop i rest)) ≡ turned_over p (cond (is_crossed p edge) (not odd) odd) (segments_from to (drop (i + 1) rest)))
turned_step p odd from rest i d below = rw (rest_at rest i d below) refl

-- a step of the code's loop over the rings, and its end
pub turned_ring : (p : Pt) (odd : Bool) (ring : List Pt) (rings : List (List Pt)) (i : ℕ) → i < length rings → ring ≡ get_or rings i ring →
    turned_over p odd (edges_of (drop i rings)) ≡ turned_over p (turned_over p odd (segments_of ring)) (edges_of (drop (i + 1) rings))
turned_ring p odd ring rings i below is =
    rw (rest_from rings i ring below is) (turned_append p odd (segments_of ring) (edges_of (drop (i + 1) rings)))

pub turned_end : (p : Pt) (odd : Bool) (rings : List (List Pt)) (i : ℕ) → length rings ≤ i → turned_over p odd (edges_of (drop i rings)) ≡ odd
turned_end p odd rings i past = rw (rest_none rings i past) refl
