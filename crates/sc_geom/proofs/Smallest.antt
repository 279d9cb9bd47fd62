-- The smallest rectangle, position by position.
use Rattle.std.proofs.Common.{zero, suc, ◌≡◌, ℕ, ◌+◌, ◌<◌, ◌≤◌, ℤ, List, [], ◌∷◌, ◌++◌, length, get_or, take, Option, None, refl, ap, sym, subst, ◌∙◌, arith, append_assoc}
use Rattle.std.specs.Prelude.{All}
use Rattle.std.specs.Int.{int_min, int_max}
use Rattle.std.proofs.lemmas.Int.{ints, clamps}
use Rattle.std.proofs.lemmas.List.{take_more, append-nil}
use Rattle.std.proofs.lemmas.List.Elements.{All-nil, All-cons, All-head, All-tail, All-push, All-weaker}
use Rattle.sc_geom.specs.declared.point.Pt.{Pt}
use Rattle.sc_geom.specs.Rectangle.{Rectangle, Holds, IsSmallest, Encloses, at_position, with_position, with_positions, smallest_of, smallest}
use Rattle.sc_geom.specs.Shapes.{Shapes, joined, positions_of}
use Rattle.sc_geom.specs.Geometry.{IsGeometry}
use Rattle.sc_geom.proofs.Lists.{joined-push, joined-append}

pub all_front : {X : Type 0} (P : X → Type 0) (xs ys : List X) → All P (xs ++ ys) → All P xs
all_front P [] ys h = All-nil P
all_front P (x ∷ xs) ys h = All-cons P x xs (All-head P x (xs ++ ys) h) (all_front P xs ys (All-tail P x (xs ++ ys) h))

pub all_back : {X : Type 0} (P : X → Type 0) (xs ys : List X) → All P (xs ++ ys) → All P ys
all_back P [] ys h = h
all_back P (x ∷ xs) ys h = all_back P xs ys (All-tail P x (xs ++ ys) h)

all_last : {X : Type 0} (P : X → Type 0) (xs : List X) (x : X) → All P (xs ++ x ∷ []) → P x
all_last P xs x h = All-head P x [] (all_back P xs (x ∷ []) h)

pub smallest_first : (p : Pt) (r : Rectangle) → r.west ≡ p.x → r.south ≡ p.y → r.east ≡ p.x → r.north ≡ p.y → IsSmallest r (p ∷ [])
smallest_first p r w s e n = record {
  holds = All-cons (Holds r) p [] (record { west = omega (arith, ints); east = omega (arith, ints); south = omega (arith, ints); north = omega (arith, ints) }) (All-nil (Holds r));
  least = λ t all. let h = All-head (Holds t) p [] all in
      record { west = omega (arith, ints, h.west); east = omega (arith, ints, h.east); south = omega (arith, ints, h.south); north = omega (arith, ints, h.north) };
}

pub smallest_more : (r : Rectangle) (p : Pt) (before : List Pt) (c : Rectangle) → IsSmallest r before →
    c.west ≡ int_min r.west p.x → c.south ≡ int_min r.south p.y → c.east ≡ int_max r.east p.x → c.north ≡ int_max r.north p.y → IsSmallest c (before ++ p ∷ [])
smallest_more r p before c is w s e n = record {
  holds = All-push (Holds c) before p
      (All-weaker (Holds r) (Holds c) (λ q h. record {
        west = omega (arith, ints, clamps, h.west);
        east = omega (arith, ints, clamps, h.east);
        south = omega (arith, ints, clamps, h.south);
        north = omega (arith, ints, clamps, h.north);
      }) before is.holds)
      (record { west = omega (arith, ints, clamps); east = omega (arith, ints, clamps); south = omega (arith, ints, clamps); north = omega (arith, ints, clamps) });
  least = λ t all.
      let old = is.least t (all_front (Holds t) before (p ∷ []) all) in
      let new = all_last (Holds t) before p all in
      record {
        west = omega (arith, ints, clamps, old.west, new.west);
        east = omega (arith, ints, clamps, old.east, new.east);
        south = omega (arith, ints, clamps, old.south, new.south);
        north = omega (arith, ints, clamps, old.north, new.north);
      };
}

pub one_more_taken : {X : Type 0} (before xs : List X) (i : ℕ) (x : X) → i < length xs → x ≡ get_or xs i x → (before ++ take i xs) ++ x ∷ [] ≡ before ++ take (i + 1) xs
one_more_taken before xs i x h is =
    append_assoc before (take i xs) (x ∷ []) ∙ ap (λ l. before ++ l) (ap (λ y. take i xs ++ y ∷ []) is ∙ sym (take_more xs i x h))

pub list_more_taken : {X : Type 0} (before : List X) (xs : List (List X)) (i : ℕ) (x : List X) → i < length xs → x ≡ get_or xs i x → (before ++ joined (take i xs)) ++ x ≡ before ++ joined (take (i + 1) xs)
list_more_taken before xs i x h is =
    append_assoc before (joined (take i xs)) x ∙ ap (λ l. before ++ l) (sym (joined-push (take i xs) x) ∙ ap joined (ap (λ y. take i xs ++ y ∷ []) is ∙ sym (take_more xs i x h)))

pub all_part : {X : Type 0} (P : X → Type 0) (xs : List (List X)) (i : ℕ) (x : List X) → i < length xs → x ≡ get_or xs i x → All P (joined xs) → All P x
all_part P [] i x h is all = absurd (omega arith)
all_part P (y ∷ ys) zero x h is all = subst (All P) (sym is) (all_front P y (joined ys) all)
all_part P (y ∷ ys) (suc i) x h is all = all_part P ys i x (omega arith) is (all_back P y (joined ys) all)

pub all_parts : {X : Type 0} (P : X → Type 0) (xs : List (List (List X))) (i : ℕ) (x : List (List X)) → i < length xs → x ≡ get_or xs i x → All P (joined (joined xs)) → All P (joined x)
all_parts P [] i x h is all = absurd (omega arith)
all_parts P (y ∷ ys) zero x h is all =
    let apart : All P (joined y ++ joined (joined ys)) = subst (All P) (joined-append y (joined ys)) all in
    subst (λ l. All P (joined l)) (sym is) (all_front P (joined y) (joined (joined ys)) apart)
all_parts P (y ∷ ys) (suc i) x h is all =
    let apart : All P (joined y ++ joined (joined ys)) = subst (All P) (joined-append y (joined ys)) all in
    all_parts P ys i x (omega arith) is (all_back P (joined y) (joined (joined ys)) apart)

pub enclosed : (points : List Pt) (lines rings : List Pt) (a b d : Option Rectangle) →
    ((before : List Pt) → Encloses None before → Encloses a (before ++ points)) →
    ((before : List Pt) → Encloses a before → Encloses b (before ++ lines)) →
    ((before : List Pt) → Encloses b before → Encloses d (before ++ rings)) → Encloses d (points ++ lines ++ rings)
enclosed points lines rings a b d f g h = h (points ++ lines) (g points (f [] refl))

-- ---- the definition by positions

smallest_over : (r : Rectangle) (ps before : List Pt) → IsSmallest r before → IsSmallest (with_positions r ps) (before ++ ps)
smallest_over r [] before is = subst (IsSmallest r) (sym (append-nil before)) is
smallest_over r (p ∷ ps) before is =
    subst (IsSmallest (with_positions (with_position r p) ps)) (append_assoc before (p ∷ []) ps)
    (smallest_over (with_position r p) ps (before ++ p ∷ []) (smallest_more r p before (with_position r p) is refl refl refl refl))

smallest_of_is : (ps : List Pt) → 1 ≤ length ps → IsSmallest (smallest_of ps) ps
smallest_of_is [] some = absurd (omega arith)
smallest_of_is (p ∷ ps) some = smallest_over (at_position p) ps (p ∷ []) (smallest_first p (at_position p) refl refl refl refl)

pub smallest_is : (g : Shapes Pt) → IsGeometry g → IsSmallest (smallest g) (positions_of g)
unfolding smallest
smallest_is g kept = smallest_of_is (positions_of g) kept.some

sides : (w s e n w' s' e' n' : ℤ) → w ≡ w' → s ≡ s' → e ≡ e' → n ≡ n' →
    (let r : Rectangle = record { west = w; south = s; east = e; north = n } in let r' : Rectangle = record { west = w'; south = s'; east = e'; north = n' } in r ≡ r')
sides w s e n w' s' e' n' west south east north = rw (west, south, east, north) refl

pub one_smallest : (r s : Rectangle) (ps : List Pt) → IsSmallest r ps → IsSmallest s ps → r ≡ s
one_smallest r s ps is is' =
    let a = is.least s is'.holds in
    let b = is'.least r is.holds in
    sides r.west r.south r.east r.north s.west s.south s.east s.north
    (omega (arith, ints, a.west, b.west)) (omega (arith, ints, a.south, b.south)) (omega (arith, ints, a.east, b.east)) (omega (arith, ints, a.north, b.north))
