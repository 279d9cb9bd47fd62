-- The digits behind the point of a coordinate.
use Rattle.std.proofs.Common.{◌≡◌, ℕ, zero, suc, ◌+◌, ◌-◌, ◌*◌, ◌/◌, ◌%◌, ◌^◌, ◌<◌, ◌≤◌, List, [], ◌∷◌, ◌++◌, refl, sym, ap, ◌∙◌, append_assoc, append-nil, arith}
use Rattle.std.proofs.lemmas.Bool.{ne_eqb}
use Rattle.std.proofs.Math.Nat.{one-le-pow, pow-succ', div-lt_iff_lt-mul}
use Rattle.sc_degrees.specs.Degrees.{places}

pub unit_some : (n : ℕ) → 0 < 10 ^ n
unit_some n = omega (arith, one-le-pow n 10 (omega arith))

pub some_places : (count rest : ℕ) → (rest ≡ 0 → ⊥) → rest < 10 ^ count → 1 ≤ count
some_places zero rest some within = absurd (some (omega arith))
some_places (suc count) rest some within = omega arith

-- the first digit is one
pub digit_small : (count rest unit : ℕ) → 1 ≤ count → rest < 10 ^ count → unit ≡ 10 ^ (count - 1) → rest / unit < 10
digit_small count rest unit some within is =
    let here : suc (count - 1) ≡ count = omega arith in
    let whole : 10 ^ count ≡ 10 * 10 ^ (count - 1) = ap (λ n. 10 ^ n) (sym here) ∙ pow-succ' 10 (count - 1) in
    let below : rest < 10 * unit = omega (arith, whole, is) in
    let unit_is : 0 < unit = omega (arith, is, unit_some (count - 1)) in
    (div-lt_iff_lt-mul unit_is).1 below

pub rest_small : (count rest unit : ℕ) → unit ≡ 10 ^ (count - 1) → rest % unit < 10 ^ (count - 1)
rest_small count rest unit is =
    let some : 0 < unit = omega (arith, is, unit_some (count - 1)) in
    let small : rest % unit < unit = omega arith in
    omega arith

pub places_more : (count rest : ℕ) → (rest ≡ 0 → ⊥) → 1 ≤ count → places count rest ≡ (48 + rest / 10 ^ (count - 1)) ∷ places (count - 1) (rest % 10 ^ (count - 1))
unfolding places
places_more zero rest some within = absurd (omega arith)
places_more (suc count) rest some within = let back : suc count - 1 ≡ count = omega arith in rw (back, ne_eqb rest 0 some) refl

pub places_none : (count rest : ℕ) (out : List ℕ) → rest ≡ 0 → out ≡ out ++ places count rest
unfolding places
places_none zero rest out is = sym (append-nil out)
places_none (suc count) rest out is = rw is (sym (append-nil out))

pub places_pushed : (count rest unit : ℕ) (old mid new : List ℕ) → (rest ≡ 0 → ⊥) → 1 ≤ count → unit ≡ 10 ^ (count - 1) → mid ≡ old ++ (48 + rest / unit) ∷ [] → new ≡ mid ++ places (count - 1) (rest % unit)
    → new ≡ old ++ places count rest
places_pushed count rest unit old mid new some more is m n =
    n ∙ ap (λ (x : List ℕ). x ++ places (count - 1) (rest % unit)) m ∙ append_assoc old ((48 + rest / unit) ∷ []) (places (count - 1) (rest % unit))
    ∙ ap (λ (x : List ℕ). old ++ x) (rw is (sym (places_more count rest some more)))
