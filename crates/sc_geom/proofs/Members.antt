-- The first element that passes, by its place.
use Rattle.std.proofs.Common.{inl, inr, ◌≡◌, ℕ, ◌<◌, ◌≤◌, Bool, true, false, cond, List, length, get_or, Some, None, refl, ap, ◌∙◌, arith, nat_lt}
use Rattle.std.specs.List.{find, position}
use Rattle.std.specs.Prelude.{slice_get}
use Rattle.std.specs.List.{position_or_len}
use Rattle.std.proofs.lemmas.List.Folds.{find_at}
use Rattle.std.proofs.lemmas.Option.{slice_get_read, slice_get_cases}
use Rattle.std.proofs.lemmas.Bool.Decides.{nat_tests}

chosen_some : (b : Bool) (n i : ℕ) → cond b (Some n) None ≡ Some i → (b ≡ true) × (n ≡ i)
chosen_some true n i e = (refl, cc)
chosen_some false n i e = absurd cc

chosen_none : (b : Bool) (n : ℕ) → cond b (Some n) None ≡ None → b ≡ false
chosen_none true n e = absurd cc
chosen_none false n e = refl

pub found_at : {X : Type 0} (p : X → Bool) (xs : List X) (i : ℕ) (x : X) → position p xs ≡ Some i → x ≡ get_or xs i x → find p xs ≡ Some x
found_at p xs i x e is =
    let chosen = chosen_some (nat_lt (position_or_len p xs) (length xs)) (position_or_len p xs) i e in
    let low : position_or_len p xs < length xs = grind (arith, nat_tests, chosen.0) in
    let same : position_or_len p xs ≡ i = chosen.1 in
    let inside : i < length xs = omega arith in
    find_at p xs ∙ ap (slice_get xs) same ∙ slice_get_read xs (length xs) i x refl inside is

pub found_nowhere : {X : Type 0} (p : X → Bool) (xs : List X) → position p xs ≡ None → find p xs ≡ None
found_nowhere p xs e =
    let past : nat_lt (position_or_len p xs) (length xs) ≡ false = chosen_none (nat_lt (position_or_len p xs) (length xs)) (position_or_len p xs) e in
    let high : length xs ≤ position_or_len p xs = grind (arith, nat_tests) in
    find_at p xs ∙ elim ((slice_get_cases xs (position_or_len p xs)).1) [ inl h ↦ absurd (omega (arith, h.1, high)) | inr h ↦ h.1 ]
