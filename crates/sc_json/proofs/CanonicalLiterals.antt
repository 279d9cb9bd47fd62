-- The canonical literal of a number is a number of the grammar (RFC 8259 §6), which is read as it.
use Rattle.std.proofs.Common.{zero, suc, ◌≡◌, ℕ, ◌+◌, ◌/◌, ◌%◌, ◌^◌, ◌<◌, ◌≤◌, List, [], ◌∷◌, ◌++◌, Bool, true, false, not, refl, sym, ap, subst, ◌∙◌, ◌⊎◌, inl, inr, arith, ℤ, pos, negsuc, ◌≤ℤ◌}
use Rattle.std.proofs.lemmas.Bool.Decides.{nat_tests}
use Rattle.std.proofs.lemmas.Int.{ints}
use Rattle.std.proofs.lemmas.List.{append-nil, append_assoc}
use Rattle.std.proofs.lemmas.Fmt.{decimal_by_steps_wide}
use Rattle.std.specs.Fmt.{decimal, sign_text}
use Rattle.sc_decimal.specs.Number.{Number, IsDec, least_exponent}
use Rattle.sc_decimal.specs.Literal.{power_text, literal_of}
use Rattle.sc_decimal.proofs.Literals.{literal_numeral}
use Rattle.sc_decimal.proofs.Numerals.{numeral_tests, narrow_test}
use Rattle.sc_json.specs.Characters.{is_digit_byte}
use Rattle.sc_json.specs.Good.{IsAsSent}
use Rattle.sc_json.specs.Grammar as json
use Rattle.sc_json.specs.Grammar.{Whole, Minus, Power, Literal}

-- digits of which the first is none, where the number isn't 0
abbrev pub IsWhole : ℕ → List ℕ → Type 0
IsWhole n [] = ⊥
IsWhole n (d ∷ ds) = ((1 ≤ n) × (49 ≤ d) × (d ≤ 57) × json.AreDigits ds) ⊎ ((n ≡ 0) × (d ≡ 48) × (ds ≡ []))

digit_byte : (d : ℕ) → d < 10 → is_digit_byte (48 + d) ≡ true
digit_byte d lt = grind (arith, nat_tests)

digits_push : (ds : List ℕ) (d : ℕ) → json.AreDigits ds → d < 10 → json.AreDigits (ds ++ (48 + d) ∷ [])
digits_push [] d h lt = (digit_byte d lt, tt)
digits_push (x ∷ xs) d h lt = (h.0, digits_push xs d h.1 lt)

whole_one : (n : ℕ) → n < 10 → IsWhole n ((48 + n) ∷ [])
whole_one zero lt = inr (refl, refl, refl)
whole_one (suc n) lt = inl (omega arith, omega arith, omega arith, tt)

whole_more : (n : ℕ) (ds : List ℕ) → 10 ≤ n → IsWhole (n / 10) ds → IsWhole n (ds ++ (48 + n % 10) ∷ [])
whole_more n [] le h = absurd h
whole_more n (d ∷ ds) le (inl h) = inl (omega arith, h.1, h.2, digits_push ds (n % 10) h.3 (omega arith))
whole_more n (d ∷ ds) le (inr h) = absurd (let z = h.0 in omega arith)

pub decimal_whole : (n : ℕ) → n < 10 ^ 64 → IsWhole n (decimal n)
decimal_whole = decimal_by_steps_wide IsWhole whole_one whole_more

pub whole_from : (n : ℕ) (ds : List ℕ) → IsWhole n ds → Whole ds
whole_from n [] h = absurd h
whole_from n (d ∷ ds) (inl h) = json.digits d ds h.1 h.2 h.3
whole_from n (d ∷ ds) (inr h) = subst Whole (λ i. sym h.1 i ∷ sym h.2 i) json.zero_digit

pub digits_from : (n : ℕ) (ds : List ℕ) → IsWhole n ds → (d : ℕ) × (rest : List ℕ) × (ds ≡ d ∷ rest) × (is_digit_byte d ≡ true) × json.AreDigits rest
digits_from n [] h = absurd h
digits_from n (d ∷ ds) (inl h) = (d, ds, refl, (let a = h.1 in let b = h.2 in grind (arith, nat_tests)), h.3)
digits_from n (d ∷ ds) (inr h) = (d, ds, refl, (let a = h.1 in grind (arith, nat_tests)), subst json.AreDigits (sym h.2) tt)

minus_of : (neg : Bool) → Minus (sign_text neg)
minus_of false = json.positive
minus_of true = json.negative

power_of : (e : ℤ) → least_exponent ≤ℤ e → e ≤ℤ pos 6000 → Power (power_text e)
power_of (pos zero) low high = json.no_power
power_of (pos (suc n)) low high =
    let small : suc n < 10 ^ 64 = omega (arith, ints) in
    let w = digits_from (suc n) (decimal (suc n)) (decimal_whole (suc n) small) in
    subst (λ (ds : List ℕ). Power (69 ∷ ds)) (sym w.2) (json.power 69 [] w.1 w.0 (inr refl) json.no_sign w.3 w.4)
power_of (negsuc n) low high =
    let small : suc n < 10 ^ 64 = omega (arith, ints) in
    let w = digits_from (suc n) (decimal (suc n)) (decimal_whole (suc n) small) in
    subst (λ (ds : List ℕ). Power (69 ∷ 45 ∷ ds)) (sym w.2) (json.power 69 (45 ∷ []) w.1 w.0 (inr refl) json.minus w.3 w.4)

pub without_fraction : (s w p : List ℕ) → s ++ w ++ [] ++ p ≡ s ++ (w ++ p)
without_fraction s w p = ap (λ t. t ++ p) (append-nil (s ++ w)) ∙ append_assoc s w p

pub number_literal : (n : Number) → IsDec n → Literal (literal_of n)
unfolding literal_of
number_literal n h =
    let few : n.m < 10 ^ 64 = (let k = h.narrow.digits in omega arith) in
    subst Literal (without_fraction (sign_text n.neg) (decimal n.m) (power_text n.e))
    (json.literal (sign_text n.neg) (decimal n.m) [] (power_text n.e) (minus_of n.neg) (whole_from n.m (decimal n.m) (decimal_whole n.m few)) json.no_fraction (power_of n.e h.narrow.low h.narrow.high))

pub canonical_literal : (n : Number) → IsDec n → IsAsSent (record { literal = literal_of n; dec = n })
canonical_literal n h = record {
  literal = number_literal n h;
  reads = sym (numeral_tests (literal_of n) n (literal_numeral n h)).1;
  narrow = (numeral_tests (literal_of n) n (literal_numeral n h)).2 ∙ ap not (narrow_test n h.narrow);
}
