-- The literals of numbers and of moments, as numbers of JSON (RFC 8259 §6) and as decimal numbers.
use Rattle.std.proofs.Common.{zero, suc, ◌≡◌, ◌≢◌, ℕ, ◌+◌, ◌*◌, ◌/◌, ◌%◌, ◌^◌, ◌<◌, ◌≤◌, List, [], ◌∷◌, ◌++◌, length, get_or, drop, lit<, Bool, true, false, not, refl, sym, ap, subst, ◌∙◌, inl, inr, arith, ℤ, pos, negsuc, ◌-ℤ◌, Equal, Result, Ok, Err}
use Rattle.std.proofs.lemmas.Bool.{cases_eq}
use Rattle.std.proofs.lemmas.Bool.Decides.{nat_tests}
use Rattle.std.proofs.lemmas.Int.{ints}
use Rattle.std.proofs.Common.{FitsSigned, to_z, of_z, to_z-of_z}
use Rattle.std.specs.Int.{w128}
use Rattle.std.proofs.lemmas.List.{append-nil}
use Rattle.std.proofs.lemmas.Fmt.{decimal_is_IsNumeral_wide, parse-decimal_wide}
use Rattle.std.specs.Char.{digit_value}
use Rattle.std.specs.Result.{result_unwrap_or}
use Rattle.std.specs.Fmt.{decimal, signed_decimal}
use Rattle.std.specs.Str.Parse.{digits_value, AllDigits, ParsesUnsigned}
use Rattle.sc_time.specs.Instant.{IsInstant}
use Rattle.sc_decimal.specs.Number.{Number, order_of, IsNormal, IsNarrow, IsDec, zero_number}
use Rattle.sc_decimal.specs.Digits.{is_digit}
use Rattle.sc_decimal.specs.Numeral as numerals
use Rattle.sc_decimal.specs.Numeral.{AreDigits, IsRow, Sign, IsNumeral}
use Rattle.sc_decimal.specs.Literal.{literal_of}
use Rattle.sc_decimal.specs.Value.{number_of, is_wide}
use Rattle.sc_decimal.proofs.Numerals.{numeral_tests, narrow_test, scaled_equal, zero_equal}
use Rattle.sc_decimal.proofs.Keeping.{normal_digits, few_zeros}
use Rattle.std.proofs.Math.Nat.{pow-suc, one-le-pow, mul-le-mul_left}
use Rattle.sc_json.specs.Grammar as json
use Rattle.sc_json.proofs.CanonicalLiterals.{canonical_literal, decimal_whole, whole_from, digits_from, without_fraction}
use Rattle.sc_json.specs.Grammar.{Minus, Literal}

-- ---- numbers

pub number_read : (n : Number) → IsDec n → number_of (literal_of n) ≡ n
number_read n h = sym (canonical_literal n h).reads

pub number_kept : (n : Number) → IsDec n → is_wide (literal_of n) ≡ false
number_kept n h = (canonical_literal n h).narrow

-- ---- moments

digit_from : (c : ℕ) → digit_value c < 10 → is_digit c ≡ true
digit_from c h = grind (arith, nat_tests, h)

row_digits : (ds : List ℕ) → AllDigits 10 ds → AreDigits ds
row_digits [] h = tt
row_digits (c ∷ cs) h = (digit_from c h.0, row_digits cs h.1)

row_from : (ds : List ℕ) → 0 < length ds → AllDigits 10 ds → IsRow ds
row_from [] some h = absurd (omega arith)
row_from (c ∷ cs) some h = row_digits (c ∷ cs) h

decimal_row : (n : ℕ) → n < 10 ^ 64 → IsRow (decimal n) × (digits_value 10 (decimal n) ≡ n)
decimal_row n small = let h = decimal_is_IsNumeral_wide n small in (row_from (decimal n) h.0.0 h.0.1, h.1)

-- a number without the zeros at its end
record Trimmed (v : ℕ) : Type 0 where
  m : ℕ
  zeros : ℕ
  last : m % 10 ≢ 0
  same : m * 10 ^ zeros ≡ v

trim : (fuel v : ℕ) → v < fuel → 1 ≤ v → Trimmed v
trim zero v lt some = absurd (omega arith)
trim (suc fuel) v lt some = elim (cases_eq (v % 10) 0) [
  | inl tens ↦
      let t = trim fuel (v / 10) (omega arith) (omega arith) in
      let s = t.same in
      record { m = t.m; zeros = suc t.zeros; last = t.last; same = more t.m t.zeros s tens }
  | inr other ↦ record { m = v; zeros = 0; last = other; same = omega arith }
]
  where
    more : (m z : ℕ) → m * 10 ^ z ≡ v / 10 → v % 10 ≡ 0 → m * 10 ^ suc z ≡ v
    more m z s tens =
        let p : m * 10 ^ suc z ≡ m * (10 ^ z * 10) = ap (λ t. m * t) (pow-suc 10 z) in
        omega (arith, p, s, tens)

-- the number of a sign and the digits of a whole number
record IsWholeNumber (text : List ℕ) : Type 0 where
  number : Number
  numeral : IsNumeral text number
  narrow : IsNarrow number

abbrev spelled : (sign : List ℕ) (neg : Bool) → Sign sign neg → (n : ℕ) → IsRow (decimal n) → (number : Number) → IsNormal number
    → order_of number (record { neg = neg; m = digits_value 10 (decimal n); e = pos 0 -ℤ pos 0 }) ≡ Equal → IsNumeral (sign ++ decimal n) number
spelled sign neg is_sign n row number normal equal = record {
  sign = sign;
  neg = neg;
  is_sign = is_sign;
  mantissa = decimal n;
  digits = decimal n;
  places = 0;
  is_mantissa = numerals.whole (decimal n) row;
  power = [];
  e = pos 0;
  is_exponent = numerals.no_exponent;
  text_is = ap (λ t. sign ++ t) (sym (append-nil (decimal n)));
  is_normal = normal;
  is_value = equal;
}

one_digit_more : (m p n : ℕ) → 1 ≤ p → m * p ≡ n → n < 10 ^ 34 → m < 10 ^ 34
one_digit_more m p n some e small = let k = mul-le-mul_left m some in omega (arith, k, e, small)

whole_number : (sign : List ℕ) (neg : Bool) → Sign sign neg → (n : ℕ) → n < 10 ^ 34 → IsWholeNumber (sign ++ decimal n)
whole_number sign neg is_sign zero small =
    let r = decimal_row 0 (omega arith) in
    record {
      number = zero_number;
      numeral = spelled sign neg is_sign 0 r.0 zero_number (record { trimmed = λ h. refl }) (zero_equal (record { neg = neg; m = digits_value 10 (decimal 0); e = pos 0 -ℤ pos 0 }) r.1);
      narrow = record { digits = omega arith; low = omega (arith, ints); high = omega (arith, ints) };
    }
whole_number sign neg is_sign (suc k) small =
    let n : ℕ = suc k in
    let r = decimal_row (suc k) (omega arith) in
    let t = trim (suc (suc k)) (suc k) (omega arith) (omega arith) in
    let number : Number = record { neg = neg; m = t.m; e = pos t.zeros } in
    let same : t.m * 10 ^ t.zeros ≡ digits_value 10 (decimal (suc k)) = t.same ∙ sym r.1 in
    let some : 0 < t.m = positive t.m t.last in
    let few : t.zeros ≤ 38 = few_zeros t.m t.zeros (suc k) some t.same (omega arith) in
    record {
      number = number;
      numeral = spelled sign neg is_sign (suc k) r.0 number (normal_digits number t.last)
          (scaled_equal neg t.m t.zeros (digits_value 10 (decimal (suc k))) (pos t.zeros) (pos 0 -ℤ pos 0) (omega (arith, ints)) same);
      narrow = record {
        digits = one_digit_more t.m (10 ^ t.zeros) (suc k) (one-le-pow t.zeros 10 (lit< tt)) t.same small;
        low = omega (arith, ints);
        high = omega (arith, ints, few);
      };
    }
  where
    positive : (m : ℕ) → m % 10 ≢ 0 → 0 < m
    positive zero h = absurd (h refl)
    positive (suc m) h = omega arith

whole_kept : (text : List ℕ) → IsWholeNumber text → is_wide text ≡ false
whole_kept text h = (numeral_tests text h.number h.numeral).2 ∙ ap not (narrow_test h.number h.narrow)

whole_literal : (sign : List ℕ) → Minus sign → (n : ℕ) → n < 10 ^ 64 → Literal (sign ++ decimal n)
whole_literal sign minus n small =
    subst Literal (without_fraction sign (decimal n) [] ∙ ap (λ t. sign ++ t) (append-nil (decimal n)))
    (json.literal sign (decimal n) [] [] minus (whole_from n (decimal n) (decimal_whole n small)) json.no_fraction json.no_power)

pub moment_literal : (at : ℤ) → IsInstant at → Literal (signed_decimal at)
moment_literal (pos n) h = let late = h.1 in whole_literal [] json.positive n (omega (arith, ints, late))
moment_literal (negsuc n) h = let early = h.0 in whole_literal (45 ∷ []) json.negative (suc n) (omega (arith, ints, early))

pub moment_kept : (at : ℤ) → IsInstant at → is_wide (signed_decimal at) ≡ false
moment_kept (pos n) h = let late = h.1 in whole_kept (decimal n) (whole_number [] false numerals.no_sign n (omega (arith, ints, late)))
moment_kept (negsuc n) h = let early = h.0 in whole_kept (45 ∷ decimal (suc n)) (whole_number (45 ∷ []) true numerals.minus (suc n) (omega (arith, ints, early)))

-- ---- one moment for a text

decimal_value : (n : ℕ) → n < 10 ^ 64 → digits_value 10 (decimal n) ≡ n
decimal_value n small = (decimal_row n small).1

decimal_one : (m n : ℕ) → m < 10 ^ 64 → n < 10 ^ 64 → decimal m ≡ decimal n → m ≡ n
decimal_one m n p q e = sym (decimal_value m p) ∙ ap (digits_value 10) e ∙ decimal_value n q

no_dash : (n : ℕ) (ds : List ℕ) → n < 10 ^ 64 → decimal n ≡ 45 ∷ ds → ⊥
no_dash n ds small e =
    let w = digits_from n (decimal n) (decimal_whole n small) in
    let h : w.0 ≡ 45 = ap (λ xs. get_or xs 0 0) (sym w.2 ∙ e) in
    let d = w.3 in
    absurd (grind (arith, nat_tests, h, d))

pub moment_one : (a b : ℤ) → IsInstant a → IsInstant b → signed_decimal a ≡ signed_decimal b → a ≡ b
moment_one (pos m) (pos n) p q e = let x = p.1 in let y = q.1 in ap pos (decimal_one m n (omega (arith, ints, x)) (omega (arith, ints, y)) e)
moment_one (pos m) (negsuc n) p q e = let x = p.1 in absurd (no_dash m (decimal (suc n)) (omega (arith, ints, x)) e)
moment_one (negsuc m) (pos n) p q e = let y = q.1 in absurd (no_dash n (decimal (suc m)) (omega (arith, ints, y)) (sym e))
moment_one (negsuc m) (negsuc n) p q e =
    let x = p.0 in
    let y = q.0 in
    let s : suc m ≡ suc n = decimal_one (suc m) (suc n) (omega (arith, ints, x)) (omega (arith, ints, y)) (ap (λ (xs : List ℕ). drop 1 xs) e) in
    ap negsuc (omega (arith, s))

-- ---- a text that is of a moment

abbrev pub most : ℕ
most = 10 ^ 21

pub record IsBefore (at : ℤ) (digits : List ℕ) : Type 0 where
  pub size : ℕ
  pub is : at ≡ negsuc size
  pub small : suc size ≤ most
  pub spelled : digits ≡ decimal (suc size)

pub record IsFrom (at : ℤ) (digits : List ℕ) : Type 0 where
  pub size : ℕ
  pub is : at ≡ pos size
  pub small : size ≤ most
  pub spelled : digits ≡ decimal size

pub with_dash : (text digits : List ℕ) (at : ℤ) → IsInstant at → text ≡ signed_decimal at → text ≡ 45 ∷ digits → IsBefore at digits
with_dash text digits (pos n) h e d = let late = h.1 in absurd (no_dash n digits (omega (arith, ints, late)) (sym e ∙ d))
with_dash text digits (negsuc n) h e d = let early = h.0 in record { size = n; is = refl; small = omega (arith, ints, early); spelled = ap (λ (xs : List ℕ). drop 1 xs) (sym d ∙ e) }

pub without_dash : (text : List ℕ) (at : ℤ) → IsInstant at → text ≡ signed_decimal at → ((rest : List ℕ) → text ≢ 45 ∷ rest) → IsFrom at text
without_dash text (pos n) h e d = let late = h.1 in record { size = n; is = refl; small = omega (arith, ints, late); spelled = e }
without_dash text (negsuc n) h e d = absurd (d (decimal (suc n)) e)

-- ---- what parsing finds

pub parsed_size : {E : Type 0} (n size : ℕ) (digits : List ℕ) (r : Result ℕ E) → n ≤ most → digits ≡ decimal n → ParsesUnsigned 128 10 digits r → r ≡ Ok size → size ≡ n
parsed_size n size digits r small e parses found = ap (λ t. result_unwrap_or t 0) (sym found ∙ parse-decimal_wide 128 n digits r (omega arith) (omega arith) e parses)

pub parsed_none : {E : Type 0} (n : ℕ) (digits : List ℕ) (r : Result ℕ E) (fault : E) → n ≤ most → digits ≡ decimal n → ParsesUnsigned 128 10 digits r → r ≡ Err fault → ⊥
parsed_none n digits r fault small e parses found = let h = sym found ∙ parse-decimal_wide 128 n digits r (omega arith) (omega arith) e parses in cc

fits_after : (n : ℕ) → n ≤ most → FitsSigned w128 (pos n)
fits_after n small = omega (arith, ints, small)

fits_before : (n : ℕ) → suc n ≤ most → FitsSigned w128 (negsuc n)
fits_before n small = omega (arith, ints, small)

-- a size turned negative
pub negated : (n : ℕ) (z : ℤ) → suc n ≤ most → z ≡ pos (suc n) → to_z w128 (of_z w128 (pos 0 -ℤ to_z w128 (of_z w128 z))) ≡ negsuc n
negated n z small e =
    let minus : pos 0 -ℤ pos (suc n) ≡ negsuc n = omega (arith, ints) in
    ap (λ y. to_z w128 (of_z w128 (pos 0 -ℤ y))) (ap (λ x. to_z w128 (of_z w128 x)) e ∙ to_z-of_z (fits_after (suc n) small))
    ∙ ap (λ y. to_z w128 (of_z w128 y)) minus ∙ to_z-of_z (fits_before n small)
