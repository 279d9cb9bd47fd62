-- Which number is kept of any number.
use Rattle.std.proofs.Common.{◌≡◌, ◌≢◌, ℕ, ◌+◌, ◌*◌, ◌/◌, ◌%◌, ◌^◌, ◌<◌, ◌≤◌, refl, sym, ap, subst, inl, inr, ◌∙◌, arith, ℤ, pos, ◌+ℤ◌, Bool, true, Some, None, Result, Ok, Err, Equal}
use Rattle.std.proofs.lemmas.Int.{ints}
use Rattle.sc_decimal.specs.Number.{Number, order_of, IsNormal, IsNarrow, IsDec, IsKept, zero_number}
use Rattle.sc_decimal.specs.Value.{is_narrow, AnswersNumber}
use Rattle.sc_decimal.specs.declared.number.NumFault.{NumFault}
use Rattle.sc_decimal.specs.declared.number.NumFault.TheVariants.{NotANumber, NumberTooWide}
use Rattle.std.proofs.lemmas.Bool.{cases_lt}
use Rattle.std.proofs.lemmas.Nat.{pow-add}
use Rattle.std.proofs.Math.Nat.{mul-le-mul}
use Rattle.sc_decimal.proofs.Scales.{grows}
use Rattle.sc_decimal.proofs.Order.{normal_same}
use Rattle.sc_decimal.proofs.Numerals.{equal_through, scaled_equal, zero_equal, narrow_from, narrow_test}

-- none is kept where the normal form is too wide
pub none_kept : (n t : Number) → IsNormal t → order_of t n ≡ Equal → (IsNarrow t → ⊥) → IsKept n None
none_kept n t normal e wide = λ d h f.
    (let same : d ≡ t = normal_same d t h.normal normal (equal_through d t n f e) in wide (subst IsNarrow same h.narrow))

pub kept_ok : (n t d : Number) → IsNormal t → order_of t n ≡ Equal → AnswersNumber t (Ok d) → IsKept n (Some d)
kept_ok n t d normal e h =
    let back : t ≡ d = sym h.0 in
    (subst IsDec back (record { normal = normal; narrow = narrow_from t h.1 }), subst (λ (x : Number). order_of x n ≡ Equal) back e)

pub kept_err : (n t : Number) (fault : NumFault) → IsNormal t → order_of t n ≡ Equal → AnswersNumber t (Err fault) → IsKept n None
kept_err n t NumberTooWide normal e h = none_kept n t normal e (λ k. (let x : is_narrow t ≡ true = narrow_test t k in absurd cc))
kept_err n t NotANumber normal e h = absurd h

pub normal_digits : (t : Number) → t.m % 10 ≢ 0 → IsNormal t
normal_digits t h = record { trimmed = λ e. absurd (h e) }

pub zero_kept : (n : Number) → n.m ≡ 0 → IsKept n (Some zero_number)
zero_kept n e = (record { normal = record { trimmed = λ h. refl }; narrow = record { digits = omega arith; low = omega (arith, ints); high = omega (arith, ints) } }, zero_equal n e)

-- the digits without their zeros, and the exponent that makes up for them
pub made : (neg : Bool) (m zeros digits : ℕ) (e high : ℤ) → high ≡ e +ℤ pos zeros → digits * 10 ^ zeros ≡ m → order_of (record { neg = neg; m = digits; e = high }) (record { neg = neg; m = m; e = e }) ≡ Equal
made neg m zeros digits e high is same = scaled_equal neg digits zeros m high e is same

pub made_ok : (neg : Bool) (m zeros digits : ℕ) (e high : ℤ) (r : Result Number NumFault) → AnswersNumber (record { neg = neg; m = digits; e = high }) r → high ≡ e +ℤ pos zeros → digits * 10 ^ zeros ≡ m → digits % 10 ≢ 0 → (d : Number) → r ≡ Ok d → IsKept (record { neg = neg; m = m; e = e }) (Some d)
made_ok neg m zeros digits e high r h is same last d f =
    kept_ok (record { neg = neg; m = m; e = e }) (record { neg = neg; m = digits; e = high }) d (normal_digits (record { neg = neg; m = digits; e = high }) last) (made neg m zeros digits e high is same) (subst (AnswersNumber (record { neg = neg; m = digits; e = high })) f h)

pub made_err : (neg : Bool) (m zeros digits : ℕ) (e high : ℤ) (r : Result Number NumFault) → AnswersNumber (record { neg = neg; m = digits; e = high }) r → high ≡ e +ℤ pos zeros → digits * 10 ^ zeros ≡ m → digits % 10 ≢ 0 → (fault : NumFault) → r ≡ Err fault → IsKept (record { neg = neg; m = m; e = e }) None
made_err neg m zeros digits e high r h is same last fault f =
    kept_err (record { neg = neg; m = m; e = e }) (record { neg = neg; m = digits; e = high }) fault (normal_digits (record { neg = neg; m = digits; e = high }) last) (made neg m zeros digits e high is same) (subst (AnswersNumber (record { neg = neg; m = digits; e = high })) f h)

pub made_wide : (neg : Bool) (m zeros digits : ℕ) (e : ℤ) → 10 ^ 34 ≤ digits → digits * 10 ^ zeros ≡ m → digits % 10 ≢ 0 → IsKept (record { neg = neg; m = m; e = e }) None
made_wide neg m zeros digits e wide same last =
    none_kept (record { neg = neg; m = m; e = e }) (record { neg = neg; m = digits; e = e +ℤ pos zeros }) (normal_digits (record { neg = neg; m = digits; e = e +ℤ pos zeros }) last) (made neg m zeros digits e (e +ℤ pos zeros) refl same) (λ k. (let f = k.digits in absurd (omega arith)))

-- ---- zeros behind digits

pub few_zeros : (digits zeros m : ℕ) → 0 < digits → digits * 10 ^ zeros ≡ m → m < 2 ^ 128 → zeros ≤ 38
few_zeros digits zeros m some same small =
    elim (cases_lt 38 zeros) [
      | inl many ↦ absurd (
          let g : 10 ^ 39 ≤ 10 ^ zeros = grows 39 zeros (omega arith) in
          let one : 1 ≤ digits = omega arith in
          let h : 1 * 10 ^ zeros ≤ digits * 10 ^ zeros = mul-le-mul {n₁ = 1} one (omega arith) in
          omega (arith, g, h, same, small))
      | inr few ↦ few
    ]

pub one_fewer : (rest zeros m : ℕ) → 0 < rest → rest % 10 ≡ 0 → rest * 10 ^ zeros ≡ m → (0 < rest / 10) × (rest / 10 * 10 ^ (zeros + 1) ≡ m)
one_fewer rest zeros m some ends same =
    let whole : rest ≡ rest / 10 * 10 = omega arith in
    let up : rest / 10 * 10 ^ (zeros + 1) ≡ rest / 10 * (10 ^ zeros * 10) = ap (λ (x : ℕ). rest / 10 * x) (pow-add 10 zeros 1) in
    let back : rest * 10 ^ zeros ≡ rest / 10 * 10 * 10 ^ zeros = ap (λ (x : ℕ). x * 10 ^ zeros) whole in
    let turned : rest / 10 * 10 * 10 ^ zeros ≡ rest / 10 * (10 ^ zeros * 10) = omega arith in
    (omega arith, up ∙ sym turned ∙ sym back ∙ same)
