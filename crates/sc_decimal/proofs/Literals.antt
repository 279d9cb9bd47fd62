-- The canonical literal is the text of its number.
use Rattle.std.proofs.Common.{zero, suc, ◌≡◌, ℕ, ◌^◌, ◌<◌, List, [], ◌∷◌, length, refl, sym, ap, subst, inr, arith, ℤ, pos, negsuc, ◌-ℤ◌, ◌≤ℤ◌, Bool, true, false, Equal}
use Rattle.std.proofs.lemmas.Bool.Decides.{nat_tests}
use Rattle.std.proofs.lemmas.Int.{ints}
use Rattle.std.proofs.lemmas.Fmt.{decimal_is_IsNumeral_wide}
use Rattle.std.specs.Char.{digit_value}
use Rattle.std.specs.Fmt.{decimal, sign_text}
use Rattle.std.specs.Str.Parse.{digits_value, AllDigits}
use Rattle.sc_decimal.specs.Number.{Number, signed, order_of, number_in, lesser_exponent, least_exponent, IsDec}
use Rattle.sc_decimal.specs.Digits.{is_digit}
use Rattle.sc_decimal.specs.Numeral.{AreDigits, IsRow, Sign, no_sign, minus, plus, Mantissa, Exponent, no_exponent, exponent, IsNumeral}
use Rattle.sc_decimal.specs.Numeral as numerals
use Rattle.sc_decimal.specs.Literal.{power_text, literal_of}
use Rattle.sc_decimal.proofs.Order.{equal_int}
use Rattle.sc_decimal.proofs.Numerals.{one_numeral}

digit_from : (c : ℕ) → digit_value c < 10 → is_digit c ≡ true
digit_from c h = grind (arith, nat_tests, h)

digits_from : (ds : List ℕ) → AllDigits 10 ds → AreDigits ds
digits_from [] h = tt
digits_from (c ∷ cs) h = (digit_from c h.0, digits_from cs h.1)

row_from : (ds : List ℕ) → 0 < length ds → AllDigits 10 ds → IsRow ds
row_from [] some h = absurd (omega arith)
row_from (c ∷ cs) some h = digits_from (c ∷ cs) h

decimal_row : (n : ℕ) → n < 10 ^ 64 → IsRow (decimal n) × (digits_value 10 (decimal n) ≡ n)
decimal_row n small =
    let h = decimal_is_IsNumeral_wide n small in
    (row_from (decimal n) h.0.0 h.0.1, h.1)

sign_is : (neg : Bool) → Sign (sign_text neg) neg
sign_is false = no_sign
sign_is true = minus

power_is : (e : ℤ) → least_exponent ≤ℤ e → e ≤ℤ pos 6000 → Exponent (power_text e) e
power_is (pos zero) low high = no_exponent
power_is (pos (suc n)) low high =
    let small : suc n < 10 ^ 64 = omega (arith, ints) in
    let r = decimal_row (suc n) small in
    subst (Exponent (69 ∷ decimal (suc n))) (ap pos r.1) (exponent 69 [] (decimal (suc n)) false (inr refl) no_sign r.0)
power_is (negsuc n) low high =
    let small : suc n < 10 ^ 64 = omega (arith, ints) in
    let r = decimal_row (suc n) small in
    subst (Exponent (69 ∷ 45 ∷ decimal (suc n))) (ap (signed true) r.1) (exponent 69 (45 ∷ []) (decimal (suc n)) true (inr refl) minus r.0)

order_itself : (n : Number) → order_of n n ≡ Equal
unfolding order_of
order_itself n = equal_int (number_in (lesser_exponent n n) n) (number_in (lesser_exponent n n) n) refl

pub literal_numeral : (n : Number) → IsDec n → IsNumeral (literal_of n) n
unfolding literal_of
literal_numeral n h =
    let few : n.m < 10 ^ 64 = (let k = h.narrow.digits in omega arith) in
    let r = decimal_row n.m few in
    let e : n.e ≡ n.e -ℤ pos 0 = omega (arith, ints) in
    let same : n ≡ record { neg = n.neg; m = digits_value 10 (decimal n.m); e = n.e -ℤ pos 0 } = λ i. record { neg = n.neg; m = sym r.1 i; e = e i } in
    record {
      sign = sign_text n.neg;
      neg = n.neg;
      is_sign = sign_is n.neg;
      mantissa = decimal n.m;
      digits = decimal n.m;
      places = 0;
      is_mantissa = numerals.whole (decimal n.m) r.0;
      power = power_text n.e;
      e = n.e;
      is_exponent = power_is n.e h.narrow.low h.narrow.high;
      text_is = refl;
      is_normal = h.normal;
      is_value = subst (λ (x : Number). order_of n x ≡ Equal) same (order_itself n);
    }

-- two numbers with one literal are one
pub one_literal : (a b : Number) → IsDec a → IsDec b → literal_of a ≡ literal_of b → a ≡ b
one_literal a b p q e = one_numeral (literal_of a) a b (literal_numeral a p) (subst (λ (xs : List ℕ). IsNumeral xs b) (sym e) (literal_numeral b q))
