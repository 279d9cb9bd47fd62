-- The literals of numbers are texts, and those of coordinates are numbers.
use Rattle.std.proofs.Common.{◌≡◌, ℕ, ◌<◌, ◌≤ℤ◌, ◌^◌, ◌⊎◌, inl, inr, List, [], ◌∷◌, ◌++◌, Bool, true, Err, sym, subst, ◌∙◌, arith, ℤ, pos, neg_ℤ, unsigned_abs, true≢false}
use Rattle.std.specs.Str.{IsAscii, IsUtf8}
use Rattle.std.proofs.lemmas.Str.{IsAscii-append, IsUtf8-from_ascii}
use Rattle.std.proofs.lemmas.Str.Ascii.{IsAscii-nil}
use Rattle.std.proofs.lemmas.Bool.Decides.{nat_tests}
use Rattle.std.proofs.lemmas.Int.{ints}
use Rattle.sc_decimal.specs.Number.{Number}
use Rattle.sc_decimal.specs.Digits.{is_digit}
use Rattle.sc_decimal.specs.Numeral.{AreDigits, IsRow, Sign, no_sign, plus, minus, Mantissa, whole, mixed, fraction, Exponent, no_exponent, exponent, IsNumeral}
use Rattle.sc_decimal.specs.Value.{Answers}
use Rattle.sc_decimal.specs.declared.number.NumFault.{NumFault}
use Rattle.sc_decimal.specs.declared.number.NumFault.TheVariants.{NotANumber, NumberTooWide}
use Rattle.sc_time.proofs.Digits.{ascii_one}
use Rattle.sc_cqlwrite.specs.Coordinate.{coordinate_text}
use Rattle.sc_cqlback.proofs.Wholes.{coordinate_whole}
use Rattle.sc_cqlback.proofs.Coordinates.{coordinate_read}

-- ---- a number's text is ASCII

digit_small : (b : ℕ) → is_digit b ≡ true → b < 128
digit_small b h = grind (arith, nat_tests)

digits_ascii : (ds : List ℕ) → AreDigits ds → IsAscii ds
digits_ascii [] h = IsAscii-nil
digits_ascii (d ∷ ds) h = IsAscii-append (d ∷ []) ds (ascii_one d (digit_small d h.0)) (digits_ascii ds h.1)

row_ascii : (ds : List ℕ) → IsRow ds → IsAscii ds
row_ascii [] h = absurd h
row_ascii (d ∷ ds) h = digits_ascii (d ∷ ds) h

sign_ascii : (s : List ℕ) (neg : Bool) → Sign s neg → IsAscii s
sign_ascii _ _ no_sign = IsAscii-nil
sign_ascii _ _ plus = ascii_one 43 (omega arith)
sign_ascii _ _ minus = ascii_one 45 (omega arith)

behind_point : (fs : List ℕ) → IsRow fs → IsAscii (46 ∷ fs)
behind_point fs row = IsAscii-append (46 ∷ []) fs (ascii_one 46 (omega arith)) (row_ascii fs row)

mantissa_ascii : (m ds : List ℕ) (count : ℕ) → Mantissa m ds count → IsAscii m
mantissa_ascii _ _ _ (whole ds row) = row_ascii ds row
mantissa_ascii _ _ _ (mixed ds fs row rest) = IsAscii-append ds (46 ∷ fs) (row_ascii ds row) (behind_point fs rest)
mantissa_ascii _ _ _ (fraction fs row) = behind_point fs row

mark_small : (mark : ℕ) → (mark ≡ 101) ⊎ (mark ≡ 69) → mark < 128
mark_small mark (inl e) = omega arith
mark_small mark (inr e) = omega arith

power_ascii : (p : List ℕ) (e : ℤ) → Exponent p e → IsAscii p
power_ascii _ _ no_exponent = IsAscii-nil
power_ascii _ _ (exponent mark s ds neg is sign row) =
    IsAscii-append (mark ∷ []) (s ++ ds) (ascii_one mark (mark_small mark is)) (IsAscii-append s ds (sign_ascii s neg sign) (row_ascii ds row))

pub numeral_utf8 : (text : List ℕ) (n : Number) → IsNumeral text n → IsUtf8 text
numeral_utf8 text n is =
    let parts : IsAscii (is.sign ++ (is.mantissa ++ is.power)) =
    IsAscii-append is.sign (is.mantissa ++ is.power) (sign_ascii is.sign is.neg is.is_sign)
    (IsAscii-append is.mantissa is.power (mantissa_ascii is.mantissa is.digits is.places is.is_mantissa) (power_ascii is.power is.e is.is_exponent)) in
    IsUtf8-from_ascii text (subst IsAscii (sym is.text_is) parts)

-- ---- a coordinate's text is a number

pub coordinate_told : (steps : ℤ) (fault : NumFault) → neg_ℤ (pos 3_600_000_000) ≤ℤ steps → steps ≤ℤ pos 3_600_000_000 → Answers (coordinate_text steps) (Err fault) → ⊥
coordinate_told steps NumberTooWide low high told = true≢false (sym told ∙ (coordinate_read steps low high).0)
coordinate_told steps NotANumber low high told =
    let small : unsigned_abs steps < 2 ^ 64 = omega (arith, ints) in
    true≢false (sym (coordinate_whole steps small) ∙ told.0)
