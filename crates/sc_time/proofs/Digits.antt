-- What is written in digits is read back.
use Rattle.std.proofs.Common.{◌≡◌, ℕ, zero, suc, ◌+◌, ◌-◌, ◌*◌, ◌/◌, ◌%◌, ◌^◌, ◌<◌, ◌≢◌, true, List, [], ◌∷◌, ◌++◌, Some, refl, sym, ap, ◌∙◌, arith, append_assoc}
use Rattle.std.proofs.lemmas.Bool.Decides.{nat_tests}
use Rattle.std.specs.List.{prefix_len}
use Rattle.std.specs.Char.{is_ascii_digit, digit_value}
use Rattle.std.specs.Str.Parse.{digits_value}
use Rattle.sc_time.specs.Form.{two_digits, four_digits, fraction_digits}
use Rattle.std.specs.Str.{IsAscii}
use Rattle.std.proofs.lemmas.Str.{IsAscii-append}
use Rattle.std.proofs.lemmas.Int.Digits.{digits_value_push}
use Rattle.std.proofs.lemmas.Nat.{pow-add}
use Rattle.sc_time.proofs.Fractions.{fraction_is}
use Rattle.sc_time.specs.Written.{digits}

-- one digit more
pub digits_more : (width number : ℕ) → width ≢ 0 → digits width number ≡ digits (width - 1) (number / 10) ++ (48 + number % 10) ∷ []
unfolding digits
digits_more zero number some = absurd (some refl)
digits_more (suc width) number some = let back : suc width - 1 ≡ width = omega arith in rw back refl

-- the new digit joins the text
pub digits_pushed : (before middle after : List ℕ) (width number digit : ℕ) → width ≢ 0 → middle ≡ before ++ digits (width - 1) (number / 10) → digit ≡ 48 + number % 10 → after ≡ middle ++ digit ∷ [] → after ≡ before ++ digits width number
digits_pushed before middle after width number digit some first is last =
    rw (last, first, is, digits_more width number some) (append_assoc before (digits (width - 1) (number / 10)) ((48 + number % 10) ∷ []))

digit_of : (number : ℕ) → is_ascii_digit (48 + number % 10) ≡ true
digit_of number = grind (arith, nat_tests)

two_read : (tens ones : ℕ) (rest : List ℕ) → tens < 10 → ones < 10 → two_digits ((48 + tens) ∷ (48 + ones) ∷ rest) ≡ Some (tens * 10 + ones, rest)
two_read tens ones rest first last =
    let high : is_ascii_digit (48 + tens) ≡ true = grind (arith, nat_tests) in
    let low : is_ascii_digit (48 + ones) ≡ true = grind (arith, nat_tests) in
    let ten : 48 + tens - 48 ≡ tens = omega arith in
    let one : 48 + ones - 48 ≡ ones = omega arith in
    rw (high, low, ten, one) refl

-- two digits are read as the number
pub two_digits-digits : (number : ℕ) (rest : List ℕ) → number < 100 → two_digits (digits 2 number ++ rest) ≡ Some (number, rest)
unfolding digits
two_digits-digits number rest small =
    let whole : number / 10 % 10 * 10 + number % 10 ≡ number = omega arith in
    two_read (number / 10 % 10) (number % 10) rest (omega arith) (omega arith) ∙ ap (λ n. Some (n, rest)) whole

four_read : (a b c d : ℕ) (rest : List ℕ) → a < 10 → b < 10 → c < 10 → d < 10 → four_digits ((48 + a) ∷ (48 + b) ∷ (48 + c) ∷ (48 + d) ∷ rest) ≡ Some ((a * 10 + b) * 100 + (c * 10 + d), rest)
four_read a b c d rest first second third fourth =
    rw (two_read a b ((48 + c) ∷ (48 + d) ∷ rest) first second) (rw (two_read c d rest third fourth) refl)

pub four_digits-digits : (number : ℕ) (rest : List ℕ) → number < 10000 → four_digits (digits 4 number ++ rest) ≡ Some (number, rest)
unfolding digits
four_digits-digits number rest small =
    let whole : (number / 10 / 10 / 10 % 10 * 10 + number / 10 / 10 % 10) * 100 + (number / 10 % 10 * 10 + number % 10) ≡ number = omega arith in
    four_read (number / 10 / 10 / 10 % 10) (number / 10 / 10 % 10) (number / 10 % 10) (number % 10) rest (omega arith) (omega arith) (omega arith) (omega arith) ∙ ap (λ n. Some (n, rest)) whole

-- the digits and no more of what stands behind them
pub prefix_len-digits : (width number : ℕ) (rest : List ℕ) → prefix_len is_ascii_digit (digits width number ++ rest) ≡ width + prefix_len is_ascii_digit rest
unfolding digits
prefix_len-digits zero number rest = omega arith
prefix_len-digits (suc width) number rest =
    rw (append_assoc (digits width (number / 10)) ((48 + number % 10) ∷ []) rest)
    (rw (prefix_len-digits width (number / 10) ((48 + number % 10) ∷ rest)) (rw (digit_of number) (omega arith)))

value_of : (number : ℕ) → digit_value (48 + number % 10) ≡ number % 10
value_of number = grind (arith, nat_tests)

pub digits_value-digits : (width number : ℕ) → number < 10 ^ width → digits_value 10 (digits width number) ≡ number
unfolding digits
digits_value-digits zero number small = omega (arith, small)
digits_value-digits (suc width) number small =
    let grows : 10 ^ suc width ≡ 10 ^ width * 10 = (let next : suc width ≡ width + 1 = omega arith in rw next (pow-add 10 width 1)) in
    let shorter : number / 10 < 10 ^ width = omega arith in
    rw (digits_value_push 10 (digits width (number / 10)) (48 + number % 10))
    (rw (value_of number, digits_value-digits width (number / 10) shorter) (omega arith))

-- nine digits are read as the nanoseconds
pub fraction_digits-digits : (number : ℕ) → number < 1_000_000_000 → fraction_digits (digits 9 number ++ 90 ∷ []) ≡ Some (number, 90 ∷ [])
unfolding digits
fraction_digits-digits number small =
    let bound : number < 10 ^ 9 = small in
    fraction_is (digits 9 number ++ 90 ∷ []) (90 ∷ []) 9 number 1 (prefix_len-digits 9 number (90 ∷ [])) (omega arith) (omega arith) (omega arith) (sym (digits_value-digits 9 number bound)) refl refl
    ∙ (let one : number * 1 ≡ number = omega arith in ap (λ n. Some (n, 90 ∷ [])) one)

-- and all of it is ASCII
pub ascii_one : (byte : ℕ) → byte < 128 → IsAscii (byte ∷ [])
ascii_one byte small zero = small
ascii_one byte small (suc i) = omega arith

pub ascii_digits : (width number : ℕ) → IsAscii (digits width number)
unfolding digits
ascii_digits zero number = λ i. omega arith
ascii_digits (suc width) number =
    IsAscii-append (digits width (number / 10)) ((48 + number % 10) ∷ []) (ascii_digits width (number / 10)) (ascii_one (48 + number % 10) (omega arith))
