-- Digits behind a point, read from the first on.
use Rattle.std.proofs.Common.{◌≡◌, ℕ, ◌+◌, ◌-◌, ◌*◌, ◌^◌, ◌<◌, ◌≤◌, true, List, length, take, drop, get_or, Some, None, refl, arith, sym, ap, ◌∙◌}
use Rattle.std.proofs.lemmas.Bool.Decides.{nat_tests}
use Rattle.std.proofs.lemmas.Nat.{pow-add}
use Rattle.std.proofs.Math.Nat.{mul-lt-mul_of_pos_right, pow-le-pow_right, one-le-pow}
use Rattle.std.proofs.lemmas.List.Sums.{prefix_len-drop_yes}
use Rattle.std.proofs.lemmas.List.{length-take-le}
use Rattle.std.proofs.lemmas.Int.Digits.{digits_value_more}
use Rattle.std.specs.List.{prefix_len}
use Rattle.std.specs.Char.{is_ascii_digit, digit_value}
use Rattle.std.specs.Str.Parse.{digits_value}
use Rattle.sc_time.specs.Form.{fraction_digits}

-- one more digit
pub one_more_below : (value count digit : ℕ) → value < 10 ^ count → digit < 10 → value * 10 + digit < 10 ^ (count + 1)
one_more_below value count digit below small = let grows : 10 ^ (count + 1) ≡ 10 ^ count * 10 = pow-add 10 count 1 in omega arith

pub room_for_more : (value count digit : ℕ) → value < 10 ^ count → count ≤ 9 → (count ≡ 9 → ⊥) → digit < 10 → value * 10 + digit < 1_000_000_000
room_for_more value count digit below few not_all small =
    let eight : count ≤ 8 = omega arith in
    let most : 10 ^ count ≤ 10 ^ 8 = pow-le-pow_right (omega arith) eight in
    let known : 10 ^ 8 ≡ 100_000_000 = refl in
    omega arith

pub scaled_below : (value count power : ℕ) → value < 10 ^ count → count ≤ 9 → power ≡ 10 ^ (9 - count) → value * power < 1_000_000_000
scaled_below value count power below few is =
    let positive : 0 < power = rw is (omega (arith, one-le-pow (9 - count) 10 (omega arith))) in
    let all : count + (9 - count) ≡ 9 = omega arith in
    let product : 10 ^ count * power ≡ 1_000_000_000 = rw is (sym (pow-add 10 count (9 - count)) ∙ ap (λ n. 10 ^ n) all) in
    let scaled : value * power < 10 ^ count * power = mul-lt-mul_of_pos_right below positive in
    omega arith

-- a digit's value is its code less that of 0
pub value_of_digit : (byte : ℕ) → is_ascii_digit byte ≡ true → digit_value byte ≡ byte - 48
value_of_digit byte is = grind (arith, nat_tests)

pub digit_below : (byte : ℕ) → is_ascii_digit byte ≡ true → (48 ≤ byte) × (byte - 48 < 10)
digit_below byte is = grind (arith, nat_tests)

pub number_more : (text : List ℕ) (count value : ℕ) → count < length text → is_ascii_digit (get_or text count 0) ≡ true → value ≡ digits_value 10 (take count text) → value * 10 + (get_or text count 0 - 48) ≡ digits_value 10 (take (count + 1) text)
number_more text count value within is number =
    rw (digits_value_more 10 text count within) (rw (value_of_digit (get_or text count 0) is) (rw number (omega arith)))

-- ten digits are too many
pub too_many : (text : List ℕ) (count : ℕ) → count ≡ 9 → count < length text → is_ascii_digit (get_or text count 0) ≡ true → prefix_len is_ascii_digit (drop count text) + count ≡ prefix_len is_ascii_digit text → fraction_digits text ≡ None
unfolding fraction_digits
too_many text count nine within is passed =
    let more = prefix_len-drop_yes is_ascii_digit text count 0 within is in
    let many : 10 ≤ prefix_len is_ascii_digit text = omega arith in
    grind (arith, nat_tests)

pub none_at_all : (text : List ℕ) (count : ℕ) → count ≡ 0 → prefix_len is_ascii_digit text ≡ count → fraction_digits text ≡ None
unfolding fraction_digits
none_at_all text count zero_is passed = grind (arith, nat_tests)

-- and 1 to 9 of them are a fraction
pub fraction_is : (text rest : List ℕ) (count value power : ℕ) → prefix_len is_ascii_digit text ≡ count → 0 < count → count ≤ 9 → count ≤ length text → value ≡ digits_value 10 (take count text) → power ≡ 10 ^ (9 - count) → rest ≡ drop count text → fraction_digits text ≡ Some (value * power, rest)
unfolding fraction_digits
fraction_is text rest count value power passed some few within number is rest_is =
    let long : length (take count text) ≡ count = length-take-le count text within in
    rw passed (rw rest_is (rw number (rw is (grind (arith, nat_tests)))))
