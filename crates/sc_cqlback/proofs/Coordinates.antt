-- The text of a coordinate is the number of its steps.
use Rattle.std.proofs.Common.{◌≡◌, ◌≢◌, ℕ, zero, suc, ◌+◌, ◌-◌, ◌*◌, ◌/◌, ◌%◌, ◌^◌, ◌<◌, ◌≤◌, List, [], ◌∷◌, ◌++◌, length, Bool, true, false, not, ◌&&◌, Option, Some, None, inl, inr, refl, sym, ap, subst, ◌∙◌, append-nil, mul_assoc, arith, Equal, ℤ, pos, negsuc, neg_ℤ, ◌+ℤ◌, ◌-ℤ◌, ◌≤ℤ◌, unsigned_abs}
use Rattle.std.specs.Prelude.{int_lt}
use Rattle.std.specs.Option.{option_map}
use Rattle.std.specs.Fmt.{decimal, sign_text}
use Rattle.std.specs.Char.{digit_value}
use Rattle.std.specs.Str.Parse.{digits_value, digits_value_after}
use Rattle.std.proofs.lemmas.Fmt.{decimal_is_IsNumeral_wide}
use Rattle.std.proofs.lemmas.Int.{ints}
use Rattle.std.proofs.lemmas.Bool.{cases_eq, cases_lt, eq-eqb, ne_eqb, le-leb, le-ltb}
use Rattle.std.proofs.lemmas.Bool.Decides.{nat_tests}
use Rattle.std.proofs.Math.Nat.{pow-suc, pow-succ', one-le-pow, mul-le-mul_left}
use Rattle.std.proofs.lemmas.Nat.{pow-add}
use Rattle.sc_decimal.specs.Number.{Number, signed, above, zero_number, order_of, IsNormal}
use Rattle.sc_decimal.specs.Grid.{grid_exponent, nearest, kept_on_grid, grid_of}
use Rattle.sc_decimal.specs.Numeral.{Mantissa, no_exponent, IsNumeral}
use Rattle.sc_decimal.specs.Numeral as numerals
use Rattle.sc_decimal.specs.Value.{is_wide, is_narrow, number_of}
use Rattle.sc_decimal.proofs.Numerals.{zero_equal, scaled_equal, narrow_test, numeral_tests}
use Rattle.sc_decimal.proofs.Nearest.{nearest_up}
use Rattle.sc_decimal.proofs.Order.{above_is}
use Rattle.sc_cqlwrite.specs.Coordinate.{places, fraction_text, coordinate_text}
use Rattle.sc_cqlwrite.proofs.Places.{unit_some, digit_small, rest_small, places_more}
use Rattle.sc_cqlback.proofs.Wholes.{decimal_row, places_row, sign_is, no_fraction, some_fraction}

-- ---- the digits behind the point

small_value : (d : ℕ) → d < 10 → digit_value (48 + d) ≡ d
small_value d small = grind (arith, nat_tests)

whole_rest : (rest unit : ℕ) → 0 < unit → rest / unit * unit + rest % unit ≡ rest
whole_rest rest unit some = omega arith

-- so many places more
abbrev scale_of : ℕ → ℕ → ℕ
scale_of count rest = 10 ^ (count - length (places count rest))

places_few : (count rest : ℕ) → length (places count rest) ≤ count
unfolding places
places_few zero rest = omega arith
places_few (suc count) rest =
    elim (cases_eq rest 0) [
      | inl e ↦ rw (eq-eqb rest 0 e) (omega arith)
      | inr ne ↦ rw (ne_eqb rest 0 ne) (omega (arith, places_few count (rest % 10 ^ count)))
    ]

places_value : (count rest n : ℕ) → rest < 10 ^ count → digits_value_after 10 n (places count rest) * scale_of count rest ≡ n * 10 ^ count + rest
unfolding places
places_value zero rest n within = let none : rest ≡ 0 = omega arith in rw none (omega arith)
places_value (suc count) rest n within =
    elim (cases_eq rest 0) [
      | inl e ↦ rw (eq-eqb rest 0 e, e) (let all : suc count - 0 ≡ suc count = omega arith in rw all (omega arith))
      | inr ne ↦
          let back : suc count - 1 ≡ count = omega arith in
          let unit = 10 ^ count in
          let one : unit ≡ 10 ^ (suc count - 1) = ap (λ k. 10 ^ k) (sym back) in
          let first : rest / unit < 10 = digit_small (suc count) rest unit (omega arith) within one in
          let below : rest % unit < 10 ^ count = rw back at (rest_small (suc count) rest unit one) in
          let more = places_value count (rest % unit) (n * 10 + rest / unit) below in
          let few = places_few count (rest % unit) in
          let shift : suc count - length ((48 + rest / unit) ∷ places count (rest % unit)) ≡ count - length (places count (rest % unit)) = omega arith in
          let whole = whole_rest rest unit (unit_some count) in
          let grown : (n * 10 + rest / unit) * unit + rest % unit ≡ n * 10 ^ suc count + rest =
          rw (pow-succ' 10 count) (omega (arith, whole)) in
          let rest_digits = places count (rest % unit) in
          rw (ne_eqb rest 0 ne)
          (ap (λ (v : ℕ). digits_value_after 10 (n * 10 + v) rest_digits * 10 ^ (suc count - length ((48 + rest / unit) ∷ rest_digits))) (small_value (rest / unit) first)
          ∙ ap (λ (k : ℕ). digits_value_after 10 (n * 10 + rest / unit) rest_digits * 10 ^ k) shift ∙ more ∙ grown)
    ]

after_append : (n : ℕ) (xs ys : List ℕ) → digits_value_after 10 n (xs ++ ys) ≡ digits_value_after 10 (digits_value_after 10 n xs) ys
after_append n [] ys = refl
after_append n (x ∷ xs) ys = after_append (n * 10 + digit_value x) xs ys

-- ---- the one form of a number

record IsStripped (v m z k : ℕ) : Type 0 where
  last : m % 10 ≡ 0 → ⊥
  whole : m * 10 ^ z ≡ v
  few : z < k

strip : (k v : ℕ) → 0 < v → v < 10 ^ k → (m : ℕ) × (z : ℕ) × IsStripped v m z k
strip zero v some within = absurd (omega arith)
strip (suc k) v some within =
    elim (cases_eq (v % 10) 0) [
      | inl e ↦
          let tenth : v / 10 * 10 ≡ v = omega arith in
          let fits : v / 10 < 10 ^ k = (let h = rw (pow-succ' 10 k) at within in omega arith) in
          let below = strip k (v / 10) (omega arith) fits in
          let is = below.2 in (
            below.0,
            suc below.1,
            record {
              last = is.last;
              whole = rw (pow-suc 10 below.1) (omega (arith, is.whole, tenth));
              few = (let f = is.few in omega arith);
            },
          )
      | inr ne ↦ (v, 0, record { last = ne; whole = omega arith; few = omega arith })
    ]

-- ---- the text

text_with : (d rest : ℕ) → d < 10 ^ 64 → rest < 10_000_000 → (digits : List ℕ) × (count : ℕ) × Mantissa (decimal d ++ fraction_text rest) digits count × (count ≤ 7) × (digits_value 10 digits * 10 ^ (7 - count) ≡ d * 10_000_000 + rest)
text_with d rest small within =
    let row = decimal_row d small in
    let value : digits_value 10 (decimal d) ≡ d = (decimal_is_IsNumeral_wide d small).1 in
    elim (cases_eq rest 0) [
      | inl e ↦ (
        decimal d,
        0,
        subst (λ (x : List ℕ). Mantissa x (decimal d) 0) (sym (append-nil (decimal d)) ∙ ap (λ (x : List ℕ). decimal d ++ x) (sym (no_fraction rest e))) (numerals.whole (decimal d) row),
        omega arith,
        rw value (omega arith),
      )
      | inr ne ↦
          let size : 10_000_000 ≡ 10 ^ 7 = refl in
          let fits : rest < 10 ^ 7 = omega arith in
          let sum = places_value 7 rest d fits in (
            decimal d ++ places 7 rest,
            length (places 7 rest),
            subst (λ (x : List ℕ). Mantissa (decimal d ++ x) (decimal d ++ places 7 rest) (length (places 7 rest))) (sym (some_fraction rest ne)) (numerals.mixed (decimal d) (places 7 rest) row (places_row 6 rest ne fits)),
            places_few 7 rest,
            rw (after_append 0 (decimal d) (places 7 rest), value) sum,
          )
    ]

-- the number in its one form, and how it lies on the grid
record IsNumberOf (neg : Bool) (steps : ℕ) (text : List ℕ) : Type 0 where
  number : Number
  numeral : IsNumeral text number
  narrow : is_narrow number ≡ true
  grid : grid_of number ≡ Some (signed neg steps)

no_value : (v k : ℕ) → v * 10 ^ k ≡ 0 → v ≡ 0
no_value v k e = let some = mul-le-mul_left v (one-le-pow k 10 (omega arith)) in omega arith

not_more : (v k s : ℕ) → v * 10 ^ k ≡ s → v ≤ s
not_more v k s e = let some = mul-le-mul_left v (one-le-pow k 10 (omega arith)) in omega arith

zero_on_grid : grid_of zero_number ≡ Some (pos 0)
unfolding grid_of
zero_on_grid =
    let none : 0 * 10 ^ above (pos 0) grid_exponent ≡ 0 = omega arith in
    ap (λ (s : ℕ). option_map (signed false) (kept_on_grid s)) (nearest_up zero_number (omega (arith, ints)) ∙ none)

positive : (v k s : ℕ) → v * 10 ^ k ≡ s → (s ≡ 0 → ⊥) → 0 < v
positive zero k s e some = let none : 0 * 10 ^ k ≡ 0 = omega arith in absurd (some (sym e ∙ none))
positive (suc v) k s e some = omega arith

regroup : (a b c v s : ℕ) → a * b ≡ v → v * c ≡ s → a * (b * c) ≡ s
regroup a b c v s e f = sym (mul_assoc a b c) ∙ ap (λ (x : ℕ). x * c) e ∙ f

grid_steps : (n : Number) (s : ℕ) → nearest n ≡ s → s ≤ 3_600_000_000 → grid_of n ≡ Some (signed n.neg s)
unfolding grid_of
grid_steps n s e le = ap (λ (k : ℕ). option_map (signed n.neg) (kept_on_grid k)) e ∙ rw (le-leb s 3_600_000_000 le) refl

above_grid : (count z : ℕ) → count ≤ 7 → above (pos 0 -ℤ pos count +ℤ pos z) grid_exponent ≡ z + (7 - count)
above_grid count z few =
    let high : grid_exponent ≤ℤ (pos 0 -ℤ pos count +ℤ pos z) = omega (arith, ints) in
    omega (arith, ints, above_is (pos 0 -ℤ pos count +ℤ pos z) grid_exponent high)

module _ (neg : Bool) (steps : ℕ) (mantissa digits : List ℕ) (count : ℕ) (is : Mantissa mantissa digits count) (few : count ≤ 7) (value : digits_value 10 digits * 10 ^ (7 - count) ≡ steps) (most : steps ≤ 3_600_000_000) where
  numeral_of : (n : Number) → IsNormal n → order_of n (record { neg = neg; m = digits_value 10 digits; e = pos 0 -ℤ pos count }) ≡ Equal → IsNumeral (sign_text neg ++ (mantissa ++ [])) n
  numeral_of n normal same = record {
    sign = sign_text neg;
    neg = neg;
    is_sign = sign_is neg;
    mantissa = mantissa;
    digits = digits;
    places = count;
    is_mantissa = is;
    power = [];
    e = pos 0;
    is_exponent = no_exponent;
    text_is = refl;
    is_normal = normal;
    is_value = same;
  }

  zero_is : steps ≡ 0 → neg ≡ false → IsNumberOf neg steps (sign_text neg ++ (mantissa ++ []))
  zero_is none plain = record {
    number = zero_number;
    numeral = numeral_of zero_number (record { trimmed = λ h. refl }) (zero_equal _ (no_value (digits_value 10 digits) (7 - count) (value ∙ none)));
    narrow = refl;
    grid = zero_on_grid ∙ ap (λ (b : Bool). Some (signed b 0)) (sym plain) ∙ ap (λ (s : ℕ). Some (signed neg s)) (sym none);
  }

  some_is : (steps ≡ 0 → ⊥) → IsNumberOf neg steps (sign_text neg ++ (mantissa ++ []))
  some_is some =
      let v = digits_value 10 digits in
      let small : v ≤ steps = not_more v (7 - count) steps value in
      let filled : 0 < v = positive v (7 - count) steps value some in
      let form = strip 11 v filled (omega arith) in
      let m = form.0 in let z = form.1 in let f = form.2 in
      let low = pos 0 -ℤ pos count in
      let n : Number = record { neg = neg; m = m; e = low +ℤ pos z } in
      let m_small : m ≤ v = not_more m z v f.whole in
      let zs = f.few in
      let up : above (low +ℤ pos z) grid_exponent ≡ z + (7 - count) = above_grid count z few in
      let scaled : m * 10 ^ (z + (7 - count)) ≡ steps = rw (pow-add 10 z (7 - count)) (regroup m (10 ^ z) (10 ^ (7 - count)) v steps f.whole value) in
      let nearest_is : nearest n ≡ steps = nearest_up n (omega (arith, ints)) ∙ ap (λ (k : ℕ). m * 10 ^ k) up ∙ scaled in
      record {
        number = n;
        numeral = numeral_of n (record { trimmed = λ h. absurd (f.last h) }) (scaled_equal neg m z v (low +ℤ pos z) low refl f.whole);
        narrow = narrow_test n (record { digits = omega arith; low = omega (arith, ints); high = omega (arith, ints) });
        grid = grid_steps n steps nearest_is most;
      }

not_negative : (n : ℕ) → int_lt (pos n) (pos 0) ≡ false
not_negative n = le-ltb n 0 (omega arith)

signed_back : (z : ℤ) → signed (int_lt z (pos 0)) (unsigned_abs z) ≡ z
signed_back (pos n) = ap (λ (b : Bool). signed b n) (not_negative n)
signed_back (negsuc n) = refl

no_sign_of_zero : (z : ℤ) → unsigned_abs z ≡ 0 → int_lt z (pos 0) ≡ false
no_sign_of_zero (pos n) e = not_negative n
no_sign_of_zero (negsuc n) e = absurd (omega (arith, e))

size_small : (z : ℤ) → neg_ℤ (pos 3_600_000_000) ≤ℤ z → z ≤ℤ pos 3_600_000_000 → unsigned_abs z ≤ 3_600_000_000
size_small z low high = omega (arith, ints)

pub coordinate_read : (steps : ℤ) → neg_ℤ (pos 3_600_000_000) ≤ℤ steps → steps ≤ℤ pos 3_600_000_000 → (is_wide (coordinate_text steps) ≡ false) × (grid_of (number_of (coordinate_text steps)) ≡ Some steps)
unfolding coordinate_text
coordinate_read steps low high =
    let size = unsigned_abs steps in let neg = int_lt steps (pos 0) in
    let few : size ≤ 3_600_000_000 = size_small steps low high in
    let t = text_with (size / 10_000_000) (size % 10_000_000) (omega arith) (omega arith) in
    let body : List ℕ = decimal (size / 10_000_000) ++ fraction_text (size % 10_000_000) in
    let whole : size / 10_000_000 * 10_000_000 + size % 10_000_000 ≡ size = omega arith in
    let is : IsNumberOf neg size (sign_text neg ++ (body ++ [])) = elim (cases_eq size 0) [
      | inl e ↦ zero_is neg size body t.0 t.1 t.2 t.3 (t.4 ∙ whole) few e (no_sign_of_zero steps e)
      | inr ne ↦ some_is neg size body t.0 t.1 t.2 t.3 (t.4 ∙ whole) few ne
    ] in
    let here : IsNumberOf neg size (sign_text neg ++ body) = subst (λ (x : List ℕ). IsNumberOf neg size (sign_text neg ++ x)) (append-nil body) is in
    let told = numeral_tests (sign_text neg ++ body) here.number here.numeral in
    (told.2 ∙ ap not here.narrow, ap grid_of told.1 ∙ here.grid ∙ ap (λ (z : ℤ). Some z) (signed_back steps))
