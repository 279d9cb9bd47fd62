-- Numbers that stop at the most items of a page: by digits, by a power of ten, and as a limit.
use Rattle.std.proofs.Common.{◌≡◌, ℕ, ◌+◌, ◌-◌, ◌*◌, ◌^◌, ◌≤◌, ◌<◌, Bool, true, ◌&&◌, List, [], ◌∷◌, sym, ◌∙◌, ap, arith}
use Rattle.std.proofs.Math.Nat.{pow-le-pow_right, one-le-pow}
use Rattle.std.proofs.lemmas.Nat.{mul-le}
use Rattle.std.proofs.lemmas.Bool.Decides.{nat_tests}
use Rattle.std.specs.List.{list_all}
use Rattle.std.specs.Prelude.{min}
use Rattle.std.specs.Char.{digit_value, is_ascii_digit}
use Rattle.std.specs.Str.Parse.{digits_value_after}

capped : (n : ℕ) (ds : List ℕ) → min (digits_value_after 10 (min n 10000) ds) 10000 ≡ min (digits_value_after 10 n ds) 10000
capped n [] = omega arith
capped n (d ∷ ds) =
    let e : min (min n 10000 * 10 + digit_value d) 10000 ≡ min (n * 10 + digit_value d) 10000 = omega arith in
    sym (capped (min n 10000 * 10 + digit_value d) ds)
    ∙ ap (λ k. min (digits_value_after 10 k ds) 10000) e
    ∙ capped (n * 10 + digit_value d) ds

value_of_digit : (c : ℕ) → is_ascii_digit c ≡ true → digit_value c ≡ c - 48
value_of_digit c h = grind (arith, nat_tests)

pub digits_step : (rest others : List ℕ) (first total digit next v : ℕ) → rest ≡ first ∷ others → digit ≡ first - 48 → next ≡ min (total * 10 + digit) 10000 → is_ascii_digit first ≡ true → min (digits_value_after 10 total rest) 10000 ≡ v → min (digits_value_after 10 next others) 10000 ≡ v
digits_step rest others first total digit next v e d n h i =
    ap (λ k. min (digits_value_after 10 k others) 10000) (n ∙ ap (λ k. min (total * 10 + k) 10000) (d ∙ sym (value_of_digit first h)))
    ∙ capped (total * 10 + digit_value first) others
    ∙ ap (λ r. min (digits_value_after 10 total r) 10000) (sym e)
    ∙ i

pub all_step : (rest others : List ℕ) (first : ℕ) (v : Bool) → rest ≡ first ∷ others → is_ascii_digit first ≡ true → list_all is_ascii_digit rest ≡ v → list_all is_ascii_digit others ≡ v
all_step rest others first v e h i = sym (ap (λ t. t && list_all is_ascii_digit others) h) ∙ ap (list_all is_ascii_digit) (sym e) ∙ i

-- a power of ten from 10,000 on
pub by_power : (m e : ℕ) → 0 < m → 4 ≤ e → 10000 ≡ min (m * 10 ^ e) 10000
by_power m e some great =
    let power : 10 ^ 4 ≤ 10 ^ e = pow-le-pow_right {n = 10} (omega arith) great in
    let most : 1 * 10 ^ 4 ≤ m * 10 ^ e = mul-le 1 (10 ^ 4) m (10 ^ e) some power in
    omega arith

-- a number from 10,000 on
pub by_number : (m e : ℕ) → 10000 ≤ m → 10000 ≡ min (m * 10 ^ e) 10000
by_number m e great =
    let power : 1 ≤ 10 ^ e = one-le-pow e 10 (omega arith) in
    let most : 10000 * 1 ≤ m * 10 ^ e = mul-le 10000 1 m (10 ^ e) great power in
    omega arith
