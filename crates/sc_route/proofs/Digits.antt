-- A number that stops at a bound while its digits are read.
use Rattle.std.proofs.Common.{◌≡◌, ℕ, ◌+◌, ◌-◌, ◌*◌, Bool, true, ◌&&◌, List, [], ◌∷◌, sym, ◌∙◌, ap, arith}
use Rattle.std.proofs.lemmas.Bool.Decides.{nat_tests}
use Rattle.std.specs.List.{list_all}
use Rattle.std.specs.Prelude.{min}
use Rattle.std.specs.Char.{digit_value, is_ascii_digit}
use Rattle.std.specs.Str.Parse.{digits_value_after}

module _ (most : ℕ) where
  capped : (n : ℕ) (ds : List ℕ) → min (digits_value_after 10 (min n most) ds) most ≡ min (digits_value_after 10 n ds) most
  capped n [] = omega arith
  capped n (d ∷ ds) =
      let e : min (min n most * 10 + digit_value d) most ≡ min (n * 10 + digit_value d) most = omega arith in
      sym (capped (min n most * 10 + digit_value d) ds)
      ∙ ap (λ k. min (digits_value_after 10 k ds) most) e
      ∙ capped (n * 10 + digit_value d) ds

  value_of_digit : (c : ℕ) → is_ascii_digit c ≡ true → digit_value c ≡ c - 48
  value_of_digit c h = grind (arith, nat_tests)

  pub digits_step : (rest others : List ℕ) (first total digit next v : ℕ) → rest ≡ first ∷ others → digit ≡ first - 48
      → next ≡ min (total * 10 + digit) most → is_ascii_digit first ≡ true → min (digits_value_after 10 total rest) most ≡ v
      → min (digits_value_after 10 next others) most ≡ v
  digits_step rest others first total digit next v e d n h i =
      ap (λ k. min (digits_value_after 10 k others) most) (n ∙ ap (λ k. min (total * 10 + k) most) (d ∙ sym (value_of_digit first h)))
      ∙ capped (total * 10 + digit_value first) others
      ∙ ap (λ r. min (digits_value_after 10 total r) most) (sym e)
      ∙ i

pub all_step : (rest others : List ℕ) (first : ℕ) (v : Bool) → rest ≡ first ∷ others → is_ascii_digit first ≡ true → list_all is_ascii_digit rest ≡ v → list_all is_ascii_digit others ≡ v
all_step rest others first v e h i = sym (ap (λ t. t && list_all is_ascii_digit others) h) ∙ ap (list_all is_ascii_digit) (sym e) ∙ i
