-- The longest front of whole characters, by the last place where a character begins.
use Rattle.std.proofs.Common.{◌≡◌, ℕ, ◌<◌, ◌≤◌, min, List, length, take, sym, ap, subst, ◌∙◌, ◌⊎◌, inl, inr, arith}
use Rattle.std.specs.Str.{IsUtf8, IsCharBoundary}
use Rattle.std.specs.Str.Lossy.{utf8_valid_len}
use Rattle.std.proofs.lemmas.List.{length-take, take-take, take_min}
use Rattle.std.proofs.lemmas.Str.{utf8_valid_len-IsValidUpTo, utf8_valid_len-IsUtf8, IsUtf8-take, IsCharBoundary-from_take}
use Rattle.std.proofs.lemmas.Bool.{cases_lt}
use Rattle.sc_base.specs.Text.{front_within}

module _ (text : List ℕ) (most kept : ℕ) (utf8 : IsUtf8 text) (bound : kept ≤ most) (boundary : IsCharBoundary text kept)
    (nearest : (i : ℕ) → kept < i → i ≤ most → ¬ (IsCharBoundary text i)) where
  size : length (take most text) ≡ min most (length text)
  size = length-take most text

  front : IsUtf8 (take kept (take most text))
  front = subst IsUtf8 (sym (take-take kept most text bound)) (IsUtf8-take text kept utf8 boundary)

  longest : kept < length (take most text) → (m : ℕ) → kept < m → ¬ (IsUtf8 (take m (take most text)))
  longest short m lt whole =
      let i : ℕ = min m (length (take most text)) in
      let same : take m (take most text) ≡ take i text =
      sym (take_min m (take most text)) ∙ take-take i most text (omega (arith, size)) in
      nearest i (omega (arith, size, short, lt)) (omega (arith, size)) (IsCharBoundary-from_take text i utf8 (omega (arith, size)) (subst IsUtf8 same whole))

  valid : (kept < length (take most text)) ⊎ (length (take most text) ≤ kept) → utf8_valid_len (take most text) ≡ kept
  valid (inl short) = utf8_valid_len-IsValidUpTo (take most text) kept (record { short = short; front = front; longest = longest short })
  valid (inr le) =
      let whole : kept ≡ length (take most text) = (let within = boundary.0 in omega (arith, size, le, bound, within)) in
      let all : take kept (take most text) ≡ take most text =
      take-take kept most text bound ∙ ap (λ k. take k text) (whole ∙ size) ∙ take_min most text in
      utf8_valid_len-IsUtf8 (take most text) (subst IsUtf8 all front) ∙ sym whole

  pub front_is : take kept text ≡ front_within most text
  front_is = ap (λ k. take k text) (sym (valid (cases_lt kept (length (take most text)))))
