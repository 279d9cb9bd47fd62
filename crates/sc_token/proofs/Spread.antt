-- Digits in the place of bytes, from the last byte on.
use Rattle.std.proofs.Common.{◌≡◌, ℕ, ◌+◌, ◌*◌, ◌/◌, ◌%◌, ◌<◌, ◌≤◌, ◌≢◌, List, ◌∷◌, length, take, drop, slice_index, slice_set, get_or-set_other, refl, sym, subst, ap, ◌∙◌, arith}
use Rattle.std.proofs.lemmas.List.{drop-set, drop_all, get_or-take, length-set, length-take-le}
use Rattle.hex.specs.Hex.{encode_lower, encode_with, lower_digits}
use Rattle.hex.proofs.Pairs.{encode_with-drop}

-- the first bytes are as they were, and the digits of the others stand at the end
pub record IsSpread (bytes now : List ℕ) (at : ℕ) : Type 0 where
  pub within : at ≤ length bytes
  pub room : length now ≡ 2 * length bytes
  pub front : (k : ℕ) → k < at → slice_index now k ≡ slice_index bytes k
  pub digits : drop (2 * at) now ≡ encode_lower (drop at bytes)

pub spread_start : (now : List ℕ) (count : ℕ) → length now ≡ 2 * count → IsSpread (take count now) now count
unfolding encode_with
spread_start now count room =
    let len : length (take count now) ≡ count = length-take-le count now (omega arith) in
    record {
      within = omega (arith, len);
      room = omega (arith, len, room);
      front = λ k lt. sym (get_or-take count now k 0 lt);
      digits = rw (drop_all (2 * count) now (omega arith), drop_all count (take count now) (omega (arith, len))) refl;
    }

pub spread_end : (bytes now : List ℕ) → IsSpread bytes now 0 → now ≡ encode_lower bytes
spread_end bytes now h = h.digits

-- one byte more
pub spread_step : (bytes now : List ℕ) (at high low : ℕ) → IsSpread bytes now (at + 1) → high ≡ slice_index lower_digits (slice_index now at / 16) → low ≡ slice_index lower_digits (slice_index now at % 16)
    → IsSpread bytes (slice_set (slice_set now (2 * at + 1) low) (2 * at) high) at
spread_step bytes now at high low h eh el =
    let within : at < length bytes = (let w = h.within in omega arith) in
    let room : length now ≡ 2 * length bytes = h.room in
    let one : length (slice_set now (2 * at + 1) low) ≡ length now = length-set now (2 * at + 1) low in
    let two : length (slice_set (slice_set now (2 * at + 1) low) (2 * at) high) ≡ length (slice_set now (2 * at + 1) low) = length-set (slice_set now (2 * at + 1) low) (2 * at) high in
    let same : slice_index now at ≡ slice_index bytes at = h.front at (omega arith) in
    let inner : drop (2 * at + 1) (slice_set now (2 * at + 1) low) ≡ low ∷ drop (2 * at + 1 + 1) now = drop-set now (2 * at + 1) low (omega arith) in
    let outer : drop (2 * at) (slice_set (slice_set now (2 * at + 1) low) (2 * at) high) ≡ high ∷ drop (2 * at + 1) (slice_set now (2 * at + 1) low) = drop-set (slice_set now (2 * at + 1) low) (2 * at) high (omega (arith, one)) in
    let rest : drop (2 * at + 1 + 1) now ≡ encode_lower (drop (at + 1) bytes) = subst (λ n. drop n now ≡ encode_lower (drop (at + 1) bytes)) (omega arith) h.digits in
    let coded = encode_with-drop lower_digits bytes at within in
    record {
      within = omega arith;
      room = omega (arith, one, two, room);
      front = λ k lt.
          let far : k ≢ 2 * at = omega arith in
          let near : k ≢ 2 * at + 1 = omega arith in
          rw (get_or-set_other, get_or-set_other) (h.front k (omega arith));
      digits = outer ∙ ap (λ xs. high ∷ xs) inner ∙ ap (λ xs. high ∷ low ∷ xs) rest
          ∙ ap (λ d. d ∷ low ∷ encode_lower (drop (at + 1) bytes)) (eh ∙ ap (λ b. slice_index lower_digits (b / 16)) same)
          ∙ ap (λ d. slice_index lower_digits (slice_index bytes at / 16) ∷ d ∷ encode_lower (drop (at + 1) bytes)) (el ∙ ap (λ b. slice_index lower_digits (b % 16)) same)
          ∙ sym coded;
    }
