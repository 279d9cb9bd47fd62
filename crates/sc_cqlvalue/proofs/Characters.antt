-- What stands within quotes stays UTF-8 where pairs of bytes become one quote.
use Rattle.std.proofs.Common.{◌≡◌, ℕ, ◌+◌, ◌/◌, ◌%◌, ◌<◌, ◌≤◌, List, [], ◌∷◌, ◌++◌, drop, Bool, true, false, cond, ltb, length, IsUtf8, refl, sym, ap, subst, ◌∙◌, arith, ◌⊎◌, inl, inr}
use Rattle.std.proofs.lemmas.Bool.{cases_lt, ltb-true, and_parts}
use Rattle.std.proofs.lemmas.Str.{IsUtf8-nil, IsUtf8-encode, IsUtf8-append, IsUtf8-from_ascii, encode_ascii, length-encode, len_utf8_bounds}
use Rattle.std.proofs.lemmas.Str.Ascii.{IsAscii-cons}
use Rattle.std.specs.Char.{encode_utf8}
use lib.Utf8.{scalar, scalars, encode, encodes}
use Rattle.sc_cqlvalue.specs.Literals.{is_pair, unescaped}
use Rattle.sc_cqlvalue.proofs.Quotes.{pair_here, byte_here}

abbrev AllHigh : List ℕ → Type 0
AllHigh [] = Unit {0}
AllHigh (b ∷ bs) = (128 ≤ b) × AllHigh bs

-- the bytes of a character past ASCII
char_high : (c : ℕ) → 128 ≤ c → AllHigh (encode_utf8 c)
unfolding encode_utf8
char_high c past = split (ltb c 128) (ltb c 2048) (ltb c 65536) refl
  where
    split : (p q r : Bool) → ltb c 128 ≡ p → AllHigh (cond p (c ∷ []) (cond q ((192 + c / 64) ∷ (128 + c % 64) ∷ []) (cond r ((224 + c / 4096) ∷ (128 + c / 64 % 64) ∷ (128 + c % 64) ∷ []) ((240 + c / 262144) ∷ (128 + c / 4096 % 64) ∷ (128 + c / 64 % 64) ∷ (128 + c % 64) ∷ []))))
    split true q r e = absurd (omega (arith, past, ltb-true c 128 e))
    split false true r e = (omega arith, (omega arith, tt))
    split false false true e = (omega arith, (omega arith, (omega arith, tt)))
    split false false false e = (omega arith, (omega arith, (omega arith, (omega arith, tt))))

true_false : true ≡ false → ⊥
true_false e = cc

module _ (quote mark : ℕ) (small : quote < 128) (low : mark < 128) where
  no_pair : (a : ℕ) (bytes : List ℕ) → 128 ≤ a → is_pair quote mark (a ∷ bytes) ≡ false
  no_pair a [] high = refl
  no_pair a (b ∷ bytes) high = grind arith

  high_stays : (hs rest : List ℕ) → AllHigh hs → unescaped quote mark (hs ++ rest) ≡ hs ++ unescaped quote mark rest
  high_stays [] rest all = refl
  high_stays (h ∷ hs) rest all = byte_here quote mark h (hs ++ rest) (no_pair h (hs ++ rest) all.0) ∙ ap (λ (xs : List ℕ). h ∷ xs) (high_stays hs rest all.1)

  second_high : (a : ℕ) (hs rest : List ℕ) → AllHigh hs → 1 ≤ length hs → is_pair quote mark (a ∷ (hs ++ rest)) ≡ false
  second_high a [] rest all some = absurd (omega arith)
  second_high a (h ∷ hs) rest all some = grind arith

  ascii : (b : ℕ) → b < 128 → IsUtf8 (b ∷ [])
  ascii b lt = IsUtf8-from_ascii (b ∷ []) (IsAscii-cons b [] lt (λ i. omega arith))

  with_byte : (b : ℕ) (bytes : List ℕ) → b < 128 → IsUtf8 bytes → IsUtf8 (b ∷ bytes)
  with_byte b bytes lt u = IsUtf8-append (b ∷ []) bytes (ascii b lt) u

  behind_small : (c d : ℕ) (ds : List ℕ) → c < 128 → scalar d ≡ true → IsUtf8 (unescaped quote mark (encodes (d ∷ ds))) → IsUtf8 (unescaped quote mark (encodes ds)) →
      (d < 128) ⊎ (128 ≤ d) → (p : Bool) → is_pair quote mark (c ∷ encodes (d ∷ ds)) ≡ p → IsUtf8 (unescaped quote mark (c ∷ encodes (d ∷ ds)))
  behind_small c d ds lt ok next after size false e =
      subst IsUtf8 (sym (byte_here quote mark c (encodes (d ∷ ds)) e)) (with_byte c (unescaped quote mark (encodes (d ∷ ds))) lt next)
  behind_small c d ds lt ok next after (inl little) true e =
      let one : encodes (d ∷ ds) ≡ d ∷ encodes ds = ap (λ (xs : List ℕ). xs ++ encodes ds) (encode_ascii d little) in
      let pair : unescaped quote mark (c ∷ encodes (d ∷ ds)) ≡ quote ∷ unescaped quote mark (drop 2 (c ∷ encodes (d ∷ ds))) = pair_here quote mark (c ∷ encodes (d ∷ ds)) e in
      let rest : drop 2 (c ∷ encodes (d ∷ ds)) ≡ encodes ds = ap (λ (xs : List ℕ). drop 2 (c ∷ xs)) one in
      subst IsUtf8 (sym (pair ∙ ap (λ (xs : List ℕ). quote ∷ unescaped quote mark xs) rest)) (with_byte quote (unescaped quote mark (encodes ds)) small after)
  behind_small c d ds lt ok next after (inr high) true e =
      let none : is_pair quote mark (c ∷ (encode d ++ encodes ds)) ≡ false =
      second_high c (encode d) (encodes ds) (char_high d high) (omega (arith, length-encode d, len_utf8_bounds d)) in
      absurd (true_false (sym e ∙ none))

  -- a character, and what comes of the others
  one_more : (c : ℕ) (cs : List ℕ) → scalar c ≡ true → IsUtf8 (unescaped quote mark (encodes cs)) → (c < 128 → IsUtf8 (unescaped quote mark (c ∷ encodes cs))) → (c < 128) ⊎ (128 ≤ c) → IsUtf8 (unescaped quote mark (encodes (c ∷ cs)))
  one_more c cs ok rest as_byte (inl little) =
      subst (λ (xs : List ℕ). IsUtf8 (unescaped quote mark (xs ++ encodes cs))) (sym (encode_ascii c little)) (as_byte little)
  one_more c cs ok rest as_byte (inr high) =
      subst IsUtf8 (sym (high_stays (encode c) (encodes cs) (char_high c high)))
      (IsUtf8-append (encode c) (unescaped quote mark (encodes cs)) (IsUtf8-encode c ok) rest)

  chars_stay : (cs : List ℕ) → scalars cs ≡ true → IsUtf8 (unescaped quote mark (encodes cs))
  unfolding unescaped
  chars_stay [] ok = IsUtf8-nil
  chars_stay (c ∷ []) ok = one_more c [] (and_parts (scalar c) (scalars []) ok).0 IsUtf8-nil (ascii c) (cases_lt c 128)
  chars_stay (c ∷ d ∷ ds) ok =
      let both = and_parts (scalar c) (scalars (d ∷ ds)) ok in
      let more = and_parts (scalar d) (scalars ds) both.1 in
      let next = chars_stay (d ∷ ds) both.1 in
      let after = chars_stay ds more.1 in
      one_more c (d ∷ ds) both.0 next (λ lt. behind_small c d ds lt more.0 next after (cases_lt d 128) (is_pair quote mark (c ∷ encodes (d ∷ ds))) refl) (cases_lt c 128)

  pub unescaped_utf8 : (bytes : List ℕ) → IsUtf8 bytes → IsUtf8 (unescaped quote mark bytes)
  unescaped_utf8 bytes u = subst (λ (xs : List ℕ). IsUtf8 (unescaped quote mark xs)) u.1.1 (chars_stay u.0 u.1.0)

  pub unescaped_some : (bytes : List ℕ) → 1 ≤ length bytes → 1 ≤ length (unescaped quote mark bytes)
  unescaped_some [] some = absurd (omega arith)
  unescaped_some (a ∷ bytes) some = by_pair (is_pair quote mark (a ∷ bytes)) refl
    where
      by_pair : (p : Bool) → is_pair quote mark (a ∷ bytes) ≡ p → 1 ≤ length (unescaped quote mark (a ∷ bytes))
      by_pair true e = rw (pair_here quote mark (a ∷ bytes) e) (omega arith)
      by_pair false e = rw (byte_here quote mark a bytes e) (omega arith)
