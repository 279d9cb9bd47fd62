-- Lower-case digits of bytes, and the bytes of UTF-8.
use Rattle.std.proofs.Common.{◌≡◌, ℕ, zero, suc, ◌+◌, ◌/◌, ◌%◌, ◌<◌, Bool, true, false, cond, ltb, ◌&&◌, List, [], ◌∷◌, ◌++◌, slice_index, Some, None, Ok, refl, subst, ap, ◌∙◌, arith, inl, inr, IsUtf8}
use Rattle.std.proofs.lemmas.Bool.{cases_lt, and_parts}
use Rattle.std.proofs.lemmas.Bool.Decides.{nat_tests}
use Rattle.std.proofs.lemmas.List.Elements.{All-cons, All-nil, All-head, All-tail}
use Rattle.std.proofs.lemmas.Str.Ascii.{IsAscii-from_reads}
use Rattle.std.proofs.lemmas.Str.{IsUtf8-from_ascii, is_utf8-from_IsUtf8}
use Rattle.std.proofs.Math.Utf8.{scalars}
use Rattle.std.specs.Prelude.{encode_utf8_all}
use Rattle.sc_base.specs.Text.{text_of}
use Rattle.sc_json.proofs.RunsOn.{and_both}
use Rattle.std.specs.List.{AllPass}
use Rattle.std.specs.Str.{IsAscii, is_utf8}
use Rattle.std.specs.Char.{IsScalar, encode_utf8}
use Rattle.hex.specs.Hex.{IsBytes, decode_of, encode_lower, encode_with, lower_digits, is_hex_digit}
use Rattle.hex.proofs.HexLemmas.{length-encode_with, decode_of-encode_lower, decode_of-digits, decode_of-same, IsAscii-encode_with}
use Rattle.sc_token.specs.Reading.{is_lower_digit, IsHex, IsHexOf}

-- ---- a test of the sixteen digits

abbrev all_below : (ℕ → Bool) → ℕ → Bool
all_below test zero = true
all_below test (suc n) = test n && all_below test n

test_at : (test : ℕ → Bool) (n k : ℕ) → all_below test n ≡ true → k < n → test k ≡ true
test_at test zero k h lt = absurd (omega arith)
test_at test (suc n) k h lt =
    let parts = and_parts (test n) (all_below test n) h in
    elim (cases_lt k n) [
      | inl below ↦ test_at test n k parts.1 below
      | inr top ↦ let e : k ≡ n = omega arith in rw e parts.0
    ]

lower_at : (d : ℕ) → d < 16 → is_lower_digit (slice_index lower_digits d) ≡ true
lower_at d lt = test_at (λ k. is_lower_digit (slice_index lower_digits k)) 16 d refl lt

tail_bytes : (b : ℕ) (bytes : List ℕ) → IsBytes (b ∷ bytes) → IsBytes bytes
tail_bytes b bytes h i = h (suc i)

abbrev IsLower : ℕ → Type 0
IsLower c = is_lower_digit c ≡ true

all_lower : (bytes : List ℕ) → IsBytes bytes → AllPass is_lower_digit (encode_lower bytes)
unfolding encode_with
all_lower [] h = All-nil IsLower
all_lower (b ∷ bytes) h =
    let small : b < 256 = h 0 in
    All-cons IsLower (slice_index lower_digits (b / 16)) (slice_index lower_digits (b % 16) ∷ encode_lower bytes) (lower_at (b / 16) (omega arith))
    (All-cons IsLower (slice_index lower_digits (b % 16)) (encode_lower bytes) (lower_at (b % 16) (omega arith)) (all_lower bytes (tail_bytes b bytes h)))

-- the digits of bytes stand for them
pub digits_of_bytes : (bytes : List ℕ) → IsBytes bytes → IsHexOf (encode_lower bytes) bytes
digits_of_bytes bytes h =
    let len = length-encode_with lower_digits bytes in
    record {
      hex = record { even = omega (arith, len); digits = all_lower bytes h };
      bytes_are = decode_of-encode_lower bytes h;
    }

-- and for no others
pub one_bytes : (text a b : List ℕ) → IsHexOf text a → IsHexOf text b → a ≡ b
one_bytes text a b p q = decode_of-same text a b p.bytes_are q.bytes_are

lower_is_hex : (c : ℕ) → is_lower_digit c ≡ true → is_hex_digit c ≡ true
lower_is_hex c h = grind (arith, nat_tests, h)

all_hex : (text : List ℕ) → AllPass is_lower_digit text → AllPass is_hex_digit text
all_hex [] h = All-nil (λ c. is_hex_digit c ≡ true)
all_hex (c ∷ cs) h =
    All-cons (λ c. is_hex_digit c ≡ true) c cs (lower_is_hex c (All-head IsLower c cs h)) (all_hex cs (All-tail IsLower c cs h))

-- lower-case digits in pairs stand for bytes
pub hex_decodes : (text : List ℕ) → IsHex text → (bytes : List ℕ) × (decode_of text ≡ Ok bytes)
hex_decodes text h = decode_of-digits text h.even (all_hex text h.digits)

-- ---- digits are UTF-8

ascii_below : (d : ℕ) → d < 16 → slice_index lower_digits d < 128
ascii_below d lt = let t = test_at (λ k. ltb (slice_index lower_digits k) 128) 16 d refl lt in grind (arith, nat_tests, t)

digits_ascii : IsAscii lower_digits
digits_ascii = IsAscii-from_reads lower_digits 16 (omega arith) ascii_below

pub digits_utf8 : (bytes : List ℕ) → is_utf8 (encode_lower bytes) ≡ true
digits_utf8 bytes = is_utf8-from_IsUtf8 (encode_lower bytes) (IsUtf8-from_ascii (encode_lower bytes) (IsAscii-encode_with lower_digits bytes digits_ascii))

pub digits_text : (digits bytes : List ℕ) → digits ≡ encode_lower bytes → text_of digits ≡ Some digits
digits_text digits bytes e = ap (λ b. cond b (Some digits) None) (ap is_utf8 e ∙ digits_utf8 bytes)

-- ---- bytes of UTF-8

abbrev AreBytes : List ℕ → Type 0
AreBytes [] = Unit {0}
AreBytes (b ∷ bs) = (b < 256) × AreBytes bs

bytes_append : (xs ys : List ℕ) → AreBytes xs → AreBytes ys → AreBytes (xs ++ ys)
bytes_append [] ys p q = q
bytes_append (x ∷ xs) ys p q = (p.0, bytes_append xs ys p.1 q)

char_bytes : (c : ℕ) → IsScalar c → AreBytes (encode_utf8 c)
unfolding encode_utf8
char_bytes c s = split (ltb c 128) (ltb c 2048) (ltb c 65536) refl refl refl
  where
    small : c < 1114112
    small = grind (arith, nat_tests, s)

    split : (p q r : Bool) → ltb c 128 ≡ p → ltb c 2048 ≡ q → ltb c 65536 ≡ r → AreBytes (cond p (c ∷ []) (cond q ((192 + c / 64) ∷ (128 + c % 64) ∷ []) (cond r ((224 + c / 4096) ∷ (128 + c / 64 % 64) ∷ (128 + c % 64) ∷ []) ((240 + c / 262144) ∷ (128 + c / 4096 % 64) ∷ (128 + c / 64 % 64) ∷ (128 + c % 64) ∷ []))))
    split true q r e f g = (grind (arith, nat_tests, e), tt)
    split false true r e f g = (grind (arith, nat_tests, f), (omega arith, tt))
    split false false true e f g = (grind (arith, nat_tests, g), (omega arith, (omega arith, tt)))
    split false false false e f g = (omega (arith, small), (omega arith, (omega arith, (omega arith, tt))))

chars_bytes : (cs : List ℕ) → scalars cs ≡ true → AreBytes (encode_utf8_all cs)
chars_bytes [] all = tt
chars_bytes (c ∷ cs) all = let both = and_both _ (scalars cs) all in bytes_append (encode_utf8 c) (encode_utf8_all cs) (char_bytes c both.0) (chars_bytes cs both.1)

bytes_at : (bs : List ℕ) → AreBytes bs → IsBytes bs
bytes_at [] h i = omega arith
bytes_at (b ∷ bs) h zero = h.0
bytes_at (b ∷ bs) h (suc i) = bytes_at bs h.1 i

pub utf8_bytes : (bs : List ℕ) → IsUtf8 bs → IsBytes bs
utf8_bytes bs u = bytes_at bs (subst AreBytes u.1.1 (chars_bytes u.0 u.1.0))
