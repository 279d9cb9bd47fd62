-- The characters of a text in quotes are UTF-8, and so is what they stand for.
use Rattle.std.proofs.Common.{◌≡◌, ◌≢◌, ℕ, ◌+◌, ◌-◌, ◌*◌, ◌/◌, ◌%◌, ◌<◌, ◌≤◌, List, [], ◌∷◌, Bool, true, false, cond, ltb, IsUtf8, Some, refl, sym, subst, ◌∙◌, arith, ◌⊎◌, inl, inr}
use Rattle.std.proofs.lemmas.Bool.{cases_lt}
use Rattle.std.proofs.lemmas.Bool.Decides.{nat_tests}
use Rattle.std.proofs.lemmas.Str.{IsUtf8-nil, IsUtf8-encode, IsUtf8-append, is_utf8-from_IsUtf8, encode_ascii}
use Rattle.std.specs.Char.{IsScalar, InScalarRange, encode_utf8}
use Rattle.sc_base.specs.Text.{text_of}
use Rattle.sc_json.specs.Hex.{utf8_of, halves}
use Rattle.sc_json.proofs.Hexadecimal.{code_below}
use Rattle.sc_json.specs.Grammar as grammar
use Rattle.sc_json.specs.Grammar.{Letter, Piece, plain, letter, unit, pair, Pieces, no_piece, one_more}

pub utf8_is : (c : ℕ) → utf8_of c ≡ encode_utf8 c
unfolding utf8_of encode_utf8
utf8_is c = refl

pub scalar_in : (c : ℕ) → InScalarRange c → IsScalar c
scalar_in c h = grind (arith, nat_tests)

-- ---- bytes that stand for themselves

pub record IsPlainByte (b : ℕ) : Type 0 where
  pub low : 32 ≤ b
  pub no_quote : b ≢ 34
  pub no_slash : b ≢ 92

abbrev pub ArePlain : List ℕ → Type 0
ArePlain [] = Unit {0}
ArePlain (b ∷ bs) = IsPlainByte b × ArePlain bs

plain_from : (b : ℕ) → 128 ≤ b → IsPlainByte b
plain_from b le = record { low = omega arith; no_quote = λ e. absurd (omega (arith, e)); no_slash = λ e. absurd (omega (arith, e)) }

-- the bytes of a character that stands for itself
pub char_plain : (c : ℕ) → IsPlainByte c → ArePlain (encode_utf8 c)
unfolding encode_utf8
char_plain c h = split (ltb c 128) (ltb c 2048) (ltb c 65536)
  where
    split : (p q r : Bool) → ArePlain (cond p (c ∷ []) (cond q ((192 + c / 64) ∷ (128 + c % 64) ∷ []) (cond r ((224 + c / 4096) ∷ (128 + c / 64 % 64) ∷ (128 + c % 64) ∷ []) ((240 + c / 262144) ∷ (128 + c / 4096 % 64) ∷ (128 + c / 64 % 64) ∷ (128 + c % 64) ∷ []))))
    split true q r = (h, tt)
    split false true r = (plain_from _ (omega arith), (plain_from _ (omega arith), tt))
    split false false true = (plain_from _ (omega arith), (plain_from _ (omega arith), (plain_from _ (omega arith), tt)))
    split false false false = (plain_from _ (omega arith), (plain_from _ (omega arith), (plain_from _ (omega arith), (plain_from _ (omega arith), tt))))

pub plain_char : (c : ℕ) → ArePlain (encode_utf8 c) → IsPlainByte c
plain_char c h = elim (cases_lt c 128) [
  | inl small ↦ (subst ArePlain (encode_ascii c small) h).0
  | inr big ↦ plain_from c big
]

-- ---- what a character stands for

pub record IsOneChar (stands : List ℕ) : Type 0 where
  pub c : ℕ
  pub scalar : IsScalar c
  pub is : stands ≡ encode_utf8 c

letter_char : (c v : ℕ) → Letter c v → v < 128
letter_char _ _ grammar.quote = omega arith
letter_char _ _ grammar.backslash = omega arith
letter_char _ _ grammar.slash = omega arith
letter_char _ _ grammar.b = omega arith
letter_char _ _ grammar.f = omega arith
letter_char _ _ grammar.n = omega arith
letter_char _ _ grammar.r = omega arith
letter_char _ _ grammar.t = omega arith

pub halves_scalar : (high low : ℕ) → 55296 ≤ high → high < 56320 → 56320 ≤ low → low < 57344 → IsScalar (halves high low)
unfolding halves
halves_scalar high low a b c d = scalar_in (65536 + (high - 55296) * 1024 + (low - 56320)) (inr (omega arith, omega arith))

pub piece_char : {m stands : List ℕ} → Piece m stands → IsOneChar stands
piece_char (plain m stands r) = record { c = r.c; scalar = r.scalar; is = r.stands_is }
piece_char (letter m stands r) =
    let small = letter_char r.c r.v r.names in
    record { c = r.v; scalar = scalar_in r.v (inl (omega (arith, small))); is = r.stands_is ∙ sym (encode_ascii r.v small) }
piece_char (unit m stands r) = record { c = r.code; scalar = scalar_in r.code (range r.code (code_below r.a r.b r.c r.d r.code r.hex) r.single); is = r.stands_is }
  where
    range : (code : ℕ) → code < 65536 → (code < 55296) ⊎ (57344 ≤ code) → InScalarRange code
    range code small (inl lt) = inl lt
    range code small (inr ge) = inr (ge, omega arith)
piece_char (pair m stands r) = record { c = halves r.high r.low; scalar = halves_scalar r.high r.low r.from_high r.to_high r.from_low r.to_low; is = r.stands_is }

pub char_utf8 : (stands : List ℕ) → IsOneChar stands → IsUtf8 stands
char_utf8 stands r = subst IsUtf8 (sym r.is) (IsUtf8-encode r.c r.scalar)

pub pieces_utf8 : {raw bytes : List ℕ} → Pieces raw bytes → IsUtf8 bytes
pieces_utf8 no_piece = IsUtf8-nil
pieces_utf8 (one_more raw piece bytes stands begun p) = IsUtf8-append bytes stands (pieces_utf8 begun) (char_utf8 stands (piece_char p))

pub text_is : (bytes : List ℕ) → IsUtf8 bytes → text_of bytes ≡ Some bytes
text_is bytes h = rw (is_utf8-from_IsUtf8 bytes h) refl
