-- Names, texts and numbers as they are written are tokens.
use Rattle.std.proofs.Common.{◌≡◌, ◌≢◌, ℕ, zero, suc, ◌+◌, ◌-◌, ◌/◌, ◌%◌, ◌^◌, ◌<◌, ◌≤◌, List, [], ◌∷◌, ◌++◌, length, Bool, true, false, ◌&&◌, inl, inr, refl, sym, ap, subst, ◌∙◌, append-nil, arith, ℤ, pos, unsigned_abs}
use Rattle.std.specs.List.{flat_map}
use Rattle.std.specs.Prelude.{int_lt}
use Rattle.std.specs.Fmt.{decimal, sign_text}
use Rattle.std.specs.Char.{digit_value}
use Rattle.std.specs.Str.Parse.{AllDigits}
use Rattle.std.proofs.lemmas.Fmt.{decimal_is_IsNumeral_wide}
use Rattle.std.proofs.lemmas.Bool.{cases_eq, eq-eqb, ne_eqb, eqb-false, and_parts}
use Rattle.std.proofs.lemmas.Bool.Decides.{nat_tests}
use Rattle.sc_decimal.specs.Number.{Number, IsDec}
use Rattle.sc_decimal.specs.Digits.{is_digit}
use Rattle.sc_decimal.specs.Numeral.{AreDigits, IsRow, Sign, no_sign, minus, Mantissa, no_exponent}
use Rattle.sc_decimal.specs.Numeral as numerals
use Rattle.sc_decimal.specs.Value.{is_number}
use Rattle.sc_decimal.specs.Literal.{literal_of}
use Rattle.sc_decimal.proofs.Numerals.{parts_number, numeral_tests}
use Rattle.sc_decimal.proofs.Literals.{literal_numeral}
use Rattle.sc_grammar.specs.Lexing.{is_letter}
use Rattle.sc_grammar.specs.Tokens.{goes_on, AreLetters, IsWord, NameInside, no_more, plain, quote, TextInside, text_ends, character, escaped, backslash, IsQuotedName, IsText}
use Rattle.sc_cqlwrite.specs.Tokens as tokens
use Rattle.sc_cqlwrite.specs.Tokens.{marked, spelled}
use Rattle.sc_cqlwrite.specs.Coordinate.{places, fraction_text, coordinate_text}
use Rattle.sc_cqlwrite.specs.Spellable.{ends_in_backslash}
use Rattle.sc_cqlwrite.proofs.Places.{digit_small, places_more, rest_small}

-- ---- words

abbrev pub are_letters : List ℕ → Bool
are_letters [] = true
are_letters (b ∷ bs) = goes_on b && are_letters bs

abbrev pub is_word_text : List ℕ → Bool
is_word_text [] = false
is_word_text (b ∷ bs) = is_letter b && are_letters bs

letters_whole : (bs : List ℕ) → are_letters bs ≡ true → AreLetters bs
letters_whole [] h = tt
letters_whole (b ∷ bs) h = let both = and_parts (goes_on b) (are_letters bs) h in (both.0, letters_whole bs both.1)

pub word_whole : (bs : List ℕ) → is_word_text bs ≡ true → IsWord bs
word_whole [] h = absurd cc
word_whole (b ∷ bs) h = let both = and_parts (is_letter b) (are_letters bs) h in (both.0, letters_whole bs both.1)

-- ---- names and texts

pub quote_marked : (mark q b : ℕ) → b ≡ q → marked mark q b ≡ mark ∷ q ∷ []
quote_marked mark q b e = rw (eq-eqb b q e) refl

pub other_marked : (mark q b : ℕ) → (b ≡ q → ⊥) → marked mark q b ≡ b ∷ []
other_marked mark q b ne = rw (ne_eqb b q ne) refl

name_inside : (name : List ℕ) → NameInside (flat_map (marked 34 34) name)
name_inside [] = no_more
name_inside (b ∷ bs) =
    let rest = flat_map (marked 34 34) bs in
    elim (cases_eq b 34) [
      | inl e ↦ subst (λ (x : List ℕ). NameInside (x ++ rest)) (sym (quote_marked 34 34 b e)) (quote rest (name_inside bs))
      | inr ne ↦ subst (λ (x : List ℕ). NameInside (x ++ rest)) (sym (other_marked 34 34 b ne)) (plain b rest ne (name_inside bs))
    ]

pub some_marked : (mark q b : ℕ) (rest : List ℕ) → marked mark q b ++ rest ≢ []
some_marked mark q b rest e =
    elim (cases_eq b q) [
      | inl same ↦ let h : mark ∷ q ∷ rest ≡ [] = ap (λ (x : List ℕ). x ++ rest) (sym (quote_marked mark q b same)) ∙ e in absurd cc
      | inr ne ↦ let h : b ∷ rest ≡ [] = ap (λ (x : List ℕ). x ++ rest) (sym (other_marked mark q b ne)) ∙ e in absurd cc
    ]

name_some : (name : List ℕ) → 1 ≤ length name → flat_map (marked 34 34) name ≢ []
name_some [] some e = absurd (omega arith)
name_some (b ∷ bs) some e = some_marked 34 34 b (flat_map (marked 34 34) bs) e

pub name_whole : (name : List ℕ) → 1 ≤ length name → IsQuotedName (spelled (tokens.name name))
unfolding spelled
name_whole name some = record {
  inside = flat_map (marked 34 34) name;
  characters = name_inside name;
  some = name_some name some;
  quoted = refl;
}

abbrev all_marked : List ℕ → List ℕ
all_marked = flat_map (marked 92 39)

-- a backslash before what isn't a bare quote
behind_backslash : (c : ℕ) (rest : List ℕ) → TextInside (marked 92 39 c ++ rest) → TextInside (92 ∷ (marked 92 39 c ++ rest))
behind_backslash c rest inside =
    elim (cases_eq c 39) [
      | inl e ↦
          let is = quote_marked 92 39 c e in
          subst (λ (x : List ℕ). TextInside (92 ∷ (x ++ rest))) (sym is)
          (backslash 92 (39 ∷ rest) (omega arith) (subst (λ (x : List ℕ). TextInside (x ++ rest)) is inside))
      | inr ne ↦
          let is = other_marked 92 39 c ne in
          subst (λ (x : List ℕ). TextInside (92 ∷ (x ++ rest))) (sym is)
          (backslash c rest ne (subst (λ (x : List ℕ). TextInside (x ++ rest)) is inside))
    ]

text_inside : (text : List ℕ) → ends_in_backslash text ≡ false → TextInside (all_marked text)
text_inside [] ends = text_ends
text_inside (b ∷ []) ends =
    elim (cases_eq b 39) [
      | inl e ↦ subst (λ (x : List ℕ). TextInside (x ++ [])) (sym (quote_marked 92 39 b e)) (escaped [] text_ends)
      | inr ne ↦ subst (λ (x : List ℕ). TextInside (x ++ [])) (sym (other_marked 92 39 b ne)) (character b [] ne (eqb-false b 92 ends) text_ends)
    ]
text_inside (b ∷ c ∷ bs) ends =
    let below : TextInside (all_marked (c ∷ bs)) = text_inside (c ∷ bs) ends in
    let rest = all_marked (c ∷ bs) in
    elim (cases_eq b 39) [
      | inl e ↦ subst (λ (x : List ℕ). TextInside (x ++ rest)) (sym (quote_marked 92 39 b e)) (escaped rest below)
      | inr ne ↦
          subst (λ (x : List ℕ). TextInside (x ++ rest)) (sym (other_marked 92 39 b ne))
          (elim (cases_eq b 92) [
            | inl e ↦ subst (λ (n : ℕ). TextInside (n ∷ rest)) (sym e) (behind_backslash c (all_marked bs) below)
            | inr other ↦ character b rest ne other below
          ])
    ]

pub text_whole : (text : List ℕ) → ends_in_backslash text ≡ false → IsText (spelled (tokens.text text))
unfolding spelled
text_whole text ends = record { inside = all_marked text; characters = text_inside text ends; quoted = refl }

-- ---- numbers

pub literal_whole : (n : Number) → IsDec n → is_number (literal_of n) ≡ true
literal_whole n dec = (numeral_tests (literal_of n) n (literal_numeral n dec)).0

digit_is : (c : ℕ) → digit_value c < 10 → is_digit c ≡ true
digit_is c h = grind (arith, nat_tests, h)

digits_are : (ds : List ℕ) → AllDigits 10 ds → AreDigits ds
digits_are [] h = tt
digits_are (c ∷ cs) h = (digit_is c h.0, digits_are cs h.1)

row_is : (ds : List ℕ) → 0 < length ds → AllDigits 10 ds → IsRow ds
row_is [] some h = absurd (omega arith)
row_is (c ∷ cs) some h = digits_are (c ∷ cs) h

pub decimal_row : (n : ℕ) → n < 10 ^ 64 → IsRow (decimal n)
decimal_row n small = let h = (decimal_is_IsNumeral_wide n small).0 in row_is (decimal n) h.0 h.1

small_digit : (d : ℕ) → d < 10 → is_digit (48 + d) ≡ true
small_digit d small = grind (arith, nat_tests)

places_digits : (count rest : ℕ) → rest < 10 ^ count → AreDigits (places count rest)
unfolding places
places_digits zero rest within = tt
places_digits (suc count) rest within =
    elim (cases_eq rest 0) [
      | inl e ↦ rw (eq-eqb rest 0 e) tt
      | inr ne ↦
          let back : suc count - 1 ≡ count = omega arith in
          let first = digit_small (suc count) rest (10 ^ count) (omega arith) within (ap (λ n. 10 ^ n) (sym back)) in
          let below = rw back at (rest_small (suc count) rest (10 ^ count) (ap (λ n. 10 ^ n) (sym back))) in
          rw (ne_eqb rest 0 ne) (small_digit (rest / 10 ^ count) first, places_digits count (rest % 10 ^ count) below)
    ]

pub places_row : (count rest : ℕ) → (rest ≡ 0 → ⊥) → rest < 10 ^ suc count → IsRow (places (suc count) rest)
places_row count rest ne within = go (places (suc count) rest) (places_digits (suc count) rest within) (places_some count rest ne)
  where
    places_some : (count rest : ℕ) → (rest ≡ 0 → ⊥) → places (suc count) rest ≢ []
    places_some count rest ne e = let h = sym (places_more (suc count) rest ne (omega arith)) ∙ e in absurd cc

    go : (ds : List ℕ) → AreDigits ds → ds ≢ [] → IsRow ds
    go [] h some = absurd (some refl)
    go (d ∷ ds) h some = h

pub sign_is : (negative : Bool) → Sign (sign_text negative) negative
sign_is false = no_sign
sign_is true = minus

pub no_fraction : (rest : ℕ) → rest ≡ 0 → fraction_text rest ≡ []
no_fraction rest e = rw (eq-eqb rest 0 e) refl

pub some_fraction : (rest : ℕ) → (rest ≡ 0 → ⊥) → fraction_text rest ≡ 46 ∷ places 7 rest
some_fraction rest ne = rw (ne_eqb rest 0 ne) refl

-- the whole degrees and what stands behind them
record IsDegrees (ds : List ℕ) (rest : ℕ) : Type 0 where
  digits : List ℕ
  count : ℕ
  mantissa : Mantissa (ds ++ fraction_text rest) digits count

degrees_are : (ds : List ℕ) (rest : ℕ) → IsRow ds → rest < 10_000_000 → IsDegrees ds rest
degrees_are ds rest row within =
    elim (cases_eq rest 0) [
      | inl e ↦
          record {
            digits = ds;
            count = 0;
            mantissa = subst (λ (x : List ℕ). Mantissa x ds 0) (sym (append-nil ds) ∙ ap (λ (x : List ℕ). ds ++ x) (sym (no_fraction rest e))) (numerals.whole ds row);
          }
      | inr ne ↦
          let size : 10_000_000 ≡ 10 ^ 7 = refl in
          let fits : rest < 10 ^ 7 = omega arith in
          record {
            digits = ds ++ places 7 rest;
            count = length (places 7 rest);
            mantissa = subst (λ (x : List ℕ). Mantissa (ds ++ x) (ds ++ places 7 rest) (length (places 7 rest))) (sym (some_fraction rest ne)) (numerals.mixed ds (places 7 rest) row (places_row 6 rest ne fits));
          }
    ]

pub coordinate_whole : (steps : ℤ) → unsigned_abs steps < 2 ^ 64 → is_number (coordinate_text steps) ≡ true
unfolding coordinate_text
coordinate_whole steps few =
    let size = unsigned_abs steps in
    let whole = degrees_are (decimal (size / 10_000_000)) (size % 10_000_000) (decimal_row (size / 10_000_000) (omega arith)) (omega arith) in
    subst (λ (x : List ℕ). is_number (sign_text (int_lt steps (pos 0)) ++ x) ≡ true) (append-nil (decimal (size / 10_000_000) ++ fraction_text (size % 10_000_000)))
    (parts_number (sign_text (int_lt steps (pos 0))) (decimal (size / 10_000_000) ++ fraction_text (size % 10_000_000)) whole.digits [] (int_lt steps (pos 0)) whole.count (pos 0) (sign_is (int_lt steps (pos 0))) whole.mantissa no_exponent)
