-- What is told of literals in quotes is what was written.
use Rattle.std.proofs.Common.{◌≡◌, ℕ, ◌-◌, ◌≤◌, List, [], ◌∷◌, ◌++◌, length, true, false, ◌||◌, eqb, not, Some, inl, inr, refl, sym, ap, subst, ◌∙◌, length-append, arith, ℤ, IsUtf8}
use Rattle.std.specs.List.{flat_map}
use Rattle.std.proofs.Math.Seq.{take-append_seam}
use Rattle.std.proofs.lemmas.Bool.{cases_eq, eq-eqb, ne_eqb, and_from, and_right, or_right}
use Rattle.std.proofs.lemmas.Str.{is_utf8-from_IsUtf8}
use Rattle.sc_base.specs.Text as texts
use Rattle.sc_decimal.specs.Number.{Number, IsDec}
use Rattle.sc_decimal.specs.Literal.{literal_of}
use Rattle.sc_decimal.specs.Value.{is_wide}
use Rattle.sc_decimal.proofs.Numerals.{narrow_test, numeral_tests}
use Rattle.sc_decimal.proofs.Literals.{literal_numeral}
use Rattle.sc_time.specs.Instant.{IsInstant}
use Rattle.sc_time.specs.Reading.{instant_reading}
use Rattle.sc_grammar.specs.declared.token.Class.TheVariants as classes
use Rattle.sc_cqlwrite.specs.Tokens as tokens
use Rattle.sc_cqlwrite.specs.Tokens.{marked, quoted, spelled}
use Rattle.sc_cqlwrite.specs.Moment.{moment_text}
use Rattle.sc_cqlback.proofs.Wholes.{quote_marked, other_marked}
use Rattle.sc_cqlback.proofs.Instants.{moment_read}
use Rattle.sc_cqlvalue.specs.Literals.{within, is_pair, unescaped, text_bytes, text_of, name_of, if_filled, dec_of, if_read, instant_of}

module _ (m q : ℕ) where
  abbrev all_marked : List ℕ → List ℕ
  all_marked = flat_map (marked m q)

  within_is : (bytes : List ℕ) → within (q ∷ (bytes ++ q ∷ [])) ≡ bytes
  within_is bytes =
      let size : length (q ∷ (bytes ++ q ∷ [])) - 2 ≡ length bytes = omega (arith, length-append bytes (q ∷ [])) in
      rw size (take-append_seam bytes (q ∷ []))

  pair_true : (bytes : List ℕ) → is_pair q m (m ∷ q ∷ bytes) ≡ true
  pair_true bytes = and_from (eqb m q || eqb m m) (eqb q q) (or_right (eqb m q) (eqb m m) (eq-eqb m m refl)) (eq-eqb q q refl)

  -- a quote that is marked is one again
  quote_back : (bytes : List ℕ) → unescaped q m (m ∷ q ∷ bytes) ≡ q ∷ unescaped q m bytes
  unfolding unescaped
  quote_back bytes = rw (pair_true bytes) refl

  -- and all else is itself
  other_back : (b : ℕ) (bytes : List ℕ) → is_pair q m (b ∷ bytes) ≡ false → unescaped q m (b ∷ bytes) ≡ b ∷ unescaped q m bytes
  unfolding unescaped
  other_back b [] h = refl
  other_back b (c ∷ bytes) h = rw h refl

  nothing_back : unescaped q m [] ≡ []
  unfolding unescaped
  nothing_back = refl

  -- what is marked never seems a pair where it is none
  abbrev Apart : Type 0
  Apart = (b : ℕ) (bs : List ℕ) → (b ≡ q → ⊥) → is_pair q m (b ∷ all_marked bs) ≡ false

  back : Apart → (bytes : List ℕ) → unescaped q m (all_marked bytes) ≡ bytes
  back apart [] = nothing_back
  back apart (b ∷ bs) =
      elim (cases_eq b q) [
        | inl e ↦
            ap (λ (x : List ℕ). unescaped q m (x ++ all_marked bs)) (quote_marked m q b e)
            ∙ quote_back (all_marked bs) ∙ ap (λ (n : ℕ). n ∷ unescaped q m (all_marked bs)) (sym e) ∙ ap (λ (x : List ℕ). b ∷ x) (back apart bs)
        | inr ne ↦
            ap (λ (x : List ℕ). unescaped q m (x ++ all_marked bs)) (other_marked m q b ne)
            ∙ other_back b (all_marked bs) (apart b bs ne) ∙ ap (λ (x : List ℕ). b ∷ x) (back apart bs)
      ]

names_apart : Apart 34 34
names_apart b bs ne = go (all_marked 34 34 bs)
  where
    go : (x : List ℕ) → is_pair 34 34 (b ∷ x) ≡ false
    go [] = refl
    go (c ∷ x) = rw (ne_eqb b 34 ne) refl

texts_apart : Apart 92 39
texts_apart b [] ne = refl
texts_apart b (c ∷ cs) ne =
    elim (cases_eq c 39) [
      | inl e ↦ subst (λ (x : List ℕ). is_pair 39 92 (b ∷ (x ++ all_marked 92 39 cs)) ≡ false) (sym (quote_marked 92 39 c e)) (and_right (eqb b 39 || eqb b 92) (eqb 92 39) refl)
      | inr other ↦ subst (λ (x : List ℕ). is_pair 39 92 (b ∷ (x ++ all_marked 92 39 cs)) ≡ false) (sym (other_marked 92 39 c other)) (and_right (eqb b 39 || eqb b 92) (eqb c 39) (ne_eqb c 39 other))
    ]

pub text_back : (text : List ℕ) → text_bytes (spelled (tokens.text text)) ≡ text
unfolding spelled
text_back text = ap (unescaped 39 92) (within_is 92 39 (all_marked 92 39 text)) ∙ back 92 39 texts_apart text

name_back : (name : List ℕ) → unescaped 34 34 (within (spelled (tokens.name name))) ≡ name
unfolding spelled
name_back name = ap (unescaped 34 34) (within_is 34 34 (all_marked 34 34 name)) ∙ back 34 34 names_apart name

utf8_told : (text : List ℕ) → IsUtf8 text → texts.text_of text ≡ Some text
utf8_told text utf8 = rw (is_utf8-from_IsUtf8 text utf8) refl

pub text_told : (text : List ℕ) → IsUtf8 text → text_of (spelled (tokens.text text)) ≡ Some text
text_told text utf8 = ap texts.text_of (text_back text) ∙ utf8_told text utf8

filled : (name : List ℕ) → 1 ≤ length name → if_filled (Some name) ≡ Some name
filled [] some = absurd (omega arith)
filled (b ∷ bs) some = refl

pub name_told : (name : List ℕ) → 1 ≤ length name → IsUtf8 name → name_of classes.QuotedName (spelled (tokens.name name)) ≡ Some name
name_told name some utf8 = ap (λ (x : List ℕ). if_filled (texts.text_of x)) (name_back name) ∙ ap if_filled (utf8_told name utf8) ∙ filled name some

pub number_told : (n : Number) → IsDec n → dec_of (literal_of n) ≡ Some n
number_told n is =
    let told = numeral_tests (literal_of n) n (literal_numeral n is) in
    let plain : is_wide (literal_of n) ≡ false = told.2 ∙ ap not (narrow_test n is.narrow) in
    rw (told.0, plain) (ap (λ (x : Number). Some x) told.1)

pub instant_told : (at : ℤ) → IsInstant at → instant_of (spelled (tokens.text (moment_text at))) ≡ Some at
instant_told at is = ap (λ (x : List ℕ). if_read (instant_reading x)) (text_back (moment_text at)) ∙ ap if_read (moment_read at is)
