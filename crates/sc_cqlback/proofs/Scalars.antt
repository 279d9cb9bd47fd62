-- The tokens of a scalar are whole and in order.
use Rattle.std.proofs.Common.{◌≡◌, ℕ, ◌≤◌, List, [], ◌∷◌, length, Bool, true, false, ℤ, sym, ap, subst, ◌∙◌, codes}
use Rattle.std.specs.List.{list_any, AllByRecursion}
use Rattle.std.proofs.lemmas.Bool.{or_parts}
use Rattle.sc_decimal.specs.Number.{Number, IsDec}
use Rattle.sc_decimal.specs.Literal.{literal_of}
use Rattle.sc_expr.specs.declared.scalar.Scalar.{Scalar}
use Rattle.sc_expr.specs.declared.scalar.Scalar.TheOpen as inner
use Rattle.sc_expr.specs.declared.scalar.Scalar.TheOpen.{Scalar-F}
use Rattle.sc_expr.specs.declared.scalar.Scalar.TheViews.{roll-Scalar, out-roll-Scalar}
use Rattle.sc_expr.specs.declared.scalar.Scalar.TheFolds.{map-Scalar, fold-roll-Scalar, ind-Scalar}
use Rattle.sc_expr.specs.declared.scalar.Pattern.{Pattern}
use Rattle.sc_expr.specs.Form.{IsScalarLevel, IsFormedScalar}
use Rattle.sc_expr.specs.Kept.{IsKeptScalarLevel, IsKeptScalar}
use Rattle.sc_expr.proofs.Every.{folded_in, scalar_level, every_folded_in}
use Rattle.sc_cqlwrite.specs.Tokens as tokens
use Rattle.sc_cqlwrite.specs.Tokens.{Token, spelled, enclosed}
use Rattle.sc_cqlwrite.specs.Moment.{moment_text}
use Rattle.sc_cqlwrite.specs.Scalars.{truth_token, folded_tokens, moment_tokens, scalar_tokens, folded_if, pattern_tokens}
use Rattle.sc_cqlwrite.specs.Scalars as written
use Rattle.sc_cqlwrite.specs.Spellable.{ends_in_backslash, scalar_texts}
use Rattle.sc_cqlwrite.specs.Spellable as spellable
use Rattle.sc_cqlback.proofs.Wholes.{name_whole, text_whole, literal_whole}
use Rattle.sc_cqlback.proofs.Words.{true_whole, false_whole, casei_whole, timestamp_whole}
use Rattle.sc_cqlback.proofs.Moments.{moment_ends}
use Rattle.sc_cqlback.proofs.Lexical.{IsLexical, lexical_call}

pub name_lexical : (name : List ℕ) → 1 ≤ length name → IsLexical (tokens.name name ∷ [])
name_lexical name some = (record { whole = name_whole name some; meant = tt }, tt, tt)

pub text_lexical : (text : List ℕ) → ends_in_backslash text ≡ false → IsLexical (tokens.text text ∷ [])
text_lexical text ends = (record { whole = text_whole text ends; meant = tt }, tt, tt)

number_lexical : (n : Number) → IsDec n → IsLexical (tokens.number (literal_of n) ∷ [])
unfolding spelled
number_lexical n dec = (record { whole = literal_whole n dec; meant = tt }, tt, tt)

pub truth_lexical : (truth : Bool) → IsLexical (truth_token truth ∷ [])
truth_lexical true = (true_whole, tt, tt)
truth_lexical false = (false_whole, tt, tt)

pub folded_lexical : (inside : List Token) → IsLexical inside → IsLexical (folded_tokens inside)
folded_lexical inside h = lexical_call (codes "CASEI") inside casei_whole h

moment_lexical : (at : ℤ) → IsLexical (moment_tokens (moment_text at))
moment_lexical at = lexical_call (codes "TIMESTAMP") (tokens.text (moment_text at) ∷ []) timestamp_whole (text_lexical (moment_text at) (moment_ends at))

pub one_of : (text : List ℕ) → list_any ends_in_backslash (text ∷ []) ≡ false → ends_in_backslash text ≡ false
one_of text h = (or_parts (ends_in_backslash text) false h).0

folded_if_lexical : (folded : Bool) (inside : List Token) → IsLexical inside → IsLexical (folded_if folded inside)
folded_if_lexical true inside h = folded_lexical inside h
folded_if_lexical false inside h = h

pub pattern_lexical : (pattern : Pattern) → ends_in_backslash pattern.text ≡ false → IsLexical (pattern_tokens pattern)
pattern_lexical pattern ends = folded_if_lexical pattern.folded (tokens.text pattern.text ∷ []) (text_lexical pattern.text ends)

-- ---- scalars

abbrev Good : Scalar → Type 0
Good s = IsFormedScalar s → IsKeptScalar s → list_any ends_in_backslash (scalar_texts s) ≡ false → IsLexical (scalar_tokens s)

abbrev Held : Type 0
Held = (s : Scalar) × Good s

abbrev scalar_of : Scalar-F Held → Scalar-F Scalar
scalar_of = map-Scalar Held Scalar (λ h. h.0)

-- what is known of a level
record Level (x : Scalar-F Scalar) : Type 0 where
  formed : IsScalarLevel x
  kept : IsKeptScalarLevel x
  ends : list_any ends_in_backslash (spellable.scalar_level (map-Scalar Scalar (List (List ℕ)) scalar_texts x)) ≡ false
  folded_formed : AllByRecursion IsFormedScalar (folded_in x)
  folded_kept : AllByRecursion IsKeptScalar (folded_in x)

level_at : (x : Scalar-F Scalar) → IsFormedScalar (roll-Scalar x) → IsKeptScalar (roll-Scalar x) → list_any ends_in_backslash (scalar_texts (roll-Scalar x)) ≡ false → Level x
level_at x f k e = record {
  formed = subst IsScalarLevel (out-roll-Scalar x) (scalar_level IsScalarLevel (roll-Scalar x) f);
  kept = subst IsKeptScalarLevel (out-roll-Scalar x) (scalar_level IsKeptScalarLevel (roll-Scalar x) k);
  ends = ap (list_any ends_in_backslash) (sym (fold-roll-Scalar (List (List ℕ)) spellable.scalar_level x)) ∙ e;
  folded_formed = subst (λ (y : Scalar-F Scalar). AllByRecursion IsFormedScalar (folded_in y)) (out-roll-Scalar x) (every_folded_in IsScalarLevel (roll-Scalar x) f);
  folded_kept = subst (λ (y : Scalar-F Scalar). AllByRecursion IsKeptScalar (folded_in y)) (out-roll-Scalar x) (every_folded_in IsKeptScalarLevel (roll-Scalar x) k);
}

level_lexical : (y : Scalar-F Held) → Level (scalar_of y) → IsLexical (written.scalar_level (map-Scalar Scalar (List Token) scalar_tokens (scalar_of y)))
level_lexical (inner.Prop name) l = name_lexical name l.formed
level_lexical (inner.Text text) l = text_lexical text (one_of text l.ends)
level_lexical (inner.Number number) l = number_lexical number l.kept
level_lexical (inner.Truth truth) l = truth_lexical truth
level_lexical (inner.Moment moment) l = moment_lexical moment
level_lexical (inner.Folded h) l = folded_lexical (scalar_tokens h.0) (h.1 l.folded_formed.0 l.folded_kept.0 l.ends)

each : (y : Scalar-F Held) → Good (roll-Scalar (scalar_of y))
each y f k e =
    subst IsLexical (sym (fold-roll-Scalar (List Token) written.scalar_level (scalar_of y)))
    (level_lexical y (level_at (scalar_of y) f k e))

pub scalar_lexical : (s : Scalar) → Good s
scalar_lexical = ind-Scalar Good (λ x y is. subst (λ (l : Scalar-F Scalar). Good (roll-Scalar l)) is (each y))
