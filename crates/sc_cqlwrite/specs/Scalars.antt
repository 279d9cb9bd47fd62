-- The tokens of a scalar and of a pattern (OGC 21-065r2, Annex B: scalarExpression, characterExpression).
use Rattle.std.specs.Prelude.{List, [], ◌∷◌, ℕ, Bool, true, false, codes}
use Rattle.sc_decimal.specs.Literal.{literal_of}
use Rattle.sc_expr.specs.declared.scalar.Scalar.{Scalar}
use Rattle.sc_expr.specs.declared.scalar.Scalar.TheOpen as inner
use Rattle.sc_expr.specs.declared.scalar.Scalar.TheOpen.{Scalar-F}
use Rattle.sc_expr.specs.declared.scalar.Scalar.TheFolds.{fold-Scalar}
use Rattle.sc_expr.specs.declared.scalar.Pattern.{Pattern}
use Rattle.sc_cqlwrite.specs.Tokens as tokens
use Rattle.sc_cqlwrite.specs.Tokens.{Token, enclosed}
use Rattle.sc_cqlwrite.specs.Moment.{moment_text}

abbrev pub truth_token : Bool → Token
truth_token true = tokens.word (codes "TRUE")
truth_token false = tokens.word (codes "FALSE")

-- without regard to case
abbrev pub folded_tokens : List Token → List Token
folded_tokens inside = tokens.function (codes "CASEI") ∷ enclosed inside

abbrev pub moment_tokens : List ℕ → List Token
moment_tokens instant = tokens.function (codes "TIMESTAMP") ∷ enclosed (tokens.text instant ∷ [])

abbrev pub scalar_level : Scalar-F (List Token) → List Token
scalar_level (inner.Prop name) = tokens.name name ∷ []
scalar_level (inner.Text text) = tokens.text text ∷ []
scalar_level (inner.Number number) = tokens.number (literal_of number) ∷ []
scalar_level (inner.Truth truth) = truth_token truth ∷ []
scalar_level (inner.Moment moment) = moment_tokens (moment_text moment)
scalar_level (inner.Folded scalar) = folded_tokens scalar

abbrev pub scalar_tokens : Scalar → List Token
scalar_tokens = fold-Scalar (List Token) scalar_level

abbrev pub folded_if : Bool → List Token → List Token
folded_if true inside = folded_tokens inside
folded_if false inside = inside

abbrev pub pattern_tokens : Pattern → List Token
pattern_tokens pattern = folded_if pattern.folded (tokens.text pattern.text ∷ [])
