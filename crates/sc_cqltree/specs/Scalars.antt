-- The tree of a scalar and of a pattern (OGC 21-065r2, Annex B: scalarExpression, characterExpression).
use Rattle.std.specs.Prelude.{ℤ, [], ◌∷◌, Bool, true, false, codes}
use Rattle.sc_decimal.specs.Literal.{literal_of}
use Rattle.sc_json.specs.declared.tree.Json.{Json}
use Rattle.sc_json.specs.declared.tree.Json.TheVariants as trees
use Rattle.sc_expr.specs.declared.scalar.Scalar.{Scalar}
use Rattle.sc_expr.specs.declared.scalar.Scalar.TheOpen as inner
use Rattle.sc_expr.specs.declared.scalar.Scalar.TheOpen.{Scalar-F}
use Rattle.sc_expr.specs.declared.scalar.Scalar.TheFolds.{fold-Scalar}
use Rattle.sc_expr.specs.declared.scalar.Pattern.{Pattern}
use Rattle.sc_cqlwrite.specs.Moment.{moment_text}
use Rattle.sc_cqljson.specs.Words.{property_name, timestamp_name}
use Rattle.sc_cqltree.specs.Objects.{only, call}

-- without regard to case
abbrev pub folded : Json → Json
folded inside = call (codes "casei") (inside ∷ [])

-- a moment of any origin as a timestamp
abbrev pub moment_tree : ℤ → Json
moment_tree at = only timestamp_name (trees.Text (moment_text at))

abbrev pub scalar_level : Scalar-F Json → Json
scalar_level (inner.Prop name) = only property_name (trees.Text name)
scalar_level (inner.Text text) = trees.Text text
scalar_level (inner.Number number) = trees.Number (record { literal = literal_of number; dec = number })
scalar_level (inner.Truth truth) = trees.Truth truth
scalar_level (inner.Moment moment) = moment_tree moment
scalar_level (inner.Folded scalar) = folded scalar

abbrev pub scalar_tree : Scalar → Json
scalar_tree = fold-Scalar Json scalar_level

abbrev pub folded_if : Bool → Json → Json
folded_if true inside = folded inside
folded_if false inside = inside

abbrev pub pattern_tree : Pattern → Json
pattern_tree pattern = folded_if pattern.folded (trees.Text pattern.text)
