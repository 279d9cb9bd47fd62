-- What is written of a scalar and of a pattern spells it.
use Rattle.std.proofs.Common.{◌≡◌, List, ◌∷◌, [], map, codes, Bool, true, false, Some, refl, sym, ap, subst, ◌∙◌, ℤ}
use Rattle.std.specs.List.{AllByRecursion}
use Rattle.std.specs.Option.{option_and_then}
use Rattle.sc_time.specs.Instant.{IsInstant}
use Rattle.sc_time.specs.Reading.{instant_reading}
use Rattle.sc_decimal.specs.Number.{Number}
use Rattle.sc_decimal.specs.Literal.{literal_of}
use Rattle.sc_json.specs.declared.tree.Num.{Num}
use Rattle.sc_json.specs.declared.tree.Json.{Json}
use Rattle.sc_json.specs.declared.tree.Json.TheVariants as trees
use Rattle.sc_expr.specs.declared.scalar.Scalar.{Scalar}
use Rattle.sc_expr.specs.declared.scalar.Scalar.TheVariants as scalars
use Rattle.sc_expr.specs.declared.scalar.Scalar.TheOpen as inner
use Rattle.sc_expr.specs.declared.scalar.Scalar.TheOpen.{Scalar-F}
use Rattle.sc_expr.specs.declared.scalar.Scalar.TheViews.{roll-Scalar, out-roll-Scalar}
use Rattle.sc_expr.specs.declared.scalar.Scalar.TheFolds.{map-Scalar, fold-roll-Scalar, ind-Scalar}
use Rattle.sc_expr.specs.declared.scalar.Pattern.{Pattern}
use Rattle.sc_expr.specs.Form.{IsScalarLevel, IsFormedScalar}
use Rattle.sc_expr.proofs.Every.{folded_in, scalar_level, every_folded_in}
use Rattle.sc_expr.specs.Kept.{IsKeptScalarLevel, IsKeptScalar}
use Rattle.sc_cqlwrite.specs.Moment.{moment_text}
use Rattle.sc_cqlback.proofs.Instants.{moment_read}
use Rattle.sc_cqljson.specs.declared.operator.Operator.TheVariants.{CaseI}
use Rattle.sc_cqljson.specs.Operators.{operator_named}
use Rattle.sc_cqljson.specs.Words.{property_name}
use Rattle.sc_cqljson.specs.Drawn.{moment_by, instant_in}
use Rattle.sc_cqljson.specs.Spells as spells
use Rattle.sc_cqljson.specs.Spells.{Calls, SpellsScalar, SpellScalars, no_scalars, one_scalar, SpellsPattern, plain, unfolded}
use Rattle.sc_cqltree.specs.Objects.{only}
use Rattle.sc_cqltree.specs.Scalars as written
use Rattle.sc_cqltree.specs.Scalars.{folded, folded_if, moment_tree, scalar_tree, pattern_tree}
use Rattle.sc_cqltree.proofs.Reading.{text_is, number_is, named, property_head, timestamp_head, calls}

-- the scalar that a level folds, without regard to case
folds : (inside : Json) → Calls (folded inside) CaseI (inside ∷ [])
unfolding operator_named
folds inside = calls (codes "casei") CaseI (inside ∷ []) refl

moment_in : (at : ℤ) → IsInstant at → instant_in (trees.Text (moment_text at)) ≡ Some at
unfolding instant_in
moment_in at is = ap (option_and_then (λ text. moment_by (instant_reading text))) (text_is (moment_text at)) ∙ ap moment_by (moment_read at is)

abbrev num_of : Number → Num
num_of number = record { literal = literal_of number; dec = number }

abbrev Good : Scalar → Type 0
Good s = IsFormedScalar s → IsKeptScalar s → SpellsScalar (scalar_tree s) s

abbrev Held : Type 0
Held = (s : Scalar) × Good s

abbrev scalar_of : Scalar-F Held → Scalar-F Scalar
scalar_of = map-Scalar Held Scalar (λ h. h.0)

-- what is known of a level
record Level (x : Scalar-F Scalar) : Type 0 where
  formed : IsScalarLevel x
  kept : IsKeptScalarLevel x
  folded_formed : AllByRecursion IsFormedScalar (folded_in x)
  folded_kept : AllByRecursion IsKeptScalar (folded_in x)

level_at : (x : Scalar-F Scalar) → IsFormedScalar (roll-Scalar x) → IsKeptScalar (roll-Scalar x) → Level x
level_at x f k = record {
  formed = subst IsScalarLevel (out-roll-Scalar x) (scalar_level IsScalarLevel (roll-Scalar x) f);
  kept = subst IsKeptScalarLevel (out-roll-Scalar x) (scalar_level IsKeptScalarLevel (roll-Scalar x) k);
  folded_formed = subst (λ (y : Scalar-F Scalar). AllByRecursion IsFormedScalar (folded_in y)) (out-roll-Scalar x) (every_folded_in IsScalarLevel (roll-Scalar x) f);
  folded_kept = subst (λ (y : Scalar-F Scalar). AllByRecursion IsKeptScalar (folded_in y)) (out-roll-Scalar x) (every_folded_in IsKeptScalarLevel (roll-Scalar x) k);
}

along : (tree : Json) (s t : Scalar) → t ≡ s → SpellsScalar tree s → SpellsScalar tree t
along tree s t e h = subst (SpellsScalar tree) (sym e) h

level_spelled : (y : Scalar-F Held) → Level (scalar_of y) → SpellsScalar (written.scalar_level (map-Scalar Scalar Json scalar_tree (scalar_of y))) (roll-Scalar (scalar_of y))
level_spelled (inner.Prop name) l =
    along _ (scalars.Prop name) _ (scalars.rolls-Prop name) (spells.prop (only property_name (trees.Text name)) (trees.Text name) name (property_head (trees.Text name)) (named name l.formed))
level_spelled (inner.Text text) l = along _ (scalars.Text text) _ (scalars.rolls-Text text) (spells.text (trees.Text text) text (text_is text))
level_spelled (inner.Number number) l = along _ (scalars.Number number) _ (scalars.rolls-Number number) (spells.number (trees.Number (num_of number)) number (number_is (num_of number)))
level_spelled (inner.Truth truth) l = along _ (scalars.Truth truth) _ (scalars.rolls-Truth truth) (spells.truth (trees.Truth truth) truth refl)
level_spelled (inner.Moment moment) l =
    let value = trees.Text (moment_text moment) in
    along _ (scalars.Moment moment) _ (scalars.rolls-Moment moment) (spells.timed (moment_tree moment) value moment (timestamp_head value) (moment_in moment l.kept))
level_spelled (inner.Folded h) l =
    along _ (scalars.Folded h.0) _ (scalars.rolls-Folded h.0)
    (spells.folded (folded (scalar_tree h.0)) (scalar_tree h.0) h.0 (folds (scalar_tree h.0)) (h.1 l.folded_formed.0 l.folded_kept.0))

each : (y : Scalar-F Held) → Good (roll-Scalar (scalar_of y))
each y f k =
    subst (λ (tree : Json). SpellsScalar tree (roll-Scalar (scalar_of y))) (sym (fold-roll-Scalar Json written.scalar_level (scalar_of y)))
    (level_spelled y (level_at (scalar_of y) f k))

pub scalar_spelled : (s : Scalar) → Good s
scalar_spelled = ind-Scalar Good (λ x y is. subst (λ (l : Scalar-F Scalar). Good (roll-Scalar l)) is (each y))

pub scalars_spelled : (ss : List Scalar) → AllByRecursion IsFormedScalar ss → AllByRecursion IsKeptScalar ss → SpellScalars (map scalar_tree ss) ss
scalars_spelled [] f k = no_scalars
scalars_spelled (s ∷ ss) f k = one_scalar (scalar_tree s) (map scalar_tree ss) s ss (scalar_spelled s f.0 k.0) (scalars_spelled ss f.1 k.1)

pub pattern_spelled : (p : Pattern) → SpellsPattern (pattern_tree p) p
pattern_spelled p = by p.folded
  where
    by : (b : Bool) → SpellsPattern (folded_if b (trees.Text p.text)) (record { text = p.text; folded = b })
    by false = plain (trees.Text p.text) p.text (text_is p.text)
    by true = unfolded (folded (trees.Text p.text)) (trees.Text p.text) p.text false (folds (trees.Text p.text)) (plain (trees.Text p.text) p.text (text_is p.text))

-- ---- the code's

pub folded_scalar : (scalar : Scalar) → scalar_tree (scalars.Folded scalar) ≡ folded (scalar_tree scalar)
folded_scalar scalar = ap scalar_tree (sym (scalars.rolls-Folded scalar)) ∙ fold-roll-Scalar Json written.scalar_level (inner.Folded scalar)
