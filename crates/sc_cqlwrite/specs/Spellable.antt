-- Which expressions have a text: a backslash before a quote makes the quote a part of the text (OGC 21-065r2, Annex B:
-- escapeQuote), so no text in quotes ends in a backslash.
use Rattle.std.specs.Prelude.{ℕ, List, [], ◌∷◌, ◌++◌, Bool, false, ◌==◌}
use Rattle.std.specs.List.{flat_map, list_any}
use Rattle.sc_expr.specs.declared.scalar.Scalar.{Scalar}
use Rattle.sc_expr.specs.declared.scalar.Scalar.TheOpen as inner
use Rattle.sc_expr.specs.declared.scalar.Scalar.TheOpen.{Scalar-F}
use Rattle.sc_expr.specs.declared.scalar.Scalar.TheFolds.{fold-Scalar}
use Rattle.sc_expr.specs.declared.expr.Expr.{Expr}
use Rattle.sc_expr.specs.declared.expr.Expr.TheOpen as outer
use Rattle.sc_expr.specs.declared.expr.Expr.TheOpen.{Expr-F}
use Rattle.sc_expr.specs.declared.expr.Expr.TheFolds.{fold-Expr}

-- ---- the texts and patterns of an expression, in their order

abbrev pub scalar_level : Scalar-F (List (List ℕ)) → List (List ℕ)
scalar_level (inner.Prop name) = []
scalar_level (inner.Text text) = text ∷ []
scalar_level (inner.Number number) = []
scalar_level (inner.Truth truth) = []
scalar_level (inner.Moment moment) = []
scalar_level (inner.Folded texts) = texts

abbrev pub scalar_texts : Scalar → List (List ℕ)
scalar_texts = fold-Scalar (List (List ℕ)) scalar_level

abbrev pub level : Expr-F (List (List ℕ)) → List (List ℕ)
level (outer.Const truth) = []
level (outer.And members) = flat_map (λ texts. texts) members
level (outer.Or members) = flat_map (λ texts. texts) members
level (outer.Not texts) = texts
level (outer.Compare op left right) = scalar_texts left ++ scalar_texts right
level (outer.IsNull operand) = scalar_texts operand
level (outer.Between operand low high) = scalar_texts operand ++ scalar_texts low ++ scalar_texts high
level (outer.Among operand scalars) = scalar_texts operand ++ flat_map scalar_texts scalars
level (outer.Like operand pattern) = scalar_texts operand ++ pattern.text ∷ []
level (outer.Meets left right) = []

abbrev pub texts_of : Expr → List (List ℕ)
texts_of = fold-Expr (List (List ℕ)) level

-- ---- the last byte

abbrev pub ends_in_backslash : List ℕ → Bool
ends_in_backslash [] = false
ends_in_backslash (b ∷ []) = b == 92
ends_in_backslash (b ∷ c ∷ bs) = ends_in_backslash (c ∷ bs)

-- whether a text or a pattern ends in a backslash
abbrev pub some_text_ends : Expr → Bool
some_text_ends expr = list_any ends_in_backslash (texts_of expr)
