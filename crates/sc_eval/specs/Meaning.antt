-- What a filter means of an item (OGC 21-065): true, false or unknown.
use Rattle.std.specs.Prelude.{ℕ, Bool, true, false, ◌||◌, List, map, chars, encode_utf8_all, Option, Some, None, if◌then◌else◌}
use Rattle.std.specs.List.{list_any}
use Rattle.caseless.specs.Caseless.{default_case_fold}
use Rattle.sc_geom.specs.declared.point.Pt.{Pt}
use Rattle.sc_geom.specs.Shapes.{Shapes}
use Rattle.sc_cross.specs.Meeting.{do_meet}
use Rattle.sc_sort.specs.Named.{Named, Id, Collection, Geometry, Time, Member, named}
use Rattle.sc_item.specs.Feature.{Feature}
use Rattle.sc_expr.specs.declared.scalar.Scalar.{Scalar}
use Rattle.sc_expr.specs.declared.scalar.Scalar.TheOpen as inner
use Rattle.sc_expr.specs.declared.scalar.Scalar.TheOpen.{Scalar-F}
use Rattle.sc_expr.specs.declared.scalar.Scalar.TheFolds.{fold-Scalar}
use Rattle.sc_expr.specs.declared.scalar.Pattern.{Pattern}
use Rattle.sc_expr.specs.declared.scalar.Shape.{Shape}
use Rattle.sc_expr.specs.declared.scalar.Shape.TheVariants as shapes
use Rattle.sc_expr.specs.declared.expr.Expr.{Expr}
use Rattle.sc_expr.specs.declared.expr.Expr.TheOpen as outer
use Rattle.sc_expr.specs.declared.expr.Expr.TheOpen.{Expr-F}
use Rattle.sc_expr.specs.declared.expr.Expr.TheFolds.{fold-Expr}
use Rattle.sc_expr.specs.declared.expr.CompOp.TheVariants.{Eq, Le, Ge}
use Rattle.sc_expr.specs.declared.expr.Truth3.{Truth3}
use Rattle.sc_expr.specs.declared.expr.Truth3.TheVariants.{Unknown}
use Rattle.sc_eval.specs.Property.{PropertyValue, absent, text, number, truth, moment, shape, other, property_value}
use Rattle.sc_eval.specs.Comparison.{known, compared, not3, and3, all3, any3}
use Rattle.sc_eval.specs.Like.{elements, fits}

-- ---- scalars

-- full default case folding of Unicode
unfoldable pub folded : List ℕ → List ℕ
folded t = encode_utf8_all (default_case_fold (chars t))

abbrev pub fold_value : PropertyValue → PropertyValue
fold_value absent = absent
fold_value (text t) = text (folded t)
fold_value (number n) = other
fold_value (truth b) = other
fold_value (moment at) = other
fold_value (shape g) = other
fold_value other = other

abbrev pub value_level : Feature → Scalar-F PropertyValue → PropertyValue
value_level item (inner.Prop name) = property_value name item
value_level item (inner.Text t) = text t
value_level item (inner.Number n) = number n
value_level item (inner.Truth b) = truth b
value_level item (inner.Moment at) = moment at
value_level item (inner.Folded value) = fold_value value

-- the value of a scalar in an item
abbrev pub value_in : Feature → Scalar → PropertyValue
value_in item = fold-Scalar PropertyValue (value_level item)

-- ---- predicates

abbrev pub is_absent : PropertyValue → Bool
is_absent absent = true
is_absent (text t) = false
is_absent (number n) = false
is_absent (truth b) = false
is_absent (moment at) = false
is_absent (shape g) = false
is_absent other = false

-- the characters of a pattern, which is folded first where it says so
abbrev pub pattern_of : Pattern → List ℕ
pattern_of pattern = if pattern.folded then folded pattern.text else pattern.text

abbrev pub liked : PropertyValue → Pattern → Truth3
liked (text t) pattern = known (fits (elements (chars (pattern_of pattern))) (chars t))
liked absent pattern = Unknown
liked (number n) pattern = Unknown
liked (truth b) pattern = Unknown
liked (moment at) pattern = Unknown
liked (shape g) pattern = Unknown
liked other pattern = Unknown

abbrev pub shape_named : Named → Feature → Option (Shapes Pt)
shape_named Geometry item = item.geom
shape_named Id item = None
shape_named Collection item = None
shape_named Time item = None
shape_named (Member name) item = None

-- the shape of a geometry, and of the property `geometry` where the item has one; no other property is a shape
abbrev pub shape_in : Feature → Shape → Option (Shapes Pt)
shape_in item (shapes.Prop name) = shape_named (named name) item
shape_in item (shapes.Geom g) = Some g

abbrev pub met : Option (Shapes Pt) → Option (Shapes Pt) → Truth3
met None b = Unknown
met (Some a) None = Unknown
met (Some a) (Some b) = known (do_meet a b)

-- ---- expressions

abbrev pub level_truth : Feature → Expr-F Truth3 → Truth3
level_truth item (outer.Const b) = known b
level_truth item (outer.And members) = all3 members
level_truth item (outer.Or members) = any3 members
level_truth item (outer.Not member) = not3 member
level_truth item (outer.Compare op left right) = compared op (value_in item left) (value_in item right)
level_truth item (outer.IsNull operand) = known (is_absent (value_in item operand))
level_truth item (outer.Between operand low high) =
    and3 (compared Ge (value_in item operand) (value_in item low)) (compared Le (value_in item operand) (value_in item high))
level_truth item (outer.Among operand listed) = any3 (map (λ s. compared Eq (value_in item operand) (value_in item s)) listed)
level_truth item (outer.Like operand pattern) = liked (value_in item operand) pattern
level_truth item (outer.Meets left right) = met (shape_in item left) (shape_in item right)

-- the truth of an expression of an item
abbrev pub truth_in : Feature → Expr → Truth3
truth_in item = fold-Expr Truth3 (level_truth item)

-- ---- CASEI, which takes memory

abbrev pub folding_level : Scalar-F Bool → Bool
folding_level (inner.Prop name) = false
folding_level (inner.Text t) = false
folding_level (inner.Number n) = false
folding_level (inner.Truth b) = false
folding_level (inner.Moment at) = false
folding_level (inner.Folded inner) = true

abbrev pub is_folding : Scalar → Bool
is_folding = fold-Scalar Bool folding_level

abbrev pub any_true : List Bool → Bool
any_true = list_any (λ b. b)

abbrev pub folds_level : Expr-F Bool → Bool
folds_level (outer.Const b) = false
folds_level (outer.And members) = any_true members
folds_level (outer.Or members) = any_true members
folds_level (outer.Not member) = member
folds_level (outer.Compare op left right) = is_folding left || is_folding right
folds_level (outer.IsNull operand) = is_folding operand
folds_level (outer.Between operand low high) = is_folding operand || (is_folding low || is_folding high)
folds_level (outer.Among operand listed) = is_folding operand || list_any is_folding listed
folds_level (outer.Like operand pattern) = is_folding operand || pattern.folded
folds_level (outer.Meets left right) = false

-- whether CASEI stands in an expression
abbrev pub folds : Expr → Bool
folds = fold-Expr Bool folds_level
