-- What the types of the parts of an expression keep, they keep of the whole, variant by variant.
use Rattle.std.proofs.Common.{ℕ, Bool, List, ℤ, IsUtf8}
use Rattle.std.specs.List.{All}
use Rattle.sc_decimal.specs.Number.{Number, IsDec}
use Rattle.sc_time.specs.Instant.{IsInstant}
use Rattle.sc_expr.specs.declared.scalar.Scalar.{Scalar}
use Rattle.sc_expr.specs.declared.scalar.Scalar.TheVariants as scalars
use Rattle.sc_expr.specs.declared.scalar.Pattern.{Pattern}
use Rattle.sc_expr.specs.declared.scalar.Shape.{Shape}
use Rattle.sc_expr.specs.declared.expr.CompOp.{CompOp}
use Rattle.sc_expr.specs.declared.expr.Expr.{Expr}
use Rattle.sc_expr.specs.declared.expr.Expr.TheVariants as exprs
use Rattle.sc_expr.specs.Kept.{IsKeptScalarLevel, IsKeptScalar, IsKeptShape, IsKeptLevel, IsKept}
use Rattle.sc_expr.proofs.Every.{every_property, every_text, every_number, every_truth, every_moment, every_folded, every_const, every_and, every_or, every_not, every_compare, every_is_null, every_between, every_among, every_like, every_meets}

pub property_kept : (name : List ℕ) → IsUtf8 name → IsKeptScalar (scalars.Prop name)
property_kept = every_property IsKeptScalarLevel

pub text_kept : (text : List ℕ) → IsUtf8 text → IsKeptScalar (scalars.Text text)
text_kept = every_text IsKeptScalarLevel

pub number_kept : (number : Number) → IsDec number → IsKeptScalar (scalars.Number number)
number_kept = every_number IsKeptScalarLevel

pub truth_kept : (truth : Bool) → IsKeptScalar (scalars.Truth truth)
truth_kept truth = every_truth IsKeptScalarLevel truth tt

pub moment_kept : (moment : ℤ) → IsInstant moment → IsKeptScalar (scalars.Moment moment)
moment_kept = every_moment IsKeptScalarLevel

pub folded_kept : (scalar : Scalar) → IsKeptScalar scalar → IsKeptScalar (scalars.Folded scalar)
folded_kept scalar = every_folded IsKeptScalarLevel scalar tt

pub const_kept : (truth : Bool) → IsKept (exprs.Const truth)
const_kept truth = every_const IsKeptLevel truth tt

pub and_kept : (members : List Expr) → All IsKept members → IsKept (exprs.And members)
and_kept members = every_and IsKeptLevel members tt

pub or_kept : (members : List Expr) → All IsKept members → IsKept (exprs.Or members)
or_kept members = every_or IsKeptLevel members tt

pub not_kept : (member : Expr) → IsKept member → IsKept (exprs.Not member)
not_kept member = every_not IsKeptLevel member tt

pub compare_kept : (op : CompOp) (left right : Scalar) → IsKeptScalar left → IsKeptScalar right → IsKept (exprs.Compare op left right)
compare_kept op left right l r = every_compare IsKeptLevel op left right (l, r)

pub is_null_kept : (operand : Scalar) → IsKeptScalar operand → IsKept (exprs.IsNull operand)
is_null_kept = every_is_null IsKeptLevel

pub between_kept : (operand low high : Scalar) → IsKeptScalar operand → IsKeptScalar low → IsKeptScalar high → IsKept (exprs.Between operand low high)
between_kept operand low high o l h = every_between IsKeptLevel operand low high (o, l, h)

pub among_kept : (operand : Scalar) (listed : List Scalar) → IsKeptScalar operand → All IsKeptScalar listed → IsKept (exprs.Among operand listed)
among_kept operand listed o all = every_among IsKeptLevel operand listed (o, all)

pub like_kept : (operand : Scalar) (pattern : Pattern) → IsKeptScalar operand → IsUtf8 pattern.text → IsKept (exprs.Like operand pattern)
like_kept operand pattern o u = every_like IsKeptLevel operand pattern (o, u)

pub meets_kept : (left right : Shape) → IsKeptShape left → IsKeptShape right → IsKept (exprs.Meets left right)
meets_kept left right l r = every_meets IsKeptLevel left right (l, r)
