-- An expression is formed where its parts are, variant by variant: for callers that build expressions.
use Rattle.std.proofs.Common.{ℕ, ◌≤◌, Bool, List, length, ℤ}
use Rattle.std.specs.List.{All}
use Rattle.sc_decimal.specs.Number.{Number}
use Rattle.sc_expr.specs.declared.scalar.Scalar.{Scalar}
use Rattle.sc_expr.specs.declared.scalar.Scalar.TheVariants as scalars
use Rattle.sc_expr.specs.declared.scalar.Pattern.{Pattern}
use Rattle.sc_expr.specs.declared.scalar.Shape.{Shape}
use Rattle.sc_expr.specs.declared.expr.CompOp.{CompOp}
use Rattle.sc_expr.specs.declared.expr.Expr.{Expr}
use Rattle.sc_expr.specs.declared.expr.Expr.TheVariants as exprs
use Rattle.sc_expr.specs.Form.{IsScalarLevel, IsFormedScalar, IsFormedShape, IsLevel, IsFormed}
use Rattle.sc_expr.proofs.Every.{every_property, every_text, every_number, every_truth, every_moment, every_folded, every_const, every_and, every_or, every_not, every_compare, every_is_null, every_between, every_among, every_like, every_meets}

pub property_formed : (name : List ℕ) → 1 ≤ length name → IsFormedScalar (scalars.Prop name)
property_formed = every_property IsScalarLevel

pub text_formed : (text : List ℕ) → IsFormedScalar (scalars.Text text)
text_formed text = every_text IsScalarLevel text tt

pub number_formed : (number : Number) → IsFormedScalar (scalars.Number number)
number_formed number = every_number IsScalarLevel number tt

pub truth_formed : (truth : Bool) → IsFormedScalar (scalars.Truth truth)
truth_formed truth = every_truth IsScalarLevel truth tt

pub moment_formed : (moment : ℤ) → IsFormedScalar (scalars.Moment moment)
moment_formed moment = every_moment IsScalarLevel moment tt

pub folded_formed : (scalar : Scalar) → IsFormedScalar scalar → IsFormedScalar (scalars.Folded scalar)
folded_formed scalar = every_folded IsScalarLevel scalar tt

pub const_formed : (truth : Bool) → IsFormed (exprs.Const truth)
const_formed truth = every_const IsLevel truth tt

pub and_formed : (members : List Expr) → 2 ≤ length members → All IsFormed members → IsFormed (exprs.And members)
and_formed = every_and IsLevel

pub or_formed : (members : List Expr) → 2 ≤ length members → All IsFormed members → IsFormed (exprs.Or members)
or_formed = every_or IsLevel

pub not_formed : (member : Expr) → IsFormed member → IsFormed (exprs.Not member)
not_formed member = every_not IsLevel member tt

pub compare_formed : (op : CompOp) (left right : Scalar) → IsFormedScalar left → IsFormedScalar right → IsFormed (exprs.Compare op left right)
compare_formed op left right l r = every_compare IsLevel op left right (l, r)

pub is_null_formed : (operand : Scalar) → IsFormedScalar operand → IsFormed (exprs.IsNull operand)
is_null_formed = every_is_null IsLevel

pub between_formed : (operand low high : Scalar) → IsFormedScalar operand → IsFormedScalar low → IsFormedScalar high → IsFormed (exprs.Between operand low high)
between_formed operand low high o l h = every_between IsLevel operand low high (o, l, h)

pub among_formed : (operand : Scalar) (listed : List Scalar) → IsFormedScalar operand → 1 ≤ length listed → All IsFormedScalar listed → IsFormed (exprs.Among operand listed)
among_formed operand listed o some all = every_among IsLevel operand listed (o, some, all)

pub like_formed : (operand : Scalar) (pattern : Pattern) → IsFormedScalar operand → IsFormed (exprs.Like operand pattern)
like_formed = every_like IsLevel

pub meets_formed : (left right : Shape) → IsFormedShape left → IsFormedShape right → IsFormed (exprs.Meets left right)
meets_formed left right l r = every_meets IsLevel left right (l, r)
