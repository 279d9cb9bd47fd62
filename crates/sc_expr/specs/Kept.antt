-- What the types of an expression's parts keep: texts and names are UTF-8, numbers stand in their one form, moments and
-- geometries are within their ranges.
use Rattle.std.specs.Prelude.{All, IsUtf8}
use Rattle.sc_decimal.specs.Number.{IsDec}
use Rattle.sc_time.specs.Instant.{IsInstant}
use Rattle.sc_geom.specs.Geometry.{IsGeometry}
use Rattle.sc_expr.specs.declared.scalar.Scalar.{Scalar}
use Rattle.sc_expr.specs.declared.scalar.Scalar.TheOpen as inner
use Rattle.sc_expr.specs.declared.scalar.Scalar.TheOpen.{Scalar-F}
use Rattle.sc_expr.specs.declared.scalar.Scalar.TheFolds.{every-Scalar}
use Rattle.sc_expr.specs.declared.scalar.Shape.{Shape}
use Rattle.sc_expr.specs.declared.scalar.Shape.TheVariants.{Prop, Geom}
use Rattle.sc_expr.specs.declared.expr.Expr.{Expr}
use Rattle.sc_expr.specs.declared.expr.Expr.TheOpen as outer
use Rattle.sc_expr.specs.declared.expr.Expr.TheOpen.{Expr-F}
use Rattle.sc_expr.specs.declared.expr.Expr.TheFolds.{every-Expr}

abbrev pub IsKeptScalarLevel : Scalar-F Scalar → Type 0
IsKeptScalarLevel (inner.Prop name) = IsUtf8 name
IsKeptScalarLevel (inner.Text text) = IsUtf8 text
IsKeptScalarLevel (inner.Number number) = IsDec number
IsKeptScalarLevel (inner.Truth truth) = Unit {0}
IsKeptScalarLevel (inner.Moment moment) = IsInstant moment
IsKeptScalarLevel (inner.Folded scalar) = Unit {0}

abbrev pub IsKeptScalar : Scalar → Type 0
IsKeptScalar = every-Scalar IsKeptScalarLevel

abbrev pub IsKeptShape : Shape → Type 0
IsKeptShape (Prop name) = IsUtf8 name
IsKeptShape (Geom geometry) = IsGeometry geometry

abbrev pub IsKeptLevel : Expr-F Expr → Type 0
IsKeptLevel (outer.Const truth) = Unit {0}
IsKeptLevel (outer.And members) = Unit {0}
IsKeptLevel (outer.Or members) = Unit {0}
IsKeptLevel (outer.Not member) = Unit {0}
IsKeptLevel (outer.Compare op left right) = IsKeptScalar left × IsKeptScalar right
IsKeptLevel (outer.IsNull operand) = IsKeptScalar operand
IsKeptLevel (outer.Between operand low high) = IsKeptScalar operand × IsKeptScalar low × IsKeptScalar high
IsKeptLevel (outer.Among operand listed) = IsKeptScalar operand × All IsKeptScalar listed
IsKeptLevel (outer.Like operand pattern) = IsKeptScalar operand × IsUtf8 pattern.text
IsKeptLevel (outer.Meets left right) = IsKeptShape left × IsKeptShape right

abbrev pub IsKept : Expr → Type 0
IsKept = every-Expr IsKeptLevel
