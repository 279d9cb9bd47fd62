-- What the grammar of CQL2 (OGC 21-065) asks of an expression beside its type: AND and OR join two or more members, IN
-- has a list of one or more, a property has a name, and a geometry has at most 1,000 positions.
use Rattle.std.specs.Prelude.{◌≤◌, All, length}
use Rattle.sc_geom.specs.Shapes.{positions_of}
use Rattle.sc_expr.specs.declared.scalar.Scalar.{Scalar}
use Rattle.sc_expr.specs.declared.scalar.Scalar.TheOpen as inner
use Rattle.sc_expr.specs.declared.scalar.Scalar.TheOpen.{Scalar-F}
use Rattle.sc_expr.specs.declared.scalar.Scalar.TheFolds.{every-Scalar}
use Rattle.sc_expr.specs.declared.scalar.Shape.{Shape}
use Rattle.sc_expr.specs.declared.scalar.Shape.TheVariants.{Prop, Geom}
use Rattle.sc_expr.specs.declared.expr.Expr.{Expr}
use Rattle.sc_expr.specs.declared.expr.Expr.TheOpen as outer
use Rattle.sc_expr.specs.declared.expr.Expr.TheOpen.{Expr-F}
use Rattle.sc_expr.specs.declared.expr.Expr.TheFolds.{every-Expr}

abbrev pub IsScalarLevel : Scalar-F Scalar → Type 0
IsScalarLevel (inner.Prop name) = 1 ≤ length name
IsScalarLevel (inner.Text text) = Unit {0}
IsScalarLevel (inner.Number number) = Unit {0}
IsScalarLevel (inner.Truth truth) = Unit {0}
IsScalarLevel (inner.Moment moment) = Unit {0}
IsScalarLevel (inner.Folded scalar) = Unit {0}

abbrev pub IsFormedScalar : Scalar → Type 0
IsFormedScalar = every-Scalar IsScalarLevel

abbrev pub IsFormedShape : Shape → Type 0
IsFormedShape (Prop name) = 1 ≤ length name
IsFormedShape (Geom geometry) = length (positions_of geometry) ≤ 1000

abbrev pub IsLevel : Expr-F Expr → Type 0
IsLevel (outer.Const truth) = Unit {0}
IsLevel (outer.And members) = 2 ≤ length members
IsLevel (outer.Or members) = 2 ≤ length members
IsLevel (outer.Not member) = Unit {0}
IsLevel (outer.Compare op left right) = IsFormedScalar left × IsFormedScalar right
IsLevel (outer.IsNull operand) = IsFormedScalar operand
IsLevel (outer.Between operand low high) = IsFormedScalar operand × IsFormedScalar low × IsFormedScalar high
IsLevel (outer.Among operand listed) = IsFormedScalar operand × (1 ≤ length listed) × All IsFormedScalar listed
IsLevel (outer.Like operand pattern) = IsFormedScalar operand
IsLevel (outer.Meets left right) = IsFormedShape left × IsFormedShape right

abbrev pub IsFormed : Expr → Type 0
IsFormed = every-Expr IsLevel
