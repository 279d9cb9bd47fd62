-- Which expression a tree is (OGC 21-065r2, Annex B): by cases on the expression.
use Rattle.std.specs.Prelude.{◌≡◌, ℕ, ℤ, ◌≤◌, Bool, true, false, List, [], ◌∷◌, length, Some}
use Rattle.sc_decimal.specs.Number.{Number}
use Rattle.sc_json.specs.declared.tree.Json.{Json}
use Rattle.sc_json.specs.declared.tree.Json.TheVariants as trees
use Rattle.sc_json.specs.Views.{text_of, list_of}
use Rattle.sc_json.specs.Views as views
use Rattle.sc_geom.specs.declared.point.Pt.{Pt}
use Rattle.sc_geom.specs.Shapes.{Shapes}
use Rattle.sc_expr.specs.declared.scalar.Scalar.{Scalar}
use Rattle.sc_expr.specs.declared.scalar.Scalar.TheVariants as scalars
use Rattle.sc_expr.specs.declared.scalar.Pattern.{Pattern}
use Rattle.sc_expr.specs.declared.scalar.Shape.{Shape}
use Rattle.sc_expr.specs.declared.scalar.Shape.TheVariants as shapes
use Rattle.sc_expr.specs.declared.expr.CompOp.{CompOp}
use Rattle.sc_expr.specs.declared.expr.Expr.{Expr}
use Rattle.sc_expr.specs.declared.expr.Expr.TheVariants as exprs
use Rattle.sc_cqljson.specs.declared.operator.Operator.{Operator}
use Rattle.sc_cqljson.specs.declared.operator.Operator.TheVariants.{And, Or, Not, Compare, IsNull, Between, In, Like, CaseI, Intersects}
use Rattle.sc_cqljson.specs.Heads.{property, timestamp, date, head_of, operator_of, args_of, name_in}
use Rattle.sc_cqljson.specs.Drawn.{instant_in, date_in, Draws}

-- an object that calls an operator on these arguments
pub record Calls (tree : Json) (operator : Operator) (args : List Json) : Type 0 where
  pub by : operator_of tree ≡ Some operator
  pub on : args_of tree ≡ Some args

pub data SpellsScalar : Json → Scalar → Type 0 where
  prop : (tree value : Json) (name : List ℕ) → head_of tree ≡ property value → name_in value ≡ Some name → SpellsScalar tree (scalars.Prop name)
  text : (tree : Json) (t : List ℕ) → text_of tree ≡ Some t → SpellsScalar tree (scalars.Text t)
  number : (tree : Json) (n : Number) → views.number_of tree ≡ Some n → SpellsScalar tree (scalars.Number n)
  truth : (tree : Json) (b : Bool) → tree ≡ trees.Truth b → SpellsScalar tree (scalars.Truth b)
  timed : (tree value : Json) (at : ℤ) → head_of tree ≡ timestamp value → instant_in value ≡ Some at → SpellsScalar tree (scalars.Moment at)
  dated : (tree value : Json) (at : ℤ) → head_of tree ≡ date value → date_in value ≡ Some at → SpellsScalar tree (scalars.Moment at)
  folded : (tree arg : Json) (s : Scalar) → Calls tree CaseI (arg ∷ []) → SpellsScalar arg s → SpellsScalar tree (scalars.Folded s)

-- the elements of a list, in order
pub data SpellScalars : List Json → List Scalar → Type 0 where
  no_scalars : SpellScalars [] []
  one_scalar : (tree : Json) (trees : List Json) (s : Scalar) (ss : List Scalar) → SpellsScalar tree s → SpellScalars trees ss → SpellScalars (tree ∷ trees) (s ∷ ss)

-- a list that isn't empty
pub record SpellsList (tree : Json) (list : List Scalar) : Type 0 where
  pub elements : List Json
  pub are : list_of tree ≡ Some elements
  pub some : 1 ≤ length elements
  pub spelled : SpellScalars elements list

-- a text, or any number of foldings of one
pub data SpellsPattern : Json → Pattern → Type 0 where
  plain : (tree : Json) (t : List ℕ) → text_of tree ≡ Some t → SpellsPattern tree (record { text = t; folded = false })
  unfolded : (tree arg : Json) (t : List ℕ) (b : Bool) → Calls tree CaseI (arg ∷ []) → SpellsPattern arg (record { text = t; folded = b }) →
      SpellsPattern tree (record { text = t; folded = true })

pub data SpellsShape : Json → Shape → Type 0 where
  of_property : (tree value : Json) (name : List ℕ) → head_of tree ≡ property value → name_in value ≡ Some name → SpellsShape tree (shapes.Prop name)
  drawn : (tree : Json) (g : Shapes Pt) → Draws tree g → SpellsShape tree (shapes.Geom g)

mutual
  pub data Spells : Json → Expr → Type 0 where
    const : (tree : Json) (b : Bool) → tree ≡ trees.Truth b → Spells tree (exprs.Const b)
    applied : (tree : Json) (operator : Operator) (args : List Json) (expr : Expr) → Calls tree operator args → Applied operator args expr → Spells tree expr

  -- an operator on its arguments
  pub data Applied : Operator → List Json → Expr → Type 0 where
    conjunction : (args : List Json) (members : List Expr) → 2 ≤ length args → SpellAll args members → Applied And args (exprs.And members)
    disjunction : (args : List Json) (members : List Expr) → 2 ≤ length args → SpellAll args members → Applied Or args (exprs.Or members)
    negation : (a : Json) (member : Expr) → Spells a member → Applied Not (a ∷ []) (exprs.Not member)
    comparison : (op : CompOp) (a b : Json) (left right : Scalar) → SpellsScalar a left → SpellsScalar b right → Applied (Compare op) (a ∷ b ∷ []) (exprs.Compare op left right)
    null : (a : Json) (operand : Scalar) → SpellsScalar a operand → Applied IsNull (a ∷ []) (exprs.IsNull operand)
    between : (a b c : Json) (operand low high : Scalar) → SpellsScalar a operand → SpellsScalar b low → SpellsScalar c high →
        Applied Between (a ∷ b ∷ c ∷ []) (exprs.Between operand low high)
    among : (a b : Json) (operand : Scalar) (list : List Scalar) → SpellsScalar a operand → SpellsList b list → Applied In (a ∷ b ∷ []) (exprs.Among operand list)
    like : (a b : Json) (operand : Scalar) (p : Pattern) → SpellsScalar a operand → SpellsPattern b p → Applied Like (a ∷ b ∷ []) (exprs.Like operand p)
    intersection : (a b : Json) (left right : Shape) → SpellsShape a left → SpellsShape b right → Applied Intersects (a ∷ b ∷ []) (exprs.Meets left right)

  -- the arguments, in order
  pub data SpellAll : List Json → List Expr → Type 0 where
    none_left : SpellAll [] []
    one_more : (tree : Json) (trees : List Json) (e : Expr) (es : List Expr) → Spells tree e → SpellAll trees es → SpellAll (tree ∷ trees) (e ∷ es)
