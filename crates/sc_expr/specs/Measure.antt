-- How deep an expression nests, and how many nodes it has. Each expression, scalar, pattern and shape is a node.
use Rattle.std.specs.Prelude.{ℕ, ◌+◌, max, List, [], ◌∷◌, map, sum}
use Rattle.sc_expr.specs.declared.scalar.Scalar.{Scalar}
use Rattle.sc_expr.specs.declared.scalar.Scalar.TheOpen as inner
use Rattle.sc_expr.specs.declared.scalar.Scalar.TheOpen.{Scalar-F}
use Rattle.sc_expr.specs.declared.scalar.Scalar.TheFolds.{fold-Scalar}
use Rattle.sc_expr.specs.declared.expr.Expr.{Expr}
use Rattle.sc_expr.specs.declared.expr.Expr.TheOpen as outer
use Rattle.sc_expr.specs.declared.expr.Expr.TheOpen.{Expr-F}
use Rattle.sc_expr.specs.declared.expr.Expr.TheFolds.{fold-Expr}

-- the greatest of the numbers; 0 of none
abbrev pub greatest : List ℕ → ℕ
greatest [] = 0
greatest (n ∷ ns) = max n (greatest ns)

-- a leaf, which has no part, has depth 1; anything else is one deeper than its deepest part
abbrev pub one_deeper : List ℕ → ℕ
one_deeper depths = greatest depths + 1

-- the nodes of all parts and the node itself
abbrev pub one_more : List ℕ → ℕ
one_more counts = sum counts + 1

-- ---- parts, in their order, with a measure of each in its place

abbrev pub scalar_parts : Scalar-F ℕ → List ℕ
scalar_parts (inner.Prop name) = []
scalar_parts (inner.Text text) = []
scalar_parts (inner.Number number) = []
scalar_parts (inner.Truth truth) = []
scalar_parts (inner.Moment moment) = []
scalar_parts (inner.Folded scalar) = scalar ∷ []

-- a pattern and a shape are leaves: 1 is their depth and the number of their nodes
abbrev pub parts : (Scalar → ℕ) → Expr-F ℕ → List ℕ
parts scalar (outer.Const truth) = []
parts scalar (outer.And members) = members
parts scalar (outer.Or members) = members
parts scalar (outer.Not member) = member ∷ []
parts scalar (outer.Compare op left right) = scalar left ∷ scalar right ∷ []
parts scalar (outer.IsNull operand) = scalar operand ∷ []
parts scalar (outer.Between operand low high) = scalar operand ∷ scalar low ∷ scalar high ∷ []
parts scalar (outer.Among operand listed) = scalar operand ∷ map scalar listed
parts scalar (outer.Like operand pattern) = scalar operand ∷ 1 ∷ []
parts scalar (outer.Meets left right) = 1 ∷ 1 ∷ []

-- ---- depth

abbrev pub scalar_depth : Scalar → ℕ
scalar_depth = fold-Scalar ℕ (λ level. one_deeper (scalar_parts level))

abbrev pub level_depth : Expr-F ℕ → ℕ
level_depth level = one_deeper (parts scalar_depth level)

abbrev pub depth : Expr → ℕ
depth = fold-Expr ℕ level_depth

-- ---- nodes

abbrev pub scalar_nodes : Scalar → ℕ
scalar_nodes = fold-Scalar ℕ (λ level. one_more (scalar_parts level))

abbrev pub level_nodes : Expr-F ℕ → ℕ
level_nodes level = one_more (parts scalar_nodes level)

abbrev pub nodes : Expr → ℕ
nodes = fold-Expr ℕ level_nodes
