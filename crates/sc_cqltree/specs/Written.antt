-- The tree of an expression (OGC 21-065r2, Annex B: booleanExpression), by cases on the expression.
use Rattle.std.specs.Prelude.{[], ◌∷◌, codes}
use Rattle.sc_json.specs.declared.tree.Json.{Json}
use Rattle.sc_json.specs.declared.tree.Json.TheVariants as trees
use Rattle.sc_expr.specs.declared.expr.Expr.{Expr}
use Rattle.sc_expr.specs.declared.expr.Expr.TheOpen as outer
use Rattle.sc_expr.specs.declared.expr.Expr.TheOpen.{Expr-F}
use Rattle.sc_expr.specs.declared.expr.Expr.TheFolds.{fold-Expr}
use Rattle.sc_cqltree.specs.Objects.{call}
use Rattle.sc_cqltree.specs.Predicates.{comparison_tree, null_tree, between_tree, among_tree, like_tree, meets_tree}

-- with the tree of each member in its place
abbrev pub level : Expr-F Json → Json
level (outer.Const truth) = trees.Truth truth
level (outer.And members) = call (codes "and") members
level (outer.Or members) = call (codes "or") members
level (outer.Not member) = call (codes "not") (member ∷ [])
level (outer.Compare op left right) = comparison_tree op left right
level (outer.IsNull operand) = null_tree operand
level (outer.Between operand low high) = between_tree operand low high
level (outer.Among operand scalars) = among_tree operand scalars
level (outer.Like operand pattern) = like_tree operand pattern
level (outer.Meets left right) = meets_tree left right

abbrev pub written : Expr → Json
written = fold-Expr Json level
