-- The trees of what compares scalars and relates shapes (OGC 21-065r2, Annex B: predicate).
use Rattle.std.specs.Prelude.{List, [], ◌∷◌, map, codes}
use Rattle.sc_json.specs.declared.tree.Json.{Json}
use Rattle.sc_json.specs.declared.tree.Json.TheVariants as trees
use Rattle.sc_expr.specs.declared.scalar.Scalar.{Scalar}
use Rattle.sc_expr.specs.declared.scalar.Pattern.{Pattern}
use Rattle.sc_expr.specs.declared.scalar.Shape.{Shape}
use Rattle.sc_expr.specs.declared.expr.CompOp.{CompOp}
use Rattle.sc_cqlwrite.specs.Tokens.{sign_of}
use Rattle.sc_cqltree.specs.Objects.{call}
use Rattle.sc_cqltree.specs.Scalars.{scalar_tree, pattern_tree}
use Rattle.sc_cqltree.specs.Geometries.{shape_tree}

-- a comparison is named by its sign, which is that of CQL2 text
unfoldable pub comparison_tree : CompOp → Scalar → Scalar → Json
comparison_tree op left right = call (sign_of op) (scalar_tree left ∷ scalar_tree right ∷ [])

unfoldable pub null_tree : Scalar → Json
null_tree operand = call (codes "isNull") (scalar_tree operand ∷ [])

unfoldable pub between_tree : Scalar → Scalar → Scalar → Json
between_tree operand low high = call (codes "between") (scalar_tree operand ∷ scalar_tree low ∷ scalar_tree high ∷ [])

unfoldable pub among_tree : Scalar → List Scalar → Json
among_tree operand scalars = call (codes "in") (scalar_tree operand ∷ trees.List (map scalar_tree scalars) ∷ [])

unfoldable pub like_tree : Scalar → Pattern → Json
like_tree operand pattern = call (codes "like") (scalar_tree operand ∷ pattern_tree pattern ∷ [])

unfoldable pub meets_tree : Shape → Shape → Json
meets_tree left right = call (codes "s_intersects") (shape_tree left ∷ shape_tree right ∷ [])
