-- The tokens of what compares scalars and relates shapes (OGC 21-065r2, Annex B: predicate).
use Rattle.std.specs.Prelude.{List, [], ◌∷◌, ◌++◌, map, codes}
use Rattle.sc_expr.specs.declared.scalar.Scalar.{Scalar}
use Rattle.sc_expr.specs.declared.scalar.Pattern.{Pattern}
use Rattle.sc_expr.specs.declared.scalar.Shape.{Shape}
use Rattle.sc_expr.specs.declared.expr.CompOp.{CompOp}
use Rattle.sc_cqlwrite.specs.Tokens as tokens
use Rattle.sc_cqlwrite.specs.Tokens.{Token, enclosed, listed}
use Rattle.sc_cqlwrite.specs.Scalars.{scalar_tokens, pattern_tokens}
use Rattle.sc_cqlwrite.specs.Geometries.{shape_tokens}

unfoldable pub comparison_tokens : CompOp → Scalar → Scalar → List Token
comparison_tokens op left right = scalar_tokens left ++ (tokens.sign op ∷ scalar_tokens right)

unfoldable pub null_tokens : Scalar → List Token
null_tokens operand = scalar_tokens operand ++ (tokens.word (codes "IS") ∷ tokens.word (codes "NULL") ∷ [])

unfoldable pub between_tokens : Scalar → Scalar → Scalar → List Token
between_tokens operand low high =
    scalar_tokens operand ++ (tokens.word (codes "BETWEEN") ∷ (scalar_tokens low ++ (tokens.word (codes "AND") ∷ scalar_tokens high)))

unfoldable pub among_tokens : Scalar → List Scalar → List Token
among_tokens operand scalars = scalar_tokens operand ++ (tokens.word (codes "IN") ∷ listed (map scalar_tokens scalars))

unfoldable pub like_tokens : Scalar → Pattern → List Token
like_tokens operand pattern = scalar_tokens operand ++ (tokens.word (codes "LIKE") ∷ pattern_tokens pattern)

unfoldable pub meets_tokens : Shape → Shape → List Token
meets_tokens left right =
    tokens.function (codes "S_INTERSECTS") ∷ enclosed (shape_tokens left ++ (tokens.comma ∷ shape_tokens right))
