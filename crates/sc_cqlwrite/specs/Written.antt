-- The text of an expression (OGC 21-065r2, Annex B: booleanExpression).
use Rattle.std.specs.Prelude.{ℕ, List, [], ◌∷◌, map, Bool, true, false, codes}
use Rattle.sc_expr.specs.declared.expr.Expr.{Expr}
use Rattle.sc_expr.specs.declared.expr.Expr.TheOpen as outer
use Rattle.sc_expr.specs.declared.expr.Expr.TheOpen.{Expr-F}
use Rattle.sc_expr.specs.declared.expr.Expr.TheFolds.{fold-Expr}
use Rattle.sc_cqlwrite.specs.Tokens as tokens
use Rattle.sc_cqlwrite.specs.Tokens.{Token, enclosed, between, text_of}
use Rattle.sc_cqlwrite.specs.Scalars.{truth_token}
use Rattle.sc_cqlwrite.specs.Predicates.{comparison_tokens, null_tokens, between_tokens, among_tokens, like_tokens, meets_tokens}

-- the tokens of an expression, and whether it is And, Or or Not: these stand in parentheses within one another
pub record Phrase : Type 0 where
  pub is_joined : Bool
  pub tokens : List Token

abbrev pub joined : List Token → Phrase
joined ts = record { is_joined = true; tokens = ts }

abbrev pub single : List Token → Phrase
single ts = record { is_joined = false; tokens = ts }

abbrev pub enclosed_if : Bool → List Token → List Token
enclosed_if true inside = enclosed inside
enclosed_if false inside = inside

-- a member of And, Or or Not
abbrev pub member_of : Phrase → List Token
member_of member = enclosed_if member.is_joined member.tokens

abbrev pub level : Expr-F Phrase → Phrase
level (outer.Const truth) = single (truth_token truth ∷ [])
level (outer.And members) = joined (between (tokens.word (codes "AND")) (map member_of members))
level (outer.Or members) = joined (between (tokens.word (codes "OR")) (map member_of members))
level (outer.Not member) = joined (tokens.word (codes "NOT") ∷ member_of member)
level (outer.Compare op left right) = single (comparison_tokens op left right)
level (outer.IsNull operand) = single (null_tokens operand)
level (outer.Between operand low high) = single (between_tokens operand low high)
level (outer.Among operand scalars) = single (among_tokens operand scalars)
level (outer.Like operand pattern) = single (like_tokens operand pattern)
level (outer.Meets left right) = single (meets_tokens left right)

abbrev pub phrase_of : Expr → Phrase
phrase_of = fold-Expr Phrase level

abbrev pub tokens_of : Expr → List Token
tokens_of expr = (phrase_of expr).tokens

abbrev pub member_tokens : Expr → List Token
member_tokens expr = member_of (phrase_of expr)

abbrev pub written : Expr → List ℕ
written expr = text_of (tokens_of expr)
