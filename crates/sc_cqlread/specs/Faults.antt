-- The faults of a text that is no filter, and their places.
use Rattle.std.specs.Prelude.{◌≡◌, ◌⊎◌, ℕ, ◌<◌, ◌≤◌, List, Some, None}
use Rattle.sc_grammar.specs.declared.token.Token.{Token}
use Rattle.sc_expr.specs.declared.expr.Expr.{Expr}
use Rattle.sc_expr.specs.Measure.{depth, nodes}
use Rattle.sc_expr.specs.declared.fault.CqlFault.{CqlFault}
use Rattle.sc_expr.specs.declared.fault.CqlFault.TheVariants.{Syntax, TooDeep, TooManyNodes, BadLiteral, OutOfMemory}
use Rattle.sc_cqlread.specs.Tokens.{readable, AreTokens}
use Rattle.sc_cqlread.specs.Nesting.{deepest}
use Rattle.sc_cqlread.specs.Reading.{Reading, bad_of}
use Rattle.sc_cqlread.specs.Filters.{Makes, Breaks, IsExpr}

-- parentheses nest deeper than 64 before the first byte at which no token can be formed
pub record NestsTooDeep (text : List ℕ) : Type 0 where
  pub tokens : List Token
  pub are : AreTokens text tokens
  pub deep : 64 < deepest tokens

-- the first token that no filter goes on with, where every literal before it can be read
pub record IsSyntax (text : List ℕ) (place : ℕ) : Type 0 where
  pub tokens : List Token
  pub made : Reading
  pub are : AreTokens text tokens
  pub shallow : deepest tokens ≤ 64
  pub breaks : Breaks (readable text) tokens place made
  pub sound : bad_of made ≡ None

-- the first literal that can't be read; before the place of a token that no filter goes on with, if there is one
pub record IsBadLiteral (text : List ℕ) (place : ℕ) : Type 0 where
  pub tokens : List Token
  pub made : Reading
  pub are : AreTokens text tokens
  pub shallow : deepest tokens ≤ 64
  pub comes : Makes (readable text) tokens made ⊎ (other : ℕ) × Breaks (readable text) tokens other made
  pub bad : bad_of made ≡ Some place

-- a filter that nests too deep
pub record IsTooDeep (text : List ℕ) : Type 0 where
  pub expr : Expr
  pub is : IsExpr text expr
  pub deep : 24 < depth expr

-- a filter that doesn't, and has too many nodes
pub record HasTooManyNodes (text : List ℕ) : Type 0 where
  pub expr : Expr
  pub is : IsExpr text expr
  pub shallow : depth expr ≤ 24
  pub many : 1024 < nodes expr

-- want of memory may come at any text
abbrev pub IsFault : List ℕ → CqlFault → Type 0
IsFault text (Syntax place) = IsSyntax text place
IsFault text TooDeep = NestsTooDeep text ⊎ IsTooDeep text
IsFault text TooManyNodes = HasTooManyNodes text
IsFault text (BadLiteral place) = IsBadLiteral text place
IsFault text OutOfMemory = Unit {0}
