-- The filters of CQL2 text (OGC 21-065r2, Annex B): which expression a text is.
use Rattle.std.specs.Prelude.{◌≡◌, ℕ, ◌≤◌, List, [], ◌∷◌, ◌++◌, None}
use Rattle.sc_grammar.specs.Grammar.{non, Derives}
use Rattle.sc_grammar.specs.declared.token.Class.{Class}
use Rattle.sc_grammar.specs.declared.token.Token.{Token}
use Rattle.sc_cqlgrammar.specs.declared.rule.Rule.{Rule}
use Rattle.sc_cqlgrammar.specs.declared.rule.Rule.TheVariants as rules
use Rattle.sc_cqlgrammar.specs.declared.mark.Mark.{Mark}
use Rattle.sc_cqlgrammar.specs.Rules.{Items, IsAlternative}
use Rattle.sc_cqlgrammar.specs.Reading.{class_of, AreFront}
use Rattle.sc_expr.specs.declared.expr.Expr.{Expr}
use Rattle.sc_expr.specs.Filter.{IsFilter}
use Rattle.sc_cqlread.specs.Tokens.{readable, AreTokens}
use Rattle.sc_cqlread.specs.Nesting.{deepest}
use Rattle.sc_cqlread.specs.Fronts.{DerivesSoFar, IsAtRest}
use Rattle.sc_cqlread.specs.Reading.{Reading, start, eats, does, bad_of}

-- a filter and the end of the text
abbrev pub whole : Items
whole = non rules.Whole ∷ []

-- the tokens are a whole text of the grammar, and what they make
abbrev pub Makes : List ℕ → List Token → Reading → Type 0
Makes chars tokens made = Derives Token Class Rule Mark Reading class_of (eats chars) (does chars) IsAlternative whole start tokens made

-- the tokens are read as a front of a filter, as far as they go, and what they make
pub record BeginsAs (chars : List ℕ) (before : List Token) (made : Reading) : Type 0 where
  pub items : Items
  pub begun : DerivesSoFar Reading (eats chars) (does chars) whole start before items made
  pub at_rest : IsAtRest items

-- the tokens before one are a front of a filter, and with it they are none: the place where it stands, and what those
-- before it make
pub record Breaks (chars : List ℕ) (tokens : List Token) (place : ℕ) (made : Reading) : Type 0 where
  pub before : List Token
  pub token : Token
  pub behind : List Token
  pub are : tokens ≡ before ++ token ∷ behind
  pub front : AreFront whole before
  pub no_front : AreFront whole (before ++ token ∷ []) → ⊥
  pub stands : place ≡ token.from
  pub begins : BeginsAs chars before made

-- the text is of the grammar, its parentheses nest no deeper than 64, and it is the expression
pub record IsExpr (text : List ℕ) (expr : Expr) : Type 0 where
  pub tokens : List Token
  pub made : Reading
  pub are : AreTokens text tokens
  pub shallow : deepest tokens ≤ 64
  pub makes : Makes (readable text) tokens made
  pub sound : bad_of made ≡ None
  pub alone : made.values.exprs ≡ expr ∷ []

pub record IsCqlText (text : List ℕ) (filter : Expr) : Type 0 where
  pub expr : IsExpr text filter
  pub checked : IsFilter filter
