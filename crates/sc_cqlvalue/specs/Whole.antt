-- What the tokens of a whole filter leave, whatever its geometries are.
use Rattle.std.specs.Prelude.{◌≡◌, ℕ, ◌+◌, List, [], ◌∷◌, Result}
use Rattle.sc_geom.specs.declared.point.Pt.{Pt}
use Rattle.sc_geom.specs.Shapes.{Shapes}
use Rattle.sc_grammar.specs.Grammar.{non, Derives}
use Rattle.sc_grammar.specs.declared.token.Class.{Class}
use Rattle.sc_grammar.specs.declared.token.Token.{Token}
use Rattle.sc_cqlgrammar.specs.declared.rule.Rule.{Rule}
use Rattle.sc_cqlgrammar.specs.declared.rule.Rule.TheVariants as rules
use Rattle.sc_cqlgrammar.specs.declared.mark.Mark.{Mark}
use Rattle.sc_cqlgrammar.specs.declared.mark.Mark.TheVariants as marks
use Rattle.sc_cqlgrammar.specs.Rules.{IsAlternative}
use Rattle.sc_cqlgrammar.specs.Reading.{class_of}
use Rattle.sc_expr.specs.declared.expr.Expr.{Expr}
use Rattle.sc_cqlvalue.specs.declared.state.State.{State}
use Rattle.sc_cqlvalue.specs.Values.{start, eats, does, with_geometry}

-- for each geometry in its turn what was drawn, or the place of one that is refused
abbrev pub Drawn : Type 0
Drawn = ℕ → Result (Shapes Pt) ℕ

-- what was read, and how many geometries there were
abbrev pub Counted : Type 0
Counted = State × ℕ

abbrev pub eats_counted : Token → Counted → Counted
eats_counted token c = (eats token c.0, c.1)

abbrev pub does_counted : Drawn → List ℕ → Mark → Counted → Counted
does_counted drawn text marks.Geometry c = (with_geometry (drawn c.1) c.0, c.1 + 1)
does_counted drawn text mark c = (does text mark c.0, c.1)

-- the tokens are a whole text of a filter, and leave this
abbrev pub Leave : Drawn → List ℕ → List Token → State → Type 0
Leave drawn text tokens s =
    (geometries : ℕ) × Derives Token Class Rule Mark Counted class_of eats_counted (does_counted drawn text) IsAlternative (non rules.Whole ∷ []) (start, 0) tokens (s, geometries)

-- the expression stands ready, and nothing else does
pub record IsLeft (expr : Expr) (s : State) : Type 0 where
  pub exprs : s.exprs ≡ expr ∷ []
  pub scalars : s.scalars ≡ []
  pub shapes : s.shapes ≡ []
  pub chains : s.chains ≡ []
