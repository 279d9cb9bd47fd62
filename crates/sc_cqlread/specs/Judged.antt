-- What a text comes to by what its tokens make.
use Rattle.std.specs.Prelude.{◌≡◌, ℕ, ◌<◌, ◌≤◌, [], ◌∷◌, Option, Some, None, Result, Ok, Err}
use Rattle.sc_expr.specs.declared.expr.Expr.{Expr}
use Rattle.sc_expr.specs.Filter.{IsFilter}
use Rattle.sc_expr.specs.Measure.{depth, nodes}
use Rattle.sc_expr.specs.declared.fault.CqlFault.{CqlFault}
use Rattle.sc_expr.specs.declared.fault.CqlFault.TheVariants.{Syntax, TooDeep, TooManyNodes, BadLiteral, OutOfMemory}
use Rattle.sc_cqlread.specs.Reading.{Reading, bad_of}

-- every literal can be read, and it is the one expression
pub record IsAlone (made : Reading) (expr : Expr) : Type 0 where
  pub sound : bad_of made ≡ None
  pub alone : made.values.exprs ≡ expr ∷ []

abbrev pub Judged : Reading → Result Expr CqlFault → Type 0
Judged made (Ok filter) = IsAlone made filter × IsFilter filter
Judged made (Err TooDeep) = (expr : Expr) × IsAlone made expr × (24 < depth expr)
Judged made (Err TooManyNodes) = (expr : Expr) × IsAlone made expr × (depth expr ≤ 24) × (1024 < nodes expr)
Judged made (Err (BadLiteral place)) = bad_of made ≡ Some place
Judged made (Err (Syntax place)) = ⊥
Judged made (Err OutOfMemory) = Unit {0}

-- the fault of a text that breaks off at a place
abbrev pub first_fault : Option ℕ → ℕ → CqlFault
first_fault None place = Syntax place
first_fault (Some other) place = BadLiteral other
