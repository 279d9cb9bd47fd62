-- What a filter is, and which fault an expression has that is none.
use Rattle.std.specs.Prelude.{◌≡◌, ℕ, ◌-◌, ◌^◌, ◌<◌, ◌≤◌, min}
use Rattle.sc_expr.specs.declared.expr.Expr.{Expr}
use Rattle.sc_expr.specs.declared.fault.ExprFault.{ExprFault}
use Rattle.sc_expr.specs.declared.fault.ExprFault.TheVariants.{TooDeep, TooManyNodes}
use Rattle.sc_expr.specs.Measure.{depth, nodes}
use Rattle.sc_expr.specs.Form.{IsFormed}
use Rattle.sc_expr.specs.Kept.{IsKept}

pub record IsFilter (expr : Expr) : Type 0 where
  pub formed : IsFormed expr
  pub kept : IsKept expr
  pub shallow : depth expr ≤ 24
  pub few : nodes expr ≤ 1024

-- a count in so many bits, which stays at the greatest of them
abbrev pub in_bits : ℕ → ℕ → ℕ
in_bits bits count = min count (2 ^ bits - 1)

-- depth is judged before nodes
abbrev pub IsFault : ExprFault → Expr → Type 0
IsFault (TooDeep count) expr = (24 < depth expr) × (count ≡ in_bits 32 (depth expr))
IsFault (TooManyNodes count) expr = (depth expr ≤ 24) × (1024 < nodes expr) × (count ≡ in_bits 64 (nodes expr))
