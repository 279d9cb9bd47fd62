-- The filters of CQL2 JSON (OGC 21-065r2, Annex B): which filter a tree is, and the faults of a tree that is none.
use Rattle.std.specs.Prelude.{◌≡◌, ℕ, ◌<◌, ◌≤◌}
use Rattle.sc_json.specs.declared.tree.Json.{Json}
use Rattle.sc_expr.specs.declared.expr.Expr.{Expr}
use Rattle.sc_expr.specs.declared.fault.CqlFault.{CqlFault}
use Rattle.sc_expr.specs.declared.fault.CqlFault.TheVariants.{Syntax, TooDeep, TooManyNodes, BadLiteral, OutOfMemory}
use Rattle.sc_expr.specs.Measure.{depth, nodes}
use Rattle.sc_expr.specs.Filter.{IsFilter, in_bits}
use Rattle.sc_cqljson.specs.Operators.{expression}
use Rattle.sc_cqljson.specs.Spells.{Spells}
use Rattle.sc_cqljson.specs.Forms.{Unfitness, misplaced, unreadable}
use Rattle.sc_cqljson.specs.Unfit.{Unfit}

-- the tree spells the expression, which is formed, kept and within its limits
pub record IsCqlTree (tree : Json) (filter : Expr) : Type 0 where
  pub spelled : Spells tree filter
  pub checked : IsFilter filter

-- the number is that of the first value that doesn't fit; a number stays at the greatest of its type
pub record IsUnfitAt (tree : Json) (how : Unfitness) (at : ℕ) : Type 0 where
  pub number : ℕ
  pub told : at ≡ in_bits 64 number
  pub unfit : Unfit expression tree number how

-- an expression that nests too deep
pub record IsTooDeep (tree : Json) : Type 0 where
  pub expr : Expr
  pub spelled : Spells tree expr
  pub deep : 24 < depth expr

-- one that doesn't, and has too many nodes
pub record HasTooManyNodes (tree : Json) : Type 0 where
  pub expr : Expr
  pub spelled : Spells tree expr
  pub shallow : depth expr ≤ 24
  pub many : 1024 < nodes expr

-- want of memory may come at any tree
abbrev pub IsTreeFault : CqlFault → Json → Type 0
IsTreeFault (Syntax at) tree = IsUnfitAt tree misplaced at
IsTreeFault (BadLiteral at) tree = IsUnfitAt tree unreadable at
IsTreeFault TooDeep tree = IsTooDeep tree
IsTreeFault TooManyNodes tree = HasTooManyNodes tree
IsTreeFault OutOfMemory tree = Unit {0}
