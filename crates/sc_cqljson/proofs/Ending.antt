-- What reading the whole tree comes to.
use Rattle.std.proofs.Common.{◌≡◌, ◌<◌, ◌≤◌, sym, subst}
use Rattle.sc_json.specs.declared.tree.Json.{Json}
use Rattle.sc_expr.specs.declared.expr.Expr.{Expr}
use Rattle.sc_expr.specs.declared.fault.CqlFault.{CqlFault}
use Rattle.sc_expr.specs.declared.fault.CqlFault.TheVariants.{Syntax, TooDeep, TooManyNodes, BadLiteral, OutOfMemory}
use Rattle.sc_expr.specs.Measure.{depth, nodes}
use Rattle.sc_expr.specs.Filter.{IsFilter}
use Rattle.sc_cqljson.specs.Operators.{expression}
use Rattle.sc_cqljson.specs.Spells.{Spells}
use Rattle.sc_cqljson.specs.Unfit.{Unfit}
use Rattle.sc_cqljson.specs.Told.{Tells}
use Rattle.sc_cqljson.specs.Filters.{IsCqlTree, IsTooDeep, HasTooManyNodes, IsTreeFault}

pub told_fault : (tree : Json) (f : CqlFault) → Tells (Unfit expression tree) f → IsTreeFault f tree
told_fault tree (Syntax at) t = record { number = t.0; told = t.1; unfit = t.2 }
told_fault tree (BadLiteral at) t = record { number = t.0; told = t.1; unfit = t.2 }
told_fault tree TooDeep t = absurd t
told_fault tree TooManyNodes t = absurd t
told_fault tree OutOfMemory t = tt

pub checked_tree : (tree : Json) (expr filter : Expr) → Spells tree expr → filter ≡ expr → IsFilter filter → IsCqlTree tree filter
checked_tree tree expr filter s e is = record { spelled = subst (Spells tree) (sym e) s; checked = is }

pub too_deep : (tree : Json) (expr : Expr) → Spells tree expr → 24 < depth expr → IsTooDeep tree
too_deep tree expr s deep = record { expr = expr; spelled = s; deep = deep }

pub too_many : (tree : Json) (expr : Expr) → Spells tree expr → depth expr ≤ 24 → 1024 < nodes expr → HasTooManyNodes tree
too_many tree expr s shallow many = record { expr = expr; spelled = s; shallow = shallow; many = many }
