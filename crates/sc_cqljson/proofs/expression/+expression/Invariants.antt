use Rattle.std.proofs.Common.{◌+◌, ◌*◌, take, map, sum, All}
use Rattle.sc_expr.specs.Form.{IsFormed}
use Rattle.sc_json.specs.Views.{values}
use Rattle.sc_cqljson.specs.Spells.{SpellAll}
use Rattle.sc_cqljson.proofs.expression.+expression.Given as goal

-- what is read within a call has fewer values than the call
abbrev pub decreases-expression_behind : goal.decreases-expression_behind
decreases-expression_behind l = 4 * values l.arg.now + 3

abbrev pub decreases-read_expression : goal.decreases-read_expression
decreases-read_expression l = 4 * values l.tree.now + 2

abbrev pub decreases-read_call : goal.decreases-read_call
decreases-read_call l = 4 * values l.tree.now + 1

abbrev pub decreases-read_fitting : goal.decreases-read_fitting
decreases-read_fitting l = 4 * values l.tree.now

abbrev pub decreases-read_applied : goal.decreases-read_applied
decreases-read_applied l = 4 * sum (map values l.args.now) + 5

abbrev pub decreases-read_members : goal.decreases-read_members
decreases-read_members l = 4 * sum (map values l.args.now) + 4

abbrev pub invariant-read_members-loop-i : goal.invariant-read_members-loop-i
invariant-read_members-loop-i l = SpellAll (take l.i l.args) l.members.items × All IsFormed l.members.items
