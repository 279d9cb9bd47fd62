use Rattle.std.proofs.Common.{take, All}
use Rattle.sc_expr.specs.Form.{IsFormedScalar}
use Rattle.sc_cqljson.specs.Spells.{SpellScalars}
use Rattle.sc_cqljson.proofs.arguments.read_elements.Given as goal

abbrev pub invariant-loop-i : goal.invariant-loop-i
invariant-loop-i l = SpellScalars (take l.i l.elements) l.list.items × All IsFormedScalar l.list.items
