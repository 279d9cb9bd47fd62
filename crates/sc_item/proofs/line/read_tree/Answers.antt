use Rattle.std.proofs.Common.{sym, ◌∙◌}
use Rattle.sc_item.proofs.Telling.{untold_line, faulty_line}
use Rattle.sc_item.proofs.line.read_tree.Goals as goal

pub returns-in-None : goal.returns-in-None
returns-in-None c = λ line s item i. untold_line line c.args.tree s c.in-None.ensures item i

pub returns : goal.returns
returns c = λ line s item i.
    faulty_line line c.in-Some.collection.now c.in_ok-collection-in-Some.collection c.args.tree c.in-Err.fault s c.in-Some.ensures c.in_ok-collection-in-Some.ensures
    (sym c.is_memory.ensures ∙ c.if-is_memory.false) c.in-Err.ensures item i
