use Rattle.std.proofs.Common.{sym, subst}
use Rattle.sc_token.specs.Faults.{IsNoList}
use Rattle.sc_token.proofs.Lists.{other_spells_no_list, fault_is_no_list}
use Rattle.sc_token.proofs.read.elements_of.Goals as goal

pub returns-in-None : goal.returns-in-None
returns-in-None c = other_spells_no_list c.args.bytes.now c.in-Ok.tree c.in-Ok.ensures c.in-None.ensures

pub returns-in-Err : goal.returns-in-Err
returns-in-Err c = subst (IsNoList c.args.bytes.now) (sym c.fault_for.ensures) (fault_is_no_list c.args.bytes.now c.in-Err.fault c.in-Err.ensures)
