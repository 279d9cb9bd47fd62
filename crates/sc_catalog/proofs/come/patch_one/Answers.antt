use Rattle.sc_catalog.proofs.Patching.{bad_answer}
use Rattle.sc_catalog.proofs.come.patch_one.Goals as goal

pub returns-in-Err : goal.returns-in-Err
returns-in-Err c = rw c.patch_fault.ensures (bad_answer _ c.args.patch.now c.in-Err.fault c.in-Err.ensures)
