use Rattle.std.proofs.Common.{subst, sym}
use Rattle.sc_load.specs.Load.{IsItemOf}
use Rattle.sc_load.proofs.Again.{reads_again}
use Rattle.sc_machine.proofs.drafts.prepare_renewed.Goals as goal

pub returns-in-Ok-clause-well_formed : goal.returns-in-Ok-clause-well_formed
returns-in-Ok-clause-well_formed c =
    subst (IsItemOf c.args.collection) (sym c.in_ok-item-in-Ok.ensures.ok) (reads_again c.args.collection c.args.item c.in-Ok.item c.in-Ok.ensures)
