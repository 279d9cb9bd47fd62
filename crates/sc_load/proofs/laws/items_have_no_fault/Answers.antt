use Rattle.sc_load.proofs.Places.{only_memory}
use Rattle.sc_load.proofs.laws.items_have_no_fault.Goals as goal

pub returns : goal.returns
returns c = only_memory
