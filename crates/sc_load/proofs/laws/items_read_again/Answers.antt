use Rattle.sc_load.proofs.Again.{reads_again}
use Rattle.sc_load.proofs.laws.items_read_again.Goals as goal

pub returns : goal.returns
returns c = reads_again
