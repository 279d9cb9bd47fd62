use Rattle.sc_journal.proofs.Lists.{one_records}
use Rattle.sc_journal.proofs.laws.one_list.Goals as goal

pub returns : goal.returns
returns c = one_records
