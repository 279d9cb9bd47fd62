use Rattle.sc_journal.proofs.Lists.{not_both, one_broken}
use Rattle.sc_journal.proofs.laws.one_bad_record.Goals as goal

pub returns-clause-whole : goal.returns-clause-whole
returns-clause-whole c = not_both

pub returns-clause-one : goal.returns-clause-one
returns-clause-one c = one_broken
