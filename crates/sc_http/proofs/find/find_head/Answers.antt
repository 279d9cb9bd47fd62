use Rattle.sc_http.proofs.Steps.{reads_same}
use Rattle.sc_http.proofs.find.find_head.Goals as goal

pub returns-in-Some-clause-reads : goal.returns-in-Some-clause-reads
returns-in-Some-clause-reads g c = reads_same _ _ _

pub returns-in-Whole-clause-reads : goal.returns-in-Whole-clause-reads
returns-in-Whole-clause-reads g c = reads_same _ _ _

pub returns-in-Bad-clause-reads : goal.returns-in-Bad-clause-reads
returns-in-Bad-clause-reads g c = λ _. reads_same _ _ _
