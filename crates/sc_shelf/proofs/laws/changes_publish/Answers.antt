use Rattle.sc_history.proofs.Pasts.{past_next}
use Rattle.sc_shelf.proofs.Publishing.{all_can_change, are_published}
use Rattle.sc_shelf.proofs.laws.changes_publish.Goals as goal

pub returns-clause-can : goal.returns-clause-can
returns-clause-can c past change old changes is allowed stand by = all_can_change past change old changes (past_next past change is allowed) stand by

pub returns-clause-published : goal.returns-clause-published
returns-clause-published c past change old new changes is allowed stand by are = are_published past change old changes (past_next past change is allowed) stand by new are
