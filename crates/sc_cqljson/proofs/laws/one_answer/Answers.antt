use Rattle.sc_cqljson.proofs.Answers.{one_filter, no_fault, one_fault}
use Rattle.sc_cqljson.proofs.laws.one_answer.Goals as goal

pub returns : goal.returns
returns c = record { filter = one_filter; no_fault = no_fault; fault = one_fault }
