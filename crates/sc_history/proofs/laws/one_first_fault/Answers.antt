use Rattle.sc_history.proofs.Faulting.{accepted_excludes, one_fault}
use Rattle.sc_history.proofs.laws.one_first_fault.Goals as goal

pub returns : goal.returns
returns c = record { accepted = accepted_excludes; first = one_fault }
