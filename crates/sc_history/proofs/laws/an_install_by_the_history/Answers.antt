use Rattle.sc_history.proofs.Moving.{answer_is, bounds_installed}
use Rattle.sc_history.proofs.laws.an_install_by_the_history.Goals as goal

pub returns : goal.returns
returns c = record { answer = answer_is; bounds = bounds_installed }
