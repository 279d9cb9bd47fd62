use Rattle.sc_history.proofs.Examples.{moves, stamps, adds, comes_again, keeps}
use Rattle.sc_history.proofs.laws.an_example.Goals as goal

pub returns : goal.returns
returns c = record { moved = moves; stamps = stamps; additions = adds; again = comes_again; kept = keeps }
