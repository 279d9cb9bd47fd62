use Rattle.sc_history.proofs.Moving.{bounds_move}
use Rattle.sc_history.proofs.laws.a_load_moves_bounds.Goals as goal

pub returns : goal.returns
returns c = bounds_move
