use Rattle.sc_walk.proofs.Narrowing.{opened_wider}
use Rattle.sc_walk.proofs.laws.narrower_bounds_open_less.Goals as goal

pub returns : goal.returns
returns c = opened_wider
