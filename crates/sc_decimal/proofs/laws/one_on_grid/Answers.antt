use Rattle.sc_decimal.proofs.Nearest as nearest
use Rattle.sc_decimal.proofs.laws.one_on_grid.Goals as goal

pub returns : goal.returns
returns c = nearest.one_on_grid
