use Rattle.sc_bounds.proofs.laws.hull_is_least.Goals as goal
use Rattle.sc_bounds.proofs.Extents.{only_bounds, widened, hull_is, hull_bounds}

pub returns : goal.returns
returns c = record { only = only_bounds; widened = widened; hull = hull_is; bounds = hull_bounds }
