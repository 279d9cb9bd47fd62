use Rattle.sc_bounds.proofs.laws.join_is_least.Goals as goal
use Rattle.sc_bounds.proofs.Extents.{join_is, join_bounds, join_covers_left, join_covers_right}

pub returns : goal.returns
returns c = record { join = join_is; bounds = join_bounds; covers_left = join_covers_left; covers_right = join_covers_right }
