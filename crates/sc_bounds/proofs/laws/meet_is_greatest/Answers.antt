use Rattle.sc_bounds.proofs.laws.meet_is_greatest.Goals as goal
use Rattle.sc_bounds.proofs.Extents.{meet_is, meet_bounds, meet_left, meet_right, meet_greatest, meet_covers}

pub returns : goal.returns
returns c = record { meet = meet_is; bounds = meet_bounds; left = meet_left; right = meet_right; greatest = meet_greatest; covers = meet_covers }
