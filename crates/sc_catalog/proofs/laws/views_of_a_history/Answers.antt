use Rattle.sc_catalog.proofs.Hulls.{hull_of_look, snapshot_stood}
use Rattle.sc_catalog.proofs.laws.views_of_a_history.Goals as goal

pub returns : goal.returns
returns c = record { hull = hull_of_look; stood = snapshot_stood }
