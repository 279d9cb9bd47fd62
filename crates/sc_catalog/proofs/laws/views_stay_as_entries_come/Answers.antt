use Rattle.sc_catalog.proofs.Hulls.{loads_on, snapshot_on, tight_on, told_on}
use Rattle.sc_catalog.proofs.laws.views_stay_as_entries_come.Goals as goal

pub returns : goal.returns
returns c = record { loads = loads_on; told = told_on; hull = tight_on; snapshot = snapshot_on }
