use Rattle.sc_place.proofs.Nowhere.{nowhere}
use Rattle.sc_place.proofs.resource.resource_of.Goals as goal

pub returns-in-None : goal.returns-in-None
returns-in-None c = nowhere c.args.target.now c.in-Ok.target.now c.path_of-path.result.now c.in-Ok.ensures.cases.0 c.path_of-path.ensures c.in-None.ensures
