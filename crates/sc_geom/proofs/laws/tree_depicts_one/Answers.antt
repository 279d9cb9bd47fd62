use Rattle.sc_geom.proofs.Depicting.{one_sketch}
use Rattle.sc_geom.proofs.laws.tree_depicts_one.Goals as goal

pub returns : goal.returns
returns c = one_sketch
