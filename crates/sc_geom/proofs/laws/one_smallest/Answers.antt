use Rattle.sc_geom.specs.Rectangle.{smallest}
use Rattle.sc_geom.specs.Shapes.{positions_of}
use Rattle.sc_geom.proofs.Smallest as lemmas
use Rattle.sc_geom.proofs.laws.one_smallest.Goals as goal

pub returns-clause-one : goal.returns-clause-one
returns-clause-one c = lemmas.one_smallest

pub returns-clause-smallest : goal.returns-clause-smallest
returns-clause-smallest c = lemmas.smallest_is

pub returns-clause-only : goal.returns-clause-only
returns-clause-only c = λ g r kept is. lemmas.one_smallest r (smallest g) (positions_of g) is (lemmas.smallest_is g kept)
