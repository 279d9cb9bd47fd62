use Rattle.stacd.proofs.outside_for.Goals as goal

pub returns-clause-serving : goal.returns-clause-serving
returns-clause-serving c serving asks = absurd (c.in_default.ensures serving asks)

pub returns-clause-keeping : goal.returns-clause-keeping
returns-clause-keeping c keeping asks = absurd (c.in_default-keeping_of.ensures keeping asks)
