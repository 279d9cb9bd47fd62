use Rattle.stacd.proofs.outside_of.Goals as goal

pub returns-clause-serving : goal.returns-clause-serving
returns-clause-serving c = rw (c.deref.ensures.value, c.in_ok-lent.ensures) at c.outside_for.ensures.serving

pub returns-clause-keeping : goal.returns-clause-keeping
returns-clause-keeping c = rw (c.deref.ensures.value, c.in_ok-lent.ensures) at c.outside_for.ensures.keeping
