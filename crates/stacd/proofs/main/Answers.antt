use Rattle.stacd.proofs.main.Goals as goal

pub stacd-status-requires-clause-serving : goal.stacd-status-requires-clause-serving
stacd-status-requires-clause-serving g c κs = rw c.deref-2.ensures.value (rw c.deref.ensures.value at c.in-Ok-outside_of.ensures.serving)

pub stacd-status-requires-clause-keeping : goal.stacd-status-requires-clause-keeping
stacd-status-requires-clause-keeping g c κs = rw c.deref-2.ensures.value (rw c.deref.ensures.value at c.in-Ok-outside_of.ensures.keeping)
