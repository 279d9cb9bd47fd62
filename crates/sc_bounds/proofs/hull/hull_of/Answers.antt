use Rattle.sc_bounds.proofs.Extents.{hull_step, least_step}
use Rattle.sc_bounds.proofs.hull.hull_of.Goals as goal

pub loop-reach-preserved : goal.loop-reach-preserved
loop-reach-preserved c = record {
  least = least_step c.widen-bounds.result c.loop-reach.bounds c.args.reaches.now c.loop-reach.reach-index c.reach-item.result c.loop-reach-test.true c.reach-item.is c.loop-reach.invariant.least c.widen-bounds.ensures.widened;
  value = hull_step c.widen-bounds.result c.loop-reach.bounds c.args.reaches.now c.loop-reach.reach-index c.reach-item.result c.loop-reach-test.true c.reach-item.is c.loop-reach.invariant.value c.widen-bounds.ensures.value;
}
