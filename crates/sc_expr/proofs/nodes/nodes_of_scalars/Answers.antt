use Rattle.sc_expr.specs.Measure.{scalar_nodes}
use Rattle.sc_expr.proofs.Levels.{all_counted}
use Rattle.sc_expr.proofs.nodes.nodes_of_scalars.Goals as goal

pub returns : goal.returns
returns c = all_counted scalar_nodes c.args.scalars.now c.loop-scalar.scalar-index c.loop-scalar-test.false c.loop-scalar.total c.loop-scalar.invariant.0 c.loop-scalar.invariant.1
