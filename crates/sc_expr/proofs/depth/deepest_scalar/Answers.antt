use Rattle.sc_expr.specs.Measure.{scalar_depth}
use Rattle.sc_expr.proofs.Levels.{all_deepest}
use Rattle.sc_expr.proofs.depth.deepest_scalar.Goals as goal

pub returns : goal.returns
returns c = all_deepest scalar_depth c.args.scalars.now c.loop-scalar.scalar-index c.loop-scalar-test.false c.loop-scalar.greatest c.loop-scalar.invariant.0 c.loop-scalar.invariant.1
