use Rattle.sc_expr.specs.Kept.{IsKeptScalar}
use Rattle.sc_expr.proofs.Every.{all_next, all_taken}
use Rattle.sc_expr.proofs.kept.scalars_keep.Goals as goal

pub loop-scalar-preserved : goal.loop-scalar-preserved
loop-scalar-preserved c =
    all_next IsKeptScalar c.args.scalars.now c.loop-scalar.scalar-index _ c.loop-scalar-test.true c.scalar-item.is c.loop-scalar.invariant c.scalar_keeps.ensures

pub returns : goal.returns
returns c = all_taken IsKeptScalar c.args.scalars.now c.loop-scalar.scalar-index c.loop-scalar-test.false c.loop-scalar.invariant
