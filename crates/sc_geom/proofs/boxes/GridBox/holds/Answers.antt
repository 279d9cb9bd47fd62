use Rattle.std.proofs.Common.{arith}
use Rattle.std.proofs.lemmas.Int.{ints}
use Rattle.sc_geom.proofs.Sharing.{held_both, held_not}
use Rattle.sc_geom.proofs.boxes.GridBox.holds.Goals as goal

pub returns-then-have_common : goal.returns-then-have_common
returns-then-have_common c =
    held_both c.args.self.now c.args.at c.have_common.result c.have_common-then-have_common.result _ _ _ _ _ _ _ _
    c.have_common.ensures c.have_common-then-have_common.ensures c.if-have_common.true
    (omega (arith, ints)) (omega (arith, ints)) (omega (arith, ints)) (omega (arith, ints)) (omega (arith, ints)) (omega (arith, ints)) (omega (arith, ints)) (omega (arith, ints))

pub returns-else-have_common : goal.returns-else-have_common
returns-else-have_common c =
    held_not c.args.self.now c.args.at c.have_common.result _ _ _ _ c.have_common.ensures c.if-have_common.false
    (omega (arith, ints)) (omega (arith, ints)) (omega (arith, ints)) (omega (arith, ints))
