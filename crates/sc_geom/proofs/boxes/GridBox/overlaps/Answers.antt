use Rattle.std.proofs.Common.{arith}
use Rattle.std.proofs.lemmas.Int.{ints}
use Rattle.sc_geom.specs.Rectangle.{AreOverlapping, overlap}
use Rattle.sc_geom.proofs.Sharing.{overlap_both, overlap_not}
use Rattle.sc_geom.proofs.Deciding.{overlap_test, one_truth}
use Rattle.sc_geom.proofs.boxes.GridBox.overlaps.Goals as goal

pub returns-then-have_common : goal.returns-then-have_common
returns-then-have_common c =
    let r = c.args.self.now in
    let s = c.args.other.now in
    let fact =
    overlap_both r s c.have_common.result c.have_common-then-have_common.result _ _ _ _ _ _ _ _
    c.have_common.ensures c.have_common-then-have_common.ensures c.if-have_common.true
    (omega (arith, ints)) (omega (arith, ints)) (omega (arith, ints)) (omega (arith, ints)) (omega (arith, ints)) (omega (arith, ints)) (omega (arith, ints)) (omega (arith, ints)) in
    record { fact = fact; test = one_truth c.have_common-then-have_common.result (overlap r s) (AreOverlapping r s) fact (overlap_test r s) }

pub returns-else-have_common : goal.returns-else-have_common
returns-else-have_common c =
    let r = c.args.self.now in
    let s = c.args.other.now in
    let fact = overlap_not r s c.have_common.result _ _ _ _ c.have_common.ensures c.if-have_common.false (omega (arith, ints)) (omega (arith, ints)) (omega (arith, ints)) (omega (arith, ints)) in
    record { fact = fact; test = one_truth c.have_common.result (overlap r s) (AreOverlapping r s) fact (overlap_test r s) }
