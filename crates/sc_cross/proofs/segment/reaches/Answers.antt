use Rattle.std.proofs.Common.{◌↔◌, arith, subst, sym, IsTrue}
use Rattle.std.proofs.lemmas.Int.{ints, clamps}
use Rattle.sc_geom.specs.Rectangle.{Rectangle, AreOverlapping}
use Rattle.sc_cross.specs.Segment.{sides_of}
use Rattle.sc_cross.proofs.Sides.{overlap_both, overlap_not}
use Rattle.sc_cross.proofs.segment.reaches.Goals as goal

pub returns-then-share_one : goal.returns-then-share_one
returns-then-share_one c box is =
    let here : Rectangle = record { west = c.args.west; south = c.args.south; east = c.args.east; north = c.args.north } in
    subst (λ (r : Rectangle). IsTrue c.share_one-then-share_one.result ↔ AreOverlapping (sides_of c.args.segment) r) (sym is)
    (overlap_both (sides_of c.args.segment) here c.share_one.result c.share_one-then-share_one.result _ _ _ _ _ _ _ _
    c.share_one.ensures c.share_one-then-share_one.ensures c.if-share_one.true
    (omega (arith, ints, clamps)) (omega (arith, ints, clamps)) (omega (arith, ints)) (omega (arith, ints))
    (omega (arith, ints, clamps)) (omega (arith, ints, clamps)) (omega (arith, ints)) (omega (arith, ints)))

pub returns-else-share_one : goal.returns-else-share_one
returns-else-share_one c box is =
    let here : Rectangle = record { west = c.args.west; south = c.args.south; east = c.args.east; north = c.args.north } in
    subst (λ (r : Rectangle). IsTrue c.share_one.result ↔ AreOverlapping (sides_of c.args.segment) r) (sym is)
    (overlap_not (sides_of c.args.segment) here c.share_one.result _ _ _ _ c.share_one.ensures c.if-share_one.false
    (omega (arith, ints, clamps)) (omega (arith, ints, clamps)) (omega (arith, ints)) (omega (arith, ints)))
