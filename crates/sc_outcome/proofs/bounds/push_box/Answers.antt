use Rattle.std.proofs.Common.{rules, to_z-of_z, FitsSigned, w64}
use Rattle.sc_outcome.proofs.Boxes.{box_written}
use Rattle.sc_outcome.proofs.bounds.push_box.Goals as goal

pub returns : goal.returns
unfolding lib.Utf8.encode
returns c =
    let w : FitsSigned w64 c.west.result = search rules in
    let s : FitsSigned w64 c.south.result = search rules in
    let e : FitsSigned w64 c.east.result = search rules in
    let n : FitsSigned w64 c.north.result = search rules in
    let first = rw (to_z-of_z w, to_z-of_z s, c.west.ensures.west, c.south.ensures.south) at c.in_ok-push_corner.ensures in
    let second = rw (to_z-of_z e, to_z-of_z n, c.east.ensures.east, c.north.ensures.north) at c.push_corner-2.ensures in
    rw (box_written _ _ _ c.args.place.now first c.in_ok-push.ensures.bytes) at second
