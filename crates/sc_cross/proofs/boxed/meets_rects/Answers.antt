use Rattle.std.proofs.Common.{true, false}
use Rattle.sc_geom.specs.Rects.{geometry_of}
use Rattle.sc_cross.proofs.Verdicts.{found_way}
use Rattle.sc_cross.proofs.Decided.{meet_is}
use Rattle.sc_cross.proofs.Rings.{first_meets, first_alone, second_last}
use Rattle.sc_cross.proofs.boxed.meets_rects.Goals as goal

pub returns-then-meets_box : goal.returns-then-meets_box
returns-then-meets_box c =
    let met = found_way c.meets_box.result c.meets_box.ensures c.if-meets_box.true (first_meets c.args.geom.now c.args.rects.now.first c.args.rects.now.second) in
    record { meets = met; test = meet_is c.args.geom.now (geometry_of c.args.rects.now) true met }

pub returns-in-None : goal.returns-in-None
returns-in-None c =
    let met = first_alone c.args.geom.now c.args.rects.now.first c.args.rects.now.second c.meets_box.result c.meets_box.ensures c.if-meets_box.false c.in-None.is in
    record { meets = met; test = meet_is c.args.geom.now (geometry_of c.args.rects.now) false met }

pub returns-in-Some : goal.returns-in-Some
returns-in-Some c =
    let met = second_last c.args.geom.now c.args.rects.now.first c.in-Some.second c.args.rects.now.second c.meets_box.result c.meets_box-in-Some.result c.meets_box.ensures c.if-meets_box.false c.in-Some.is c.meets_box-in-Some.ensures in
    record { meets = met; test = meet_is c.args.geom.now (geometry_of c.args.rects.now) c.meets_box-in-Some.result met }
