use Rattle.std.proofs.Common.{rules, ◌≡◌, Some}
use Rattle.sc_item.specs.Times.{times_in}
use Rattle.sc_item.specs.Reading.{Belongs}
use Rattle.sc_item.proofs.Excluding.{shape_fault}
use Rattle.sc_item.proofs.parts.parts_of.Goals as goal

pub returns-in-Err : goal.returns-in-Err
returns-in-Err c =
    let belongs : Belongs c.args.collection.now c.args.tree.now = search rules in
    let times : times_in c.in-Some.properties.now ≡ Some c.in-Some-times_in.times = first_of (search rules, cc) in
    shape_fault c.args.collection.now c.args.tree.now c.in-Some.properties.now c.in-Some-id_of.id.now c.in-Some-times_in.times c.in-Err.fault c.in-Some.ensures c.in-Some-id_of.ensures belongs times c.in-Err.ensures
