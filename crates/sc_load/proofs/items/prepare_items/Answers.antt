use Rattle.std.specs.Arc.{arc_value}
use Rattle.sc_load.proofs.Reading.{own_load}
use Rattle.sc_load.proofs.items.prepare_items.Goals as goal

pub returns-then-upsert-clause-well_formed : goal.returns-then-upsert-clause-well_formed
returns-then-upsert-clause-well_formed c =
    own_load arc_value c.args.collection.now c.in_ok-collection.collection c.in_ok-trees.trees.items c.in_ok-read_items.field-0.items c.of-items.result
    c.in_ok-read_items.ensures c.of-items.ensures c.in_ok-collection.ensures

pub returns-else-upsert-clause-well_formed : goal.returns-else-upsert-clause-well_formed
returns-else-upsert-clause-well_formed c =
    own_load arc_value c.args.collection.now c.in_ok-collection.collection c.in_ok-trees.trees.items c.in_ok-read_items.field-0.items c.of-items.result
    c.in_ok-read_items.ensures c.of-items.ensures c.in_ok-collection.ensures
