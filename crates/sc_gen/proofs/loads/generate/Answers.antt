use Rattle.std.specs.Arc.{arc_value}
use Rattle.sc_gen.proofs.Items.{own_load}
use Rattle.sc_gen.proofs.loads.generate.Goals as goal

pub returns-clause-well_formed : goal.returns-clause-well_formed
returns-clause-well_formed c =
    own_load arc_value c.args.seed c.args.load c.args.count c.in_ok-collection.collection c.in_ok-items_of.field-0.items c.of-items.result
    c.requires c.in_ok-items_of.ensures c.of-items.ensures c.in_ok-collection.ensures
