use Rattle.std.proofs.Common.{◌∙◌}
use Rattle.std.specs.Arc.{arc_value}
use Rattle.sc_catalog.proofs.Looking.{some_there}
use Rattle.sc_catalog.proofs.refusal.is_there.Goals as goal

pub returns : goal.returns
returns c = λ content is. c.is_some.ensures ∙ some_there (λ item. arc_value item.now) c.find.result content c.args.index.now c.args.collection.now c.args.id.now is c.find.ensures
