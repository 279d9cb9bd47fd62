use Rattle.sc_item.proofs.Members.{value_at}
use Rattle.sc_load.proofs.trees.index_named.Goals as goal

pub returns : goal.returns
returns c = value_at c.position_named.result c.args.members.now c.args.name.now c.position_named.ensures
