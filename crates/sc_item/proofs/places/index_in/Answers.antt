use Rattle.sc_item.proofs.Members.{value_at}
use Rattle.sc_item.proofs.places.index_in.Goals as goal

pub returns : goal.returns
returns c = value_at c.position_in.result c.args.members.now c.args.name.now c.position_in.ensures
