use Rattle.sc_script.proofs.Goods.{members_good}
use Rattle.sc_script.proofs.members.into_member.Goals as goal

pub returns-in-Object-clause-good : goal.returns-in-Object-clause-good
returns-in-Object-clause-good c = members_good c.args.tree c.in-Object.members c.args.name.now c.into_value.result c.in-Object.is c.into_value.ensures
