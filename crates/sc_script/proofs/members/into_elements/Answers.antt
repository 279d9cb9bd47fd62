use Rattle.sc_script.proofs.Goods.{elements_good}
use Rattle.sc_script.proofs.members.into_elements.Goals as goal

pub returns-in-List-clause-good : goal.returns-in-List-clause-good
returns-in-List-clause-good c = elements_good c.args.tree c.in-List.elements c.in-List.is
