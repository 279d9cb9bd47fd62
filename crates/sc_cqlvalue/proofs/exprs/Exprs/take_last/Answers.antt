use Rattle.std.proofs.Common.{◌∙◌, ap, reverse}
use Rattle.sc_cqlvalue.proofs.Lists.{last_taken, last_left}
use Rattle.sc_cqlvalue.proofs.exprs.Exprs.take_last.Goals as goal

pub returns-clause-members : goal.returns-clause-members
returns-clause-members c = c.of.ensures ∙ c.in_ok-members.ensures.tail ∙ last_taken _ _ _ _ c.self.view_is c.len.ensures c.requires

pub returns-clause-rest : goal.returns-clause-rest
returns-clause-rest c = ap reverse c.in_ok-members.ensures.items ∙ last_left _ _ _ _ c.self.view_is c.len.ensures c.requires
