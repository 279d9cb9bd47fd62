use Rattle.sc_cqlvalue.proofs.Wholes.{whole_leaves}
use Rattle.sc_cqlvalue.proofs.laws.one_expression_is_left.Goals as goal

pub returns : goal.returns
returns c = whole_leaves
