use Rattle.sc_decimal.proofs.Order as order
use Rattle.sc_decimal.proofs.laws.equal_same.Goals as goal

pub returns : goal.returns
returns c = order.equal_same
