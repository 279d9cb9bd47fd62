use Rattle.sc_decimal.proofs.Order.{orders_same}
use Rattle.sc_decimal.proofs.laws.one_order.Goals as goal

pub returns : goal.returns
returns c = λ a b p q. orders_same a b p.narrow.low q.narrow.low
