use Rattle.sc_page.proofs.ItemOrders.{item_order_is}
use Rattle.sc_page.proofs.laws.item_order_is_total.Goals as goal

pub returns : goal.returns
returns c = item_order_is
