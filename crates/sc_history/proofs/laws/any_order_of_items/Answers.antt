use Rattle.sc_history.proofs.Orders.{hull_any_order, scan_any_order}
use Rattle.sc_history.proofs.laws.any_order_of_items.Goals as goal

pub returns : goal.returns
returns c = record { scan = scan_any_order; hull = hull_any_order }
