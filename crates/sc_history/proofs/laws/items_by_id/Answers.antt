use Rattle.sc_history.proofs.Orders.{item_found, part_item_found}
use Rattle.sc_history.proofs.Finding.{item_after}
use Rattle.sc_history.proofs.laws.items_by_id.Goals as goal

pub returns : goal.returns
returns c = record { found = item_found; part = part_item_found; after = item_after }
