use Rattle.sc_page.proofs.Listing as lemmas
use Rattle.sc_page.proofs.laws.default_order_is_total.Goals as goal

pub returns : goal.returns
returns c = lemmas.default_item_order
