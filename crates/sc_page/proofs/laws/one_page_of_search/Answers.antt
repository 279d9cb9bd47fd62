use Rattle.std.proofs.Common.{sym, ◌∙◌, ap}
use Rattle.sc_page.specs.ItemKey.{item_order}
use Rattle.sc_page.specs.Search.{is_asked, next_of}
use Rattle.sc_page.proofs.ItemOrders.{item_order_is}
use Rattle.sc_page.proofs.Listing.{one_page}
use Rattle.sc_page.proofs.laws.one_page_of_search.Goals as goal

pub returns : goal.returns
returns c = record {
  items = λ asked items a b next other p q. one_page (is_asked asked) (item_order asked.sort) asked.limit (item_order_is asked.sort) items a b p.flat q.flat;
  next = λ asked items a b next other p q.
      p.next_is ∙ ap (next_of asked items) (one_page (is_asked asked) (item_order asked.sort) asked.limit (item_order_is asked.sort) items a b p.flat q.flat) ∙ sym q.next_is;
}
