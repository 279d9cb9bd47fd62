-- The order of items under a sort is total, and only items of one name tie in it.
use Rattle.std.proofs.Common.{List}
use Rattle.std.proofs.lemmas.Cmp.{on_total}
use Rattle.sc_sort.specs.declared.key.Key.{Key}
use Rattle.sc_sort.proofs.Orders.{keys_total}
use Rattle.sc_sort.proofs.Ties.{tie_parts}
use Rattle.sc_page.specs.ItemKey.{key_of, item_order}
use Rattle.sc_page.specs.Order.{IsItemOrder}

pub item_order_is : (sort : List Key) → IsItemOrder (item_order sort)
item_order_is sort = record {
  total = on_total (key_of sort) (keys_total sort);
  ties = λ a b e. let t = tie_parts sort (key_of sort a) (key_of sort b) e in (t.1, t.2);
}
