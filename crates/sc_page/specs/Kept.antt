-- What a page keeps of an item, and the first of the items so far.
use Rattle.std.specs.Prelude.{◌≡◌, ℕ, ◌+◌, List, [], ◌++◌, filter}
use Rattle.std.specs.declared.cmp.Ordering.{Ordering}
use Rattle.sc_item.specs.Feature.{Feature}
use Rattle.sc_expr.specs.Query.{Asked}
use Rattle.sc_page.specs.declared.order.Rank.{Rank}
use Rattle.sc_page.specs.declared.page.PageSoFar.{PageSoFar}
use Rattle.sc_page.specs.declared.first.FirstItems.{FirstItems}
use Rattle.sc_page.specs.ItemKey.{item_order}
use Rattle.sc_page.specs.Leading.{last_of_full, may_stand}
use Rattle.sc_page.specs.Order.{default_order}
use Rattle.sc_page.specs.Page.{every_item, IsFlatPage}
use Rattle.sc_page.specs.Search.{is_asked, shared}

-- the item has this start and this name
pub record IsRankOf (rank : Rank) (item : Feature) : Type 0 where
  pub start : rank.start ≡ item.start
  pub collection : rank.collection.now ≡ item.collection
  pub id : rank.id.now ≡ item.id

-- the page is that of the first of the items, and those of the others that may stand on it wait
pub record AreKept (order : Feature → Feature → Ordering) (limit : ℕ) (page waiting items : List Feature) : Type 0 where
  pub first : List Feature
  pub others : List Feature
  pub all : items ≡ first ++ others
  pub flat : IsFlatPage every_item order limit first page
  pub wait : waiting ≡ filter (may_stand order (last_of_full limit page)) others

-- the page of these items is kept
pub record HasSeen (limit : ℕ) (so_far : PageSoFar) (items : List Feature) : Type 0 where
  pub limited : so_far.limit ≡ limit
  pub kept : AreKept default_order limit so_far.page.items so_far.waiting.items items

-- of those of these items that are asked for the first are kept, one more than the limit
pub record HasFound (asked : Asked) (so_far : FirstItems) (items : List Feature) : Type 0 where
  pub most : so_far.most ≡ asked.limit + 1
  pub kept : AreKept (item_order asked.sort) (asked.limit + 1) (shared so_far.first.items) (shared so_far.waiting.items) (filter (is_asked asked) items)

-- the same where none waits
pub record IsSettled (asked : Asked) (so_far : FirstItems) (items : List Feature) : Type 0 where
  pub most : so_far.most ≡ asked.limit + 1
  pub first : IsFlatPage every_item (item_order asked.sort) (asked.limit + 1) (filter (is_asked asked) items) (shared so_far.first.items)
  pub none : so_far.waiting.items ≡ []
