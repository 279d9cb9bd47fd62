-- The order of a page, and the listing of items by an order.
use Rattle.std.specs.Prelude.{◌≡◌, List, AllPairs, IsPermutation}
use Rattle.std.specs.declared.cmp.Ordering.{Ordering}
use Rattle.std.specs.declared.cmp.Ordering.TheVariants.{Less, Equal}
use Rattle.std.specs.Ordering.{int_cmp, then_cmp, flip_args, on}
use Rattle.std.specs.Cmp.{IsTotalOrder}
use Rattle.sc_base.specs.Text.{text_order}
use Rattle.sc_item.specs.Feature.{Feature}
use Rattle.sc_item.specs.Names.{HaveOneName}

-- the lesser collection comes first, then the lesser id
abbrev pub name_order : Feature → Feature → Ordering
name_order = then_cmp (on (λ i. i.collection) text_order) (on (λ i. i.id) text_order)

-- the later start comes first, then the lesser name
abbrev pub default_order : Feature → Feature → Ordering
default_order = then_cmp (flip_args (on (λ i. i.start) int_cmp)) name_order

-- an order of items is total, and only items of one name tie in it
pub record IsItemOrder (order : Feature → Feature → Ordering) : Type 0 where
  pub total : IsTotalOrder order
  pub ties : (a b : Feature) → order a b ≡ Equal → HaveOneName a b

-- the same items, each before all that come after it
pub record IsListing (order : Feature → Feature → Ordering) (items listed : List Feature) : Type 0 where
  pub same : IsPermutation items listed
  pub ordered : AllPairs (λ a b. order a b ≡ Less) listed
