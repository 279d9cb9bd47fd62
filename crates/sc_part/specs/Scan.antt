-- The items of a part: which items fit it, the order in which they are scanned, what is left of them after a change, and their reaches.
use Rattle.std.specs.Prelude.{◌≡◌, ◌≢◌, ℕ, Bool, not, List, ◌++◌, map, filter, AllPairs, IsPermutation}
use Rattle.std.specs.Str.{bytes_eq}
use Rattle.std.specs.List.{list_any}
use Rattle.std.specs.Arc.{arc_value}
use Rattle.std.specs.declared.alloc.Global.{Global}
use Rattle.std.specs.declared.sync.Arc.{Arc}
use Rattle.std.specs.declared.cmp.Ordering.{Ordering}
use Rattle.std.specs.declared.cmp.Ordering.TheVariants.{Less}
use Rattle.std.specs.Ordering.{int_cmp, then_cmp, flip_args, on}
use Rattle.sqlite_keyed.specs.Lists.{sort_by}
use Rattle.sc_base.specs.Text.{text_order}
use Rattle.sc_item.specs.Feature.{Feature}
use Rattle.sc_cut.specs.declared.name.PartName.{PartName}
use Rattle.sc_cut.specs.Key.{HasKey}
use Rattle.sc_bounds.specs.declared.reach.Reach.{Reach}

-- shared items, as the items that they share
abbrev pub shared : List (Arc Feature Global) → List Feature
shared items = map arc_value items

-- the item belongs to the part: it is of the name's collection, and its start has the name's key
pub record Fits (name : PartName) (item : Feature) : Type 0 where
  pub collection : item.collection ≡ name.collection
  pub key : HasKey name.cut name.key item.start

-- the later start comes first, then the lesser id
abbrev pub scan_order : Feature → Feature → Ordering
scan_order = then_cmp (flip_args (on (λ i. i.start) int_cmp)) (on (λ i. i.id) text_order)

-- no two items have one id
abbrev pub HaveOwnIds : List Feature → Type 0
HaveOwnIds items = AllPairs (λ a b. a.id ≢ b.id) items

-- each item stands before all that come after it
abbrev pub IsScanned : List Feature → Type 0
IsScanned items = AllPairs (λ a b. scan_order a b ≡ Less) items

-- the same items in the order of a scan
pub record IsScan (items scanned : List Feature) : Type 0 where
  pub same : IsPermutation items scanned
  pub ordered : IsScanned scanned

-- the same as a function
unfoldable pub scan_of : List Feature → List Feature
scan_of items = sort_by scan_order items

-- whether the id is one of these
abbrev pub is_among : List (List ℕ) → List ℕ → Bool
is_among ids id = list_any (λ other. bytes_eq other id) ids

-- the items that are left where those with these ids go and others come, in no order
abbrev pub after : List (List ℕ) → List Feature → List Feature → List Feature
after gone come items = come ++ filter (λ i. not (is_among gone i.id)) items

-- where an item lies in time and space
abbrev pub reach : Feature → Reach
reach item = record { start = item.start; end = item.end; place = item.place }
