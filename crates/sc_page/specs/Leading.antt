-- Which items may still be among the first in an order.
use Rattle.std.specs.Prelude.{◌≤ℤ◌, ◌-◌, ◌&&◌, ℕ, Bool, true, false, nat_lt, if◌then◌else◌, Option, Some, None, List, [], ◌∷◌, AllPairs, length, not}
use Rattle.std.specs.declared.cmp.Ordering.{Ordering}
use Rattle.std.specs.List.{slice_get}
use Rattle.std.specs.Ordering.{int_cmp, is_gt, is_lt}
use Rattle.sc_item.specs.Feature.{Feature}
use Rattle.sc_sort.specs.declared.key.Key.{Key}
use Rattle.sc_sort.specs.Spec.{is_of_time}

-- an item may stand on a page that isn't full, and else where it doesn't come after the page's last
abbrev pub may_stand : (Feature → Feature → Ordering) → Option Feature → Feature → Bool
may_stand order None item = true
may_stand order (Some last) item = not (is_gt (order item last))

-- the last item of a page that is full
abbrev pub last_of_full : ℕ → List Feature → Option Feature
last_of_full limit page = if nat_lt (length page) limit then None else slice_get page (length page - 1)

-- the items stand by their starts, the latest first
abbrev pub AreLatestFirst : List Feature → Type 0
AreLatestFirst items = AllPairs (λ a b. b.start ≤ℤ a.start) items

-- the sort begins with the time, the latest first
abbrev pub is_latest_first : List Key → Bool
is_latest_first [] = false
is_latest_first (key ∷ keys) = is_of_time key && key.down

-- the sort begins with the time, the earliest first
abbrev pub is_earliest_first : List Key → Bool
is_earliest_first [] = false
is_earliest_first (key ∷ keys) = is_of_time key && not key.down

-- the item starts before the last of a full page
abbrev pub starts_before : Option Feature → Feature → Bool
starts_before None item = false
starts_before (Some last) item = is_lt (int_cmp item.start last.start)

-- the item starts after it
abbrev pub starts_after : Option Feature → Feature → Bool
starts_after None item = false
starts_after (Some last) item = is_gt (int_cmp item.start last.start)
