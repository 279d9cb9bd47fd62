-- The page of a search (STAC API, Item Search): what it selects behind its place, in its order, as far as its limit, and where the next page begins.
use Rattle.std.specs.Prelude.{◌≡◌, ◌-◌, Bool, true, ◌&&◌, nat_lt, if◌then◌else◌, List, length, map, filter, Option, Some, None, option_map}
use Rattle.std.specs.Arc.{arc_value}
use Rattle.std.specs.declared.alloc.Global.{Global}
use Rattle.std.specs.declared.sync.Arc.{Arc}
use Rattle.std.specs.List.{slice_get}
use Rattle.std.specs.Ordering.{is_gt}
use Rattle.sc_item.specs.Feature.{Feature}
use Rattle.sc_sort.specs.declared.key.Key.{Key}
use Rattle.sc_sort.specs.Keys.{Keys}
use Rattle.sc_sort.specs.Order.{keys_order}
use Rattle.sc_expr.specs.Query.{Asked}
use Rattle.sc_eval.specs.Selection.{is_selected}
use Rattle.sc_page.specs.ItemKey.{key_of, item_order}
use Rattle.sc_page.specs.Page.{IsFlatPage}

-- shared items, as the items that they share
abbrev pub shared : List (Arc Feature Global) → List Feature
shared items = map arc_value items

-- the item comes strictly after the place, where there is one
abbrev pub is_behind : List Key → Option Keys → Feature → Bool
is_behind sort None item = true
is_behind sort (Some place) item = is_gt (keys_order sort (key_of sort item) place)

abbrev pub is_asked : Asked → Feature → Bool
is_asked asked item = is_behind asked.sort asked.after item && is_selected asked.select item

-- the key of the last of these items
abbrev pub last_key : List Key → List Feature → Option Keys
last_key sort page = option_map (key_of sort) (slice_get page (length page - 1))

-- the key of the page's last item, where more items are asked for than the page holds
abbrev pub next_of : Asked → List Feature → List Feature → Option Keys
next_of asked items page =
    if nat_lt asked.limit (length (filter (is_asked asked) items)) then last_key asked.sort page else None

-- of these items the page has the first that are asked for, as far as the limit, and `next` is where the next page begins
pub record IsPage (asked : Asked) (items page : List Feature) (next : Option Keys) : Type 0 where
  pub flat : IsFlatPage (is_asked asked) (item_order asked.sort) asked.limit items page
  pub next_is : next ≡ next_of asked items page
