-- The pages of a search that follow one another: each begins where the page before it says (STAC API, Item Search, pagination).
use Rattle.std.specs.Prelude.{List, [], ◌∷◌, filter, Option, Some, None, IsPermutation}
use Rattle.std.specs.List.{flat_map}
use Rattle.sc_item.specs.Feature.{Feature}
use Rattle.sc_sort.specs.Keys.{Keys}
use Rattle.sc_expr.specs.Query.{Asked}
use Rattle.sc_page.specs.ItemKey.{item_order}
use Rattle.sc_page.specs.Order.{IsListing}
use Rattle.sc_page.specs.Search.{is_asked, IsPage}

-- the same query behind another place
abbrev pub behind : Asked → Keys → Asked
behind asked place = record { select = asked.select; sort = asked.sort; limit = asked.limit; after = Some place }

-- all items that are asked for, in the query's order, whatever their number
abbrev pub IsAll : Asked → List Feature → List Feature → Type 0
IsAll asked items all = IsListing (item_order asked.sort) (filter (is_asked asked) items) all

-- a page of these items, in whatever order they are kept
pub record IsPageOf (asked : Asked) (items page : List Feature) (next : Option Keys) : Type 0 where
  pub kept : List Feature
  pub same : IsPermutation items kept
  pub is_page : IsPage asked kept page next

-- each page is that of the query behind the place that the page before it gave as the next; the last gave none
pub data IsChain (items : List Feature) : Asked → List (List Feature) → Type 0 where
  last : (asked : Asked) (page : List Feature) → IsPageOf asked items page None → IsChain items asked (page ∷ [])
  followed : (asked : Asked) (page : List Feature) (place : Keys) (pages : List (List Feature)) → IsPageOf asked items page (Some place) → IsChain items (behind asked place) pages → IsChain items asked (page ∷ pages)

-- the items of the pages, page after page
abbrev pub joined : List (List Feature) → List Feature
joined pages = flat_map (λ page. page) pages
