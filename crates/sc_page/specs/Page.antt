-- The page of a flat list of items (a filter, an order and a cut), and the text of a bare page.
use Rattle.std.specs.Prelude.{◌≡◌, ℕ, Bool, true, List, ◌++◌, length, map, filter, take, codes}
use Rattle.std.specs.declared.cmp.Ordering.{Ordering}
use Rattle.std.specs.List.{join_with_byte}
use Rattle.std.specs.Fmt.{decimal}
use Rattle.sc_item.specs.Feature.{Feature}
use Rattle.sc_page.specs.Order.{IsListing}

-- the page has the first `limit` of the items that are wanted, in the order
pub record IsFlatPage (wanted : Feature → Bool) (order : Feature → Feature → Ordering) (limit : ℕ) (items page : List Feature) : Type 0 where
  pub listed : List Feature
  pub is_listing : IsListing order (filter wanted items) listed
  pub cut : page ≡ take limit listed

-- no item is left out
abbrev pub every_item : Feature → Bool
every_item item = true

-- what stands before the documents, between them and their number, and at the end
unfoldable pub page_start : List ℕ
page_start = codes "{\"type\":\"FeatureCollection\",\"features\":["

unfoldable pub page_middle : List ℕ
page_middle = codes "],\"numberReturned\":"

unfoldable pub page_end : List ℕ
page_end = codes ",\"links\":[]}"

-- the documents of the items between commas
abbrev pub documents : List Feature → List ℕ
documents items = join_with_byte 44 (map (λ i. i.doc) items)

-- the text of a page without links
abbrev pub bare_page_text : List Feature → List ℕ
bare_page_text page =
    page_start ++ (documents page ++ (page_middle ++ (decimal (length page) ++ page_end)))
