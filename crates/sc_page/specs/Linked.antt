-- The text of a page of a search: a GeoJSON FeatureCollection (RFC 7946 §3.3) with its links (STAC API, Item Search, pagination).
use Rattle.std.specs.Prelude.{ℕ, Bool, not, List, [], ◌∷◌, ◌++◌, length, map, filter, codes, Option, Some, None}
use Rattle.std.specs.Arc.{arc_value}
use Rattle.std.specs.declared.alloc.Global.{Global}
use Rattle.std.specs.declared.sync.Arc.{Arc}
use Rattle.std.specs.List.{flat_map}
use Rattle.std.specs.Str.{bytes_eq}
use Rattle.std.specs.Fmt.{decimal}
use Rattle.form_urlencoded.specs.Form.{extend_pairs}
use Rattle.sc_json.specs.Compact.{quoted}
use Rattle.sc_item.specs.Feature.{Feature}
use Rattle.sc_sort.specs.Keys.{Keys}
use Rattle.sc_token.specs.Token.{token_of}
use Rattle.sc_expr.specs.declared.select.Pair.{Pair}
use Rattle.sc_page.specs.declared.links.Links.{Links}
use Rattle.sc_page.specs.declared.links.Links.TheVariants as links
use Rattle.sc_page.specs.Page.{page_start, page_middle, documents}

-- ---- fixed texts

unfoldable pub token_name : List ℕ
token_name = codes "token"

-- what stands before and behind the links, and at the end of a link and of a page
unfoldable pub links_start : List ℕ
links_start = codes ",\"links\":["

unfoldable pub links_end : List ℕ
links_end = codes "]}"

unfoldable pub root_start : List ℕ
root_start = codes "{\"rel\":\"root\",\"type\":\"application/json\",\"href\":"

unfoldable pub get_start : List ℕ
get_start = codes ",{\"rel\":\"next\",\"type\":\"application/geo+json\",\"method\":\"GET\",\"href\":"

unfoldable pub post_start : List ℕ
post_start = codes ",{\"rel\":\"next\",\"type\":\"application/geo+json\",\"method\":\"POST\",\"href\":"

unfoldable pub search_path : List ℕ
search_path = codes "/search"

-- what stands around the token of a body
unfoldable pub body_start : List ℕ
body_start = codes ",\"body\":{\"token\":"

unfoldable pub body_end : List ℕ
body_end = codes "},\"merge\":true}"

-- ---- links

abbrev pub is_other_pair : Pair → Bool
is_other_pair pair = not (bytes_eq pair.name token_name)

-- the pairs but those of the name `token`
abbrev pub other_pairs : List Pair → List (List ℕ × List ℕ)
other_pairs pairs = map (λ pair. (pair.name, pair.value)) (filter is_other_pair pairs)

-- and the token behind them
abbrev pub next_pairs : List Pair → List ℕ → List (List ℕ × List ℕ)
next_pairs pairs token = other_pairs pairs ++ (token_name, token) ∷ []

-- an address with the pairs behind a question mark, as a form is serialized (URL Standard §5.2)
abbrev pub next_address : List ℕ → List ℕ → List Pair → List ℕ → List ℕ
next_address base path pairs token = base ++ (path ++ 63 ∷ extend_pairs [] (next_pairs pairs token))

-- the link to the start of the catalogue
abbrev pub root_link : List ℕ → List ℕ
root_link base = root_start ++ (quoted (base ++ 47 ∷ []) ++ 125 ∷ [])

-- the link to the next page, where there is one: an address that is asked with GET
abbrev pub get_link : List ℕ → List ℕ → List Pair → Option Keys → List ℕ
get_link base path pairs None = []
get_link base path pairs (Some key) = get_start ++ (quoted (next_address base path pairs (token_of key)) ++ 125 ∷ [])

-- or a token that is merged into the body of the request, which is sent again with POST
abbrev pub post_link : List ℕ → Option Keys → List ℕ
post_link base None = []
post_link base (Some key) = post_start ++ (quoted (base ++ search_path) ++ (body_start ++ (quoted (token_of key) ++ body_end)))

unfoldable pub links_text : Links → Option Keys → List ℕ
links_text links.Bare next = []
links_text (links.Get base path pairs) next = root_link base ++ get_link base path pairs next
links_text (links.Post base) next = root_link base ++ post_link base next

-- ---- the page

-- the documents of shared items, each behind a comma
abbrev pub more_documents : List (Arc Feature Global) → List ℕ
more_documents items = flat_map (λ (item : Arc Feature Global). 44 ∷ (arc_value item).doc) items

-- the documents of the items, their number, and the links
abbrev pub linked_page_text : List Feature → Option Keys → Links → List ℕ
linked_page_text page next kinds =
    page_start ++ (documents page ++ (page_middle ++ (decimal (length page) ++ (links_start ++ (links_text kinds next ++ links_end)))))
