-- The line that tells what a step of a script gave: a JSON text (RFC 8259), and a line feed.
use Rattle.std.specs.Prelude.{ℕ, ℤ, List, [], ◌∷◌, ◌++◌, codes, decimal, Option, Some, None}
use Rattle.std.specs.Fmt.{signed_decimal}
use Rattle.sc_json.specs.Compact.{quoted}
use Rattle.sc_geom.specs.Rectangle.{Rectangle}
use Rattle.sc_bounds.specs.Extent.{Extent}
use Rattle.sc_sort.specs.Keys.{Keys}
use Rattle.sc_token.specs.Token.{token_of}
use Rattle.sc_page.specs.declared.found.Page.{Page}
use Rattle.sc_page.specs.Page.{bare_page_text}
use Rattle.sc_page.specs.Search.{shared}
use Rattle.sc_outcome.specs.declared.outcome.Outcome.{Outcome}
use Rattle.sc_outcome.specs.declared.outcome.Outcome.TheVariants as outcome

-- ---- fixed texts

unfoldable pub revision_start : List ℕ
revision_start = codes "{\"revision\":"

unfoldable pub stamp_start : List ℕ
stamp_start = codes "{\"stamp\":"

unfoldable pub gone : List ℕ
gone = codes "{\"gone\":true}"

unfoldable pub exact_start : List ℕ
exact_start = codes "{\"installed\":\"Exact\",\"bounds\":["

unfoldable pub joined_start : List ℕ
joined_start = codes "{\"installed\":\"Joined\",\"bounds\":["

unfoldable pub bounds_end : List ℕ
bounds_end = codes "]}"

unfoldable pub too_old_start : List ℕ
too_old_start = codes "{\"installed\":\"TooOld\",\"kept_from\":"

unfoldable pub not_there : List ℕ
not_there = codes "{\"installed\":\"Gone\"}"

-- what stands around a page
unfoldable pub page_name : List ℕ
page_name = codes ",\"page\":"

unfoldable pub next_name : List ℕ
next_name = codes ",\"next\":"

-- and around the name of a fault
unfoldable pub refused_start : List ℕ
refused_start = codes "{\"refused\":"

unfoldable pub detail_name : List ℕ
detail_name = codes ",\"detail\":"

-- what isn't there
unfoldable pub null_text : List ℕ
null_text = codes "null"

unfoldable pub no_range : List ℕ
no_range = codes "null,null"

unfoldable pub no_place : List ℕ
no_place = codes "null,null,null,null"

-- ---- bounds: eight members

unfoldable pub pair_text : ℤ → ℤ → List ℕ
pair_text a b = signed_decimal a ++ (44 ∷ signed_decimal b)

-- the first and the last moment, in nanoseconds from 1970-01-01T00:00:00Z
abbrev pub range_text : Option (ℤ × ℤ) → List ℕ
range_text None = no_range
range_text (Some range) = pair_text range.0 range.1

-- the sides west, south, east and north, in steps of 10^-7 degree
abbrev pub box_text : Rectangle → List ℕ
box_text box = pair_text box.west box.south ++ (44 ∷ pair_text box.east box.north)

abbrev pub place_text : Option Rectangle → List ℕ
place_text None = no_place
place_text (Some box) = box_text box

-- the starts, the ends, and the place
abbrev pub bounds_text : Extent → List ℕ
bounds_text bounds = range_text bounds.starts ++ (44 ∷ range_text bounds.ends ++ (44 ∷ place_text bounds.place))

-- ---- pages

-- where the next page begins
abbrev pub next_text : Option Keys → List ℕ
next_text None = null_text
next_text (Some key) = quoted (token_of key)

-- the page without links, and where the next one begins
abbrev pub page_text : Page → List ℕ
page_text page = page_name ++ (bare_page_text (shared page.items) ++ (next_name ++ next_text page.next))

-- ---- outcomes

-- a page over the snapshot of a revision
abbrev pub found_text : ℕ → Page → List ℕ
found_text revision page = revision_start ++ (decimal revision ++ (page_text page ++ 125 ∷ []))

-- a refusal
abbrev pub refused_text : List ℕ → List ℕ → List ℕ
refused_text name detail = refused_start ++ (quoted name ++ (detail_name ++ (quoted detail ++ 125 ∷ [])))

abbrev pub outcome_text : Outcome → List ℕ
outcome_text (outcome.Revision revision) = revision_start ++ (decimal revision ++ 125 ∷ [])
outcome_text (outcome.Stamp stamp) = stamp_start ++ (decimal stamp ++ 125 ∷ [])
outcome_text outcome.Gone = gone
outcome_text (outcome.Exact bounds) = exact_start ++ (bounds_text bounds ++ bounds_end)
outcome_text (outcome.Joined bounds) = joined_start ++ (bounds_text bounds ++ bounds_end)
outcome_text (outcome.TooOld kept_from) = too_old_start ++ (decimal kept_from ++ 125 ∷ [])
outcome_text outcome.NotThere = not_there
outcome_text (outcome.Found revision page) = found_text revision page
outcome_text (outcome.Refused name detail) = refused_text name detail

-- the line of it
unfoldable pub line_of : Outcome → List ℕ
line_of outcome = outcome_text outcome ++ 10 ∷ []
