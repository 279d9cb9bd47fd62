-- The names of a search's parameters (STAC API, Item Search, and its Filter and Sort extensions), and the words that some
-- of them take.
use Rattle.std.specs.Prelude.{ℕ, List, codes}

unfoldable pub limit_name : List ℕ
limit_name = codes "limit"

unfoldable pub bbox_name : List ℕ
bbox_name = codes "bbox"

unfoldable pub datetime_name : List ℕ
datetime_name = codes "datetime"

unfoldable pub intersects_name : List ℕ
intersects_name = codes "intersects"

unfoldable pub ids_name : List ℕ
ids_name = codes "ids"

unfoldable pub collections_name : List ℕ
collections_name = codes "collections"

unfoldable pub language_name : List ℕ
language_name = codes "filter-lang"

unfoldable pub crs_name : List ℕ
crs_name = codes "filter-crs"

unfoldable pub filter_name : List ℕ
filter_name = codes "filter"

unfoldable pub sort_name : List ℕ
sort_name = codes "sortby"

unfoldable pub token_name : List ℕ
token_name = codes "token"

unfoldable pub text_language : List ℕ
text_language = codes "cql2-text"

unfoldable pub tree_language : List ℕ
tree_language = codes "cql2-json"

-- longitude and latitude on WGS 84, the one system that a filter's geometries may be in
unfoldable pub longitude_latitude : List ℕ
longitude_latitude = codes "http://www.opengis.net/def/crs/OGC/1.3/CRS84"
