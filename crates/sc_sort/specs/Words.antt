-- The fixed words of sorts, and the names of what every item has (STAC API, Sort extension; STAC Item).
use Rattle.std.specs.Prelude.{ℕ, List, codes}

unfoldable pub datetime_name : List ℕ
datetime_name = codes "datetime"

unfoldable pub id_name : List ℕ
id_name = codes "id"

unfoldable pub collection_name : List ℕ
collection_name = codes "collection"

unfoldable pub geometry_name : List ℕ
geometry_name = codes "geometry"

unfoldable pub properties_prefix : List ℕ
properties_prefix = codes "properties."

unfoldable pub field_name : List ℕ
field_name = codes "field"

unfoldable pub direction_name : List ℕ
direction_name = codes "direction"

unfoldable pub ascending_word : List ℕ
ascending_word = codes "asc"

unfoldable pub descending_word : List ℕ
descending_word = codes "desc"
