-- The names of the members that are read of an item (RFC 7946 §3.2, the STAC item specification), and the one value of `type`.
use Rattle.std.specs.Prelude.{ℕ, List, codes}

unfoldable pub type_name : List ℕ
type_name = codes "type"

unfoldable pub feature_word : List ℕ
feature_word = codes "Feature"

unfoldable pub properties_name : List ℕ
properties_name = codes "properties"

unfoldable pub id_name : List ℕ
id_name = codes "id"

unfoldable pub collection_name : List ℕ
collection_name = codes "collection"

unfoldable pub geometry_name : List ℕ
geometry_name = codes "geometry"

unfoldable pub datetime_name : List ℕ
datetime_name = codes "datetime"

unfoldable pub start_name : List ℕ
start_name = codes "start_datetime"

unfoldable pub end_name : List ℕ
end_name = codes "end_datetime"
