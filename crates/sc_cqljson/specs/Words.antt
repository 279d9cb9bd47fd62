-- The names of the members that an object of CQL2 JSON is read by (OGC 21-065r2, Annex B).
use Rattle.std.specs.Prelude.{ℕ, List, codes}

unfoldable pub op_name : List ℕ
op_name = codes "op"

unfoldable pub args_name : List ℕ
args_name = codes "args"

unfoldable pub property_name : List ℕ
property_name = codes "property"

unfoldable pub timestamp_name : List ℕ
timestamp_name = codes "timestamp"

unfoldable pub date_name : List ℕ
date_name = codes "date"

unfoldable pub bbox_name : List ℕ
bbox_name = codes "bbox"

unfoldable pub type_name : List ℕ
type_name = codes "type"
