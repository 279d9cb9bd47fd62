-- The token of a key list: the lower-case hexadecimal digits of the compact JSON list (RFC 8259) of its values, its collection and its id.
use Rattle.std.specs.Prelude.{ℕ, List, [], ◌∷◌, ◌++◌, map}
use Rattle.std.specs.Fmt.{signed_decimal}
use Rattle.hex.specs.Hex.{encode_lower}
use Rattle.sc_decimal.specs.Literal.{literal_of}
use Rattle.sc_decimal.specs.Value.{number_of}
use Rattle.sc_json.specs.declared.tree.Json.{Json}
use Rattle.sc_json.specs.declared.tree.Json.TheVariants as trees
use Rattle.sc_json.specs.Compact.{compact}
use Rattle.sc_sort.specs.declared.value.SortValue.{SortValue}
use Rattle.sc_sort.specs.declared.value.SortValue.TheVariants.{Moment, Number, Text, Truth, Absent}
use Rattle.sc_sort.specs.Keys.{Keys}

-- the number of a literal
abbrev pub number_tree : List ℕ → Json
number_tree literal = trees.Number (record { literal = literal; dec = number_of literal })

-- a moment is the number of its nanoseconds, a number its canonical literal, and what is absent is null
abbrev pub tree_of : SortValue → Json
tree_of (Moment at) = number_tree (signed_decimal at)
tree_of (Number number) = number_tree (literal_of number)
tree_of (Text text) = trees.Text text
tree_of (Truth truth) = trees.Truth truth
tree_of Absent = trees.Null

abbrev pub trees_of : Keys → List Json
trees_of keys = map tree_of keys.values ++ trees.Text keys.collection ∷ trees.Text keys.id ∷ []

unfoldable pub list_text : Keys → List ℕ
list_text keys = compact (trees.List (trees_of keys))

unfoldable pub token_of : Keys → List ℕ
token_of keys = encode_lower (list_text keys)
