-- What a tree is by its kind (RFC 8259 §3), the text that a member is (§4), and how many values a tree has.
use Rattle.std.specs.Prelude.{ℕ, ◌+◌, Bool, true, false, sum, List, Option, Some, None}
use Rattle.std.specs.Option.{option_and_then}
use Rattle.sc_decimal.specs.Number.{Number}
use Rattle.sc_json.specs.declared.tree.Json.{Json}
use Rattle.sc_json.specs.declared.tree.Json.TheOpen as layer
use Rattle.sc_json.specs.declared.tree.Json.TheOpen.{Json-F, Member-F}
use Rattle.sc_json.specs.declared.tree.Json.TheFolds.{fold-Json}
use Rattle.sc_json.specs.declared.tree.Json.TheViews.{out-Json}
use Rattle.sc_json.specs.declared.tree.Member.{Member}
use Rattle.sc_json.specs.Member.{member_value}

-- ---- one level

abbrev pub null_in : Json-F Json Member → Bool
null_in layer.Null = true
null_in _ = false

abbrev pub text_in : Json-F Json Member → Option (List ℕ)
text_in (layer.Text text) = Some text
text_in _ = None

abbrev pub number_in : Json-F Json Member → Option Number
number_in (layer.Number number) = Some number.dec
number_in _ = None

abbrev pub list_in : Json-F Json Member → Option (List Json)
list_in (layer.List elements) = Some elements
list_in _ = None

abbrev pub object_in : Json-F Json Member → Option (List Member)
object_in (layer.Object members) = Some members
object_in _ = None

-- ---- trees

unfoldable pub is_null : Json → Bool
is_null tree = null_in (out-Json tree)

-- the bytes of a text; none of any other tree
unfoldable pub text_of : Json → Option (List ℕ)
text_of tree = text_in (out-Json tree)

-- the value of a number; none of any other tree
unfoldable pub number_of : Json → Option Number
number_of tree = number_in (out-Json tree)

-- the elements of a list; none of any other tree
unfoldable pub list_of : Json → Option (List Json)
list_of tree = list_in (out-Json tree)

-- the members of an object; none of any other tree
unfoldable pub object_of : Json → Option (List Member)
object_of tree = object_in (out-Json tree)

-- the text that an object's first member of this name is
unfoldable pub text_member : Json → List ℕ → Option (List ℕ)
text_member tree name = option_and_then text_of (member_value tree name)

-- ---- how many values

-- one level, with the count of each child in its place; a name is no value
abbrev pub level_values : Json-F ℕ ℕ → ℕ
level_values layer.Null = 1
level_values (layer.Truth b) = 1
level_values (layer.Number n) = 1
level_values (layer.Text t) = 1
level_values (layer.List counts) = 1 + sum counts
level_values (layer.Object counts) = 1 + sum counts

abbrev pub member_values : Member-F ℕ ℕ → ℕ
member_values m = m.value

-- the tree itself, and all values in it
abbrev pub values : Json → ℕ
values = fold-Json ℕ ℕ level_values member_values
