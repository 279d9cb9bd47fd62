-- Members of objects and elements of lists (RFC 8259 §4, §5).
use Rattle.std.specs.Prelude.{ℕ, List, Option, Some, None, nat_eq, position}
use Rattle.std.specs.List.{find}
use Rattle.std.specs.Option.{option_map}
use Rattle.std.specs.Cmp.Lexicographic.{pointwise}
use Rattle.sc_decimal.specs.Number.{Number}
use Rattle.sc_json.specs.declared.tree.Json.{Json}
use Rattle.sc_json.specs.declared.tree.Member.{Member, out-Member}
use Rattle.sc_json.specs.declared.tree.Json.TheViews.{out-Json}
use Rattle.sc_json.specs.declared.tree.Json.TheOpen.{Json-F}
use Rattle.sc_json.specs.declared.tree.Json.TheOpen as layer

abbrev pub list_in : Json-F Json Member → Option (List Json)
list_in (layer.List elements) = Some elements
list_in _ = None

abbrev pub members_in : Json-F Json Member → Option (List Member)
members_in (layer.Object members) = Some members
members_in _ = None

abbrev pub text_in : Json-F Json Member → Option (List ℕ)
text_in (layer.Text text) = Some text
text_in _ = None

abbrev pub number_in : Json-F Json Member → Option Number
number_in (layer.Number number) = Some number.dec
number_in _ = None

-- the elements of a list
unfoldable pub list_of : Json → Option (List Json)
list_of tree = list_in (out-Json tree)

unfoldable pub members_of : Json → Option (List Member)
members_of tree = members_in (out-Json tree)

unfoldable pub text_of : Json → Option (List ℕ)
text_of tree = text_in (out-Json tree)

unfoldable pub number_of : Json → Option Number
number_of tree = number_in (out-Json tree)

-- the value of the first member of a name
abbrev pub member_named : List ℕ → List Member → Option Json
member_named name members = option_map (λ m. (out-Member m).value) (find (λ m. pointwise nat_eq (out-Member m).name name) members)

-- the place of the first member of a name
abbrev pub index_named : List ℕ → List Member → Option ℕ
index_named name members = position (λ m. pointwise nat_eq (out-Member m).name name) members
