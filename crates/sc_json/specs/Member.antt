-- A member of an object, by its name.
use Rattle.std.specs.Prelude.{ℕ, List, [], ◌∷◌, nat_eq, if◌then◌else◌, Option, Some, None}
use Rattle.std.specs.Cmp.Lexicographic.{pointwise}
use Rattle.sc_json.specs.declared.tree.Json.{Json}
use Rattle.sc_json.specs.declared.tree.Json.TheOpen as layer
use Rattle.sc_json.specs.declared.tree.Json.TheOpen.{Json-F}
use Rattle.sc_json.specs.declared.tree.Json.TheViews.{out-Json}
use Rattle.sc_json.specs.declared.tree.Member.{Member, out-Member}

-- the value of the first of the members that has the name
abbrev pub value_in : List Member → List ℕ → Option Json
value_in [] name = None
value_in (m ∷ ms) name = if pointwise nat_eq (out-Member m).name name then Some (out-Member m).value else value_in ms name

-- the members of an object; none of any other tree
abbrev pub members_of : Json-F Json Member → List Member
members_of layer.Null = []
members_of (layer.Truth b) = []
members_of (layer.Number n) = []
members_of (layer.Text t) = []
members_of (layer.List vs) = []
members_of (layer.Object ms) = ms

abbrev pub member_value : Json → List ℕ → Option Json
member_value tree name = value_in (members_of (out-Json tree)) name
