-- Values of a JSON tree by their kind (RFC 8259 §3), and members of objects (§4).
use Rattle.std.specs.Prelude.{ℕ, Bool, true, false, List, [], ◌∷◌, ◌++◌, Option, Some, None}
use Rattle.std.specs.Option.{option_and_then}
use Rattle.std.specs.Prelude.{nat_eq}
use Rattle.std.specs.Cmp.Lexicographic.{pointwise}
use Rattle.sc_json.specs.declared.tree.Json.{Json}
use Rattle.sc_json.specs.declared.tree.Json.TheVariants.{Text, Object}
use Rattle.sc_json.specs.declared.tree.Json.TheOpen as layer
use Rattle.sc_json.specs.declared.tree.Json.TheOpen.{Json-F}
use Rattle.sc_json.specs.declared.tree.Json.TheViews.{out-Json}
use Rattle.sc_json.specs.declared.tree.Member.{Member, out-Member}
use Rattle.sc_json.specs.Grammar.{member}
use Rattle.sc_json.specs.Member.{member_value, members_of}
use Rattle.sc_item.specs.Words.{collection_name, properties_name}

abbrev pub text_in : Json-F Json Member → Option (List ℕ)
text_in layer.Null = None
text_in (layer.Truth b) = None
text_in (layer.Number n) = None
text_in (layer.Text t) = Some t
text_in (layer.List vs) = None
text_in (layer.Object ms) = None

abbrev pub null_in : Json-F Json Member → Bool
null_in layer.Null = true
null_in (layer.Truth b) = false
null_in (layer.Number n) = false
null_in (layer.Text t) = false
null_in (layer.List vs) = false
null_in (layer.Object ms) = false

abbrev pub object_in : Json-F Json Member → Bool
object_in layer.Null = false
object_in (layer.Truth b) = false
object_in (layer.Number n) = false
object_in (layer.Text t) = false
object_in (layer.List vs) = false
object_in (layer.Object ms) = true

-- the bytes of a text; none of any other tree
unfoldable pub text_of : Json → Option (List ℕ)
text_of tree = text_in (out-Json tree)

unfoldable pub is_null : Json → Bool
is_null tree = null_in (out-Json tree)

unfoldable pub is_object : Json → Bool
is_object tree = object_in (out-Json tree)

-- the members of an object; none of any other tree
unfoldable pub members_in : Json → List Member
members_in tree = members_of (out-Json tree)

-- the text that a member is
unfoldable pub text_member : Json → List ℕ → Option (List ℕ)
text_member tree name = option_and_then text_of (member_value tree name)

-- the member has the name
abbrev pub is_named : List ℕ → Member → Bool
is_named name m = pointwise nat_eq (out-Member m).name name

abbrev pub members_of_value : Option Json → List Member
members_of_value None = []
members_of_value (Some value) = members_in value

-- the members of the member `properties`
unfoldable pub properties_in : Json → List Member
properties_in tree = members_of_value (member_value tree properties_name)

abbrev pub extended_in : Json-F Json Member → Json → Member → Json
extended_in layer.Null tree last = tree
extended_in (layer.Truth b) tree last = tree
extended_in (layer.Number n) tree last = tree
extended_in (layer.Text t) tree last = tree
extended_in (layer.List vs) tree last = tree
extended_in (layer.Object ms) tree last = Object (ms ++ last ∷ [])

-- an object with one more member at its end; any other tree as it is
unfoldable pub extended : Json → Member → Json
extended tree last = extended_in (out-Json tree) tree last

abbrev pub with_member : Option Json → Json → Member → Json
with_member None tree last = extended tree last
with_member (Some value) tree last = tree

-- the tree with the collection as its last member, where it has no member `collection`
unfoldable pub with_collection : List ℕ → Json → Json
with_collection collection tree = with_member (member_value tree collection_name) tree (member collection_name (Text collection))
