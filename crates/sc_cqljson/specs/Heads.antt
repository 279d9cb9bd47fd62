-- By which member an object of CQL2 JSON is read (OGC 21-065r2, Annex B), and the numbers of the values in it.
use Rattle.std.specs.Prelude.{ℕ, ◌+◌, nat_eq, if◌then◌else◌, List, [], ◌∷◌, Option, Some, None}
use Rattle.std.specs.Option.{option_and_then, option_map_or}
use Rattle.std.specs.Cmp.Lexicographic.{pointwise}
use Rattle.sc_json.specs.declared.tree.Json.{Json}
use Rattle.sc_json.specs.declared.tree.Json.TheViews.{out-Json}
use Rattle.sc_json.specs.declared.tree.Member.{Member, out-Member}
use Rattle.sc_json.specs.Member.{members_of, value_in, member_value}
use Rattle.sc_json.specs.Views.{text_of, list_of, values}
use Rattle.sc_cqljson.specs.Words.{op_name, args_name, property_name, timestamp_name, date_name, bbox_name, type_name}
use Rattle.sc_cqljson.specs.Operators.{operator_named}
use Rattle.sc_cqljson.specs.declared.operator.Operator.{Operator}

-- the member, and its value where that is read; a geometry is read of the whole object
pub data Head : Type 0 where
  call : Json → Head
  property : Json → Head
  timestamp : Json → Head
  date : Json → Head
  bbox : Json → Head
  geometry : Head
  nothing : Head

-- the first of these that the members have, in whatever order they stand
unfoldable pub head_in : List Member → Head
head_in members =
    option_map_or call (value_in members op_name)
    (option_map_or property (value_in members property_name)
    (option_map_or timestamp (value_in members timestamp_name)
    (option_map_or date (value_in members date_name)
    (option_map_or bbox (value_in members bbox_name)
    (option_map_or (λ _. geometry) (value_in members type_name) nothing)))))

-- nothing where the tree is no object
abbrev pub head_of : Json → Head
head_of tree = head_in (members_of (out-Json tree))

-- ---- calls

abbrev pub known : Json → Option Operator
known value = option_and_then operator_named (text_of value)

abbrev pub called_by : Head → Option Operator
called_by (call value) = known value
called_by _ = None

-- the operator that an object calls
abbrev pub operator_of : Json → Option Operator
operator_of tree = called_by (head_of tree)

-- the arguments of a call
unfoldable pub args_of : Json → Option (List Json)
args_of tree = option_and_then list_of (member_value tree args_name)

-- ---- names

abbrev pub filled : {A : Type 0} → List A → Option (List A)
filled [] = None
filled (x ∷ xs) = Some (x ∷ xs)

-- a text that isn't empty
unfoldable pub name_in : Json → Option (List ℕ)
name_in value = option_and_then filled (text_of value)

-- ---- numbers of values: the tree itself has 0, and each value comes before those in it

-- where the value of the first member of a name stands, if the first of the values has this number
abbrev pub number_from : ℕ → List Member → List ℕ → ℕ
number_from number [] name = number
number_from number (m ∷ ms) name = if pointwise nat_eq (out-Member m).name name then number else number_from (number + values (out-Member m).value) ms name

-- the number of the value of an object's member
unfoldable pub number_of : Json → List ℕ → ℕ
number_of tree name = number_from 1 (members_of (out-Json tree)) name
