-- What of a value has to fit in its place in CQL2 JSON (OGC 21-065r2, Annex B), and where it doesn't fit by itself.
use Rattle.std.specs.Prelude.{ℕ, ℤ, if◌then◌else◌, List, [], ◌∷◌, length, map, Option, Some, None}
use Rattle.sc_json.specs.declared.tree.Json.{Json}
use Rattle.sc_json.specs.declared.tree.Json.TheOpen as layer
use Rattle.sc_json.specs.declared.tree.Json.TheOpen.{Json-F}
use Rattle.sc_json.specs.declared.tree.Json.TheViews.{out-Json}
use Rattle.sc_json.specs.declared.tree.Member.{Member}
use Rattle.sc_json.specs.Member.{member_value}
use Rattle.sc_json.specs.Views.{list_of}
use Rattle.sc_cqljson.specs.declared.operator.Operator.{Operator}
use Rattle.sc_cqljson.specs.Words.{op_name, args_name, property_name}
use Rattle.sc_cqljson.specs.Operators.{Role, expression, scalar, pattern, shape, listed, arguments, fits, takes, roles_of}
use Rattle.sc_cqljson.specs.Heads.{Head, call, property, timestamp, date, bbox, geometry, head_of, known, name_in, number_of}
use Rattle.sc_cqljson.specs.Drawn.{instant_in, date_in}

-- a value is misplaced where it doesn't fit or lacks something, and unreadable where it is a literal that says nothing
pub data Unfitness : Type 0 where
  misplaced : Unfitness
  unreadable : Unfitness

pub data Form : Type 0 where
  -- it fits, whatever stands in it
  whole : Form
  -- it doesn't fit: the number of the value that doesn't, counted from it
  unfit : ℕ → Unfitness → Form
  -- it fits where each of these values does; the list of them has this number
  within : List Role → List Json → ℕ → Form
  -- it fits where it draws a geometry
  drawing : Form

-- ---- calls

abbrev pub listed_form : Role → Operator → Json → Option (List Json) → Form
listed_form role operator tree None = unfit (number_of tree args_name) misplaced
listed_form role operator tree (Some args) =
    if takes operator (length args) then within (roles_of (arguments role operator) args) args (number_of tree args_name) else unfit 0 misplaced

abbrev pub args_form : Role → Operator → Json → Option Json → Form
args_form role operator tree None = unfit 0 misplaced
args_form role operator tree (Some value) = listed_form role operator tree (list_of value)

-- an operator that isn't known is misplaced itself, and then its arguments aren't looked at
abbrev pub call_form : Role → Json → Option Operator → Form
call_form role tree None = unfit (number_of tree op_name) misplaced
call_form role tree (Some operator) = if fits role operator then args_form role operator tree (member_value tree args_name) else unfit 0 misplaced

-- ---- objects

abbrev pub property_form : Json → Option (List ℕ) → Form
property_form tree None = unfit (number_of tree property_name) misplaced
property_form tree (Some name) = whole

abbrev pub moment_form : Option ℤ → Form
moment_form None = unfit 0 unreadable
moment_form (Some at) = whole

-- an object by the member that it is read by, in each place
abbrev pub object_form : Role → Json → Head → Form
object_form role tree (call value) = call_form role tree (known value)
object_form scalar tree (property value) = property_form tree (name_in value)
object_form scalar tree (timestamp value) = moment_form (instant_in value)
object_form scalar tree (date value) = moment_form (date_in value)
object_form shape tree (property value) = property_form tree (name_in value)
object_form shape tree (bbox value) = drawing
object_form shape tree geometry = drawing
object_form _ tree _ = unfit 0 misplaced

-- ---- values

abbrev pub elements_form : List Json → Form
elements_form [] = unfit 0 misplaced
elements_form (e ∷ es) = within (map (λ _. scalar) (e ∷ es)) (e ∷ es) 0

abbrev pub form_in : Role → Json → Json-F Json Member → Form
form_in expression tree (layer.Truth b) = whole
form_in scalar tree (layer.Truth b) = whole
form_in scalar tree (layer.Number n) = whole
form_in scalar tree (layer.Text t) = whole
form_in pattern tree (layer.Text t) = whole
form_in listed tree (layer.List elements) = elements_form elements
form_in listed tree (layer.Object members) = unfit 0 misplaced
form_in role tree (layer.Object members) = object_form role tree (head_of tree)
form_in _ tree _ = unfit 0 misplaced

unfoldable pub form_of : Role → Json → Form
form_of role tree = form_in role tree (out-Json tree)
