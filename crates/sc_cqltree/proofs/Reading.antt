-- How the objects that are written are read: by which member, and what that is.
use Rattle.std.proofs.Common.{◌≡◌, ℕ, ◌≤◌, List, [], ◌∷◌, length, false, Option, Some, None, cond, bytes_eq, refl, ap, ◌∙◌, arith}
use Rattle.std.specs.Option.{option_and_then, option_map_or}
use Rattle.std.specs.Cmp.Lexicographic.{bytes_decides}
use Rattle.sc_json.specs.declared.tree.Json.{Json}
use Rattle.sc_json.specs.declared.tree.Json.TheVariants as trees
use Rattle.sc_json.specs.declared.tree.Json.TheOpen.{Json-F, Member-F}
use Rattle.sc_json.specs.declared.tree.Json.TheViews.{out-roll-Member}
use Rattle.sc_json.specs.declared.tree.Num.{Num}
use Rattle.sc_json.specs.declared.tree.Member.{Member, out-Member}
use Rattle.sc_json.specs.Member.{members_of, value_in}
use Rattle.sc_json.specs.Views as views
use Rattle.sc_json.specs.Views.{text_in, number_in, list_in}
use Rattle.sc_geom.specs.Tree as geoms
use Rattle.sc_geom.specs.Kinds.{type_name, coordinates_name, geometries_name}
use Rattle.sc_cqljson.specs.Words.{op_name, args_name, property_name, timestamp_name, date_name, bbox_name}
use Rattle.sc_cqljson.specs.Words as words
use Rattle.sc_cqljson.specs.declared.operator.Operator.{Operator}
use Rattle.sc_cqljson.specs.Operators.{operator_named}
use Rattle.sc_cqljson.specs.Heads as heads
use Rattle.sc_cqljson.specs.Heads.{Head, head_in, head_of, known, called_by, args_of, filled, name_in}
use Rattle.sc_cqljson.specs.Spells.{Calls}
use Rattle.sc_cqljson.proofs.Leaves.{out_number, out_text, out_list, out_object}
use Rattle.sc_cqltree.specs.Objects.{member, only, call, shaped}

-- ---- values by their kind

pub text_is : (t : List ℕ) → views.text_of (trees.Text t) ≡ Some t
unfolding views.text_of
text_is t = ap text_in (out_text t)

pub number_is : (n : Num) → views.number_of (trees.Number n) ≡ Some n.dec
unfolding views.number_of
number_is n = ap number_in (out_number n)

pub list_is : (xs : List Json) → views.list_of (trees.List xs) ≡ Some xs
unfolding views.list_of
list_is xs = ap list_in (out_list xs)

pub text_there : (t : List ℕ) → geoms.text_of (trees.Text t) ≡ Some t
unfolding geoms.text_of
text_there t = ap geoms.text_in (out_text t)

pub number_there : (n : Num) → geoms.number_of (trees.Number n) ≡ Some n.dec
unfolding geoms.number_of
number_there n = ap geoms.number_in (out_number n)

pub list_there : (xs : List Json) → geoms.list_of (trees.List xs) ≡ Some xs
unfolding geoms.list_of
list_there xs = ap geoms.list_in (out_list xs)

pub members_there : (ms : List Member) → geoms.members_of (trees.Object ms) ≡ Some ms
unfolding geoms.members_of
members_there ms = ap geoms.members_in (out_object ms)

pub named : (name : List ℕ) → 1 ≤ length name → name_in (trees.Text name) ≡ Some name
unfolding name_in
named name some = ap (option_and_then filled) (text_is name) ∙ by name some
  where
    by : (n : List ℕ) → 1 ≤ length n → filled n ≡ Some n
    by [] none = absurd (omega arith)
    by (b ∷ bs) some = refl

-- ---- members

pub member_out : (name : List ℕ) (value : Json) → out-Member (member name value) ≡ record { name = name; value = value }
member_out name value = out-roll-Member (record { name = name; value = value })

-- the value that a name has, where a member stands before what has this one
abbrev found : Member-F Json Member → Option Json → List ℕ → Option Json
found m rest name = cond (bytes_eq m.name name) (Some m.value) rest

-- the head of a first member and of what the members behind it have
abbrev head_by : Member-F Json Member → (List ℕ → Option Json) → Head
head_by m rest =
    option_map_or heads.call (found m (rest op_name) op_name)
    (option_map_or heads.property (found m (rest property_name) property_name)
    (option_map_or heads.timestamp (found m (rest timestamp_name) timestamp_name)
    (option_map_or heads.date (found m (rest date_name) date_name)
    (option_map_or heads.bbox (found m (rest bbox_name) bbox_name)
    (option_map_or (λ _. heads.geometry) (found m (rest words.type_name) words.type_name) heads.nothing)))))

head_first : (m : Member) (ms : List Member) → head_of (trees.Object (m ∷ ms)) ≡ head_by (out-Member m) (value_in ms)
unfolding head_in
head_first m ms = ap (λ (l : Json-F Json Member). head_in (members_of l)) (out_object (m ∷ ms))

pub property_head : (value : Json) → head_of (only property_name value) ≡ heads.property value
unfolding op_name property_name
property_head value =
    head_first (member property_name value) [] ∙ ap (λ (m : Member-F Json Member). head_by m (value_in [])) (member_out property_name value)

pub timestamp_head : (value : Json) → head_of (only timestamp_name value) ≡ heads.timestamp value
unfolding op_name property_name timestamp_name
timestamp_head value =
    head_first (member timestamp_name value) [] ∙ ap (λ (m : Member-F Json Member). head_by m (value_in [])) (member_out timestamp_name value)

call_head : (name : List ℕ) (args : List Json) → head_of (call name args) ≡ heads.call (trees.Text name)
unfolding op_name
call_head name args =
    let rest : List Member = member args_name (trees.List args) ∷ [] in
    head_first (member op_name (trees.Text name)) rest ∙ ap (λ (m : Member-F Json Member). head_by m (value_in rest)) (member_out op_name (trees.Text name))

call_args : (name : List ℕ) (args : List Json) → args_of (call name args) ≡ Some args
unfolding args_of op_name args_name
call_args name args =
    let op = member op_name (trees.Text name) in
    let on = member args_name (trees.List args) in
    ap (λ (l : Json-F Json Member). option_and_then views.list_of (value_in (members_of l) args_name)) (out_object (op ∷ on ∷ []))
    ∙ ap (λ (m : Member-F Json Member). option_and_then views.list_of (found m (value_in (on ∷ []) args_name) args_name)) (member_out op_name (trees.Text name))
    ∙ ap (λ (m : Member-F Json Member). option_and_then views.list_of (found m None args_name)) (member_out args_name (trees.List args))
    ∙ list_is args

pub calls : (name : List ℕ) (operator : Operator) (args : List Json) → operator_named name ≡ Some operator → Calls (call name args) operator args
calls name operator args e = record {
  by = ap called_by (call_head name args) ∙ ap (option_and_then operator_named) (text_is name) ∙ e;
  on = call_args name args;
}

-- ---- geometries

abbrev head_of_two : Member-F Json Member → Member-F Json Member → Head
head_of_two m n = head_by m (found n None)

shaped_head : (kind name : List ℕ) (value : Json) → head_of (shaped kind name value) ≡ head_of_two (record { name = type_name; value = trees.Text kind }) (record { name = name; value = value })
shaped_head kind name value =
    let first = member type_name (trees.Text kind) in
    let second = member name value in
    head_first first (second ∷ [])
    ∙ ap (λ (m : Member-F Json Member). head_of_two m (out-Member second)) (member_out type_name (trees.Text kind))
    ∙ ap (head_of_two (record { name = type_name; value = trees.Text kind })) (member_out name value)

pub coordinates_head : (kind : List ℕ) (value : Json) → head_of (shaped kind coordinates_name value) ≡ heads.geometry
unfolding op_name property_name timestamp_name date_name bbox_name words.type_name type_name coordinates_name
coordinates_head kind value = shaped_head kind coordinates_name value

pub geometries_head : (kind : List ℕ) (value : Json) → head_of (shaped kind geometries_name value) ≡ heads.geometry
unfolding op_name property_name timestamp_name date_name bbox_name words.type_name type_name geometries_name
geometries_head kind value = shaped_head kind geometries_name value

-- ---- members as geometries are read

name_test : (other name : List ℕ) (value : Json) → bytes_eq (out-Member (member other value)).name name ≡ bytes_eq other name
name_test other name value = ap (λ (m : Member-F Json Member). bytes_eq m.name name) (member_out other value)

named_first : (name : List ℕ) (value : Json) (ms : List Member) → geoms.member_named name (member name value ∷ ms) ≡ Some value
named_first name value ms =
    rw (name_test name name value ∙ (bytes_decides name name).1 refl) (ap (λ (m : Member-F Json Member). Some m.value) (member_out name value))

named_later : (other name : List ℕ) (value : Json) (ms : List Member) → bytes_eq other name ≡ false → geoms.member_named name (member other value ∷ ms) ≡ geoms.member_named name ms
named_later other name value ms e = rw (name_test other name value ∙ e) refl

pub type_named : (kind name : List ℕ) (value : Json) → geoms.member_named type_name (member type_name (trees.Text kind) ∷ member name value ∷ []) ≡ Some (trees.Text kind)
type_named kind name value = named_first type_name (trees.Text kind) (member name value ∷ [])

coordinates_other : bytes_eq type_name coordinates_name ≡ false
unfolding type_name coordinates_name
coordinates_other = refl

geometries_other : bytes_eq type_name geometries_name ≡ false
unfolding type_name geometries_name
geometries_other = refl

pub coordinates_named : (kind : List ℕ) (value : Json) → geoms.member_named coordinates_name (member type_name (trees.Text kind) ∷ member coordinates_name value ∷ []) ≡ Some value
coordinates_named kind value = named_later type_name coordinates_name (trees.Text kind) (member coordinates_name value ∷ []) coordinates_other ∙ named_first coordinates_name value []

pub geometries_named : (kind : List ℕ) (value : Json) → geoms.member_named geometries_name (member type_name (trees.Text kind) ∷ member geometries_name value ∷ []) ≡ Some value
geometries_named kind value = named_later type_name geometries_name (trees.Text kind) (member geometries_name value ∷ []) geometries_other ∙ named_first geometries_name value []

-- ---- the code's

pub only_of : (name : List ℕ) (value value' tree : Json) → value ≡ value' → tree ≡ only name value → tree ≡ only name value'
only_of name value value' tree e is = is ∙ ap (only name) e

pub shaped_of : (kind name : List ℕ) (value value' tree : Json) → value ≡ value' → tree ≡ shaped kind name value → tree ≡ shaped kind name value'
shaped_of kind name value value' tree e is = is ∙ ap (shaped kind name) e
