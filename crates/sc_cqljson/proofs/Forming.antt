-- What of a value has to fit, where it is an object, by the member that it is read by.
use Rattle.std.proofs.Common.{◌≡◌, Bool, true, List, [], length, Option, Some, None, refl, sym, ap, subst, ◌∙◌, cond}
use Rattle.std.specs.Option.{option_and_then}
use Rattle.sc_json.specs.declared.tree.Json.{Json}
use Rattle.sc_json.specs.declared.tree.Json.TheOpen as layer
use Rattle.sc_json.specs.declared.tree.Json.TheOpen.{Json-F}
use Rattle.sc_json.specs.declared.tree.Json.TheViews.{out-Json}
use Rattle.sc_json.specs.declared.tree.Member.{Member}
use Rattle.sc_json.specs.Member.{members_of, member_value}
use Rattle.sc_json.specs.Views.{list_of}
use Rattle.sc_cqljson.specs.declared.operator.Operator.{Operator}
use Rattle.sc_cqljson.specs.Words.{args_name}
use Rattle.sc_cqljson.specs.Operators.{Role, expression, scalar, pattern, shape, listed, arguments, fits, takes, roles_of}
use Rattle.sc_cqljson.specs.Heads.{Head, call, property, timestamp, date, bbox, geometry, nothing, head_in, head_of, known, args_of, number_of}
use Rattle.sc_cqljson.specs.Forms.{unfit, within, misplaced, listed_form, args_form, call_form, object_form, form_in, form_of}

-- every place but that of a list
abbrev pub IsObjectPlace : Role → Type 0
IsObjectPlace expression = Unit {0}
IsObjectPlace scalar = Unit {0}
IsObjectPlace pattern = Unit {0}
IsObjectPlace shape = Unit {0}
IsObjectPlace listed = ⊥

abbrev pub IsHead : Head → Type 0
IsHead (call value) = Unit {0}
IsHead (property value) = Unit {0}
IsHead (timestamp value) = Unit {0}
IsHead (date value) = Unit {0}
IsHead (bbox value) = Unit {0}
IsHead geometry = Unit {0}
IsHead nothing = ⊥

pub none_headed : (h : Head) → head_in [] ≡ h → IsHead h → ⊥
unfolding head_in
none_headed h e is = subst IsHead (sym e) is

by_level : (level : Json-F Json Member) (role : Role) (tree : Json) (h : Head) → head_in (members_of level) ≡ h → IsHead h → IsObjectPlace role → form_in role tree level ≡ object_form role tree (head_of tree)
by_level layer.Null role tree h e is place = absurd (none_headed h e is)
by_level (layer.Truth b) role tree h e is place = absurd (none_headed h e is)
by_level (layer.Number n) role tree h e is place = absurd (none_headed h e is)
by_level (layer.Text t) role tree h e is place = absurd (none_headed h e is)
by_level (layer.List xs) role tree h e is place = absurd (none_headed h e is)
by_level (layer.Object ms) expression tree h e is place = refl
by_level (layer.Object ms) scalar tree h e is place = refl
by_level (layer.Object ms) pattern tree h e is place = refl
by_level (layer.Object ms) shape tree h e is place = refl
by_level (layer.Object ms) listed tree h e is place = absurd place

pub formed_by : (role : Role) (tree : Json) (h : Head) → head_of tree ≡ h → IsHead h → IsObjectPlace role → form_of role tree ≡ object_form role tree h
unfolding form_of
formed_by role tree h e is place = by_level (out-Json tree) role tree h e is place ∙ ap (object_form role tree) e

called_form : (role : Role) (tree op : Json) → IsObjectPlace role → object_form role tree (call op) ≡ call_form role tree (known op)
called_form expression tree op place = refl
called_form scalar tree op place = refl
called_form pattern tree op place = refl
called_form shape tree op place = refl
called_form listed tree op place = absurd place

pub formed_by_call : (role : Role) (tree op : Json) (o : Option Operator) → head_of tree ≡ call op → known op ≡ o → IsObjectPlace role → form_of role tree ≡ call_form role tree o
formed_by_call role tree op o e k place = formed_by role tree (call op) e tt place ∙ called_form role tree op place ∙ ap (call_form role tree) k

-- ---- calls with arguments

listed_within : (role : Role) (o : Operator) (tree : Json) (args : List Json) (l : Option (List Json)) → l ≡ Some args → takes o (length args) ≡ true →
    listed_form role o tree l ≡ within (roles_of (arguments role o) args) args (number_of tree args_name)
listed_within role o tree args l e n =
    ap (listed_form role o tree) e ∙ ap (λ (b : Bool). cond b (within (roles_of (arguments role o) args) args (number_of tree args_name)) (unfit 0 misplaced)) n

member_within : (role : Role) (o : Operator) (tree : Json) (args : List Json) (m : Option Json) → option_and_then list_of m ≡ Some args → takes o (length args) ≡ true →
    args_form role o tree m ≡ within (roles_of (arguments role o) args) args (number_of tree args_name)
member_within role o tree args None e n = absurd cc
member_within role o tree args (Some value) e n = listed_within role o tree args (list_of value) e n

pub args_within : (role : Role) (o : Operator) (tree : Json) (args : List Json) → args_of tree ≡ Some args → takes o (length args) ≡ true →
    args_form role o tree (member_value tree args_name) ≡ within (roles_of (arguments role o) args) args (number_of tree args_name)
unfolding args_of
args_within role o tree args e n = member_within role o tree args (member_value tree args_name) e n

pub fitting_call : (role : Role) (o : Operator) (tree : Json) → fits role o ≡ true → call_form role tree (Some o) ≡ args_form role o tree (member_value tree args_name)
fitting_call role o tree f = ap (λ (b : Bool). cond b (args_form role o tree (member_value tree args_name)) (unfit 0 misplaced)) f

pub formed_within : (role : Role) (o : Operator) (tree op : Json) (args : List Json) → head_of tree ≡ call op → known op ≡ Some o → args_of tree ≡ Some args → takes o (length args) ≡ true →
    fits role o ≡ true → IsObjectPlace role → form_of role tree ≡ within (roles_of (arguments role o) args) args (number_of tree args_name)
formed_within role o tree op args h k a n f place = formed_by_call role tree op (Some o) h k place ∙ fitting_call role o tree f ∙ args_within role o tree args a n
