-- The names of an object's members (RFC 8259 §4), and a set of them beside the members.
use Rattle.std.specs.Prelude.{◌≡◌, ℕ, Bool, List, nat_eq, Option, Some, None}
use Rattle.std.specs.List.{list_any}
use Rattle.std.specs.Cmp.Lexicographic.{pointwise}
use Rattle.std.specs.BTreeSet.{BTreeSet, contains}
use Rattle.sc_base.specs.Text.{text_order}
use Rattle.sc_json.specs.declared.tree.Member.{Member, out-Member}

-- a member has the name
abbrev pub has_name : List Member → List ℕ → Bool
has_name ms name = list_any (λ m. pointwise nat_eq (out-Member m).name name) ms

-- the set has the names of the members and no others
abbrev pub Agree : BTreeSet (List ℕ) → List Member → Type 0
Agree set ms = (name : List ℕ) → contains text_order set name ≡ has_name ms name

abbrev pub AgreeIfAny : Option (BTreeSet (List ℕ)) → List Member → Type 0
AgreeIfAny None ms = Unit {0}
AgreeIfAny (Some set) ms = Agree set ms
