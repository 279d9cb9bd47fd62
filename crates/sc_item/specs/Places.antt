-- The place of each name among the members of an object (RFC 8259 §4), and a map of the places beside the members.
use Rattle.std.specs.Prelude.{◌≡◌, ℕ, List, Option, Some, None}
use Rattle.std.specs.List.{position}
use Rattle.std.specs.BTreeMap.{BTreeMap, get}
use Rattle.sc_base.specs.Text.{text_order}
use Rattle.sc_json.specs.declared.tree.Member.{Member}
use Rattle.sc_item.specs.Trees.{is_named}

-- the map has the names of the members, each at the place of the first member that has it, and no others
abbrev pub Agree : BTreeMap (List ℕ) ℕ → List Member → Type 0
Agree places ms = (name : List ℕ) → get text_order places name ≡ position (is_named name) ms

abbrev pub AgreeIfAny : Option (BTreeMap (List ℕ) ℕ) → List Member → Type 0
AgreeIfAny None ms = Unit {0}
AgreeIfAny (Some places) ms = Agree places ms
