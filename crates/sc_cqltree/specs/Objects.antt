-- The objects and numbers of which a tree is made (OGC 21-065r2, Annex B; RFC 7946 §3.1), with their members in order.
use Rattle.std.specs.Prelude.{ℕ, List, [], ◌∷◌}
use Rattle.sc_decimal.specs.Value.{number_of}
use Rattle.sc_json.specs.declared.tree.Json.{Json}
use Rattle.sc_json.specs.declared.tree.Json.TheVariants as trees
use Rattle.sc_json.specs.declared.tree.Member.{Member, roll-Member}
use Rattle.sc_geom.specs.Kinds.{type_name}
use Rattle.sc_cqljson.specs.Words.{op_name, args_name}

abbrev pub member : List ℕ → Json → Member
member name value = roll-Member (record { name = name; value = value })

abbrev pub only : List ℕ → Json → Json
only name value = trees.Object (member name value ∷ [])

-- an operator on its arguments
abbrev pub call : List ℕ → List Json → Json
call op args = trees.Object (member op_name (trees.Text op) ∷ member args_name (trees.List args) ∷ [])

-- a geometry of a kind, by what it consists of
abbrev pub shaped : List ℕ → List ℕ → Json → Json
shaped kind name value = trees.Object (member type_name (trees.Text kind) ∷ member name value ∷ [])

-- a number by its literal
abbrev pub numeral : List ℕ → Json
numeral literal = trees.Number (record { literal = literal; dec = number_of literal })
