-- How the parameters of a search are given: by the pairs of a query string, or by the members of a body (STAC API, Item
-- Search). Both say the same in two ways.
use Rattle.std.specs.Prelude.{◌≡◌, ℕ, if◌then◌else◌, List, [], ◌∷◌, nat_eq, Option, Some, None}
use Rattle.std.specs.List.{find}
use Rattle.std.specs.Option.{option_and_then}
use Rattle.std.specs.Cmp.Lexicographic.{pointwise}
use Rattle.sc_json.specs.declared.tree.Json.{Json}
use Rattle.sc_json.specs.Views.{is_null, text_of}
use Rattle.sc_json.specs.Member.{member_value}
use Rattle.sc_json.specs.Spells.{Spells}
use Rattle.sc_expr.specs.declared.select.Pair.{Pair}

-- a parameter that has a value: the text of a pair, or the value of a member
pub data Parameter : Type 0 where
  in_text : List ℕ → Parameter
  in_tree : Json → Parameter

-- the parameter of each name, where it has a value
abbrev pub Parameters : Type 0
Parameters = List ℕ → Option Parameter

-- an empty text counts as absent
abbrev pub unless_empty : List ℕ → Option Parameter
unless_empty [] = None
unless_empty (b ∷ text) = Some (in_text (b ∷ text))

-- the first pair of the name counts, also where it is empty
abbrev pub of_pairs : List Pair → Parameters
of_pairs pairs name = option_and_then (λ pair. unless_empty pair.value) (find (λ pair. pointwise nat_eq pair.name name) pairs)

-- null counts as absent
abbrev pub unless_null : Json → Option Parameter
unless_null tree = if is_null tree then None else Some (in_tree tree)

abbrev pub of_body : Json → Parameters
of_body body name = option_and_then unless_null (member_value body name)

-- the text that a parameter is; none of a member that is no text
abbrev pub text_given : Parameter → Option (List ℕ)
text_given (in_text text) = Some text
text_given (in_tree tree) = text_of tree

-- the JSON value that a parameter is: what its text spells, or the member's value
abbrev pub IsTree : Parameter → Json → Type 0
IsTree (in_text text) tree = Spells text tree
IsTree (in_tree value) tree = tree ≡ value

abbrev pub IsNoTree : Parameter → Type 0
IsNoTree given = (tree : Json) → IsTree given tree → ⊥
