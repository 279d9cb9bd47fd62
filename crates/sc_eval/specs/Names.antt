-- Names in a table beside the list that it was made from.
use Rattle.std.specs.Prelude.{◌≡◌, ℕ, List, Option, Some, None}
use Rattle.sc_eval.specs.Selection.{is_one_of}

-- the same names are among them
abbrev pub AreSameNames : List (List ℕ) → List (List ℕ) → Type 0
AreSameNames names others = (name : List ℕ) → is_one_of names name ≡ is_one_of others name

-- a table exactly where there is a list, of the same names
abbrev pub AreNamesOf : Option (List (List ℕ)) → Option (List (List ℕ)) → Type 0
AreNamesOf None None = Unit {0}
AreNamesOf None (Some names) = ⊥
AreNamesOf (Some table) None = ⊥
AreNamesOf (Some table) (Some names) = AreSameNames table names
