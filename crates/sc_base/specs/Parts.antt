-- The parts of bytes between the places where one byte stands, as the names between the commas of a list.
use Rattle.std.specs.Prelude.{ℕ, ◌==◌, List, [], ◌∷◌, if◌then◌else◌}

-- the byte goes to the front of the first part
abbrev pub onto_first : ℕ → List (List ℕ) → List (List ℕ)
onto_first b [] = (b ∷ []) ∷ []
onto_first b (part ∷ parts) = (b ∷ part) ∷ parts

-- one part more than there are such bytes; each may be empty
abbrev pub parts_between : ℕ → List ℕ → List (List ℕ)
parts_between mark [] = [] ∷ []
parts_between mark (b ∷ bytes) = if b == mark then [] ∷ parts_between mark bytes else onto_first b (parts_between mark bytes)
