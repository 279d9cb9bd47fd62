-- The lines of bytes. A line ends with its line feed, which the last may lack.
use Rattle.std.specs.Prelude.{ℕ, ◌==◌, Bool, false, if◌then◌else◌, List, [], ◌∷◌, filter}

-- the byte goes to the front of the first line
abbrev pub onto_first : ℕ → List (List ℕ) → List (List ℕ)
onto_first b [] = (b ∷ []) ∷ []
onto_first b (line ∷ lines) = (b ∷ line) ∷ lines

-- the lines of the bytes, each with the line feed that ends it, which the last may lack
abbrev pub lines_of : List ℕ → List (List ℕ)
lines_of [] = []
lines_of (b ∷ bytes) = if b == 10 then (10 ∷ []) ∷ lines_of bytes else onto_first b (lines_of bytes)

-- the line ends in a line feed
abbrev pub is_whole : List ℕ → Bool
is_whole [] = false
is_whole (b ∷ []) = b == 10
is_whole (b ∷ c ∷ bytes) = is_whole (c ∷ bytes)

-- the line without the line feed that ends it
abbrev pub without_feed : List ℕ → List ℕ
without_feed [] = []
without_feed (b ∷ []) = if b == 10 then [] else b ∷ []
without_feed (b ∷ c ∷ bytes) = b ∷ without_feed (c ∷ bytes)

-- all the lines, or those that are whole
abbrev pub lines_to_read : Bool → List ℕ → List (List ℕ)
lines_to_read all bytes = if all then lines_of bytes else filter is_whole (lines_of bytes)
