-- A coordinate as a decimal text of degrees: its sign where it is negative, the whole degrees, and, where the rest isn't 0, a point
-- and the digits of the rest without the zeros at their end. The grid has 10 ^ 7 steps a degree.
use Rattle.std.specs.Prelude.{ℕ, zero, suc, ◌+◌, ◌/◌, ◌%◌, ◌^◌, ◌==◌, if◌then◌else◌, List, [], ◌∷◌, ◌++◌, ℤ, pos, int_lt, unsigned_abs}
use Rattle.std.specs.Fmt.{decimal, sign_text}

-- so many places behind the point: the digits in turn, until nothing is left
unfoldable pub places : ℕ → ℕ → List ℕ
places zero rest = []
places (suc count) rest = if rest == 0 then [] else (48 + rest / 10 ^ count) ∷ places count (rest % 10 ^ count)

abbrev pub fraction_text : ℕ → List ℕ
fraction_text rest = if rest == 0 then [] else 46 ∷ places 7 rest

-- a size in steps
abbrev pub size_text : ℕ → List ℕ
size_text steps = decimal (steps / 10_000_000) ++ fraction_text (steps % 10_000_000)

unfoldable pub degrees_text : ℤ → List ℕ
degrees_text steps = sign_text (int_lt steps (pos 0)) ++ size_text (unsigned_abs steps)
