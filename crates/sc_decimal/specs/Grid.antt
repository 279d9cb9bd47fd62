-- The grid, whose steps are 10 ^ -7, and the step nearest to a number.
use Rattle.std.specs.Prelude.{◌≡◌, ℕ, ◌+◌, ◌-◌, ◌*◌, ◌/◌, ◌^◌, ◌<◌, ◌≤◌, ℤ, negsuc, nat_le, if◌then◌else◌, Option, Some, None}
use Rattle.std.specs.Option.{option_map}
use Rattle.std.specs.Int.{int_min}
use Rattle.sc_decimal.specs.Number.{Number, signed, above, counted_in}

abbrev pub grid_exponent : ℤ
grid_exponent = negsuc 6

-- the most steps that are on the grid
abbrev pub most_steps : ℕ
most_steps = 3600000000

-- the exponent in whose power of ten both the number and a step are whole: the lesser of theirs
abbrev pub unit_of : Number → ℤ
unit_of n = int_min n.e grid_exponent

-- the number's magnitude, and a step, in that unit
abbrev pub value_in : Number → ℕ
value_in n = counted_in (unit_of n) n

abbrev pub step_in : Number → ℕ
step_in n = 10 ^ above grid_exponent (unit_of n)

abbrev pub distance : ℕ → ℕ → ℕ
distance a b = (a - b) + (b - a)

-- the number of steps that is nearest to the number's magnitude: at most half a step away,
-- and where two are, the one farther from zero
pub record IsNearest (n : Number) (steps : ℕ) : Type 0 where
  pub near : 2 * distance (steps * step_in n) (value_in n) ≤ step_in n
  pub away : 2 * distance (steps * step_in n) (value_in n) ≡ step_in n → value_in n ≤ steps * step_in n

-- the nearest step with the number's sign; none exactly where it is off the grid
abbrev pub IsOnGrid : Number → Option ℤ → Type 0
IsOnGrid n (Some z) = (steps : ℕ) × IsNearest n steps × (z ≡ signed n.neg steps) × (steps ≤ most_steps)
IsOnGrid n None = (steps : ℕ) × IsNearest n steps × (most_steps < steps)

-- the same by a formula: half a step more, in whole steps
abbrev pub nearest : Number → ℕ
nearest n = (2 * value_in n + step_in n) / (2 * step_in n)

abbrev pub kept_on_grid : ℕ → Option ℕ
kept_on_grid steps = if nat_le steps most_steps then Some steps else None

unfoldable pub grid_of : Number → Option ℤ
grid_of n = option_map (signed n.neg) (kept_on_grid (nearest n))
