-- A number, a byte at a time (RFC 8259 §6).
use Rattle.std.specs.Prelude.{ℕ, List, [], ◌∷◌, Bool, true, false, ◌==◌, if◌then◌else◌, Option, Some, None, option_and_then}
pub use Rattle.sc_json.specs.Characters.{is_digit_byte}
use Rattle.sc_json.specs.declared.state.Part.{Part}
use Rattle.sc_json.specs.declared.state.Part.TheVariants.{Minus, Zero, Whole, Point, Fraction, Mark, Sign, Power}

abbrev pub mark_of : ℕ → Option Part
mark_of b = if b == 101 then Some Mark else (if b == 69 then Some Mark else None)

abbrev pub point_of : ℕ → Option Part
point_of b = if b == 46 then Some Point else mark_of b

abbrev pub power_of : ℕ → Option Part
power_of b = if is_digit_byte b then Some Power else None

abbrev pub next_part : Part → ℕ → Option Part
next_part Minus b = if b == 48 then Some Zero else (if is_digit_byte b then Some Whole else None)
next_part Zero b = point_of b
next_part Whole b = if is_digit_byte b then Some Whole else point_of b
next_part Point b = if is_digit_byte b then Some Fraction else None
next_part Fraction b = if is_digit_byte b then Some Fraction else mark_of b
next_part Mark b = if b == 43 then Some Sign else (if b == 45 then Some Sign else power_of b)
next_part Sign b = power_of b
next_part Power b = power_of b

-- the part behind more bytes of a number
abbrev pub parts_on : Part → List ℕ → Option Part
parts_on part [] = Some part
parts_on part (b ∷ bs) = option_and_then (λ next. parts_on next bs) (next_part part b)

-- how many bytes stand behind the longest whole number
abbrev pub behind_whole : Part → Option ℕ
behind_whole Minus = None
behind_whole Zero = Some 0
behind_whole Whole = Some 0
behind_whole Point = Some 1
behind_whole Fraction = Some 0
behind_whole Mark = Some 1
behind_whole Sign = Some 2
behind_whole Power = Some 0

abbrev pub is_whole : Part → Bool
is_whole Zero = true
is_whole Whole = true
is_whole Fraction = true
is_whole Power = true
is_whole _ = false
