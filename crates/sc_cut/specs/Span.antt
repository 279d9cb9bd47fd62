-- Ranges of time with a key, in nanoseconds; both ends belong to them.
use Rattle.std.specs.Prelude.{ℤ, pos, ◌-ℤ◌, ◌≤ℤ◌, Option, Some, None}
use Rattle.sc_time.specs.Ends.{Ends}
use Rattle.sc_cut.specs.declared.cut.Cut.{Cut}
use Rattle.sc_cut.specs.Key.{first_with, end_of}

-- from the first nanosecond with a key to the last
abbrev pub span : Cut → ℤ → Ends
span cut key = record { from = Some (first_with cut key); to = Some (end_of cut key -ℤ pos 1) }

-- the instant isn't before the first end, where there is one
abbrev pub IsFrom : Option ℤ → ℤ → Type 0
IsFrom None at = Unit {0}
IsFrom (Some first) at = first ≤ℤ at

-- the instant isn't after the second end, where there is one
abbrev pub IsTo : Option ℤ → ℤ → Type 0
IsTo None at = Unit {0}
IsTo (Some last) at = at ≤ℤ last

-- the instant lies in the range
pub record LiesIn (range : Ends) (at : ℤ) : Type 0 where
  pub begun : IsFrom range.from at
  pub not_over : IsTo range.to at
