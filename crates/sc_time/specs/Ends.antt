-- The two ends of a range of time, in nanoseconds. They belong to the range; an end that is missing is open (RFC 3339 date-times round a `/`, with `..` or nothing for an open end).
use Rattle.std.specs.Prelude.{Bool, true, Option, Some, None, ℤ, int_le}

pub record Ends : Type 0 where
  pub from : Option ℤ
  pub to : Option ℤ

-- the first end isn't later than the second
abbrev pub are_ordered : Option ℤ → Option ℤ → Bool
are_ordered None to = true
are_ordered (Some from) None = true
are_ordered (Some from) (Some to) = int_le from to
