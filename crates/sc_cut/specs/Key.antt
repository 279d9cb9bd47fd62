-- The keys of the parts into which a collection is cut by the instants at which its items start.
use Rattle.std.specs.Prelude.{◌≡◌, ◌+◌, Bool, ◌&&◌, ℤ, pos, ◌≤ℤ◌, int_le, int_lt, unsigned_abs}
use Rattle.jiff_core.specs.Calendar.{IsBetween}
use Rattle.sc_time.specs.Instant.{IsInYear, IsInMonth, year_start, month_start}
use Rattle.sc_cut.specs.declared.cut.Cut.{Cut}
use Rattle.sc_cut.specs.declared.cut.Cut.TheVariants.{Whole, Year, Month}

-- the instant has this key: 0 where nothing is cut, else the number of its year in UTC, or of its month, where months are numbered through and January of the year 0 is 0
abbrev pub HasKey : Cut → ℤ → ℤ → Type 0
HasKey Whole key at = key ≡ pos 0
HasKey Year key at = (pos 0 ≤ℤ key) × IsInYear (unsigned_abs key) at
HasKey Month key at = (pos 0 ≤ℤ key) × IsInMonth (unsigned_abs key) at

-- the keys of instants in the years 0000 to 9999
abbrev pub IsKey : Cut → ℤ → Type 0
IsKey Whole key = key ≡ pos 0
IsKey Year key = IsBetween (pos 0) (pos 9_999) key
IsKey Month key = IsBetween (pos 0) (pos 119_999) key

-- the first nanosecond with a key
abbrev pub first_with : Cut → ℤ → ℤ
first_with Whole key = year_start 0
first_with Year key = year_start (unsigned_abs key)
first_with Month key = month_start (unsigned_abs key)

-- the first nanosecond behind those with a key
abbrev pub end_of : Cut → ℤ → ℤ
end_of Whole key = year_start 10000
end_of Year key = year_start (unsigned_abs key + 1)
end_of Month key = month_start (unsigned_abs key + 1)

-- whether an instant has a key, as a test
abbrev pub has_key : Cut → ℤ → ℤ → Bool
has_key cut key at = int_le (first_with cut key) at && int_lt at (end_of cut key)
