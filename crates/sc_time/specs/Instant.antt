-- Instants in nanoseconds from 1970-01-01T00:00:00Z, days having 86,400 seconds (RFC 3339 §1, §4.1), and the years and months of UTC that they lie in.
use Rattle.std.specs.Prelude.{ℕ, ◌+◌, ◌-◌, ◌*◌, ◌/◌, ◌%◌, Bool, ◌&&◌, ℤ, pos, neg_ℤ, ◌*ℤ◌, ◌≤ℤ◌, ◌<ℤ◌, int_le, int_lt}
use Rattle.sc_time.specs.Calendar.{day_number}

-- the nanoseconds of an instant in the years 0000 to 9999 of UTC
abbrev pub IsInstant : ℤ → Type 0
IsInstant at = (neg_ℤ (pos 62_167_219_200_000_000_000) ≤ℤ at) × (at <ℤ pos 253_402_300_800_000_000_000)

-- the same as a test
abbrev pub is_instant : ℤ → Bool
is_instant at = int_le (neg_ℤ (pos 62_167_219_200_000_000_000)) at && int_lt at (pos 253_402_300_800_000_000_000)

-- the number of a day in the years 0000 to 9999
abbrev pub IsDayNumber : ℤ → Type 0
IsDayNumber day = (neg_ℤ (pos 719_528) ≤ℤ day) × (day ≤ℤ pos 2_932_896)

-- midnight at the beginning of a day, which is given by its number
abbrev pub midnight : ℤ → ℤ
midnight day = day *ℤ pos 86_400_000_000_000

-- the first nanosecond of a year
unfoldable pub year_start : ℕ → ℤ
year_start year = midnight (day_number year 1 1)

-- the first nanosecond of a month; months are numbered through, January of the year 0 being 0: 12 * year + month - 1
unfoldable pub month_start : ℕ → ℤ
month_start key = midnight (day_number (key / 12) (key % 12 + 1) 1)

-- the number of a month that is counted from 1 in its year
abbrev pub month_key : ℕ → ℕ → ℕ
month_key year month = 12 * year + (month - 1)

-- the instant lies in this year
pub record IsInYear (year : ℕ) (at : ℤ) : Type 0 where
  pub begun : year_start year ≤ℤ at
  pub not_over : at <ℤ year_start (year + 1)

-- the instant lies in the month of this number
pub record IsInMonth (key : ℕ) (at : ℤ) : Type 0 where
  pub begun : month_start key ≤ℤ at
  pub not_over : at <ℤ month_start (key + 1)
