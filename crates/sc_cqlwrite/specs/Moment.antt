-- The text of a moment (RFC 3339 §5.6) by its nanoseconds: the date and the time of day in UTC that they lie in.
use Rattle.std.specs.Prelude.{ℕ, zero, suc, ◌+◌, ◌-◌, ◌/◌, ◌%◌, nat_le, if◌then◌else◌, false, List, ℤ, pos, ◌+ℤ◌, unsigned_abs}
use Rattle.sc_time.specs.declared.form.DateFields.{DateFields}
use Rattle.sc_time.specs.declared.form.ClockFields.{ClockFields}
use Rattle.sc_time.specs.declared.form.DateTimeFields.{DateTimeFields}
use Rattle.sc_time.specs.Calendar.{days_before_year, days_of_months}
use Rattle.sc_time.specs.Written.{utc_text}

-- the last of the numbers up to a bound that a rising count reaches with so many
unfoldable pub last_reached : (ℕ → ℕ) → ℕ → ℕ → ℕ
last_reached count many zero = zero
last_reached count many (suc n) = if nat_le (count (suc n)) many then suc n else last_reached count many n

-- the date so many days behind 1 January of the year 0
abbrev pub year_of_day : ℕ → ℕ
year_of_day days = last_reached days_before_year days 9999

abbrev pub day_in_year : ℕ → ℕ
day_in_year days = days - days_before_year (year_of_day days)

abbrev pub whole_months : ℕ → ℕ
whole_months days = last_reached (days_of_months (year_of_day days)) (day_in_year days) 11

unfoldable pub date_of : ℕ → DateFields
date_of days = record {
  year = year_of_day days;
  month = whole_months days + 1;
  day = day_in_year days - days_of_months (year_of_day days) (whole_months days) + 1;
}

-- the time of day so many seconds behind midnight
unfoldable pub clock_of : ℕ → ClockFields
clock_of seconds = record { hour = seconds / 3600; minute = seconds / 60 % 60; second = seconds % 60 }

-- the nanoseconds from the beginning of the year 0
abbrev pub nanoseconds_since : ℤ → ℕ
nanoseconds_since at = unsigned_abs (at +ℤ pos 62_167_219_200_000_000_000)

unfoldable pub fields_of : ℤ → DateTimeFields
fields_of at =
    let since = nanoseconds_since at in
    record {
      date = date_of (since / 86_400_000_000_000);
      clock = clock_of (since / 1_000_000_000 % 86_400);
      nanosecond = since % 1_000_000_000;
      offset = record { west = false; hour = 0; minute = 0 };
    }

unfoldable pub moment_text : ℤ → List ℕ
moment_text at = utc_text (fields_of at)
