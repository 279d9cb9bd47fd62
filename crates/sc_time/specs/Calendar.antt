-- The proleptic Gregorian calendar from the year 0000 on (RFC 3339 §5.7 and appendix C): leap years, the days of months and years, day numbers.
use Rattle.std.specs.Prelude.{ℕ, zero, suc, ◌+◌, ◌-◌, ◌%◌, Bool, not, ◌&&◌, ◌||◌, ◌==◌, nat_le, if◌then◌else◌, ℤ, pos, ◌-ℤ◌}
use Rattle.std.specs.Int.{IsInRange}

-- every fourth year is a leap year, but of the years that end a century only every fourth
abbrev pub is_leap_year : ℕ → Bool
is_leap_year year = (year % 4 == 0) && (not (year % 100 == 0) || (year % 400 == 0))

-- the days of a year
abbrev pub days_of_year : ℕ → ℕ
days_of_year year = if is_leap_year year then 366 else 365

-- the days of a month, which is counted from 1: February has 28 or in a leap year 29, April, June, September and November have 30
abbrev pub days_of_month : ℕ → ℕ → ℕ
days_of_month year month =
    if month == 2 then (if is_leap_year year then 29 else 28)
    else (if (month == 4) || (month == 6) || (month == 9) || (month == 11) then 30 else 31)

-- the calendar has this date
abbrev pub IsDate : ℕ → ℕ → ℕ → Type 0
IsDate year month day = IsInRange 1 12 month × IsInRange 1 (days_of_month year month) day

-- the same as a test
abbrev pub is_date : ℕ → ℕ → ℕ → Bool
is_date year month day =
    (nat_le 1 month && nat_le month 12) && (nat_le 1 day && nat_le day (days_of_month year month))

-- the days of the years before this one, from the year 0 on
unfoldable pub days_before_year : ℕ → ℕ
days_before_year zero = 0
days_before_year (suc year) = days_before_year year + days_of_year year

-- the days of the first so many months of a year
unfoldable pub days_of_months : ℕ → ℕ → ℕ
days_of_months year zero = 0
days_of_months year (suc months) = days_of_months year months + days_of_month year (suc months)

-- the days from 1 January of the year 0 to a date
unfoldable pub days_before_date : ℕ → ℕ → ℕ → ℕ
days_before_date year month day = days_before_year year + days_of_months year (month - 1) + (day - 1)

-- the day number of a date: 0 for 1 January 1970, and negative before it
unfoldable pub day_number : ℕ → ℕ → ℕ → ℤ
day_number year month day = pos (days_before_date year month day) -ℤ pos (days_before_date 1970 1 1)
