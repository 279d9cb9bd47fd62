-- The date and time of an instant.
use Rattle.std.proofs.Common.{◌≡◌, ℕ, ◌+◌, ◌*◌, ◌<◌, Bool, true, false, ◌&&◌, refl, sym, arith, ℤ, pos, ◌+ℤ◌, ◌≤ℤ◌, negsuc, unsigned_abs, w32, to_z}
use Rattle.std.proofs.lemmas.Bool.Decides.{nat_tests}
use Rattle.jiff_core.proofs.SignedLemmas.{signed_arith}
use Rattle.jiff_core.proofs.DateTimeLemmas.{civil_nanos-parts}
use Rattle.jiff_core.specs.Calendar.{IsBetween}
use Rattle.jiff_core.proofs.CalendarLemmas.{days_in_month_bounds}
use Rattle.std.proofs.lemmas.Int.{ints}
use Rattle.jiff_core.specs.Date.{epoch_day as jiff_day}
use Rattle.jiff_core.specs.DateTime.{civil_nanos}
use Rattle.jiff_core.specs.declared.civil.datetime.DateTime.{DateTime}
use Rattle.std.specs.Int.{IsInRange}
use Rattle.sc_time.specs.declared.form.DateTimeFields.{DateTimeFields}
use Rattle.sc_time.specs.Calendar.{IsDate, days_of_month, day_number}
use Rattle.sc_time.specs.Instant.{IsInstant, midnight, month_key, IsInYear, IsInMonth}
use Rattle.sc_time.specs.Reading.{is_calendar_date, is_clock_time, is_offset, seconds_of_clock}
use Rattle.sc_time.specs.Written.{IsFormOf}
use Rattle.sc_time.proofs.Calendars.{is_date-true, IsDate-from_test, day_number-days_from_civil}
use Rattle.sc_time.proofs.Periods.{in_year, in_month, same_year}

both : (a b : Bool) → (a && b) ≡ true → (a ≡ true) × (b ≡ true)
both true true e = (refl, refl)
both true false e = absurd cc
both false b e = absurd cc

in_day : (hour minute second : ℕ) → hour < 24 → minute < 60 → second < 60 → (is_clock_time (record { hour = hour; minute = minute; second = second }) && true) ≡ true
in_day hour minute second hours minutes seconds = grind (arith, nat_tests)

out_of_day : (hour minute second : ℕ) → is_clock_time (record { hour = hour; minute = minute; second = second }) ≡ true → (hour < 24) × (minute < 60) × (second < 60)
out_of_day hour minute second is = grind (arith, nat_tests)

-- what the library finds is the date and time of the instant
pub form_found : (at : ℤ) (found : DateTime) (year : ℕ) → IsInstant at → civil_nanos found ≡ at → found.date.year ≡ pos year → IsFormOf at (record { date = record { year = year; month = found.date.month; day = found.date.day }; clock = record { hour = found.time.hour; minute = found.time.minute; second = found.time.second }; nanosecond = found.time.subsec_nanosecond; offset = record { west = false; hour = 0; minute = 0 } })
form_found at found year (low, high) is year_is =
    let months : IsInRange 1 12 found.date.month = found.date.month_in in
    let days : IsInRange 1 (days_of_month year found.date.month) found.date.day = rw year_is at found.date.day_in in
    let number : jiff_day found.date ≡ day_number year found.date.month found.date.day =
    rw year_is (sym (day_number-days_from_civil year found.date.month found.date.day days.0)) in
    let bounds = found.date.year_in in
    record {
      utc = refl;
      in_range = rw (is_date-true year found.date.month found.date.day (months, days))
          (in_day found.time.hour found.time.minute found.time.second found.time.hour_in found.time.minute_in found.time.second_in);
      year = omega (arith, signed_arith);
      fraction = found.time.subsec_in;
      instant = omega (arith, signed_arith, number, is, civil_nanos-parts found);
    }

-- the date, and the time of day in nanoseconds
record IsDayAndTime (at : ℤ) (form : DateTimeFields) : Type 0 where
  date : IsDate form.date.year form.date.month form.date.day
  within : seconds_of_clock form.clock * 1_000_000_000 + form.nanosecond < 86_400_000_000_000
  parts : at ≡ midnight (day_number form.date.year form.date.month form.date.day) +ℤ pos (seconds_of_clock form.clock * 1_000_000_000 + form.nanosecond)

day_and_time : (at : ℤ) (form : DateTimeFields) → IsFormOf at form → IsDayAndTime at form
day_and_time at form is =
    let tests = both (is_calendar_date form.date) (is_clock_time form.clock && is_offset form.offset) is.in_range in
    let clock = (both (is_clock_time form.clock) (is_offset form.offset) tests.1).0 in
    let time = out_of_day form.clock.hour form.clock.minute form.clock.second clock in
    let fraction = is.fraction in
    let instant = rw is.utc at is.instant in
    record {
      date = IsDate-from_test form.date.year form.date.month form.date.day tests.0;
      within = omega arith;
      parts = omega (arith, signed_arith, instant);
    }

pub form_in_year : (at : ℤ) (form : DateTimeFields) → IsFormOf at form → IsInYear form.date.year at
form_in_year at form is =
    let found = day_and_time at form is in
    in_year form.date.year form.date.month form.date.day _ at found.date found.within found.parts

pub form_in_month : (at : ℤ) (form : DateTimeFields) (year : ℕ) → IsFormOf at form → IsInYear year at → IsInMonth (month_key year form.date.month) at
form_in_month at form year is here =
    let found = day_and_time at form is in
    rw (same_year year form.date.year at here (form_in_year at form is))
    (in_month form.date.year form.date.month form.date.day _ at found.date found.within found.parts)

pub form_month : (at : ℤ) (form : DateTimeFields) → IsFormOf at form → IsInRange 1 12 form.date.month
form_month at form is = (day_and_time at form is).date.0

pub month_cast : (month : ℕ) → IsInRange 1 12 month → IsBetween (pos 1) (pos 12) (to_z w32 month)
month_cast month (first, last) = (omega (arith, ints), omega (arith, ints))

pub nonnegative : (z : ℤ) → pos 0 ≤ℤ z → z ≡ pos (unsigned_abs z)
nonnegative (pos n) low = refl
nonnegative (negsuc n) low = absurd (omega (arith, signed_arith))

-- the numbers have the digits that they are written with
pub record FitText (form : DateTimeFields) : Type 0 where
  pub month : form.date.month < 100
  pub day : form.date.day < 100
  pub hour : form.clock.hour < 100
  pub minute : form.clock.minute < 100
  pub second : form.clock.second < 100

pub fits_of : (at : ℤ) (form : DateTimeFields) → IsFormOf at form → FitText form
fits_of at form is =
    let tests = both (is_calendar_date form.date) (is_clock_time form.clock && is_offset form.offset) is.in_range in
    let clock = out_of_day form.clock.hour form.clock.minute form.clock.second (both (is_clock_time form.clock) (is_offset form.offset) tests.1).0 in
    let date = IsDate-from_test form.date.year form.date.month form.date.day tests.0 in
    let days = (days_in_month_bounds (pos form.date.year) form.date.month).0 in
    let last = date.1.1 in
    record { month = omega arith; day = omega arith; hour = omega arith; minute = omega arith; second = omega arith }
