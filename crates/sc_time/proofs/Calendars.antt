-- The day number is that of the date library, which counts its days from the year -10000 on.
use Rattle.std.proofs.Common.{◌≡◌, ℕ, zero, suc, ◌+◌, ◌-◌, ◌≤◌, refl, sym, ap, ◌∙◌, arith, ℤ, pos, neg_ℤ, ◌≤ℤ◌, cond, true, Some, None}
use Rattle.std.proofs.lemmas.Bool.Decides.{nat_tests}
use Rattle.jiff_core.proofs.SignedLemmas.{signed_arith}
use Rattle.jiff_core.proofs.MarchLemmas.{leap_day, days_of_years-suc, day_count-early}
use Rattle.jiff_core.proofs.CalendarLemmas.{day_count-epoch}
use Rattle.jiff_core.specs.Calendar as jiff
use Rattle.jiff_core.specs.Date.{epoch_day as jiff_day}
use Rattle.jiff_core.specs.declared.civil.date.Date.{Date}
use Rattle.std.specs.Int.{IsInRange}
use borrow.Author.Differences.{up, down}
use Rattle.sc_time.specs.declared.form.DateFields.{DateFields}
use Rattle.sc_time.specs.Instant.{IsDayNumber}
use Rattle.sc_time.specs.Reading.{is_calendar_date, day_of_fields}
use Rattle.sc_time.specs.Calendar.{is_date, IsDate, days_of_year, days_of_month, days_before_year, days_of_months, days_before_date, day_number}

pub days_of_year-leap_day : (year : ℕ) → days_of_year year ≡ 365 + leap_day (pos year)
days_of_year-leap_day year = grind arith

pub days_of_year_same : (year : ℕ) → days_of_year year ≡ jiff.days_in_year (pos year)
days_of_year_same year = refl

pub days_of_month_same : (year month : ℕ) → days_of_month year month ≡ jiff.days_in_month (pos year) month
days_of_month_same year month = refl

pub days_of_months_same : (year months : ℕ) → days_of_months year months ≡ jiff.days_of_months (pos year) months
unfolding days_of_months jiff.days_of_months
days_of_months_same year zero = refl
days_of_months_same year (suc months) = ap (λ days. days + days_of_month year (suc months)) (days_of_months_same year months)

-- the leap years come again every 10,000 years
leap_day-later : (year : ℕ) → leap_day (pos (year + 10000)) ≡ leap_day (pos year)
leap_day-later year = grind (arith, nat_tests)

days_before_year_same : (year : ℕ) → jiff.days_of_years (year + 10000) ≡ jiff.days_of_years 10000 + days_before_year year
unfolding days_before_year
days_before_year_same zero = let none : 0 + 10000 ≡ 10000 = omega arith in rw none (omega arith)
days_before_year_same (suc year) =
    let next : suc year + 10000 ≡ suc (year + 10000) = omega arith in
    rw next (omega (arith, days_before_year_same year, days_of_years-suc (year + 10000), leap_day-later year, days_of_year-leap_day year))

days_before_date_same : (year month day : ℕ) → 1 ≤ day → jiff.day_count (pos year) month day ≡ jiff.days_of_years 10000 + days_before_date year month day
unfolding jiff.day_count days_before_date
days_before_date_same year month day first =
    rw (sym (days_of_months_same year (month - 1))) (omega (arith, days_before_year_same year))

-- the day number is the library's
pub day_number-days_from_civil : (year month day : ℕ) → 1 ≤ day → day_number year month day ≡ jiff.days_from_civil (pos year) month day
unfolding day_number jiff.days_from_civil
day_number-days_from_civil year month day first =
    let here = days_before_date_same year month day first in
    let origin = days_before_date_same 1970 1 1 (omega arith) in
    rw here (rw origin (omega (arith, signed_arith)))

-- a date that the calendar has, as a test and as facts
pub is_date-true : (year month day : ℕ) → IsDate year month day → is_date year month day ≡ true
is_date-true year month day (months, days) = grind (arith, nat_tests)

pub IsDate-from_test : (year month day : ℕ) → is_date year month day ≡ true → IsDate year month day
IsDate-from_test year month day is = grind (arith, nat_tests)

-- what the library finds is the day number, and the date is in the calendar
pub found_day : (date : DateFields) (found : Date) (day : ℤ) → found.year ≡ pos date.year → found.month ≡ date.month → found.day ≡ date.day → day ≡ jiff_day found → Some day ≡ cond (is_calendar_date date) (Some (day_of_fields date)) None
found_day date found day year_is month_is day_is is =
    let months : IsInRange 1 12 date.month = rw month_is at found.month_in in
    let days : IsInRange 1 (days_of_month date.year date.month) date.day = rw (year_is, month_is, day_is) at found.day_in in
    let number : day ≡ day_number date.year date.month date.day =
    rw (year_is, month_is, day_is) at is ∙ sym (day_number-days_from_civil date.year date.month date.day days.0) in
    rw (is_date-true date.year date.month date.day (months, days)) (ap Some number)

-- 1 January 1970 is the day 719,528 of the calendar
pub days_before_epoch : days_before_date 1970 1 1 ≡ 719_528
days_before_epoch =
    let none : days_before_date 0 1 1 ≡ 0 = unfold days_before_date days_before_year days_of_months in refl in
    let first = day_count-early (pos 0) 9999 1 1 refl (omega arith) (omega arith) (omega arith) in
    omega (arith, first, day_count-epoch, days_before_date_same 0 1 1 (omega arith), days_before_date_same 1970 1 1 (omega arith))

pub day_number-parts : (year month day : ℕ) → up (day_number year month day) + 719_528 ≡ down (day_number year month day) + days_before_date year month day
unfolding day_number
day_number-parts year month day = rw days_before_epoch (omega (arith, signed_arith))

-- no day comes before 1 January of the year 0
pub day_number-first : (year month day : ℕ) → neg_ℤ (pos 719_528) ≤ℤ day_number year month day
day_number-first year month day = omega (arith, signed_arith, day_number-parts year month day)

pub found_range : (year : ℕ) (found : Date) (day : ℤ) → found.year ≡ pos year → day ≡ jiff_day found → jiff.IsEpochDay day → IsDayNumber day
found_range year found day year_is is (low, high) =
    let number : day ≡ day_number year found.month found.day =
    rw year_is at is ∙ sym (day_number-days_from_civil year found.month found.day found.day_in.0) in
    (rw number (day_number-first year found.month found.day), high)
