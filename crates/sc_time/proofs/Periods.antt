-- Which year and month an instant lies in.
use Rattle.std.proofs.Common.{◌≡◌, ℕ, zero, suc, ◌+◌, ◌-◌, ◌/◌, ◌%◌, ◌<◌, ◌≤◌, inl, inr, refl, sym, ◌∙◌, arith, ℤ, pos, neg_ℤ, ◌+ℤ◌, ◌-ℤ◌, ◌*ℤ◌, ◌≤ℤ◌}
use Rattle.std.proofs.lemmas.Int.{by_lt_z}
use Rattle.std.proofs.lemmas.Bool.{cases_lt}
use Rattle.jiff_core.proofs.SignedLemmas.{signed_arith}
use Rattle.jiff_core.proofs.CalendarLemmas.{day_count-end, days_in_month_bounds, day_count-lt_year, days_from_civil-day_count, day_of_year_before, days_of_months_all, days_of_months_more}
use Rattle.jiff_core.proofs.MarchLemmas.{day_count-early}
use Rattle.jiff_core.proofs.DateLemmas.{civil}
use Rattle.jiff_core.specs.Date.{epoch_day as jiff_day}
use Rattle.jiff_core.specs.declared.civil.date.Date.{Date}
use Rattle.std.specs.Int.{IsInRange}
use Rattle.sc_time.specs.Calendar.{IsDate, days_of_year, days_of_month, days_before_year, days_of_months, days_before_date, day_number}
use Rattle.sc_time.specs.Instant.{midnight, year_start, month_start, month_key, IsInYear, IsInMonth}
use Rattle.sc_time.proofs.Calendars.{days_of_months_same, days_of_year_same, day_number-parts, days_before_epoch, day_number-days_from_civil}

-- the library's year of a day from 1 January of the year 0 on
pub year_not_negative : (date : Date) → neg_ℤ (pos 719_528) ≤ℤ jiff_day date → pos 0 ≤ℤ date.year
year_not_negative date low =
    by_lt_z date.year (pos 0)
    (λ lt. absurd (omega (arith, signed_arith, day_count-lt_year date.year date.month date.day (pos 0) 1 1 (civil date) (omega arith) lt, days_from_civil-day_count date.year date.month date.day, day_count-early (pos 0) 9999 1 1 refl (omega arith) (omega arith) (omega arith))))
    (λ le. le)

first_of_year : (year : ℕ) → days_before_date year 1 1 ≡ days_before_year year
unfolding days_before_date days_of_months
first_of_year year = omega arith

year_after : (year : ℕ) → days_before_year (year + 1) ≡ days_before_year year + days_of_year year
unfolding days_before_year
year_after year = let next : year + 1 ≡ suc year = omega arith in rw next refl

date_parts : (year month day : ℕ) → days_before_date year month day ≡ days_before_year year + days_of_months year (month - 1) + (day - 1)
unfolding days_before_date
date_parts year month day = refl

-- a month ends within its year, and the last with it
month_within : (year month day : ℕ) → IsDate year month day → days_of_months year (month - 1) + day ≤ days_of_year year
month_within year month day (months, days) =
    rw (days_of_months_same year (month - 1), days_of_year_same year)
    (omega (arith, day_of_year_before (pos year) month day 12 months.0 days.1 months.1, days_of_months_all (pos year)))

month_after : (year month : ℕ) → 1 ≤ month → days_of_months year month ≡ days_of_months year (month - 1) + days_of_month year month
month_after year month first =
    rw (days_of_months_same year month, days_of_months_same year (month - 1)) (days_of_months_more (pos year) month first)

year_ends : (year : ℕ) → days_of_months year 12 ≡ days_of_year year
year_ends year = rw (days_of_months_same year 12, days_of_year_same year) (days_of_months_all (pos year))

-- the date of an instant lies in its year
pub in_year : (year month day nanoseconds : ℕ) (at : ℤ) → IsDate year month day → nanoseconds < 86_400_000_000_000 → at ≡ midnight (day_number year month day) +ℤ pos nanoseconds → IsInYear year at
unfolding year_start
in_year year month day nanoseconds at date within is =
    let here = day_number-parts year month day in
    let first = day_number-parts year 1 1 in
    let next = day_number-parts (year + 1) 1 1 in
    let inside = month_within year month day date in
    record {
      begun = omega (arith, signed_arith, date_parts year month day, first_of_year year);
      not_over = omega (arith, signed_arith, date_parts year month day, first_of_year (year + 1), year_after year);
    }

-- the number of a month gives its year and its place in it
pub key_year : (year month : ℕ) → 1 ≤ month → month ≤ 12 → month_key year month / 12 ≡ year
key_year year month first last = omega arith

pub key_month : (year month : ℕ) → 1 ≤ month → month ≤ 12 → month_key year month % 12 + 1 ≡ month
key_month year month first last = omega arith

pub month_start-key : (year month : ℕ) → 1 ≤ month → month ≤ 12 → month_start (month_key year month) ≡ midnight (day_number year month 1)
unfolding month_start
month_start-key year month first last = rw (key_year year month first last, key_month year month first last) refl

-- later years begin later
year_before : (year more : ℕ) → days_before_year year ≤ days_before_year (more + year)
year_before year zero = let none : 0 + year ≡ year = omega arith in rw none (omega arith)
year_before year (suc more) =
    let next : suc more + year ≡ more + year + 1 = omega arith in
    rw next (omega (arith, year_before year more, year_after (more + year)))

year_start-parts : (year : ℕ) → year_start year ≡ (pos (days_before_year year) -ℤ pos 719_528) *ℤ pos 86_400_000_000_000
unfolding year_start
year_start-parts year = omega (arith, signed_arith, day_number-parts year 1 1, first_of_year year)

year_not_later : (year other : ℕ) (at : ℤ) → IsInYear year at → IsInYear other at → year ≤ other
year_not_later year other at here there =
    elim (cases_lt year (other + 1)) [
      | inl early ↦ omega arith
      | inr late ↦
          let same : year - (other + 1) + (other + 1) ≡ year = omega arith in
          let order = rw same at (year_before (other + 1) (year - (other + 1))) in
          let begun = here.begun in
          let over = there.not_over in
          absurd (omega (arith, signed_arith, year_start-parts year, year_start-parts (other + 1)))
    ]

-- an instant lies in one year
pub same_year : (year other : ℕ) (at : ℤ) → IsInYear year at → IsInYear other at → year ≡ other
same_year year other at here there =
    omega (arith, year_not_later year other at here there, year_not_later other year at there here)

-- the first day of the month after this one
month_key-next : (year month : ℕ) → 1 ≤ month → month < 12 → month_key year month + 1 ≡ month_key year (month + 1)
month_key-next year month first last = omega arith

month_key-december : (year : ℕ) → month_key year 12 + 1 ≡ month_key (year + 1) 1
month_key-december year = omega arith

next_month : (year month : ℕ) → 1 ≤ month → month ≤ 12 → month_start (month_key year month + 1) ≡ midnight (day_number year month 1 +ℤ pos (days_of_month year month))
next_month year month first last =
    elim (cases_lt month 12) [
      | inl early ↦
          let back : month + 1 - 1 ≡ month = omega arith in
          let next = rw back at (date_parts year (month + 1) 1) in
          rw (month_key-next year month first early, month_start-key year (month + 1) (omega arith) (omega arith))
          (omega (arith, signed_arith, day_number-parts year month 1, day_number-parts year (month + 1) 1, date_parts year month 1, next, month_after year month first))
      | inr late ↦
          let december : month ≡ 12 = omega arith in
          rw december
          (rw (month_key-december year, month_start-key (year + 1) 1 (omega arith) (omega arith))
          (omega (arith, signed_arith, day_number-parts year 12 1, day_number-parts (year + 1) 1 1, date_parts year 12 1, first_of_year (year + 1), year_after year, month_after year 12 (omega arith), year_ends year)))
    ]

-- the date of an instant lies in its month
pub in_month : (year month day nanoseconds : ℕ) (at : ℤ) → IsDate year month day → nanoseconds < 86_400_000_000_000 → at ≡ midnight (day_number year month day) +ℤ pos nanoseconds → IsInMonth (month_key year month) at
in_month year month day nanoseconds at (months, days) within is =
    let here = day_number-parts year month day in
    let first = day_number-parts year month 1 in
    record {
      begun = rw (month_start-key year month months.0 months.1) (omega (arith, signed_arith, date_parts year month day, date_parts year month 1));
      not_over = rw (next_month year month months.0 months.1) (omega (arith, signed_arith, date_parts year month day, date_parts year month 1));
    }

-- months follow one another
month_start-suc : (key : ℕ) → month_start key ≤ℤ month_start (key + 1)
month_start-suc key =
    let first : 1 ≤ key % 12 + 1 = omega arith in
    let last : key % 12 + 1 ≤ 12 = omega arith in
    let here : month_key (key / 12) (key % 12 + 1) ≡ key = omega arith in
    let next = rw here at (next_month (key / 12) (key % 12 + 1) first last) in
    let start = rw here at (month_start-key (key / 12) (key % 12 + 1) first last) in
    rw (next, start) (omega (arith, signed_arith))

month_before : (key more : ℕ) → month_start key ≤ℤ month_start (more + key)
month_before key zero = let none : 0 + key ≡ key = omega arith in rw none (omega (arith, signed_arith))
month_before key (suc more) =
    let next : suc more + key ≡ more + key + 1 = omega arith in
    let before = month_before key more in
    let step = month_start-suc (more + key) in
    rw next (omega (arith, signed_arith))

month_not_later : (key other : ℕ) (at : ℤ) → IsInMonth key at → IsInMonth other at → key ≤ other
month_not_later key other at here there =
    elim (cases_lt key (other + 1)) [
      | inl early ↦ omega arith
      | inr late ↦
          let same : key - (other + 1) + (other + 1) ≡ key = omega arith in
          let order = rw same at (month_before (other + 1) (key - (other + 1))) in
          let begun = here.begun in
          let over = there.not_over in
          absurd (omega (arith, signed_arith))
    ]

-- an instant lies in one month
pub same_month : (key other : ℕ) (at : ℤ) → IsInMonth key at → IsInMonth other at → key ≡ other
same_month key other at here there =
    omega (arith, month_not_later key other at here there, month_not_later other key at there here)

-- the bounds of all years
pub first_year : year_start 0 ≡ neg_ℤ (pos 62_167_219_200_000_000_000)
first_year = let none : days_before_year 0 ≡ 0 = unfold days_before_year in refl in omega (arith, signed_arith, year_start-parts 0)

year_start_is : (year : ℕ) → year_start year ≡ midnight (day_number year 1 1)
unfolding year_start
year_start_is year = refl

pub end_of_years : year_start 10000 ≡ pos 253_402_300_800_000_000_000
end_of_years =
    let here = day_number-days_from_civil 10000 1 1 (omega arith) in
    let count = days_from_civil-day_count (pos 10000) 1 1 in
    let start = year_start_is 10000 in
    omega (arith, signed_arith, day_count-end)

-- the days follow one another
pub epoch_day_zero : day_number 1970 1 1 ≡ pos 0
epoch_day_zero = omega (arith, signed_arith, day_number-parts 1970 1 1, days_before_epoch)

pub next_day : (year month day : ℕ) → 1 ≤ day → day_number year month (day + 1) ≡ day_number year month day +ℤ pos 1
next_day year month day first =
    omega (arith, signed_arith, day_number-parts year month day, day_number-parts year month (day + 1), date_parts year month day, date_parts year month (day + 1))

pub first_of_next_month : (year month : ℕ) → IsInRange 1 11 month → day_number year (month + 1) 1 ≡ day_number year month (days_of_month year month) +ℤ pos 1
first_of_next_month year month (first, last) =
    let back : month + 1 - 1 ≡ month = omega arith in
    let next = rw back at (date_parts year (month + 1) 1) in
    let some = (days_in_month_bounds (pos year) month).1 in
    omega (arith, signed_arith, day_number-parts year month (days_of_month year month), day_number-parts year (month + 1) 1, date_parts year month (days_of_month year month), next, month_after year month first)

pub first_of_next_year : (year : ℕ) → day_number (year + 1) 1 1 ≡ day_number year 12 31 +ℤ pos 1
first_of_next_year year =
    omega (arith, signed_arith, day_number-parts year 12 31, day_number-parts (year + 1) 1 1, date_parts year 12 31, first_of_year (year + 1), year_after year, month_after year 12 (omega arith), year_ends year)

pub january_start : (year : ℕ) → month_start (month_key year 1) ≡ year_start year
january_start year = month_start-key year 1 (omega arith) (omega arith) ∙ sym (year_start_is year)
