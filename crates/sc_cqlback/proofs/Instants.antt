-- The text of a moment is read as the moment.
use Rattle.std.proofs.Common.{◌≡◌, ℕ, zero, suc, ◌+◌, ◌-◌, ◌*◌, ◌/◌, ◌%◌, ◌<◌, ◌≤◌, true, ◌&&◌, inl, inr, refl, sym, subst, arith, Ok, ℤ, pos, negsuc, ◌+ℤ◌, ◌≤ℤ◌, unsigned_abs}
use Rattle.std.proofs.lemmas.Bool.{cases_lt, lt-leb, le-leb}
use Rattle.std.proofs.lemmas.Bool.Decides.{nat_tests}
use Rattle.jiff_core.proofs.SignedLemmas.{signed_arith}
use Rattle.jiff_core.proofs.CalendarLemmas.{days_of_months_all}
use Rattle.sc_time.specs.Calendar.{IsDate, days_of_year, days_of_month, days_before_year, days_of_months, days_before_date, day_number}
use Rattle.sc_time.specs.Instant.{IsInstant, midnight, year_start}
use Rattle.sc_time.specs.Reading.{is_clock_time, instant_reading}
use Rattle.sc_time.specs.Written.{IsFormOf}
use Rattle.sc_time.proofs.Back.{read_back}
use Rattle.sc_time.proofs.Calendars.{is_date-true, days_of_months_same, days_of_year_same, day_number-parts}
use Rattle.sc_time.proofs.Periods.{end_of_years}
use Rattle.sc_cqlwrite.specs.Moment.{last_reached, year_of_day, day_in_year, whole_months, date_of, clock_of, nanoseconds_since, fields_of, moment_text}

-- ---- the last number that a count reaches

record IsLast (count : ℕ → ℕ) (many most n : ℕ) : Type 0 where
  low : count n ≤ many
  within : n ≤ most
  high : n < most → many < count (suc n)

last_is : (count : ℕ → ℕ) (many most : ℕ) → count 0 ≤ many → IsLast count many most (last_reached count many most)
unfolding last_reached
last_is count many zero first = record { low = first; within = omega arith; high = λ lt. absurd (omega arith) }
last_is count many (suc most) first =
    elim (cases_lt many (count (suc most))) [
      | inl lt ↦
          let below = last_is count many most first in
          rw (lt-leb (count (suc most)) many lt)
          (record {
            low = below.low;
            within = (let w = below.within in omega arith);
            high = λ _. next_high count many most (last_reached count many most) below lt;
          })
      | inr le ↦ rw (le-leb (count (suc most)) many le) (record { low = le; within = omega arith; high = λ l. absurd (omega arith) })
    ]
  where
    next_high : (count : ℕ → ℕ) (many most n : ℕ) → IsLast count many most n → many < count (suc most) → many < count (suc n)
    next_high count many most n below lt =
        elim (cases_lt n most) [
          | inl less ↦ below.high less
          | inr more ↦ let w = below.within in let same : most ≡ n = omega arith in subst (λ (m : ℕ). many < count (suc m)) same lt
        ]

-- ---- years and months

year_after : (year : ℕ) → days_before_year (suc year) ≡ days_before_year year + days_of_year year
unfolding days_before_year
year_after year = refl

no_years : days_before_year 0 ≡ 0
unfolding days_before_year
no_years = refl

month_after : (year month : ℕ) → days_of_months year (suc month) ≡ days_of_months year month + days_of_month year (suc month)
unfolding days_of_months
month_after year month = refl

no_months : (year : ℕ) → days_of_months year 0 ≡ 0
unfolding days_of_months
no_months year = refl

year_ends : (year : ℕ) → days_of_months year 12 ≡ days_of_year year
year_ends year = rw (days_of_months_same year 12, days_of_year_same year) (days_of_months_all (pos year))

date_parts : (year month day : ℕ) → days_before_date year month day ≡ days_before_year year + days_of_months year (month - 1) + (day - 1)
unfolding days_before_date
date_parts year month day = refl

year_start_is : (year : ℕ) → year_start year ≡ midnight (day_number year 1 1)
unfolding year_start
year_start_is year = refl

all_years : days_before_year 10000 ≡ 3_652_425
all_years =
    let parts = date_parts 10000 1 1 in let none = no_months 10000 in
    omega (arith, signed_arith, end_of_years, year_start_is 10000, day_number-parts 10000 1 1)

-- the date of a day
record IsDateOf (days year month day : ℕ) : Type 0 where
  small : year < 10000
  date : IsDate year month day
  count : days_before_date year month day ≡ days

module _ (days : ℕ) (within : days < 3_652_425) where
  is_year : IsLast days_before_year days 9999 (year_of_day days)
  is_year = last_is days_before_year days 9999 (omega (arith, no_years))

  year_over : days < days_before_year (suc (year_of_day days))
  year_over =
      elim (cases_lt (year_of_day days) 9999) [
        | inl lt ↦ is_year.high lt
        | inr ge ↦
            let w = is_year.within in
            let last : suc (year_of_day days) ≡ 10000 = omega arith in
            subst (λ (n : ℕ). days < days_before_year n) (sym last) (omega (arith, all_years))
      ]

  in_year : day_in_year days < days_of_year (year_of_day days)
  in_year = let low = is_year.low in omega (arith, year_over, year_after (year_of_day days))

  is_month : IsLast (days_of_months (year_of_day days)) (day_in_year days) 11 (whole_months days)
  is_month = last_is (days_of_months (year_of_day days)) (day_in_year days) 11 (omega (arith, no_months (year_of_day days)))

  month_over : day_in_year days < days_of_months (year_of_day days) (suc (whole_months days))
  month_over =
      elim (cases_lt (whole_months days) 11) [
        | inl lt ↦ is_month.high lt
        | inr ge ↦
            let w = is_month.within in
            let last : suc (whole_months days) ≡ 12 = omega arith in
            subst (λ (n : ℕ). day_in_year days < days_of_months (year_of_day days) n) (sym last) (omega (arith, in_year, year_ends (year_of_day days)))
      ]

  date_is : IsDateOf days (year_of_day days) (whole_months days + 1) (day_in_year days - days_of_months (year_of_day days) (whole_months days) + 1)
  date_is =
      let y = is_year.within in let m = is_month.within in let low = is_month.low in let first = is_year.low in
      let next : whole_months days + 1 ≡ suc (whole_months days) = omega arith in
      let back : whole_months days + 1 - 1 ≡ whole_months days = omega arith in
      let over : day_in_year days - days_of_months (year_of_day days) (whole_months days) < days_of_month (year_of_day days) (whole_months days + 1) =
      rw next (omega (arith, month_over, month_after (year_of_day days) (whole_months days))) in
      let parts = rw back at (date_parts (year_of_day days) (whole_months days + 1) (day_in_year days - days_of_months (year_of_day days) (whole_months days) + 1)) in
      record {
        small = omega arith;
        date = ((omega arith, omega arith), (omega arith, omega arith));
        count = omega arith;
      }

-- ---- the numbers of a moment

in_day : (hour minute second : ℕ) → hour < 24 → minute < 60 → second < 60 → (is_clock_time (record { hour = hour; minute = minute; second = second }) && true) ≡ true
in_day hour minute second hours minutes seconds = grind (arith, nat_tests)

nonnegative : (z : ℤ) → pos 0 ≤ℤ z → pos (unsigned_abs z) ≡ z
nonnegative (pos n) low = refl
nonnegative (negsuc n) low = absurd (omega (arith, signed_arith))

fields_are : (at : ℤ) → IsInstant at → IsFormOf at (fields_of at)
unfolding fields_of date_of clock_of
fields_are at (low, high) =
    let since = nanoseconds_since at in
    let since_is : pos since ≡ at +ℤ pos 62_167_219_200_000_000_000 = nonnegative (at +ℤ pos 62_167_219_200_000_000_000) (omega (arith, signed_arith)) in
    let few : since < 315_569_520_000_000_000_000 = omega (arith, signed_arith) in
    let days = since / 86_400_000_000_000 in
    let seconds = since / 1_000_000_000 % 86_400 in
    let date = date_is days (omega arith) in
    let parts = day_number-parts (year_of_day days) (whole_months days + 1) (day_in_year days - days_of_months (year_of_day days) (whole_months days) + 1) in
    let count = date.count in
    let clock : seconds / 3600 * 3600 + seconds / 60 % 60 * 60 + seconds % 60 ≡ seconds = omega arith in
    let whole : since ≡ days * 86_400_000_000_000 + (seconds * 1_000_000_000 + since % 1_000_000_000) = omega arith in
    record {
      utc = refl;
      in_range = rw (is_date-true (year_of_day days) (whole_months days + 1) (day_in_year days - days_of_months (year_of_day days) (whole_months days) + 1) date.date)
          (in_day (seconds / 3600) (seconds / 60 % 60) (seconds % 60) (omega arith) (omega arith) (omega arith));
      year = date.small;
      fraction = omega arith;
      instant = omega (arith, signed_arith, parts, count, clock, whole, since_is);
    }

pub moment_read : (at : ℤ) → IsInstant at → instant_reading (moment_text at) ≡ Ok at
unfolding moment_text
moment_read at is = read_back at (fields_of at) is (fields_are at is)
