-- Where months and years begin and end.
use Rattle.std.proofs.Common.{◌≡◌, ℕ, zero, suc, ◌+◌, ◌-◌, ◌*◌, ◌/◌, ◌%◌, ◌≤◌, inl, inr, refl, sym, ◌∙◌, ap, arith, ℤ, pos, neg_ℤ, ◌+ℤ◌, ◌≤ℤ◌, ◌<ℤ◌}
use Rattle.std.proofs.lemmas.Bool.{cases_lt}
use Rattle.std.specs.Int.{IsInRange}
use Rattle.std.specs.Prelude.{min}
use Rattle.jiff_core.specs.Calendar.{days_in_month, days_from_civil, IsEpochDay}
use Rattle.jiff_core.specs.Date.{epoch_day}
use Rattle.jiff_core.specs.declared.civil.date.Date.{Date}
use Rattle.jiff_core.proofs.SignedLemmas.{signed_arith}
use Rattle.sc_time.specs.Calendar.{days_of_month, days_before_date, day_number}
use Rattle.sc_time.specs.Instant.{IsDayNumber, midnight, year_start, month_start, month_key}
use Rattle.sc_time.proofs.Calendars.{day_number-days_from_civil, found_range}
use Rattle.sc_time.proofs.Periods.{first_of_next_month, first_of_next_year, january_start, first_year, end_of_years}

-- the month of a number begins at midnight of its first day
pub month_start-first : (key : ℕ) → month_start key ≡ midnight (day_number (key / 12) (key % 12 + 1) 1)
unfolding month_start
month_start-first key = refl

december_is : (year : ℕ) → days_of_month year 12 ≡ 31
december_is year = refl

-- the month after the month of a number begins behind its last day
pub month_start-next : (key : ℕ) → month_start (key + 1) ≡ midnight (day_number (key / 12) (key % 12 + 1) (days_of_month (key / 12) (key % 12 + 1)) +ℤ pos 1)
month_start-next key =
    elim (cases_lt (key % 12) 11) [
      | inl early ↦
          let year : (key + 1) / 12 ≡ key / 12 = omega arith in
          let month : (key + 1) % 12 ≡ key % 12 + 1 = omega arith in
          let next = first_of_next_month (key / 12) (key % 12 + 1) (omega arith, omega arith) in
          rw (month_start-first (key + 1), year, month) (ap midnight next)
      | inr late ↦
          let year : (key + 1) / 12 ≡ key / 12 + 1 = omega arith in
          let month : (key + 1) % 12 ≡ 0 = omega arith in
          let here : key % 12 + 1 ≡ 12 = omega arith in
          let next = first_of_next_year (key / 12) in
          rw (month_start-first (key + 1), year, month, here) (ap midnight next)
    ]

date_parts : (year month day : ℕ) → day_number year month day ≡ day_number year month 1 +ℤ pos (day - 1)
unfolding day_number days_before_date
date_parts year month day = omega (arith, signed_arith)

month_start-suc : (key : ℕ) → month_start key ≤ℤ month_start (key + 1)
month_start-suc key =
    rw (month_start-next key, month_start-first key)
    (omega (arith, signed_arith, date_parts (key / 12) (key % 12 + 1) (days_of_month (key / 12) (key % 12 + 1))))

month_start-more : (key more : ℕ) → month_start key ≤ℤ month_start (more + key)
month_start-more key zero = let none : 0 + key ≡ key = omega arith in rw none (omega (arith, signed_arith))
month_start-more key (suc more) =
    let next : suc more + key ≡ more + key + 1 = omega arith in
    let before = month_start-more key more in
    let step = month_start-suc (more + key) in
    rw next (omega (arith, signed_arith))

-- later months begin later
pub month_start-mono : (key other : ℕ) → key ≤ other → month_start key ≤ℤ month_start other
month_start-mono key other le =
    let same : other - key + key ≡ other = omega arith in
    rw same at (month_start-more key (other - key))

-- and those that begin after each other have something between them
pub month_start-nonempty : (key : ℕ) → month_start key <ℤ month_start (key + 1)
month_start-nonempty key =
    rw (month_start-next key, month_start-first key)
    (omega (arith, signed_arith, date_parts (key / 12) (key % 12 + 1) (days_of_month (key / 12) (key % 12 + 1))))

-- a year begins with its first month
pub year_start-month : (year : ℕ) → year_start year ≡ month_start (12 * year)
year_start-month year =
    let first : month_key year 1 ≡ 12 * year = omega arith in
    sym (rw first at (january_start year))

pub year_start-next : (year : ℕ) → year_start (year + 1) ≡ month_start (12 * year + 11 + 1)
year_start-next year =
    let same : 12 * (year + 1) ≡ 12 * year + 11 + 1 = omega arith in
    rw same at (year_start-month (year + 1))

pub first_month : month_start 0 ≡ neg_ℤ (pos 62_167_219_200_000_000_000)
first_month = sym (year_start-month 0) ∙ first_year

pub end_of_months : month_start 120000 ≡ pos 253_402_300_800_000_000_000
end_of_months = sym (year_start-month 10000) ∙ end_of_years

-- the day that the date library finds is the calendar's
pub day_found : (d : Date) (month day : ℕ) (y : ℤ) (m : ℕ) (r : ℤ) → d.year ≡ y → d.month ≡ m → d.day ≡ min day (days_in_month y m) → y ≡ pos (month / 12) → m ≡ month % 12 + 1 → r ≡ epoch_day d →
    r ≡ day_number (month / 12) (month % 12 + 1) (min day (days_of_month (month / 12) (month % 12 + 1)))
day_found d month day y m r year_is month_is day_is years months is =
    let some : 1 ≤ d.day = d.day_in.0 in
    let here : d.day ≡ min day (days_of_month (month / 12) (month % 12 + 1)) = rw (years, months) at day_is in
    let whole : d.year ≡ pos (month / 12) = year_is ∙ years in
    let place : d.month ≡ month % 12 + 1 = month_is ∙ months in
    let number : days_from_civil (pos (month / 12)) (month % 12 + 1) d.day ≡ day_number (month / 12) (month % 12 + 1) d.day = sym (day_number-days_from_civil (month / 12) (month % 12 + 1) d.day some) in
    let found : r ≡ days_from_civil (pos (month / 12)) (month % 12 + 1) d.day = rw (whole, place) at is in
    rw here at (found ∙ number)

pub day_in_range : (d : Date) (month : ℕ) (y r : ℤ) → d.year ≡ y → y ≡ pos (month / 12) → r ≡ epoch_day d → IsEpochDay r → IsDayNumber r
day_in_range d month y r year_is years is range = found_range (month / 12) d r (year_is ∙ years) is range

pub month_length : (year month : ℕ) → IsInRange 1 12 month → IsInRange 1 31 (days_of_month year month)
month_length year month range = grind arith
