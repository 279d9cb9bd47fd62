-- The text that is written of an instant is the text of its date and time of day.
use Rattle.std.proofs.Common.{◌≡◌, ℕ, zero, suc, ◌+◌, ◌-◌, ◌*◌, ◌/◌, ◌%◌, ◌<◌, ◌≤◌, true, ◌&&◌, inl, inr, refl, sym, ap, ◌∙◌, List, ◌++◌, ◌∷◌, [], arith, ℤ, pos, ◌+ℤ◌, unsigned_abs}
use Rattle.std.proofs.lemmas.Bool.{cases_lt, lt-leb, le-leb, and_parts}
use Rattle.std.proofs.lemmas.Bool.Decides.{nat_tests}
use Rattle.jiff_core.proofs.SignedLemmas.{signed_arith}
use Rattle.jiff_core.proofs.CalendarLemmas.{day_of_year_before, days_of_months_all}
use Rattle.sc_time.specs.declared.form.DateTimeFields.{DateTimeFields}
use Rattle.sc_time.specs.Calendar.{IsDate, days_of_year, days_of_month, days_before_year, days_of_months, days_before_date}
use Rattle.sc_time.specs.Reading.{is_calendar_date, is_clock_time, is_offset, seconds_of_clock}
use Rattle.sc_time.specs.Written.{utc_text, date_text, clock_text, fraction_text, IsFormOf, IsWritten}
use Rattle.sc_time.proofs.Calendars.{IsDate-from_test, days_of_months_same, days_of_year_same, day_number-parts}
use Rattle.sc_cqlwrite.specs.Moment.{last_reached, year_of_day, day_in_year, whole_months, date_of, clock_of, nanoseconds_since, fields_of, moment_text}

-- ---- the last number that a count reaches

last_reached_is : (count : ℕ → ℕ) (many most n : ℕ) → n ≤ most → count n ≤ many → ((m : ℕ) → n < m → m ≤ most → many < count m) → last_reached count many most ≡ n
unfolding last_reached
last_reached_is count many zero n within low high = omega arith
last_reached_is count many (suc most) n within low high =
    elim (cases_lt n (suc most)) [
      | inl lt ↦
          rw (lt-leb (count (suc most)) many (high (suc most) lt (omega arith)))
          (last_reached_is count many most n (omega arith) low (λ m below above. high m below (omega arith)))
      | inr ge ↦
          let same : suc most ≡ n = omega arith in
          let reached : count (suc most) ≤ many = rw same low in
          rw (le-leb (count (suc most)) many reached) same
    ]

-- a count that never falls
rises : (count : ℕ → ℕ) → ((n : ℕ) → count n ≤ count (suc n)) → (n more : ℕ) → count n ≤ count (more + n)
rises count step n zero = let none : zero + n ≡ n = omega arith in rw none (omega arith)
rises count step n (suc more) =
    let next : suc more + n ≡ suc (more + n) = omega arith in
    rw next (omega (arith, rises count step n more, step (more + n)))

rises_to : (count : ℕ → ℕ) → ((n : ℕ) → count n ≤ count (suc n)) → (n m : ℕ) → n ≤ m → count n ≤ count m
rises_to count step n m le =
    let apart : m - n + n ≡ m = omega arith in
    rw apart at (rises count step n (m - n))

-- ---- years and months

year_after : (year : ℕ) → days_before_year (suc year) ≡ days_before_year year + days_of_year year
unfolding days_before_year
year_after year = refl

month_after : (year month : ℕ) → days_of_months year (suc month) ≡ days_of_months year month + days_of_month year (suc month)
unfolding days_of_months
month_after year month = refl

month_within : (year month day : ℕ) → IsDate year month day → days_of_months year (month - 1) + day ≤ days_of_year year
month_within year month day (months, days) =
    rw (days_of_months_same year (month - 1), days_of_year_same year)
    (omega (arith, day_of_year_before (pos year) month day 12 months.0 days.1 months.1, days_of_months_all (pos year)))

date_parts : (year month day : ℕ) → days_before_date year month day ≡ days_before_year year + days_of_months year (month - 1) + (day - 1)
unfolding days_before_date
date_parts year month day = refl

module _ (year month day days : ℕ) (small : year < 10000) (is : IsDate year month day) (whole : days ≡ days_before_date year month day) where
  year_found : year_of_day days ≡ year
  year_found =
      let inside = month_within year month day is in
      let parts = date_parts year month day in
      let next = year_after year in
      let first = is.1.0 in
      last_reached_is days_before_year days 9999 year (omega arith) (omega arith)
      (λ m below above.
      let later : days_before_year (suc year) ≤ days_before_year m = rises_to days_before_year (λ n. omega (arith, year_after n)) (suc year) m (omega arith) in
      omega arith)

  in_year : days - days_before_year year ≡ days_of_months year (month - 1) + (day - 1)
  in_year = let parts = date_parts year month day in omega arith

  months_found : whole_months days ≡ month - 1
  months_found =
      let ahead = is.0.0 in let last = is.0.1 in let first = is.1.0 in let most = is.1.1 in
      let here : suc (month - 1) ≡ month = omega arith in
      let next = rw here at (month_after year (month - 1)) in
      rw (year_found, in_year)
      (last_reached_is (days_of_months year) (days_of_months year (month - 1) + (day - 1)) 11 (month - 1) (omega arith) (omega arith)
      (λ m below above.
      let later : days_of_months year month ≤ days_of_months year m = rises_to (days_of_months year) (λ n. omega (arith, month_after year n)) month m (omega arith) in
      omega arith))

  month_found : whole_months days + 1 ≡ month
  month_found = let ahead = is.0.0 in omega (arith, months_found)

  day_found : day_in_year days - days_of_months (year_of_day days) (whole_months days) + 1 ≡ day
  day_found = let first = is.1.0 in rw (months_found, year_found, in_year) (omega arith)

-- ---- the numbers of an instant

out_of_day : (hour minute second : ℕ) → is_clock_time (record { hour = hour; minute = minute; second = second }) ≡ true → (hour < 24) × (minute < 60) × (second < 60)
out_of_day hour minute second is = grind (arith, nat_tests)

-- the nanoseconds from the beginning of the year 0 on
since_is : (at : ℤ) (form : DateTimeFields) → IsFormOf at form
    → nanoseconds_since at ≡ days_before_date form.date.year form.date.month form.date.day * 86_400_000_000_000 + (seconds_of_clock form.clock * 1_000_000_000 + form.nanosecond)
since_is at form is =
    let instant = rw is.utc at is.instant in
    let parts = day_number-parts form.date.year form.date.month form.date.day in
    let sum : at +ℤ pos 62_167_219_200_000_000_000 ≡ pos (days_before_date form.date.year form.date.month form.date.day * 86_400_000_000_000 + (seconds_of_clock form.clock * 1_000_000_000 + form.nanosecond)) =
    omega (arith, signed_arith, instant, parts) in
    ap unsigned_abs sum

text_of_parts : ℕ → ℕ → ℕ → ℕ → ℕ → ℕ → ℕ → List ℕ
text_of_parts year month day hour minute second nanosecond =
    date_text (record { year = year; month = month; day = day }) ++ clock_text (record { hour = hour; minute = minute; second = second }) ++ fraction_text nanosecond ++ 90 ∷ []

text_is : (form : DateTimeFields) → utc_text form ≡ text_of_parts form.date.year form.date.month form.date.day form.clock.hour form.clock.minute form.clock.second form.nanosecond
unfolding utc_text text_of_parts
text_is form = refl

parts_same : {y mo d h mi s y' mo' d' h' mi' s' : ℕ} (n : ℕ) → y ≡ y' → mo ≡ mo' → d ≡ d' → h ≡ h' → mi ≡ mi' → s ≡ s' → text_of_parts y mo d h mi s n ≡ text_of_parts y' mo' d' h' mi' s' n
parts_same n a b c d e f = cc

moment_parts : (at : ℤ) (days seconds nanosecond : ℕ) → nanoseconds_since at ≡ days * 86_400_000_000_000 + (seconds * 1_000_000_000 + nanosecond) → seconds < 86400 → nanosecond < 1_000_000_000
    → moment_text at ≡ text_of_parts (year_of_day days) (whole_months days + 1) (day_in_year days - days_of_months (year_of_day days) (whole_months days) + 1) (seconds / 3600) (seconds / 60 % 60) (seconds % 60) nanosecond
unfolding moment_text fields_of date_of clock_of
moment_parts at days seconds nanosecond is clock fraction =
    let since = nanoseconds_since at in
    let day : since / 86_400_000_000_000 ≡ days = omega arith in
    let second : since / 1_000_000_000 % 86_400 ≡ seconds = omega arith in
    let rest : since % 1_000_000_000 ≡ nanosecond = omega arith in
    text_is (fields_of at) ∙ rw (day, second, rest) refl

moment_found : (at : ℤ) (form : DateTimeFields) → IsFormOf at form → utc_text form ≡ moment_text at
moment_found at form is =
    let days = days_before_date form.date.year form.date.month form.date.day in
    let seconds = seconds_of_clock form.clock in
    let tests = and_parts (is_calendar_date form.date) (is_clock_time form.clock && is_offset form.offset) is.in_range in
    let clock = out_of_day form.clock.hour form.clock.minute form.clock.second (and_parts (is_clock_time form.clock) (is_offset form.offset) tests.1).0 in
    let date = IsDate-from_test form.date.year form.date.month form.date.day tests.0 in
    let year : year_of_day days ≡ form.date.year = year_found form.date.year form.date.month form.date.day days is.year date refl in
    let month : whole_months days + 1 ≡ form.date.month = month_found form.date.year form.date.month form.date.day days is.year date refl in
    let day : day_in_year days - days_of_months (year_of_day days) (whole_months days) + 1 ≡ form.date.day = day_found form.date.year form.date.month form.date.day days is.year date refl in
    let hours : form.clock.hour < 24 = clock.0 in let minutes : form.clock.minute < 60 = clock.1 in let last : form.clock.second < 60 = clock.2 in
    let hour : seconds / 3600 ≡ form.clock.hour = omega arith in
    let minute : seconds / 60 % 60 ≡ form.clock.minute = omega arith in
    let second : seconds % 60 ≡ form.clock.second = omega arith in
    let parts = moment_parts at days seconds form.nanosecond (since_is at form is) (omega arith) is.fraction in
    text_is form ∙ sym (parts ∙ parts_same form.nanosecond year month day hour minute second)

pub moment_is : (at : ℤ) (text : List ℕ) → IsWritten at text → text ≡ moment_text at
moment_is at text is = is.spelled ∙ moment_found at is.form is.numbers
