-- The text of an instant is read back as the instant.
use Rattle.std.proofs.Common.{◌≡◌, ℕ, ◌<◌, Bool, true, false, cond, List, [], ◌∷◌, ◌++◌, Option, Some, None, Ok, refl, ◌∙◌, arith, append_assoc, nat_eq, ℤ}
use Rattle.std.proofs.lemmas.Bool.Decides.{nat_tests}
use Rattle.std.specs.Str.{IsAscii, IsUtf8, is_utf8}
use Rattle.std.proofs.lemmas.Str.{IsAscii-append, IsUtf8-from_ascii, is_utf8-from_IsUtf8}
use Rattle.std.proofs.lemmas.Int.{ints}
use Rattle.sc_time.specs.declared.form.DateFields.{DateFields}
use Rattle.sc_time.specs.declared.form.ClockFields.{ClockFields}
use Rattle.sc_time.specs.declared.form.DateTimeFields.{DateTimeFields}
use Rattle.sc_time.specs.Form.{full_date, clock_time, fraction, offset, date_time_form}
use Rattle.sc_time.specs.Instant.{IsInstant, is_instant}
use Rattle.sc_time.specs.Reading.{instant_reading}
use Rattle.sc_time.specs.Written.{digits, date_text, clock_text, fraction_text, utc_text, IsFormOf}
use Rattle.sc_time.proofs.Digits.{two_digits-digits, four_digits-digits, fraction_digits-digits, ascii_one, ascii_digits}
use Rattle.sc_time.proofs.Forms.{fits_of}

date_text-append : (date : DateFields) (rest : List ℕ) → date_text date ++ rest ≡ digits 4 date.year ++ (45 ∷ (digits 2 date.month ++ (45 ∷ (digits 2 date.day ++ rest))))
unfolding date_text
date_text-append date rest =
    append_assoc (digits 4 date.year ++ (45 ∷ digits 2 date.month)) (45 ∷ digits 2 date.day) rest
    ∙ append_assoc (digits 4 date.year) (45 ∷ digits 2 date.month) (45 ∷ (digits 2 date.day ++ rest))

full_date-text : (date : DateFields) (rest : List ℕ) → date.year < 10000 → date.month < 100 → date.day < 100 → full_date (date_text date ++ rest) ≡ Some (date, rest)
unfolding full_date
full_date-text date rest year month day =
    rw (date_text-append date rest)
    (rw (four_digits-digits date.year (45 ∷ (digits 2 date.month ++ (45 ∷ (digits 2 date.day ++ rest)))) year)
    (rw (two_digits-digits date.month (45 ∷ (digits 2 date.day ++ rest)) month)
    (rw (two_digits-digits date.day rest day) refl)))

clock_text-append : (clock : ClockFields) (rest : List ℕ) → clock_text clock ++ rest ≡ 84 ∷ (digits 2 clock.hour ++ (58 ∷ (digits 2 clock.minute ++ (58 ∷ (digits 2 clock.second ++ rest)))))
unfolding clock_text
clock_text-append clock rest =
    append_assoc ((84 ∷ digits 2 clock.hour) ++ (58 ∷ digits 2 clock.minute)) (58 ∷ digits 2 clock.second) rest
    ∙ append_assoc (84 ∷ digits 2 clock.hour) (58 ∷ digits 2 clock.minute) (58 ∷ (digits 2 clock.second ++ rest))

clock_time-text : (clock : ClockFields) (rest : List ℕ) → clock.hour < 100 → clock.minute < 100 → clock.second < 100 → clock_time (clock_text clock ++ rest) ≡ Some (clock, rest)
unfolding clock_time
clock_time-text clock rest hour minute second =
    rw (clock_text-append clock rest)
    (rw (two_digits-digits clock.hour (58 ∷ (digits 2 clock.minute ++ (58 ∷ (digits 2 clock.second ++ rest)))) hour)
    (rw (two_digits-digits clock.minute (58 ∷ (digits 2 clock.second ++ rest)) minute)
    (rw (two_digits-digits clock.second rest second) refl)))

fraction-text : (nanosecond : ℕ) → nanosecond < 1_000_000_000 → fraction (fraction_text nanosecond ++ 90 ∷ []) ≡ Some (nanosecond, 90 ∷ [])
unfolding fraction fraction_text
fraction-text nanosecond small = go (nat_eq nanosecond 0) refl
  where
    go : (none : Bool) → nat_eq nanosecond 0 ≡ none → fraction ((cond none [] (46 ∷ digits 9 nanosecond)) ++ 90 ∷ []) ≡ Some (nanosecond, 90 ∷ [])
    go true is = let zero_is : nanosecond ≡ 0 = grind (arith, nat_tests) in rw zero_is refl
    go false is = fraction_digits-digits nanosecond small

utc_text-parts : (form : DateTimeFields) → utc_text form ≡ date_text form.date ++ (clock_text form.clock ++ (fraction_text form.nanosecond ++ 90 ∷ []))
unfolding utc_text
utc_text-parts form =
    append_assoc (date_text form.date ++ clock_text form.clock) (fraction_text form.nanosecond) (90 ∷ [])
    ∙ append_assoc (date_text form.date) (clock_text form.clock) (fraction_text form.nanosecond ++ 90 ∷ [])

offset-text : offset (90 ∷ []) ≡ Some (record { west = false; hour = 0; minute = 0 })
unfolding offset
offset-text = refl

form_back : (at : ℤ) (form : DateTimeFields) → IsFormOf at form → date_time_form (utc_text form) ≡ Some form
unfolding date_time_form
form_back at form is =
    let fit = fits_of at form is in
    rw (utc_text-parts form)
    (rw (full_date-text form.date (clock_text form.clock ++ (fraction_text form.nanosecond ++ 90 ∷ [])) is.year fit.month fit.day)
    (rw (clock_time-text form.clock (fraction_text form.nanosecond ++ 90 ∷ []) fit.hour fit.minute fit.second)
    (rw (fraction-text form.nanosecond is.fraction)
    (rw (offset-text, ← is.utc) refl))))

is_instant-true : (at : ℤ) → IsInstant at → is_instant at ≡ true
is_instant-true at (low, high) = grind (arith, ints)

-- the text of an instant is read as the instant
pub read_back : (at : ℤ) (form : DateTimeFields) → IsInstant at → IsFormOf at form → instant_reading (utc_text form) ≡ Ok at
unfolding instant_reading
read_back at form instant is =
    rw (form_back at form is) (rw (is.in_range, is.instant, is_instant-true at instant) refl)

ascii_date : (date : DateFields) → IsAscii (date_text date)
unfolding date_text
ascii_date date =
    IsAscii-append (digits 4 date.year ++ (45 ∷ digits 2 date.month)) (45 ∷ digits 2 date.day)
    (IsAscii-append (digits 4 date.year) (45 ∷ digits 2 date.month) (ascii_digits 4 date.year) (ascii_behind 45 2 date.month (omega arith)))
    (ascii_behind 45 2 date.day (omega arith))
  where
    ascii_behind : (mark width number : ℕ) → mark < 128 → IsAscii (mark ∷ digits width number)
    ascii_behind mark width number small = IsAscii-append (mark ∷ []) (digits width number) (ascii_one mark small) (ascii_digits width number)

ascii_clock : (clock : ClockFields) → IsAscii (clock_text clock)
unfolding clock_text
ascii_clock clock =
    IsAscii-append ((84 ∷ digits 2 clock.hour) ++ (58 ∷ digits 2 clock.minute)) (58 ∷ digits 2 clock.second)
    (IsAscii-append (84 ∷ digits 2 clock.hour) (58 ∷ digits 2 clock.minute) (ascii_behind 84 2 clock.hour (omega arith)) (ascii_behind 58 2 clock.minute (omega arith)))
    (ascii_behind 58 2 clock.second (omega arith))
  where
    ascii_behind : (mark width number : ℕ) → mark < 128 → IsAscii (mark ∷ digits width number)
    ascii_behind mark width number small = IsAscii-append (mark ∷ []) (digits width number) (ascii_one mark small) (ascii_digits width number)

ascii_fraction : (nanosecond : ℕ) → IsAscii (fraction_text nanosecond)
unfolding fraction_text
ascii_fraction nanosecond = go (nat_eq nanosecond 0)
  where
    go : (none : Bool) → IsAscii (cond none [] (46 ∷ digits 9 nanosecond))
    go true = λ i. omega arith
    go false = IsAscii-append (46 ∷ []) (digits 9 nanosecond) (ascii_one 46 (omega arith)) (ascii_digits 9 nanosecond)

-- it is UTF-8
pub utf8_text : (form : DateTimeFields) → IsUtf8 (utc_text form)
unfolding utc_text
utf8_text form =
    IsUtf8-from_ascii (utc_text form)
    (IsAscii-append (date_text form.date ++ clock_text form.clock ++ fraction_text form.nanosecond) (90 ∷ [])
    (IsAscii-append (date_text form.date ++ clock_text form.clock) (fraction_text form.nanosecond)
    (IsAscii-append (date_text form.date) (clock_text form.clock) (ascii_date form.date) (ascii_clock form.clock))
    (ascii_fraction form.nanosecond))
    (ascii_one 90 (omega arith)))

pub not_none : (bytes : List ℕ) → IsUtf8 bytes → (text : Option (List ℕ)) → text ≡ cond (is_utf8 bytes) (Some bytes) None → text ≡ Some bytes
not_none bytes utf8 text is = rw (is_utf8-from_IsUtf8 bytes utf8) at is
