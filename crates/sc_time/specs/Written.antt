-- The text of an instant: a date-time of RFC 3339 §5.6 in UTC.
use Rattle.std.specs.Prelude.{◌≡◌, ℕ, zero, suc, ◌+◌, ◌/◌, ◌%◌, ◌<◌, ◌==◌, true, false, if◌then◌else◌, List, [], ◌∷◌, ◌++◌, ℤ}
use Rattle.sc_time.specs.declared.form.DateFields.{DateFields}
use Rattle.sc_time.specs.declared.form.ClockFields.{ClockFields}
use Rattle.sc_time.specs.declared.form.DateTimeFields.{DateTimeFields}
use Rattle.sc_time.specs.Reading.{is_date_time, nanoseconds_of}

-- a number in so many decimal digits
unfoldable pub digits : ℕ → ℕ → List ℕ
digits zero number = []
digits (suc width) number = digits width (number / 10) ++ (48 + number % 10) ∷ []

-- YYYY-MM-DD
unfoldable pub date_text : DateFields → List ℕ
date_text date = digits 4 date.year ++ 45 ∷ digits 2 date.month ++ 45 ∷ digits 2 date.day

-- Thh:mm:ss
unfoldable pub clock_text : ClockFields → List ℕ
clock_text clock = 84 ∷ digits 2 clock.hour ++ 58 ∷ digits 2 clock.minute ++ 58 ∷ digits 2 clock.second

-- a point and nine digits where the nanoseconds aren't 0
unfoldable pub fraction_text : ℕ → List ℕ
fraction_text nanosecond = if nanosecond == 0 then [] else 46 ∷ digits 9 nanosecond

-- the text of a date-time in UTC
unfoldable pub utc_text : DateTimeFields → List ℕ
utc_text form = date_text form.date ++ clock_text form.clock ++ fraction_text form.nanosecond ++ 90 ∷ []

-- the numbers of an instant's date and time in UTC
pub record IsFormOf (at : ℤ) (form : DateTimeFields) : Type 0 where
  pub utc : form.offset ≡ record { west = false; hour = 0; minute = 0 }
  pub in_range : is_date_time form ≡ true
  pub year : form.date.year < 10000
  pub fraction : form.nanosecond < 1_000_000_000
  pub instant : nanoseconds_of form ≡ at

-- the text of an instant
pub record IsWritten (at : ℤ) (text : List ℕ) : Type 0 where
  pub form : DateTimeFields
  pub numbers : IsFormOf at form
  pub spelled : text ≡ utc_text form
