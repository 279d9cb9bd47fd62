-- From the steps of reading a date-time to what it reads as.
use Rattle.std.proofs.Common.{◌≡◌, ℕ, Bool, true, false, cond, ◌&&◌, List, Some, None, Result, Ok, Err, refl, ℤ, pos, ◌+ℤ◌, ◌-ℤ◌, ◌*ℤ◌}
use Rattle.sc_time.specs.declared.form.DateTimeFields.{DateTimeFields}
use Rattle.sc_time.specs.declared.fault.TimeFault.{TimeFault}
use Rattle.sc_time.specs.declared.fault.TimeFault.TheVariants.{OutOfRange}
use Rattle.sc_time.specs.Form.{date_time_form}
use Rattle.sc_time.specs.Instant.{is_instant}
use Rattle.sc_time.specs.Reading.{is_calendar_date, day_of_fields, is_clock_time, is_offset, seconds_of_clock, seconds_ahead, instant_reading}

some_if : (found : Bool) (x y : ℤ) → Some x ≡ cond found (Some y) None → (found ≡ true) × (x ≡ y)
some_if true x y e = (refl, cc)
some_if false x y e = absurd cc

-- the numbers are in range, so that the text names an instant or one out of range
pub instant_found : (text : List ℕ) (form : DateTimeFields) (day seconds : ℤ) (result : Result ℤ TimeFault) → Some form ≡ date_time_form text → Some day ≡ cond (is_calendar_date form.date) (Some (day_of_fields form.date)) None → (is_clock_time form.clock && is_offset form.offset) ≡ true → seconds ≡ day *ℤ pos 86_400 +ℤ pos (seconds_of_clock form.clock) -ℤ seconds_ahead form.offset → result ≡ cond (is_instant (seconds *ℤ pos 1_000_000_000 +ℤ pos form.nanosecond)) (Ok (seconds *ℤ pos 1_000_000_000 +ℤ pos form.nanosecond)) (Err OutOfRange) → result ≡ instant_reading text
unfolding instant_reading
instant_found text form day seconds result form_is day_is in_range seconds_is result_is =
    let found = some_if (is_calendar_date form.date) day (day_of_fields form.date) day_is in
    let all : seconds ≡ day_of_fields form.date *ℤ pos 86_400 +ℤ pos (seconds_of_clock form.clock) -ℤ seconds_ahead form.offset = rw found.1 at seconds_is in
    rw (← form_is, found.0, in_range, ← all) result_is
