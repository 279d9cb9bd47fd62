-- What a text reads as: an instant, a day or a range of time, or the first fault (RFC 3339 §5.6 and §5.7, and the calendar).
use Rattle.std.specs.Prelude.{ℕ, ◌+◌, ◌*◌, Bool, true, false, ◌&&◌, ◌==◌, nat_lt, if◌then◌else◌, List, [], ◌∷◌, take, drop, Option, Some, None, Result, Ok, Err, ℤ, pos, neg_ℤ, ◌+ℤ◌, ◌-ℤ◌, ◌*ℤ◌}
use Rattle.sc_time.specs.declared.form.DateFields.{DateFields}
use Rattle.sc_time.specs.declared.form.ClockFields.{ClockFields}
use Rattle.sc_time.specs.declared.form.OffsetFields.{OffsetFields}
use Rattle.sc_time.specs.declared.form.DateTimeFields.{DateTimeFields}
use Rattle.sc_time.specs.declared.fault.TimeFault.{TimeFault}
use Rattle.sc_time.specs.declared.fault.TimeFault.TheVariants.{BadForm, BadDate, OutOfRange, Backwards}
use Rattle.sc_time.specs.Calendar.{is_date, day_number}
use Rattle.sc_time.specs.Instant.{is_instant, midnight}
use Rattle.std.specs.List.{position}
use Rattle.sc_time.specs.Ends.{Ends, are_ordered}
use Rattle.sc_time.specs.Form.{date_form, date_time_form}

-- the date is in the calendar
abbrev pub is_calendar_date : DateFields → Bool
is_calendar_date date = is_date date.year date.month date.day

abbrev pub day_of_fields : DateFields → ℤ
day_of_fields date = day_number date.year date.month date.day

-- a time of day and an offset that are in range; there are no leap seconds
abbrev pub is_clock_time : ClockFields → Bool
is_clock_time clock = nat_lt clock.hour 24 && (nat_lt clock.minute 60 && nat_lt clock.second 60)

abbrev pub is_offset : OffsetFields → Bool
is_offset offset = nat_lt offset.hour 24 && nat_lt offset.minute 60

-- all numbers of a date-time are in range
abbrev pub is_date_time : DateTimeFields → Bool
is_date_time form = is_calendar_date form.date && (is_clock_time form.clock && is_offset form.offset)

-- seconds since midnight
abbrev pub seconds_of_clock : ClockFields → ℕ
seconds_of_clock clock = clock.hour * 3600 + clock.minute * 60 + clock.second

-- how many seconds the clock is ahead of UTC
abbrev pub seconds_ahead : OffsetFields → ℤ
seconds_ahead offset =
    if offset.west then neg_ℤ (pos (offset.hour * 3600 + offset.minute * 60))
    else pos (offset.hour * 3600 + offset.minute * 60)

-- the seconds since 1970 of a date-time in UTC, its fraction left out
abbrev pub seconds_of_date_time : DateTimeFields → ℤ
seconds_of_date_time form =
    day_of_fields form.date *ℤ pos 86_400 +ℤ pos (seconds_of_clock form.clock) -ℤ seconds_ahead form.offset

-- the instant in nanoseconds
abbrev pub nanoseconds_of : DateTimeFields → ℤ
nanoseconds_of form = seconds_of_date_time form *ℤ pos 1_000_000_000 +ℤ pos form.nanosecond

-- the instant of a date-time that has the form, or the first fault
abbrev pub instant_of_form : Option DateTimeFields → Result ℤ TimeFault
instant_of_form None = Err BadForm
instant_of_form (Some form) =
    if is_date_time form then (if is_instant (nanoseconds_of form) then Ok (nanoseconds_of form) else Err OutOfRange)
    else Err BadDate

-- a date-time as an instant
unfoldable pub instant_reading : List ℕ → Result ℤ TimeFault
instant_reading text = instant_of_form (date_time_form text)

-- midnight UTC of a date that has the form, or the first fault
abbrev pub instant_of_date : Option DateFields → Result ℤ TimeFault
instant_of_date None = Err BadForm
instant_of_date (Some date) = if is_calendar_date date then Ok (midnight (day_of_fields date)) else Err BadDate

-- a date as midnight UTC
unfoldable pub date_reading : List ℕ → Result ℤ TimeFault
date_reading text = instant_of_date (date_form text)

-- a text that stands for an open end: it is empty, or two points
abbrev pub is_open_end : List ℕ → Bool
is_open_end [] = true
is_open_end (first ∷ []) = false
is_open_end (first ∷ second ∷ []) = (first == 46) && (second == 46)
is_open_end (first ∷ second ∷ third ∷ rest) = false

abbrev pub closed_end : Result ℤ TimeFault → Result (Option ℤ) TimeFault
closed_end (Err fault) = Err fault
closed_end (Ok at) = Ok (Some at)

-- one end of a range
unfoldable pub end_reading : List ℕ → Result (Option ℤ) TimeFault
end_reading text = if is_open_end text then Ok None else closed_end (instant_reading text)

-- the range of two ends, or the fault of the left end, else that of the right one, else that they stand the wrong way round
abbrev pub range_of_ends : Result (Option ℤ) TimeFault → Result (Option ℤ) TimeFault → Result Ends TimeFault
range_of_ends (Err fault) right = Err fault
range_of_ends (Ok from) (Err fault) = Err fault
range_of_ends (Ok from) (Ok to) = if are_ordered from to then Ok (record { from = from; to = to }) else Err Backwards

abbrev pub range_of_instant : Result ℤ TimeFault → Result Ends TimeFault
range_of_instant (Err fault) = Err fault
range_of_instant (Ok at) = Ok (record { from = Some at; to = Some at })

abbrev pub range_cut_at : Option ℕ → List ℕ → Result Ends TimeFault
range_cut_at None text = range_of_instant (instant_reading text)
range_cut_at (Some slash) text = range_of_ends (end_reading (take slash text)) (end_reading (drop (slash + 1) text))

-- two ends round the first slash, or one date-time that is both
unfoldable pub range_reading : List ℕ → Result Ends TimeFault
range_reading text = range_cut_at (position (λ byte. byte == 47) text) text
