-- The form of a date and of a date-time (RFC 3339 §5.6): the numbers that a text spells, whether or not they are in range.
use Rattle.std.specs.Prelude.{ℕ, ◌+◌, ◌-◌, ◌*◌, ◌^◌, ◌<◌, Bool, true, false, ◌&&◌, ◌||◌, ◌==◌, nat_le, if◌then◌else◌, List, [], ◌∷◌, length, take, drop, Option, Some, None}
use Rattle.std.specs.List.{prefix_len}
use Rattle.std.specs.Char.{is_ascii_digit}
use Rattle.std.specs.Str.Parse.{digits_value}
use Rattle.sc_time.specs.declared.form.DateFields.{DateFields}
use Rattle.sc_time.specs.declared.form.ClockFields.{ClockFields}
use Rattle.sc_time.specs.declared.form.OffsetFields.{OffsetFields}
use Rattle.sc_time.specs.declared.form.DateTimeFields.{DateTimeFields}

-- the numbers have no more digits than a full-date has room for
pub record FitDigits (date : DateFields) : Type 0 where
  pub year : date.year < 10000
  pub month : date.month < 100
  pub day : date.day < 100

-- what is read at the front of a text, if it is there, and then what stands behind it
abbrev pub followed_by : {A B : Type 0} → Option (A × List ℕ) → (A → List ℕ → Option B) → Option B
followed_by None next = None
followed_by (Some front) next = next front.0 front.1

-- a value, if the text ends here
abbrev pub at_end : {A : Type 0} → A → List ℕ → Option A
at_end value [] = Some value
at_end value (_ ∷ _) = None

-- 2DIGIT at the front
abbrev pub two_digits : List ℕ → Option (ℕ × List ℕ)
two_digits [] = None
two_digits (tens ∷ []) = None
two_digits (tens ∷ ones ∷ rest) =
    if is_ascii_digit tens && is_ascii_digit ones then Some ((tens - 48) * 10 + (ones - 48), rest) else None

-- a mark at the front, and 2DIGIT behind it
abbrev pub two_digits_behind : ℕ → List ℕ → Option (ℕ × List ℕ)
two_digits_behind mark [] = None
two_digits_behind mark (first ∷ rest) = if first == mark then two_digits rest else None

-- 4DIGIT at the front
abbrev pub four_digits : List ℕ → Option (ℕ × List ℕ)
four_digits text =
    followed_by (two_digits text) (λ high rest.
    followed_by (two_digits rest) (λ low rest.
    Some (high * 100 + low, rest)))

-- full-date: 4DIGIT "-" 2DIGIT "-" 2DIGIT
unfoldable pub full_date : List ℕ → Option (DateFields × List ℕ)
full_date text =
    followed_by (four_digits text) (λ year rest.
    followed_by (two_digits_behind 45 rest) (λ month rest.
    followed_by (two_digits_behind 45 rest) (λ day rest.
    Some (record { year = year; month = month; day = day }, rest))))

-- "T" and the hour, minute and second of partial-time: "T" 2DIGIT ":" 2DIGIT ":" 2DIGIT; the "T" may be a "t"
unfoldable pub clock_time : List ℕ → Option (ClockFields × List ℕ)
clock_time [] = None
clock_time (mark ∷ rest) =
    if (mark == 84) || (mark == 116) then
    followed_by (two_digits rest) (λ hour rest.
    followed_by (two_digits_behind 58 rest) (λ minute rest.
    followed_by (two_digits_behind 58 rest) (λ second rest.
    Some (record { hour = hour; minute = minute; second = second }, rest))))
    else None

-- digits behind the point as nanoseconds
abbrev pub nanoseconds_of_digits : List ℕ → ℕ
nanoseconds_of_digits digits = digits_value 10 digits * 10 ^ (9 - length digits)

-- the digits at the front, of which there are 1 to 9
unfoldable pub fraction_digits : List ℕ → Option (ℕ × List ℕ)
fraction_digits text =
    let count = prefix_len is_ascii_digit text in
    if nat_le 1 count && nat_le count 9 then Some (nanoseconds_of_digits (take count text), drop count text) else None

-- time-secfrac in nanoseconds: "." 1*DIGIT, of at most nine digits, which may be missing
unfoldable pub fraction : List ℕ → Option (ℕ × List ℕ)
fraction [] = Some (0, [])
fraction (first ∷ rest) = if first == 46 then fraction_digits rest else Some (0, first ∷ rest)

-- time-numoffset behind its sign, up to the end: 2DIGIT ":" 2DIGIT
abbrev pub offset_behind_sign : Bool → List ℕ → Option OffsetFields
offset_behind_sign west text =
    followed_by (two_digits text) (λ hour rest.
    followed_by (two_digits_behind 58 rest) (λ minute rest.
    at_end (record { west = west; hour = hour; minute = minute }) rest))

-- time-offset, up to the end: "Z", which may be a "z", or a sign and the time that the clock is ahead of UTC, or behind it where it is west
unfoldable pub offset : List ℕ → Option OffsetFields
offset [] = None
offset (first ∷ rest) =
    if (first == 90) || (first == 122) then at_end (record { west = false; hour = 0; minute = 0 }) rest
    else (if first == 43 then offset_behind_sign false rest
    else (if first == 45 then offset_behind_sign true rest else None))

-- a whole text that is a full-date
unfoldable pub date_form : List ℕ → Option DateFields
date_form text = followed_by (full_date text) at_end

-- a whole text that is a date-time: full-date "T" partial-time time-offset
unfoldable pub date_time_form : List ℕ → Option DateTimeFields
date_time_form text =
    followed_by (full_date text) (λ date rest.
    followed_by (clock_time rest) (λ clock rest.
    followed_by (fraction rest) (λ nanosecond rest.
    date_time_to (offset rest) date clock nanosecond)))
  where
    date_time_to : Option OffsetFields → DateFields → ClockFields → ℕ → Option DateTimeFields
    date_time_to None date clock nanosecond = None
    date_time_to (Some offset) date clock nanosecond =
        Some (record { date = date; clock = clock; nanosecond = nanosecond; offset = offset })
