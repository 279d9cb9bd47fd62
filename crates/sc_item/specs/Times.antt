-- The time of an item by its members `datetime`, `start_datetime` and `end_datetime`.
use Rattle.std.specs.Prelude.{ℤ, int_le, Bool, true, false, ◌&&◌, if◌then◌else◌, Option, Some, None, Result, Ok, Err}
use Rattle.sc_json.specs.declared.tree.Json.{Json}
use Rattle.sc_json.specs.declared.tree.Json.TheOpen as layer
use Rattle.sc_json.specs.declared.tree.Json.TheOpen.{Json-F}
use Rattle.sc_json.specs.declared.tree.Json.TheViews.{out-Json}
use Rattle.sc_json.specs.declared.tree.Member.{Member}
use Rattle.sc_json.specs.Member.{member_value}
use Rattle.sc_time.specs.declared.fault.TimeFault.{TimeFault}
use Rattle.sc_time.specs.Reading.{instant_reading}
use Rattle.sc_item.specs.declared.times.Stamp.{Stamp}
use Rattle.sc_item.specs.declared.times.Stamp.TheVariants.{Missing, Null, At, Other}
use Rattle.sc_item.specs.declared.times.Times.{Times}
use Rattle.sc_item.specs.Words.{datetime_name, start_name, end_name}

abbrev pub stamp_of_reading : Result ℤ TimeFault → Stamp
stamp_of_reading (Ok at) = At at
stamp_of_reading (Err fault) = Other

abbrev pub stamp_in : Json-F Json Member → Stamp
stamp_in layer.Null = Null
stamp_in (layer.Truth b) = Other
stamp_in (layer.Number n) = Other
stamp_in (layer.Text t) = stamp_of_reading (instant_reading t)
stamp_in (layer.List vs) = Other
stamp_in (layer.Object ms) = Other

-- a value: null, the instant that a text names, or anything else
unfoldable pub stamp_of_value : Json → Stamp
stamp_of_value value = stamp_in (out-Json value)

abbrev pub stamp_of : Option Json → Stamp
stamp_of None = Missing
stamp_of (Some value) = stamp_of_value value

-- there, and not null
abbrev pub is_given : Stamp → Bool
is_given Missing = false
is_given Null = false
is_given (At at) = true
is_given Other = true

-- a start and an end, where both are instants and the start isn't later
abbrev pub times_of_pair : Stamp → Stamp → Option Times
times_of_pair (At start) (At end) = if int_le start end then Some (record { start = start; end = end }) else None
times_of_pair Missing end = None
times_of_pair Null end = None
times_of_pair Other end = None
times_of_pair (At start) Missing = None
times_of_pair (At start) Null = None
times_of_pair (At start) Other = None

-- `datetime`, `start_datetime` and `end_datetime`: the pair counts where both of it are given, else `datetime` is both.
-- `datetime` has to be there in any case, as an instant or null; where it is null, there must be the pair.
unfoldable pub times_of : Stamp → Stamp → Stamp → Option Times
times_of Missing start end = None
times_of Other start end = None
times_of Null start end = times_of_pair start end
times_of (At at) start end =
    if is_given start && is_given end then times_of_pair start end else Some (record { start = at; end = at })

-- the time that the properties tell; none where they tell none
unfoldable pub times_in : Json → Option Times
times_in properties =
    times_of (stamp_of (member_value properties datetime_name)) (stamp_of (member_value properties start_name)) (stamp_of (member_value properties end_name))
