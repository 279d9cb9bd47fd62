-- What text is a number, and which number, by the digits in turn.
use Rattle.std.specs.Prelude.{ℕ, ◌+◌, ◌-◌, ◌*◌, ◌^◌, List, [], ◌∷◌, Bool, true, false, ◌&&◌, ◌==◌, nat_le, if◌then◌else◌, Option, Some, None}
use Rattle.std.specs.Option.{option_map_or}
use Rattle.sc_decimal.specs.declared.form.Form.{Form}
use Rattle.sc_decimal.specs.declared.form.Form.TheVariants.{Start, Signed, Whole, Point, Fraction, Mark, MarkSigned, Power}

-- the digits so far without the zeros in front: `m`, with `zeros` zeros behind it
pub record Digits : Type 0 where
  pub m : ℕ
  pub zeros : ℕ

abbrev pub add_digit : Digits → ℕ → Digits
add_digit s d =
    if d == 0 then
    (if s.m == 0 then record { m = 0; zeros = 0 } else record { m = s.m; zeros = s.zeros + 1 })
    else record { m = s.m * 10 ^ (s.zeros + 1) + d; zeros = 0 }

-- what came of a number
pub record Seen : Type 0 where
  pub form : Form
  pub neg : Bool
  pub digits : Digits
  pub places : ℕ
  pub below : Bool
  pub power : ℕ

abbrev pub is_digit : ℕ → Bool
is_digit b = nat_le 48 b && nat_le b 57

abbrev pub in_form : Seen → Form → Seen
in_form s f = record { form = f; neg = s.neg; digits = s.digits; places = s.places; below = s.below; power = s.power }

abbrev pub whole_of : Seen → ℕ → Option Seen
whole_of s b = if is_digit b then Some (record { form = Whole; neg = s.neg; digits = add_digit s.digits (b - 48); places = s.places; below = s.below; power = s.power }) else None

abbrev pub fraction_of : Seen → ℕ → Option Seen
fraction_of s b = if is_digit b then Some (record { form = Fraction; neg = s.neg; digits = add_digit s.digits (b - 48); places = s.places + 1; below = s.below; power = s.power }) else None

abbrev pub power_of : Seen → ℕ → Option Seen
power_of s b = if is_digit b then Some (record { form = Power; neg = s.neg; digits = s.digits; places = s.places; below = s.below; power = s.power * 10 + (b - 48) }) else None

abbrev pub mark_of : Seen → ℕ → Option Seen → Option Seen
mark_of s b other = if b == 101 then Some (in_form s Mark) else (if b == 69 then Some (in_form s Mark) else other)

abbrev pub seen_in : Form → Seen → ℕ → Option Seen
seen_in Start s b =
    if b == 43 then Some (in_form s Signed) else
    (if b == 45 then Some (record { form = Signed; neg = true; digits = s.digits; places = s.places; below = s.below; power = s.power }) else
    (if b == 46 then Some (in_form s Point) else whole_of s b))
seen_in Signed s b = if b == 46 then Some (in_form s Point) else whole_of s b
seen_in Whole s b = if b == 46 then Some (in_form s Point) else mark_of s b (whole_of s b)
seen_in Point s b = fraction_of s b
seen_in Fraction s b = mark_of s b (fraction_of s b)
seen_in Mark s b =
    if b == 43 then Some (in_form s MarkSigned) else
    (if b == 45 then Some (record { form = MarkSigned; neg = s.neg; digits = s.digits; places = s.places; below = true; power = s.power }) else power_of s b)
seen_in MarkSigned s b = power_of s b
seen_in Power s b = power_of s b

unfoldable pub seen_step : Seen → ℕ → Option Seen
seen_step s b = seen_in s.form s b

unfoldable pub seen_from : List ℕ → Seen → Option Seen
seen_from [] s = Some s
seen_from (b ∷ bs) s = option_map_or (seen_from bs) (seen_step s b) None

abbrev pub nothing_seen : Seen
nothing_seen = record { form = Start; neg = false; digits = record { m = 0; zeros = 0 }; places = 0; below = false; power = 0 }

abbrev pub ends_number : Form → Bool
ends_number Whole = true
ends_number Fraction = true
ends_number Power = true
ends_number _ = false

abbrev pub ended_in : Form → Seen → Option Seen
ended_in f s = if ends_number f then Some s else None

abbrev pub whole_seen : Option Seen → Option Seen
whole_seen None = None
whole_seen (Some s) = ended_in s.form s

-- what was seen of a whole number; None for any other text
unfoldable pub seen_of : List ℕ → Option Seen
seen_of text = whole_seen (seen_from text nothing_seen)
