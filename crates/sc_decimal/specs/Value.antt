-- The number that a text is.
use Rattle.std.specs.Prelude.{◌≡◌, ℕ, ◌^◌, ℤ, pos, negsuc, ◌+ℤ◌, ◌-ℤ◌, nat_lt, ◌&&◌, not, int_le, List, Bool, true, false, ◌==◌, if◌then◌else◌, Option, Some, None, Result, Ok, Err}
use Rattle.std.specs.Option.{option_map_or}
use Rattle.sc_decimal.specs.Number.{Number}
use Rattle.sc_decimal.specs.declared.number.NumFault.{NumFault}
use Rattle.sc_decimal.specs.declared.number.NumFault.TheVariants.{NotANumber, NumberTooWide}
use Rattle.sc_decimal.specs.Digits.{Seen, seen_of}

abbrev pub exponent_of : Bool → ℕ → ℕ → ℕ → ℤ
exponent_of below power zeros places = if below then pos zeros -ℤ pos places -ℤ pos power else pos power +ℤ pos zeros -ℤ pos places

abbrev pub exponent : Seen → ℤ
exponent s = exponent_of s.below s.power s.digits.zeros s.places

-- normal: zero is 0, and else the digits don't end with a zero
abbrev pub normal : Seen → Number
normal s = if s.digits.m == 0 then record { neg = false; m = 0; e = pos 0 } else record { neg = s.neg; m = s.digits.m; e = exponent s }

abbrev pub is_narrow : Number → Bool
is_narrow d = nat_lt d.m (10 ^ 34) && int_le (negsuc 5999) d.e && int_le d.e (pos 6000)

-- whether the text is a number
unfoldable pub is_number : List ℕ → Bool
is_number text = option_map_or (λ s. true) (seen_of text) false

-- which number the text is
unfoldable pub number_of : List ℕ → Number
number_of text = option_map_or normal (seen_of text) (record { neg = false; m = 0; e = pos 0 })

-- whether the text is a number of more than 34 digits, or whose exponent is out of range
unfoldable pub is_wide : List ℕ → Bool
is_wide text = option_map_or (λ s. not (is_narrow (normal s))) (seen_of text) false

-- what is answered of a number in its normal form
abbrev pub AnswersNumber : Number → Result Number NumFault → Type 0
AnswersNumber n (Ok d) = (d ≡ n) × (is_narrow n ≡ true)
AnswersNumber n (Err NumberTooWide) = is_narrow n ≡ false
AnswersNumber n (Err NotANumber) = ⊥

-- what reading answers by what was seen
abbrev pub AnswersSeen : Option Seen → Result Number NumFault → Type 0
AnswersSeen None r = r ≡ Err NotANumber
AnswersSeen (Some s) r = AnswersNumber (normal s) r

-- what reading answers
abbrev pub Answers : List ℕ → Result Number NumFault → Type 0
Answers text (Ok d) = (is_number text ≡ true) × (d ≡ number_of text) × (is_wide text ≡ false)
Answers text (Err NumberTooWide) = is_wide text ≡ true
Answers text (Err NotANumber) = (is_number text ≡ false) × (is_wide text ≡ false)
