-- What the reader keeps of a number, and what it stands for.
use Rattle.std.specs.Prelude.{◌≡◌, ℕ, ◌<◌, ◌≤◌, ◌^◌, ◌%◌, Option, Some, None, min}
use Rattle.sc_decimal.specs.declared.scan.Front.{Front}
use Rattle.sc_decimal.specs.declared.reading.Scan.{Scan}
use Rattle.sc_decimal.specs.Digits.{Digits, Seen}

-- the digits as they are, while they are below 10 ^ 34; they don't end in a zero
pub record StandsFor (front : Front) (digits : Digits) : Type 0 where
  pub m_is : front.m ≡ digits.m
  pub zeros_is : front.zeros ≡ digits.zeros
  pub few : digits.m < 10 ^ 34
  pub trimmed : front.m % 10 ≡ 0 → front.m ≡ 0

abbrev pub Stands : Option Front → Digits → Type 0
Stands None digits = 10 ^ 34 ≤ digits.m
Stands (Some front) digits = StandsFor front digits

-- the exponent up to 2 ^ 80
abbrev pub StandsPower : ℕ → ℕ → Type 0
StandsPower power whole = power ≡ min whole (2 ^ 80)

-- what is kept of what was seen of this many bytes
pub record Keeps (scan : Scan) (seen : Seen) (n : ℕ) : Type 0 where
  pub form_is : scan.form ≡ seen.form
  pub neg_is : scan.neg ≡ seen.neg
  pub front : Stands scan.front seen.digits
  pub places_is : scan.places ≡ seen.places
  pub below_is : scan.below ≡ seen.below
  pub power : StandsPower scan.power seen.power
  pub few_zeros : seen.digits.zeros ≤ n
  pub few_places : seen.places ≤ n

abbrev pub KeepsNext : Option Scan → Option Seen → ℕ → Type 0
KeepsNext None None n = Unit {0}
KeepsNext (Some scan) (Some seen) n = Keeps scan seen n
KeepsNext _ _ n = ⊥
