-- The texts of numbers, and which number each is. RFC 8259 section 6 is a part of this grammar.
use Rattle.std.specs.Prelude.{◌≡◌, ℕ, List, [], ◌∷◌, ◌++◌, length, ℤ, pos, ◌-ℤ◌, Bool, true, false, ◌⊎◌, Result, Ok, Err}
use Rattle.std.specs.declared.cmp.Ordering.TheVariants.{Equal}
use Rattle.std.specs.Str.Parse.{digits_value}
use Rattle.sc_decimal.specs.Digits.{is_digit}
use Rattle.sc_decimal.specs.Number.{Number, signed, order_of, IsNormal, IsNarrow}
use Rattle.sc_decimal.specs.declared.number.NumFault.{NumFault}
use Rattle.sc_decimal.specs.declared.number.NumFault.TheVariants.{NotANumber, NumberTooWide}

-- digits, perhaps none
abbrev pub AreDigits : List ℕ → Type 0
AreDigits [] = Unit {0}
AreDigits (b ∷ bs) = (is_digit b ≡ true) × AreDigits bs

-- one digit or more
abbrev pub IsRow : List ℕ → Type 0
IsRow [] = ⊥
IsRow (b ∷ bs) = (is_digit b ≡ true) × AreDigits bs

-- a sign or none, and whether it negates
pub data Sign : List ℕ → Bool → Type 0 where
  no_sign : Sign [] false
  plus : Sign (43 ∷ []) false
  minus : Sign (45 ∷ []) true

-- digits with a point or without, the digits alone, and how many stand behind the point
pub data Mantissa : List ℕ → List ℕ → ℕ → Type 0 where
  whole : (ds : List ℕ) → IsRow ds → Mantissa ds ds 0
  mixed : (ds fs : List ℕ) → IsRow ds → IsRow fs → Mantissa (ds ++ 46 ∷ fs) (ds ++ fs) (length fs)
  fraction : (fs : List ℕ) → IsRow fs → Mantissa (46 ∷ fs) fs (length fs)

-- an exponent or none, and its value
pub data Exponent : List ℕ → ℤ → Type 0 where
  no_exponent : Exponent [] (pos 0)
  exponent : (mark : ℕ) (s ds : List ℕ) (neg : Bool) → (mark ≡ 101) ⊎ (mark ≡ 69) → Sign s neg → IsRow ds → Exponent (mark ∷ (s ++ ds)) (signed neg (digits_value 10 ds))

-- the text is a sign, a mantissa and an exponent; the number is the digits times a power of ten, in its one form
pub record IsNumeral (text : List ℕ) (n : Number) : Type 0 where
  pub sign : List ℕ
  pub neg : Bool
  pub is_sign : Sign sign neg
  pub mantissa : List ℕ
  pub digits : List ℕ
  pub places : ℕ
  pub is_mantissa : Mantissa mantissa digits places
  pub power : List ℕ
  pub e : ℤ
  pub is_exponent : Exponent power e
  pub text_is : text ≡ sign ++ (mantissa ++ power)
  pub is_normal : IsNormal n
  pub is_value : order_of n (record { neg = neg; m = digits_value 10 digits; e = e -ℤ pos places }) ≡ Equal

-- what reading answers
abbrev pub Reads : List ℕ → Result Number NumFault → Type 0
Reads text (Ok n) = IsNumeral text n × IsNarrow n
Reads text (Err NumberTooWide) = (n : Number) × IsNumeral text n × ¬ (IsNarrow n)
Reads text (Err NotANumber) = (n : Number) → IsNumeral text n → ⊥
