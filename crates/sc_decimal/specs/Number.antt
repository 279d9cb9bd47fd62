-- Decimal numbers: what they stand for, their order, and the one form that each is kept in.
use Rattle.std.specs.Prelude.{◌≡◌, ℕ, ◌*◌, ◌%◌, ◌^◌, ◌<◌, nat_lt, if◌then◌else◌, ℤ, pos, negsuc, suc, ◌-ℤ◌, neg_ℤ, ◌≤ℤ◌, Bool, true, false, Option, Some, None}
use Rattle.std.specs.declared.cmp.Ordering.{Ordering}
use Rattle.std.specs.declared.cmp.Ordering.TheVariants.{Equal}
use Rattle.std.specs.Ordering.{int_cmp}
use Rattle.std.specs.Cmp.{IsTotalOrder, on_total, int_cmp_total}
use Rattle.std.specs.Int.{int_min}

-- `m` times ten to the power `e`, negated where `neg`
pub record Number : Type 0 where
  pub neg : Bool
  pub m : ℕ
  pub e : ℤ

-- a sign and a magnitude as one whole number
abbrev pub signed : Bool → ℕ → ℤ
signed false n = pos n
signed true n = neg_ℤ (pos n)

-- a whole number that isn't negative
abbrev pub size_of : ℤ → ℕ
size_of (pos n) = n
size_of (negsuc n) = 0

-- how far an exponent lies above another; 0 where it doesn't
abbrev pub above : ℤ → ℤ → ℕ
above e l = size_of (e -ℤ l)

-- a number's magnitude, counted in ten to the power `l`: whole where `l` isn't above its exponent
abbrev pub counted_in : ℤ → Number → ℕ
counted_in l n = n.m * 10 ^ above n.e l

-- the number itself, counted so
abbrev pub number_in : ℤ → Number → ℤ
number_in l n = signed n.neg (counted_in l n)

abbrev pub lesser_exponent : Number → Number → ℤ
lesser_exponent a b = int_min a.e b.e

-- the order of two numbers: of the whole numbers that both become, multiplied by ten to minus the lesser exponent
unfoldable pub order_of : Number → Number → Ordering
order_of a b = int_cmp (number_in (lesser_exponent a b) a) (number_in (lesser_exponent a b) b)

-- the least exponent
abbrev pub least_exponent : ℤ
least_exponent = negsuc 5999

-- the same order, with one unit for all
unfoldable pub in_least : Number → ℤ
in_least n = number_in least_exponent n

abbrev pub dec_cmp : Number → Number → Ordering
dec_cmp a b = int_cmp (in_least a) (in_least b)

pub dec_cmp_total : IsTotalOrder dec_cmp
dec_cmp_total = on_total in_least int_cmp_total

abbrev pub zero_number : Number
zero_number = record { neg = false; m = 0; e = pos 0 }

-- one form for each number: the digits don't end in a 0, and zero is 0 times ten to the power 0, without a sign
pub record IsNormal (n : Number) : Type 0 where
  pub trimmed : n.m % 10 ≡ 0 → n ≡ zero_number

-- at most 34 digits, and an exponent from -6000 to 6000
pub record IsNarrow (n : Number) : Type 0 where
  pub digits : n.m < 10 ^ 34
  pub low : least_exponent ≤ℤ n.e
  pub high : n.e ≤ℤ pos 6000

-- the numbers that are kept
pub record IsDec (n : Number) : Type 0 where
  pub normal : IsNormal n
  pub narrow : IsNarrow n

-- what is kept of any number: the equal one; none where no kept number is equal
abbrev pub IsKept : Number → Option Number → Type 0
IsKept n (Some d) = IsDec d × (order_of d n ≡ Equal)
IsKept n None = (d : Number) → IsDec d → order_of d n ≡ Equal → ⊥

-- a whole number
abbrev pub integer : ℤ → Number
integer (pos n) = record { neg = false; m = n; e = pos 0 }
integer (negsuc n) = record { neg = true; m = suc n; e = pos 0 }

-- `m` times ten to the power `e` as a whole number, where it is one of a magnitude below 2^127: a negative exponent
-- leaves a fraction, since the digits of a kept number don't end in a 0
abbrev pub whole_of : Bool → ℕ → ℤ → Option ℤ
whole_of neg m (pos e) = if nat_lt (m * 10 ^ e) (2 ^ 127) then Some (signed neg (m * 10 ^ e)) else None
whole_of neg m (negsuc e) = None

abbrev pub integer_of : Number → Option ℤ
integer_of n = whole_of n.neg n.m n.e
