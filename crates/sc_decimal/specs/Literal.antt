-- The canonical literal of a number: `-` where it is negative, its digits, and `E` and its exponent where that isn't 0.
use Rattle.std.specs.Prelude.{ℕ, zero, suc, List, [], ◌∷◌, ◌++◌, ℤ, pos, negsuc}
use Rattle.std.specs.Fmt.{decimal, signed_decimal, sign_text}
use Rattle.sc_decimal.specs.Number.{Number}

abbrev pub power_text : ℤ → List ℕ
power_text (pos zero) = []
power_text (pos (suc n)) = 69 ∷ signed_decimal (pos (suc n))
power_text (negsuc n) = 69 ∷ signed_decimal (negsuc n)

unfoldable pub literal_of : Number → List ℕ
literal_of n = sign_text n.neg ++ (decimal n.m ++ power_text n.e)
