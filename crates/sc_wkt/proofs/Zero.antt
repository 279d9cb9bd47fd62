-- Zero is kept as zero.
use Rattle.std.proofs.Common.{◌≡◌, pos, Option, Some, None, refl, ap, ◌∙◌, arith}
use Rattle.std.proofs.lemmas.Int.{ints}
use Rattle.std.specs.declared.cmp.Ordering.TheVariants.{Equal}
use Rattle.sc_decimal.specs.Number.{Number, IsDec, IsKept, integer, order_of, zero_number}
use Rattle.sc_decimal.proofs.Order.{equal_same, orders_same}

zero_dec : IsDec zero_number
zero_dec = record { normal = record { trimmed = λ e. refl }; narrow = record { digits = omega arith; low = omega (arith, ints); high = omega (arith, ints) } }

zero_equal : order_of zero_number zero_number ≡ Equal
unfolding order_of
zero_equal = refl

pub zero_kept : (kept : Option Number) → IsKept (integer (pos 0)) kept → kept ≡ Some zero_number
zero_kept (Some d) h = ap (λ (n : Number). Some n) (equal_same d zero_number h.0 zero_dec (orders_same d zero_number h.0.narrow.low zero_dec.narrow.low ∙ h.1))
zero_kept None h = absurd (h zero_number zero_dec zero_equal)
