use Rattle.std.proofs.Common.{arith}
use Rattle.std.proofs.lemmas.Int.{ints}
use Rattle.sc_decimal.proofs.reading.with_exponent.Goals as goal

pub new-requires : goal.new-requires
new-requires c = record {
  normal = record { trimmed = λ h. absurd (c.requires.trimmed h) };
  narrow = record { digits = c.requires.digits; low = grind (arith, ints); high = grind (arith, ints) };
}
