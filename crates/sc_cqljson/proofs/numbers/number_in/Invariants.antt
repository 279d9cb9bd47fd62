use Rattle.std.proofs.Common.{◌≡◌, ℕ, drop}
use Rattle.sc_expr.specs.Filter.{in_bits}
use Rattle.sc_cqljson.specs.Heads.{number_from}
use Rattle.sc_cqljson.proofs.numbers.number_in.Given as goal

abbrev pub invariant-loop-member : goal.invariant-loop-member
invariant-loop-member l = (number : ℕ) × (l.number ≡ in_bits 64 number) × (number_from number (drop l.member-index l.members) l.name ≡ number_from 1 l.members l.name)
