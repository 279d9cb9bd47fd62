use Rattle.std.proofs.Common.{◌≡◌, drop}
use Rattle.sc_decimal.specs.Digits.{Seen, seen_from, nothing_seen}
use Rattle.sc_decimal.specs.Stands.{Keeps}
use Rattle.sc_decimal.proofs.reading.read.Given as goal

-- what is left goes on as all of it, from what is kept
abbrev pub invariant-loop-at : goal.invariant-loop-at
invariant-loop-at l = (seen : Seen) × (seen_from (drop l.at l.text) seen ≡ seen_from l.text nothing_seen) × Keeps l.scan seen l.at
