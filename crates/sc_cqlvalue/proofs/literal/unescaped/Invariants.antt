use Rattle.std.proofs.Common.{length, ◌-◌, ◌≡◌, ◌++◌, ◌≤◌, drop}
use Rattle.sc_cqlvalue.specs.Literals as literals
use Rattle.sc_cqlvalue.proofs.literal.unescaped.Given as goal

abbrev pub invariant-loop-at : goal.invariant-loop-at
invariant-loop-at l = record {
  within : l.at ≤ length l.bytes;
  done : l.plain.items ++ literals.unescaped l.quote l.mark (drop l.at l.bytes) ≡ literals.unescaped l.quote l.mark l.bytes;
}

abbrev pub decreases-loop-at : goal.decreases-loop-at
decreases-loop-at l = length l.bytes - l.at
