use Rattle.std.proofs.Common.{◌≡◌, ◌≤◌, min, drop}
use Rattle.sc_words.specs.Asks.{number_behind}
use Rattle.sc_words.proofs.number.capped.Given as goal

abbrev pub invariant-loop-digit : goal.invariant-loop-digit
invariant-loop-digit l = record {
  small : l.number ≤ l.most;
  ahead : min (number_behind l.number (drop l.digit-index l.digits)) l.most ≡ min (number_behind 0 l.digits) l.most;
}
