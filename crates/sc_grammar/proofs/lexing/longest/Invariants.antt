use Rattle.std.proofs.Common.{◌≡◌, ◌≤◌, drop}
use Rattle.std.specs.Prelude.{IfSome}
use Rattle.sc_grammar.specs.Lexing.{longest, longest_from}
use Rattle.sc_grammar.proofs.lexing.longest.Given as goal

-- what is left goes on as all of it
abbrev pub invariant-loop-i : goal.invariant-loop-i
invariant-loop-i l = record {
  same : longest_from (drop l.i l.bytes) l.part l.i l.best ≡ longest l.bytes;
  within : IfSome l.best (λ found. found.1 ≤ l.i);
}
