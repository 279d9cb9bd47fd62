use Rattle.std.proofs.Common.{◌-◌, ◌≤◌, List, length}
use Rattle.sc_grammar.specs.declared.token.Token.{Token}
use Rattle.sc_cqlread.specs.Tokens.{AreTokensFrom}
use Rattle.sc_cqlread.proofs.Scanning.{Rest}
use Rattle.sc_cqlread.proofs.nesting.nests_too_deep.Given as goal

abbrev pub invariant-loop-token : goal.invariant-loop-token
invariant-loop-token l = record {
  within : l.at ≤ length l.text;
  low : l.level ≤ 64;
  left : (tokens : List Token) → AreTokensFrom l.text l.is_whole l.fn.place tokens → Rest l.text l.is_whole l.fn.before tokens l.at l.level;
}

abbrev pub decreases-loop-token : goal.decreases-loop-token
decreases-loop-token l = length l.text - l.at
