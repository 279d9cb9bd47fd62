use Rattle.std.proofs.Common.{◌≡◌, ◌+◌, drop}
use Rattle.sc_grammar.specs.Lexing.{blank_len}
use Rattle.sc_grammar.proofs.lexing.blank_len.Given as goal

-- what is left has the rest of the white space
abbrev pub invariant-loop-i : goal.invariant-loop-i
invariant-loop-i l = blank_len l.bytes ≡ l.i + blank_len (drop l.i l.bytes)
