use Rattle.std.proofs.Common.{◌≡◌, take, true}
use Rattle.std.specs.List.{list_all}
use Rattle.sc_cqlwrite.specs.Tokens.{is_other}
use Rattle.sc_cqlwrite.proofs.bytes.plain_len.Given as goal

abbrev pub invariant-loop-i : goal.invariant-loop-i
invariant-loop-i l = list_all (is_other l.quote) (take l.i l.bytes) ≡ true
