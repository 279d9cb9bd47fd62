use Rattle.std.proofs.Common.{◌≡◌, take, true}
use Rattle.std.specs.List.{list_all}
use Rattle.sc_json.specs.Pieces.{is_plain_byte}
use Rattle.sc_json.proofs.runs.plain_len.Given as goal

abbrev pub invariant-loop-i : goal.invariant-loop-i
invariant-loop-i l = list_all is_plain_byte (take l.i l.bytes) ≡ true
