use Rattle.std.proofs.Common.{◌≡◌, take, true}
use Rattle.std.specs.List.{list_all}
use Rattle.sc_json.specs.Machine.{is_blank_byte}
use Rattle.sc_json.proofs.runs.blank_len.Given as goal

abbrev pub invariant-loop-i : goal.invariant-loop-i
invariant-loop-i l = list_all is_blank_byte (take l.i l.bytes) ≡ true
