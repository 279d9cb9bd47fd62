use Rattle.std.proofs.Common.{◌≡◌, take, Some}
use Rattle.sc_json.specs.Numbers.{parts_on}
use Rattle.sc_json.proofs.runs.number_len.Given as goal

abbrev pub invariant-loop-i : goal.invariant-loop-i
invariant-loop-i l = parts_on l.fn.part (take l.i l.bytes) ≡ Some l.last
