use Rattle.std.proofs.Common.{◌≡◌, ◌-◌, ◌≤◌, ◌++◌, max, replicate, vec_len, vec_capacity}
use Rattle.sc_journal.proofs.pieces.pad_within.Given as goal

abbrev pub invariant-padding : goal.invariant-padding
invariant-padding l = record {
  zeros : l.to.items ≡ l.fn.to.items ++ replicate (vec_len l.to - vec_len l.fn.to) 0;
  longer : vec_len l.fn.to ≤ vec_len l.to;
  most : vec_len l.to ≤ max l.size (vec_len l.fn.to);
  capacity : vec_capacity l.fn.to ≤ vec_capacity l.to;
}

abbrev pub decreases-padding : goal.decreases-padding
decreases-padding l = l.size - vec_len l.to
