use Rattle.std.proofs.Common.{◌≡◌, ◌-◌, ◌≤◌, length, take, drop}
use Rattle.sc_journal.specs.Disk.{Observed}
use Rattle.sc_journal.proofs.reading.fill.Given as goal

abbrev pub invariant-filling : goal.invariant-filling
invariant-filling g l = record {
  within : l.filled ≤ length l.buf;
  length_is : length l.buf ≡ length l.fn.buf;
  bytes : g.D.Disk.tells l.disk → take l.filled l.buf ≡ take l.filled (drop l.at (g.D.Disk.reads l.fn.disk));
  observed : Observed g.D.Disk.tells g.D.Disk.reads g.D.Disk.may_leave g.D.Disk.clock g.D.Disk.left_since l.fn.disk l.disk;
  later : g.D.Disk.faults l.fn.disk ≤ g.D.Disk.faults l.disk;
}

abbrev pub decreases-filling : goal.decreases-filling
decreases-filling g l = length l.buf - l.filled
