use Rattle.std.proofs.Common.{◌≡◌, ◌*◌, ◌-◌, ◌<◌, ◌≤◌, length}
use Rattle.sc_journal.specs.Disk.{Observed}
use Rattle.sc_journal.specs.Reading.{TakenTo}
use Rattle.sc_journal.proofs.reading.read_records.Given as goal

abbrev pub invariant-records : goal.invariant-records
invariant-records g l = record {
  within : l.place < l.end;
  few : 9 * l.count ≤ l.place;
  taken : TakenTo g.T.TakeRecords.took l.taker l.place l.count (g.D.Disk.tells l.disk × (l.end ≡ length (g.D.Disk.reads l.fn.disk))) (g.D.Disk.reads l.fn.disk);
  observed : Observed g.D.Disk.tells g.D.Disk.reads g.D.Disk.may_leave g.D.Disk.clock g.D.Disk.left_since l.fn.disk l.disk;
  later : g.D.Disk.faults l.fn.disk ≤ g.D.Disk.faults l.disk;
}

abbrev pub decreases-records : goal.decreases-records
decreases-records g l = l.end - l.place
