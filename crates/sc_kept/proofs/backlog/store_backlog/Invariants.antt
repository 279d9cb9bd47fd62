use Rattle.std.proofs.Common.{◌≡◌, ◌+◌, ◌≤◌, ℕ, List, length}
use Rattle.sc_journal.specs.Disk.{LeavesOnly}
use Rattle.sc_journal.specs.Format.{frames}
use Rattle.sc_kept.specs.Keeping.{HasSomeOf, IsBehind, IsStoredOn}
use Rattle.sc_kept.proofs.backlog.store_backlog.Given as goal

abbrev pub invariant-storing : goal.invariant-storing
invariant-storing g l = record {
  stored : (stored : List (List ℕ)) → IsBehind g.D.Disk.tells g.D.Disk.may_leave l.fn.journal stored l.fn.backlog.items → IsStoredOn g.D.Disk.tells g.D.Disk.may_leave stored l.fn.backlog.items l.journal l.backlog.items;
  any_moment : (stored : List (List ℕ)) → IsBehind g.D.Disk.tells g.D.Disk.may_leave l.fn.journal stored l.fn.backlog.items → g.D.Disk.tells l.journal.disk →
      LeavesOnly g.D.Disk.clock g.D.Disk.left_since l.fn.journal.disk l.journal.disk (HasSomeOf stored l.fn.backlog.items);
  size : l.journal.place + length (frames l.backlog.items) ≡ l.fn.journal.place + length (frames l.fn.backlog.items);
  told : g.D.Disk.tells l.journal.disk → g.D.Disk.tells l.fn.journal.disk;
  clock : g.D.Disk.clock l.fn.journal.disk ≤ g.D.Disk.clock l.journal.disk;
  faults : g.D.Disk.faults l.fn.journal.disk ≤ g.D.Disk.faults l.journal.disk;
}

abbrev pub decreases-storing : goal.decreases-storing
decreases-storing g l = length l.backlog.items
