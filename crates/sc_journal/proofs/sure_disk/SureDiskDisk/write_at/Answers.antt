use Rattle.std.proofs.Common.{length, refl}
use Rattle.std.proofs.Math.Nat.{le_refl}
use Rattle.sc_journal.specs.Recorded.{bytes, changes}
use Rattle.sc_journal.proofs.Remembered.{crash_front}
use Rattle.sc_journal.proofs.sure_disk.SureDiskDisk.write_at.Goals as goal

pub returns-then-has_room-clause-crash : goal.returns-then-has_room-clause-crash
returns-then-has_room-clause-crash c = λ t.
    crash_front (changes c.args.self.now.recorded) (changes c.args.self.now.recorded) (changes c.write.new.self) c.args.at (length c.args.bytes.now) (length c.args.bytes.now)
    (bytes c.args.self.now.recorded) (bytes c.args.self.now.recorded) (bytes c.write.new.self) refl refl c.write.ensures.changes (le_refl (length c.args.bytes.now)) c.write.ensures.written.torn
