use Rattle.std.proofs.Common.{length, arith}
use Rattle.std.proofs.lemmas.List.{length-take}
use Rattle.std.proofs.Math.Nat.{le_refl}
use Rattle.sc_journal.specs.Recorded.{bytes, changes}
use Rattle.sc_journal.proofs.Remembered.{gains_kept, torn_front, crash_front}
use Rattle.sc_journal.proofs.mem_disk.MemDiskDisk.write_at.Goals as goal

pub returns-then-is_err-clause-since : goal.returns-then-is_err-clause-since
returns-then-is_err-clause-since c = λ t.
    gains_kept (changes c.args.self.now.recorded) (changes c.reserve.new.self) (bytes c.args.self.now.recorded) (bytes c.reserve.new.self) c.reserve.ensures.changes c.reserve.ensures.bytes

pub returns-else-is_err-clause-crash : goal.returns-else-is_err-clause-crash
returns-else-is_err-clause-crash c = λ t.
    crash_front (changes c.args.self.now.recorded) (changes c.reserve.new.self) (changes c.write.new.self) c.args.at (length c.args.bytes.now) (length c.args.bytes.now)
    (bytes c.args.self.now.recorded) (bytes c.reserve.new.self) (bytes c.write.new.self) c.reserve.ensures.changes c.reserve.ensures.bytes c.write.ensures.changes (le_refl (length c.args.bytes.now)) c.write.ensures.written.torn

pub returns-then-is_ok-clause-reads : goal.returns-then-is_ok-clause-reads
returns-then-is_ok-clause-reads c = λ t.
    torn_front c.args.at _ (length c.args.bytes.now) (bytes c.args.self.now.recorded) (bytes c.reserve-in-Err.new.self) (bytes c.write-then-is_ok.new.self) c.reserve-in-Err.ensures.bytes (omega (arith, length-take c.min.result c.args.bytes.now)) c.write-then-is_ok.ensures.written.torn

pub returns-then-is_ok-clause-crash : goal.returns-then-is_ok-clause-crash
returns-then-is_ok-clause-crash c = λ t.
    crash_front (changes c.args.self.now.recorded) (changes c.reserve-in-Err.new.self) (changes c.write-then-is_ok.new.self) c.args.at _ (length c.args.bytes.now)
    (bytes c.args.self.now.recorded) (bytes c.reserve-in-Err.new.self) (bytes c.write-then-is_ok.new.self) c.reserve-in-Err.ensures.changes c.reserve-in-Err.ensures.bytes c.write-then-is_ok.ensures.changes (omega (arith, length-take c.min.result c.args.bytes.now)) c.write-then-is_ok.ensures.written.torn

pub returns-else-is_ok-clause-since : goal.returns-else-is_ok-clause-since
returns-else-is_ok-clause-since c = λ t.
    gains_kept (changes c.args.self.now.recorded) (changes c.reserve-in-Err.new.self) (bytes c.args.self.now.recorded) (bytes c.reserve-in-Err.new.self) c.reserve-in-Err.ensures.changes c.reserve-in-Err.ensures.bytes
