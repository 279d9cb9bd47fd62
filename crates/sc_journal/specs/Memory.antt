-- What disks in memory tell.
use Rattle.std.specs.Prelude.{ℕ, Bool, List}
use Rattle.sc_journal.specs.Images.{Change}
use Rattle.sc_journal.specs.Recorded.{bytes, changes}
use Rattle.sc_journal.specs.declared.mem_disk.MemDisk.{MemDisk}
use Rattle.sc_journal.specs.declared.sure_disk.SureDisk.{SureDisk}

-- the bytes that reads give
abbrev pub disk_bytes : MemDisk → List ℕ
disk_bytes d = bytes d.recorded

-- what changed it, the newest first
abbrev pub disk_changes : MemDisk → List Change
disk_changes d = changes d.recorded

-- the numbers of the calls that fail
abbrev pub disk_failing : MemDisk → List ℕ
disk_failing d = d.failing.to_fail.items

-- the number of the next call
abbrev pub disk_calls : MemDisk → ℕ
disk_calls d = d.failing.calls

abbrev pub disk_faults : MemDisk → ℕ
disk_faults d = d.failing.faults

-- how many bytes a write that is to fail writes at most
abbrev pub disk_torn : MemDisk → ℕ
disk_torn d = d.torn

abbrev pub sure_bytes : SureDisk → List ℕ
sure_bytes d = bytes d.recorded

abbrev pub sure_changes : SureDisk → List Change
sure_changes d = changes d.recorded

-- a call went past the room
abbrev pub sure_full : SureDisk → Bool
sure_full d = d.full
