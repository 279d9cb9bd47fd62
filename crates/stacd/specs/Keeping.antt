-- What a run of a server does whose loads are stored in a journal.
use Rattle.std.specs.Prelude.{◌≡◌, ℕ, Bool, true, false, List, [], Some}
use Rattle.std.specs.declared.option.Option.{Option}
use Rattle.std.specs.Io.KnownBytes.{Appends, Keeps}
use Rattle.sc_outside.specs.Causes.{Rose}
use Rattle.sc_outside.specs.Outside.{AppendsFront}
use Rattle.sc_journal.specs.Format.{HasRecords}
use Rattle.sc_catalog.specs.declared.entry.Entry.{Entry}
use Rattle.sc_kept.specs.Keeping.{Keeping, IsStoredTo, IsSure}
use Rattle.sc_kept.specs.Replaying.{AreRecordsOf, IsBadFile}
use Rattle.sc_keep.specs.Turns.{kept_api}
use Rattle.sc_server.specs.Keepers.{IsKeptServed}
use Rattle.stacd.specs.Serving.{IsLineOf}
use Rattle.stacd.specs.declared.keeping.KeepEnd.{KeepEnd}
use Rattle.stacd.specs.declared.keeping.KeepEnd.TheVariants.{Done, ListenFault, BadRecord, WriteFault, DiskFault, OutOfMemory}

abbrev pub status_of_keeping : KeepEnd → ℕ
status_of_keeping Done = 0
status_of_keeping (BadRecord n) = 3
status_of_keeping WriteFault = 5
status_of_keeping OutOfMemory = 6
status_of_keeping ListenFault = 7
status_of_keeping DiskFault = 8

-- a disk that is there failed, and is there still
pub record HasFailedDisk {D : Type 0} (disk_faults : D → ℕ) (disk disk' : Option D) : Type 0 where
  pub before : D
  pub after : D
  pub was : disk ≡ Some before
  pub is : disk' ≡ Some after
  pub rose : Rose (disk_faults before) (disk_faults after)

module _ {D : Type 0} (tells : D → Type 0) (reads : D → List ℕ) where
  -- The journal of a disk was opened: where the disk tells, each record is a load of the history, once and in its order, and there are no other loads. None waits to
  -- be stored.
  pub record IsOpened (disk : Option D) (kept : Keeping D) : Type 0 where
    pub before : D
    pub was : disk ≡ Some before
    pub history : tells kept.journal.disk → (records : List (List ℕ)) × HasRecords (reads before) records × AreRecordsOf kept.catalogue.entries records
    pub stored : kept.backlog ≡ []

  -- the record of this number is the first that is bad, where the disk tells, and the disk is there still
  pub record IsBadDisk (n : ℕ) (disk disk' : Option D) : Type 0 where
    pub before : D
    pub after : D
    pub was : disk ≡ Some before
    pub is : disk' ≡ Some after
    pub bad : tells after → IsBadFile (reads before) n

  -- why the journal of a disk isn't opened; want of memory says nothing
  abbrev pub IsRefused : (D → ℕ) → KeepEnd → Option D → Option D → Type 0
  IsRefused disk_faults (BadRecord n) disk disk' = IsBadDisk n disk disk'
  IsRefused disk_faults DiskFault disk disk' = HasFailedDisk disk_faults disk disk'
  IsRefused disk_faults OutOfMemory disk disk' = Unit {0}
  IsRefused disk_faults Done disk disk' = ⊥
  IsRefused disk_faults ListenFault disk disk' = ⊥
  IsRefused disk_faults WriteFault disk disk' = ⊥

-- What a kept catalogue leaves on its disk: the first loads of the history are stored, and over a disk of a type that never fails all of them.
pub record IsLeft {D : Type 0} (tells : D → Type 0) (may_leave : D → List ℕ → Type 0) (disk_faults : D → ℕ) (kept : Keeping D) (disk' : Option D) : Type 0 where
  pub stored : IsStoredTo tells may_leave kept.catalogue.entries kept.journal kept.backlog
  pub sure : IsSure disk_faults → kept.backlog ≡ []
  pub is : disk' ≡ Some kept.journal.disk

module _ {In Out N D : Type 0} (left : In → Option (List ℕ)) (ended : In → Bool) (faults : In → ℕ) (written : Out → Option (List ℕ)) (write_faults : Out → ℕ) (net_left net_back : N → Option (List (In × Out))) (net_faults : N → ℕ)
    (tells : D → Type 0) (reads : D → List ℕ) (may_leave : D → List ℕ → Type 0) (disk_faults : D → ℕ) where
  -- the journal of the disk was opened, and the listeners were served over the one history that goes on from it
  pub record HasKept (base : List ℕ) (most : ℕ) (nets back : List N) (disk disk' : Option D) (failed : Bool) (history : List Entry) : Type 0 where
    pub begun : Keeping D
    pub kept : Keeping D
    pub opened : IsOpened tells reads disk begun
    pub served : IsKeptServed left ended faults written write_faults (kept_api disk_faults base) net_left net_back net_faults most begun.catalogue.entries nets back failed kept.catalogue.entries
    pub left_as : IsLeft tells may_leave disk_faults kept disk'
    pub history_is : history ≡ kept.catalogue.entries

  -- nothing was served, since the journal wasn't opened
  pub record HasRefused (end : KeepEnd) (nets back : List N) (disk disk' : Option D) (old new : Option (List ℕ)) : Type 0 where
    pub refused : IsRefused tells reads disk_faults end disk disk'
    pub nets_are : back ≡ nets
    pub kept : Keeps old new

  -- how the run ends, and what it leaves of the output
  abbrev pub ServesKept : KeepEnd → List ℕ → ℕ → List N → List N → Option D → Option D → Option (List ℕ) → Option (List ℕ) → Type 0
  ServesKept Done base most nets back disk disk' old new = (history : List Entry) × (line : List ℕ) × HasKept base most nets back disk disk' false history × IsLineOf history line × Appends old new line
  ServesKept ListenFault base most nets back disk disk' old new = (history : List Entry) × (line : List ℕ) × HasKept base most nets back disk disk' true history × IsLineOf history line × Appends old new line
  ServesKept WriteFault base most nets back disk disk' old new =
      (history : List Entry) × (line : List ℕ) × (failed : Bool) × HasKept base most nets back disk disk' failed history × IsLineOf history line × AppendsFront old new line
  ServesKept (BadRecord n) base most nets back disk disk' old new = HasRefused (BadRecord n) nets back disk disk' old new
  ServesKept DiskFault base most nets back disk disk' old new = HasRefused DiskFault nets back disk disk' old new
  ServesKept OutOfMemory base most nets back disk disk' old new = Keeps old new
