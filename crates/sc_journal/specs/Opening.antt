-- What opening a journal finds, and why one isn't opened.
use Rattle.std.specs.Prelude.{◌≡◌, ℕ, ◌≤◌, List, length, true, false, Result, IfErr, ⊤}
use Rattle.sc_outside.specs.Causes.{Rose}
use Rattle.sc_journal.specs.Format.{frames, AllFit, HasRecords, IsBroken, IsClosed}
use Rattle.sc_journal.specs.Journal.{Holds}
use Rattle.sc_journal.specs.declared.journal.Journal.{Journal}
use Rattle.sc_journal.specs.declared.reading.Found.{Found}
use Rattle.sc_journal.specs.declared.fault.OpenFault.{OpenFault}
use Rattle.sc_journal.specs.declared.fault.OpenFault.TheVariants.{DiskFault, BadRecord, OutOfMemory}

-- a bad record is the one after the records before it
abbrev pub IsBad : OpenFault → ℕ → Type 0
IsBad DiskFault before = before ≡ 0
IsBad (BadRecord n) before = n ≡ before
IsBad OutOfMemory before = before ≡ 0

-- Until a file was read, no record is bad: a disk fault comes only where the count of faults rose, and else memory was wanting.
abbrev pub CameSo : OpenFault → ℕ → ℕ → Type 0
CameSo DiskFault before now = Rose before now
CameSo (BadRecord n) before now = ⊥
CameSo OutOfMemory before now = ⊤

pub record Faulted {T : Type 0} (result : Result T OpenFault) (before now : ℕ) : Type 0 where
  pub later : before ≤ now
  pub cause : IfErr result (λ fault. CameSo fault before now)

-- The records of a file were taken. Where it is whole, the gate behind them stands closed in each file that a crash may leave.
pub record IsFound {T : Type 0} (took : T → List (List ℕ) → Type 0) (taker : T) (found : Found) (told : Type 0) (file : List ℕ) (may_leave : List ℕ → Type 0) : Type 0 where
  pub records : List (List ℕ)
  pub taken : took taker records
  pub place_is : found.place ≡ length (frames records)
  pub count_is : found.count ≡ length records
  pub fits : AllFit records
  pub has : told → found.whole ≡ true → HasRecords file records
  pub closed : told → found.whole ≡ true → (left : List ℕ) → may_leave left → IsClosed records left
  pub broken : told → found.whole ≡ false → IsBroken file records

-- the records of a disk's file were taken, and the journal holds them
pub record IsOpened {D T : Type 0} (tells : D → Type 0) (reads : D → List ℕ) (may_leave : D → List ℕ → Type 0) (took : T → List (List ℕ) → Type 0) (disk : D) (taker : T) (journal : Journal D) : Type 0 where
  pub records : List (List ℕ)
  pub taken : took taker records
  pub has : tells journal.disk → HasRecords (reads disk) records
  pub holds : (next : List ℕ) → Holds tells may_leave journal records next

-- the records before a bad one were taken, which has this number
pub record StopsAt {D T : Type 0} (tells : D → Type 0) (reads : D → List ℕ) (took : T → List (List ℕ) → Type 0) (old : D) (taker : T) (n : ℕ) (new : D) : Type 0 where
  pub records : List (List ℕ)
  pub taken : took taker records
  pub count_is : n ≡ length records
  pub broken : tells new → IsBroken (reads old) records
