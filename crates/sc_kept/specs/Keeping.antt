-- What a kept catalogue is: a catalogue, the journal of its history, and the payloads that aren't stored yet.
use Rattle.std.specs.Prelude.{◌≡◌, ℕ, ◌+◌, ◌≤◌, ◌<◌, ◌^◌, List, [], ◌∷◌, ◌++◌, length, All}
use Rattle.sc_outside.specs.Causes.{Rose}
use Rattle.sc_journal.specs.Format.{frames, HasRecords}
use Rattle.sc_journal.specs.Journal.{Holds}
use Rattle.sc_journal.specs.declared.journal.Journal.{Journal}
use Rattle.sc_journal.specs.declared.journal.LastAppend.TheVariants.{Stored}
use Rattle.sc_load.specs.declared.load.Load.{Load}
use Rattle.sc_history.specs.Changes.{Change}
use Rattle.sc_history.specs.Taken.{Refuses}
use Rattle.sc_catalog.specs.declared.entry.Entry.{Entry}
use Rattle.sc_catalog.specs.declared.entry.Published.{Published}
use Rattle.sc_catalog.specs.Entries.{TellsOf, loads_of}
use Rattle.sc_catalog.specs.Holdings.{Holdings, IsPublished}
use Rattle.sc_kept.specs.Record.{IsSealable, payloads_of}
use Rattle.sc_kept.specs.declared.fault.KeptFault.{KeptFault}
use Rattle.sc_kept.specs.declared.fault.KeptFault.TheVariants.{Refused, NotStored}

-- what contracts see of one; the backlog has the payloads that aren't stored, the oldest first
pub record Keeping (D : Type 0) : Type 0 where
  pub catalogue : Holdings
  pub journal : Journal D
  pub backlog : List (List ℕ)

-- a disk of a type that never fails
abbrev pub IsSure : {D : Type 0} → (D → ℕ) → Type 0
IsSure {D} faults = (disk : D) → faults disk ≡ 0

-- the payload that is to be stored next, if there is one
abbrev pub next_of : List (List ℕ) → List ℕ
next_of [] = []
next_of (next ∷ later) = next

-- A backlog behind what a journal holds: its first payload is the journal's next record. Without a backlog the last append was
-- stored.
pub record IsBehind {D : Type 0} (tells : D → Type 0) (may_leave : D → List ℕ → Type 0) (journal : Journal D) (stored backlog : List (List ℕ)) : Type 0 where
  pub holds : Holds tells may_leave journal stored (next_of backlog)
  pub settled : backlog ≡ [] → journal.last ≡ Stored

-- the first of a backlog are stored, and the rest is behind them
pub record IsStoredOn {D : Type 0} (tells : D → Type 0) (may_leave : D → List ℕ → Type 0) (stored old : List (List ℕ)) (journal : Journal D) (new : List (List ℕ)) : Type 0 where
  pub done : List (List ℕ)
  pub split : old ≡ done ++ new
  pub behind : IsBehind tells may_leave journal (stored ++ done) new

-- The journal holds the payloads of the first entries, and the backlog has those of the rest. No load of the history is refused.
pub record IsStoredTo {D : Type 0} (tells : D → Type 0) (may_leave : D → List ℕ → Type 0) (entries : List Entry) (journal : Journal D) (backlog : List (List ℕ)) : Type 0 where
  pub sealable : All IsSealable entries
  pub past : List Change
  pub told : TellsOf entries past
  pub stored : List (List ℕ)
  pub split : payloads_of entries ≡ stored ++ backlog
  pub behind : IsBehind tells may_leave journal stored backlog

-- what each kept catalogue keeps: over a sure disk there is no backlog, and the whole history has room in a file
pub record IsKeeping {D : Type 0} (tells : D → Type 0) (may_leave : D → List ℕ → Type 0) (faults : D → ℕ) (entries : List Entry) (journal : Journal D) (backlog : List (List ℕ)) (size : ℕ) : Type 0 where
  pub stored_to : IsStoredTo tells may_leave entries journal backlog
  pub sure : IsSure faults → backlog ≡ []
  pub size_is : size ≡ journal.place + length (frames backlog)
  pub small : size < 2 ^ 63

-- a file has these records and the first of a backlog
pub record HasSomeOf (stored backlog : List (List ℕ)) (file : List ℕ) : Type 0 where
  pub done : List (List ℕ)
  pub rest : List (List ℕ)
  pub split : backlog ≡ done ++ rest
  pub has : HasRecords file (stored ++ done)

-- a file has the records of a beginning of the history, which is no shorter than this
pub record HasBeginning (entries : List Entry) (least : ℕ) (file : List ℕ) : Type 0 where
  pub stored : List (List ℕ)
  pub rest : List (List ℕ)
  pub split : payloads_of entries ≡ stored ++ rest
  pub least_is : least ≤ length stored
  pub has : HasRecords file stored

-- The load stands in the history and waits in the backlog, and the disk failed. `stored` is the number of the loads that are
-- stored.
pub record Waits {D : Type 0} (faults : D → ℕ) (by : ℕ) (load : Load) (old new : Keeping D) (published : Published) (stored : ℕ) : Type 0 where
  pub is : IsPublished by load old.catalogue new.catalogue published
  pub stored_is : stored ≡ new.journal.count
  pub fewer : stored < published.revision
  pub rose : Rose (faults old.journal.disk) (faults new.journal.disk)

-- a refusal changes nothing
abbrev pub IsKeptFault : {D : Type 0} → (D → ℕ) → ℕ → Load → Keeping D → Keeping D → KeptFault → Type 0
IsKeptFault faults by load old new (Refused fault) = Refuses (loads_of old.catalogue.entries) load fault × (new ≡ old)
IsKeptFault faults by load old new (NotStored published stored) = Waits faults by load old new published stored
