-- What a journal holds, and what a crash leaves of it.
use Rattle.std.specs.Prelude.{◌≡◌, ◌⊎◌, ℕ, List, [], ◌∷◌, ◌++◌, length}
use Rattle.sc_journal.specs.Format.{frames, behind_gate, Fits, AllFit, IsClosed, HasRecords}
use Rattle.sc_journal.specs.declared.journal.Journal.{Journal}
use Rattle.sc_journal.specs.declared.journal.LastAppend.{LastAppend}
use Rattle.sc_journal.specs.declared.journal.LastAppend.TheVariants.{Stored, GateClosed, GateWritten}

-- the file has the records, with the next one last or without it
abbrev pub WithOrWithout : List (List ℕ) → List ℕ → List ℕ → Type 0
WithOrWithout records next file = HasRecords file records ⊎ HasRecords file (records ++ next ∷ [])

-- behind the records stands a gate, open or closed, and behind it the whole next record
pub record IsWritten (records : List (List ℕ)) (next file : List ℕ) : Type 0 where
  pub fits : Fits next
  pub gate : ℕ
  pub ignored : List ℕ
  pub whole : file ≡ frames records ++ (gate ∷ behind_gate next ++ ignored)

-- how the file stands behind the records, after a last append that ended so
abbrev pub Stands : LastAppend → List (List ℕ) → List ℕ → List ℕ → Type 0
Stands Stored records next file = IsClosed records file
Stands GateClosed records next file = IsClosed records file
Stands GateWritten records next file = IsWritten records next file

-- the file has the records, and only after an append that failed may the next one be there too
abbrev pub HasAfter : LastAppend → List (List ℕ) → List ℕ → List ℕ → Type 0
HasAfter Stored records next file = HasRecords file records
HasAfter GateClosed records next file = HasRecords file records
HasAfter GateWritten records next file = WithOrWithout records next file

-- The journal holds these records: they give its count and its place, and where the disk tells, the journal's gate stands
-- behind them in each file that a crash may leave, which has them. After a failed append the record that failed is the next.
pub record Holds {D : Type 0} (tells : D → Type 0) (may_leave : D → List ℕ → Type 0) (journal : Journal D) (records : List (List ℕ)) (next : List ℕ) : Type 0 where
  pub place : journal.place ≡ length (frames records)
  pub count : journal.count ≡ length records
  pub fits : AllFit records
  pub stands : tells journal.disk → (file : List ℕ) → may_leave journal.disk file → Stands journal.last records next file
  pub has : tells journal.disk → (file : List ℕ) → may_leave journal.disk file → HasAfter journal.last records next file
