-- What records say of a history, and which they can't.
use Rattle.std.specs.Prelude.{◌≡◌, ◌≢◌, ◌⊎◌, ℕ, List, [], ◌∷◌, ◌++◌, length, All, Option, None, Some}
use Rattle.sc_load.specs.declared.fault.LoadFault.{LoadFault}
use Rattle.sc_load.specs.declared.fault.LoadFault.TheVariants as faults
use Rattle.sc_journal.specs.Format.{HasRecords, IsBroken}
use Rattle.sc_history.specs.Changes.{Change}
use Rattle.sc_history.specs.Taken.{Refuses}
use Rattle.sc_catalog.specs.declared.entry.Entry.{Entry}
use Rattle.sc_catalog.specs.Entries.{TellsOf, loads_of}
use Rattle.sc_kept.specs.Record.{IsNoPayload, IsPayload, IsSealable, payloads_of}

-- The records are those of this history, each load once and in its order; no load of it is refused.
pub record AreRecordsOf (entries : List Entry) (records : List (List ℕ)) : Type 0 where
  pub are : records ≡ payloads_of entries
  pub sealable : All IsSealable entries
  pub past : List Change
  pub told : TellsOf entries past

-- a load is refused, and not for want of memory
pub record IsRefusedAfter (entries : List Entry) (bytes : List ℕ) : Type 0 where
  pub entry : Entry
  pub is : IsPayload bytes entry
  pub fault : LoadFault
  pub refused : Refuses (loads_of entries) entry.load fault
  pub not_memory : fault ≢ faults.OutOfMemory

-- the bytes tell no load that goes on from the history
abbrev pub CannotFollow : List Entry → List ℕ → Type 0
CannotFollow entries bytes = IsNoPayload bytes ⊎ IsRefusedAfter entries bytes

-- the first record that doesn't go on from those before it
pub record IsBadAt (records : List (List ℕ)) (place : ℕ) : Type 0 where
  pub before : List (List ℕ)
  pub bad : List ℕ
  pub after : List (List ℕ)
  pub split : records ≡ before ++ bad ∷ after
  pub place_is : place ≡ length before
  pub entries : List Entry
  pub are : AreRecordsOf entries before
  pub cannot : CannotFollow entries bad

-- the bytes tell the one load by which the history goes on
pub record Follows (old : List Entry) (bytes : List ℕ) (new : List Entry) : Type 0 where
  pub entry : Entry
  pub is : IsPayload bytes entry
  pub whole : new ≡ old ++ entry ∷ []
  pub past : List Change
  pub told : TellsOf new past

-- what was taken of the records: all as the history, or, where one doesn't go on from those before it, its number
abbrev pub IsReplayed : List Entry → Option ℕ → List (List ℕ) → Type 0
IsReplayed entries None records = AreRecordsOf entries records
IsReplayed entries (Some place) records = IsBadAt records place

-- A file isn't the journal of a history: the record at the place isn't whole, or it is the first that can't follow those
-- before it.
pub record IsBrokenAt (file : List ℕ) (place : ℕ) : Type 0 where
  pub before : List (List ℕ)
  pub place_is : place ≡ length before
  pub broken : IsBroken file before

pub record IsRefusedAt (file : List ℕ) (place : ℕ) : Type 0 where
  pub records : List (List ℕ)
  pub has : HasRecords file records
  pub bad : IsBadAt records place

abbrev pub IsBadFile : List ℕ → ℕ → Type 0
IsBadFile file place = IsBrokenAt file place ⊎ IsRefusedAt file place
