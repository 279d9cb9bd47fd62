-- The format of a journal. Numbers are big-endian. A file is a gate byte, and after each gate byte that is 1 a length of 8
-- bytes, that many bytes, and the next gate byte. Any other gate byte ends the records, and what follows it is ignored.
use Rattle.std.specs.Prelude.{◌≡◌, ◌≢◌, ◌⊎◌, ℕ, ◌<◌, ◌≤◌, ◌^◌, List, [], ◌∷◌, ◌++◌, ◌-◌, length, take, drop}
use Rattle.std.specs.List.{flat_map, AllByRecursion}
use Rattle.std.specs.Int.{w64, to_be_bytes}

-- a record without the gates round it
abbrev pub counted : List ℕ → List ℕ
counted payload = to_be_bytes w64 (length payload) ++ payload

-- a record behind its open gate
abbrev pub framed : List ℕ → List ℕ
framed payload = 1 ∷ counted payload

-- all the records, each behind its open gate
abbrev pub frames : List (List ℕ) → List ℕ
frames records = flat_map framed records

-- what is written behind a closed gate to add a record: the record and the next gate, closed
abbrev pub behind_gate : List ℕ → List ℕ
behind_gate payload = counted payload ++ 0 ∷ []

-- the payload in what is written so
abbrev pub payload_in : List ℕ → List ℕ
payload_in bytes = take (length bytes - 9) (drop 8 bytes)

-- its length can be written
abbrev pub Fits : List ℕ → Type 0
Fits payload = length payload < 2 ^ 64

abbrev pub AllFit : List (List ℕ) → Type 0
AllFit records = AllByRecursion Fits records

-- the records, and a gate that isn't open
pub record IsClosed (records : List (List ℕ)) (file : List ℕ) : Type 0 where
  pub gate : ℕ
  pub ignored : List ℕ
  pub shut : gate ≢ 1
  pub whole : file ≡ frames records ++ gate ∷ ignored

-- A file has these records. One of at most one byte has none, whatever the byte is.
abbrev pub HasRecords : List ℕ → List (List ℕ) → Type 0
HasRecords file records = ((length file ≤ 1) × (records ≡ [])) ⊎ (AllFit records × IsClosed records file)

-- no record begins here that is whole and has a gate after it
abbrev pub IsNoRecord : List ℕ → Type 0
IsNoRecord bytes = (payload : List ℕ) (gate : ℕ) (rest : List ℕ) → Fits payload → bytes ≢ counted payload ++ gate ∷ rest

-- after these records a gate is open behind which no whole record stands
pub record IsBroken (file : List ℕ) (records : List (List ℕ)) : Type 0 where
  pub long : 1 < length file
  pub fits : AllFit records
  pub behind : List ℕ
  pub split : file ≡ frames records ++ 1 ∷ behind
  pub broken : IsNoRecord behind

-- a file has the records of one of these files
abbrev pub SameRecords : (List ℕ → Type 0) → List ℕ → Type 0
SameRecords files file = (old : List ℕ) × files old × ((records : List (List ℕ)) → HasRecords old records → HasRecords file records)
