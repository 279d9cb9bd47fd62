-- What stands in a file from a gate on, and what has been taken of a file that is read from its front.
use Rattle.std.specs.Prelude.{◌≡◌, ◌≢◌, ℕ, ◌+◌, ◌<◌, ◌^◌, List, ◌∷◌, ◌++◌, Bool, true, false, length, take, drop}
use Rattle.std.specs.Int.{w64, to_be_bytes}
use Rattle.sc_journal.specs.Format.{framed, frames, AllFit, IsClosed, IsNoRecord, IsBroken}
use Rattle.sc_journal.specs.declared.reading.Found.{Found}
use Rattle.sc_journal.specs.declared.reading.Gate.{Gate}
use Rattle.sc_journal.specs.declared.reading.Gate.TheVariants.{Shut, Broken, Open}

-- a gate that isn't open
pub record IsShut (rest : List ℕ) : Type 0 where
  pub gate : ℕ
  pub ignored : List ℕ
  pub shut : gate ≢ 1
  pub is : rest ≡ gate ∷ ignored

-- an open gate behind which no whole record stands
pub record HasNone (rest : List ℕ) : Type 0 where
  pub behind : List ℕ
  pub is : rest ≡ 1 ∷ behind
  pub none : IsNoRecord behind

-- an open gate and the length of a record, which is whole and has a gate after it
pub record HasLength (size : ℕ) (rest : List ℕ) : Type 0 where
  pub front : take 9 rest ≡ 1 ∷ to_be_bytes w64 size
  pub fits : size < 2 ^ 64
  pub whole : size + 9 < length rest

-- what stands here, by its first nine bytes
abbrev pub IsGate : Gate → List ℕ → Type 0
IsGate Shut rest = IsShut rest
IsGate Broken rest = HasNone rest
IsGate (Open size) rest = HasLength size rest

-- the record here has this payload, and a gate after it
pub record HasRecord (payload rest : List ℕ) : Type 0 where
  pub after : List ℕ
  pub is : rest ≡ framed payload ++ after
  pub some : 0 < length after

-- what stands here, with the payload of the record if there is one
abbrev pub IsRead : Gate → List ℕ → List ℕ → Type 0
IsRead Shut payload rest = IsShut rest
IsRead Broken payload rest = HasNone rest
IsRead (Open size) payload rest = HasRecord payload rest

-- the records up to a place were taken, and behind them is the rest of the file, where the file is told
pub record TakenTo {T : Type 0} (took : T → List (List ℕ) → Type 0) (taker : T) (place count : ℕ) (told : Type 0) (file : List ℕ) : Type 0 where
  pub records : List (List ℕ)
  pub taken : took taker records
  pub place_is : place ≡ length (frames records)
  pub count_is : count ≡ length records
  pub fits : AllFit records
  pub rest : told → file ≡ frames records ++ drop place file

-- behind the records stands a gate that isn't open, or that has no whole record behind it
abbrev pub Ends : Bool → List (List ℕ) → List ℕ → Type 0
Ends true records file = IsClosed records file
Ends false records file = IsBroken file records

-- the records of a file were taken
pub record IsTaken {T : Type 0} (took : T → List (List ℕ) → Type 0) (taker : T) (found : Found) (told : Type 0) (file : List ℕ) : Type 0 where
  pub records : List (List ℕ)
  pub taken : took taker records
  pub place_is : found.place ≡ length (frames records)
  pub count_is : found.count ≡ length records
  pub fits : AllFit records
  pub ends : told → Ends found.whole records file
