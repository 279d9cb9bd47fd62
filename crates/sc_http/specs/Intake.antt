-- How reading went while a request was looked for, and how requests end.
use Rattle.std.specs.Prelude.{◌≡◌, ◌≢◌, ℕ, ◌+◌, ◌^◌, ◌<◌, ◌≤◌, ◌⊎◌, ◌++◌, Bool, true, List, [], length, Result, Ok, Err, Option, Some, None, ⊤}
use Rattle.std.specs.Io.KnownBytes.{Consumes}
use Rattle.httparse.specs.Grammar.{RequestHead, NeverHasRequest}
use Rattle.sc_outside.specs.Causes.{Rose}
use Rattle.sc_http.specs.declared.fault.HeadFault.{HeadFault}
use Rattle.sc_http.specs.declared.fault.HeadFault.TheVariants as Fault
use Rattle.sc_http.specs.declared.fault.HttpEnd.{HttpEnd}
use Rattle.sc_http.specs.declared.fault.HttpEnd.TheVariants as End
use Rattle.sc_http.specs.declared.request.Request.{Request}
use Rattle.sc_http.specs.Room.{IsOver, IsShort, IsRoom}
use Rattle.sc_http.specs.Requests.{HasHead, HasNoHead, BeginsWithRequest, length_in}
use Rattle.sc_http.specs.Heads.{MayBecomeHead}

-- what an intake holds: the bytes that belong to no request yet, and how many were taken of its connection in all
pub record Held : Type 0 where
  pub bytes : List ℕ
  pub taken : ℕ

-- a new intake's
abbrev pub nothing_held : Held
nothing_held = record { bytes = []; taken = 0 }

-- no head is there, and there is room for one
pub record IsUnfinishedHead (bytes : List ℕ) : Type 0 where
  pub none : HasNoHead bytes
  pub short : IsShort bytes

-- a head is there, and less than a body of its length
pub record HasShortBody (bytes : List ℕ) : Type 0 where
  pub h : RequestHead
  pub rest : List ℕ
  pub len : ℕ
  pub head : HasHead bytes h rest
  pub size : length_in h ≡ Ok len
  pub less : length rest < len

-- the request isn't whole, and there is room for it
abbrev pub IsUnfinished : List ℕ → Type 0
IsUnfinished bytes = IsUnfinishedHead bytes ⊎ HasShortBody bytes

-- the same, where no head is refused
abbrev pub IsCutOff : List ℕ → Type 0
IsCutOff bytes = (IsUnfinishedHead bytes × MayBecomeHead bytes) ⊎ HasShortBody bytes

-- why the bytes are no head. Malformed: none can come of the bytes up to where they come to be over. TooLarge: none is
-- there, they are over, and up to there they weren't refused. So the fault whose place comes first is told
abbrev pub IsBadHead : HeadFault → List ℕ → Type 0
IsBadHead Fault.Malformed bytes = (front : List ℕ) × IsRoom bytes front × NeverHasRequest front
IsBadHead Fault.TooLarge bytes = HasNoHead bytes × IsOver bytes × ((front : List ℕ) × IsRoom bytes front × MayBecomeHead front)

-- why the requests end: with all bytes that are held, the number of bytes taken of the connection, whether the source
-- ended, and the counts of its faults before and after
abbrev pub IsEnd : HttpEnd → List ℕ → ℕ → Bool → ℕ → ℕ → Type 0
IsEnd (End.Cut n) bytes taken ended before after = (ended ≡ true) × (bytes ≢ []) × (n ≡ length bytes) × IsCutOff bytes
IsEnd (End.BadHead fault) bytes taken ended before after = IsBadHead fault bytes
IsEnd (End.BadLength fault) bytes taken ended before after =
    (h : RequestHead) × (rest : List ℕ) × HasHead bytes h rest × (length_in h ≡ Err fault)
IsEnd End.ReadFault bytes taken ended before after = IsUnfinished bytes × Rose before after
IsEnd End.Spent bytes taken ended before after = IsUnfinished bytes × (taken ≡ 2 ^ 40)
IsEnd End.OutOfMemory bytes taken ended before after = ⊤

-- the bytes held now are those of before and those that were taken of the source, and the latter were counted
pub record Takes (old now : List ℕ) (count count' : ℕ) (left next : Option (List ℕ)) : Type 0 where
  pub taken : List ℕ
  pub parts : now ≡ old ++ taken
  pub took : Consumes left next taken
  pub counted : count' ≡ count + length taken

-- bytes were taken of the source, and they were counted
pub record Counts (count count' : ℕ) (left next : Option (List ℕ)) : Type 0 where
  pub taken : List ℕ
  pub took : Consumes left next taken
  pub counted : count' ≡ count + length taken

-- nothing was taken; or before the last bytes, at most 8,192, were taken, the request wasn't whole
abbrev pub Lazily : List ℕ → List ℕ → Type 0
Lazily old taken =
    (taken ≡ []) ⊎ ((mid : List ℕ) × (last : List ℕ) × (taken ≡ mid ++ last) × (length last ≤ 8192) × IsUnfinished (old ++ mid))

-- bytes were taken, and only while the request wasn't whole
pub record Reads (old now : List ℕ) (count count' : ℕ) (left next : Option (List ℕ)) : Type 0 where
  pub takes : Takes old now count count' left next
  pub lazily : Lazily old takes.taken

-- the request is the first of all bytes, and the rest stays
abbrev pub FirstOf : Request → List ℕ → List ℕ → ℕ → ℕ → Option (List ℕ) → Option (List ℕ) → Type 0
FirstOf q held rest count count' left next = (now : List ℕ) × Reads held now count count' left next × BeginsWithRequest now q rest

-- why there is no further request
abbrev pub EndsOf : HttpEnd → List ℕ → ℕ → ℕ → Option (List ℕ) → Option (List ℕ) → Bool → ℕ → ℕ → Type 0
EndsOf e held count count' left next ended before after =
    e ≢ End.OutOfMemory → (now : List ℕ) × Reads held now count count' left next × IsEnd e now count' ended before after

-- the ends that don't come of the input's end, and where something is left to read
abbrev pub OnOpenEnd : HttpEnd → Type 0 → Type 0
OnOpenEnd (End.Cut n) P = ⊤
OnOpenEnd (End.BadHead fault) P = ⊤
OnOpenEnd (End.BadLength fault) P = ⊤
OnOpenEnd End.ReadFault P = P
OnOpenEnd End.Spent P = P
OnOpenEnd End.OutOfMemory P = ⊤

-- where there is a request, or one of those ends, the source has ended only if it had before
abbrev pub StaysOpen : {T : Type 0} → Result (Option T) HttpEnd → Bool → Bool → Type 0
StaysOpen (Ok (Some q)) before after = after ≡ true → before ≡ true
StaysOpen (Ok None) before after = ⊤
StaysOpen (Err e) before after = OnOpenEnd e (after ≡ true → before ≡ true)

-- what `next_request` answers, by what is held before and after: the next request, the end between requests, or why there is none
abbrev pub Answers : Result (Option Request) HttpEnd → Held → Held → Option (List ℕ) → Option (List ℕ) → Bool → ℕ → ℕ → Type 0
Answers (Ok (Some q)) old new left next ended before after = FirstOf q old.bytes new.bytes old.taken new.taken left next
Answers (Ok None) old new left next ended before after = (old.bytes ≡ []) × (new ≡ old) × Consumes left next [] × (ended ≡ true)
Answers (Err e) old new left next ended before after = EndsOf e old.bytes old.taken new.taken left next ended before after
