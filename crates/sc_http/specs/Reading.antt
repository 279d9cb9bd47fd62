-- What the steps of the intake answer. No public contract cites these.
use Rattle.std.specs.Prelude.{◌≡◌, ◌≢◌, ℕ, ◌+◌, ◌<◌, ◌≤◌, ◌⊎◌, ◌^◌, ◌++◌, Bool, true, false, List, [], ◌∷◌, length, drop, Result, Ok, Err, Option, Some, None, ⊤}
use Rattle.httparse.specs.Grammar.{RequestHead}
use Rattle.sc_outside.specs.Causes.{Rose}
use Rattle.sc_http.specs.declared.fault.HttpEnd.{HttpEnd}
use Rattle.sc_http.specs.declared.fault.HttpEnd.TheVariants as End
use Rattle.sc_http.specs.declared.head.Head.{Head}
use Rattle.sc_http.specs.declared.lines.Lines.{Lines}
use Rattle.sc_http.specs.declared.look.Looked.{Looked}
use Rattle.sc_http.specs.declared.look.Looked.TheVariants as Look
use Rattle.sc_http.specs.declared.request.Request.{Request}
use Rattle.sc_http.specs.Heads.{head_of}
use Rattle.sc_http.specs.Room.{IsRoom, feeds_behind, begun_after}
use Rattle.sc_http.specs.Requests.{HasHead}
use Rattle.sc_http.specs.Intake.{IsUnfinishedHead, IsBadHead, IsEnd, Takes, FirstOf, EndsOf, OnOpenEnd}

-- the count before any byte
abbrev pub no_lines : Lines
no_lines = record { begun = false; feeds = 0; seen = 0 }

-- bytes were counted, the rest is left, and before the last of them the count wasn't at its end
pub record CountedTo (lines : Lines) (bytes rest : List ℕ) (next : Lines) : Type 0 where
  pub done : List ℕ
  pub parts : bytes ≡ done ++ rest
  pub feeds : next.feeds ≡ lines.feeds + feeds_behind lines.begun done
  pub begun : next.begun ≡ begun_after lines.begun done
  pub seen : next.seen ≡ lines.seen + length done
  pub last : (done ≡ []) ⊎ ((before : List ℕ) × (b : ℕ) × (done ≡ before ++ b ∷ []) × (lines.feeds + feeds_behind lines.begun before < 66) × (lines.seen + length before < 65536))

-- all bytes were counted, or as many as the count goes to
abbrev pub CountsOn : Lines → List ℕ → Lines → Type 0
CountsOn lines bytes next = (rest : List ℕ) × CountedTo lines bytes rest next × ((rest ≡ []) ⊎ (66 ≤ next.feeds) ⊎ (65536 ≤ next.seen))

-- the count is that of the front in which a head has to end
pub record IsMeasured (lines : Lines) (bytes : List ℕ) : Type 0 where
  pub front : List ℕ
  pub room : IsRoom bytes front
  pub seen : lines.seen ≡ length front
  pub feeds : lines.feeds ≡ feeds_behind false front
  pub begun : lines.begun ≡ begun_after false front

-- the bytes begin with the head that is held
abbrev pub BeginsWith : List ℕ → Head → Type 0
BeginsWith bytes head = (h : RequestHead) × (rest : List ℕ) × HasHead bytes h rest × (head ≡ head_of h)

-- what the bytes are, taken as a head
abbrev pub LookedAt : List ℕ → Looked → Type 0
LookedAt bytes (Look.Whole head) = BeginsWith bytes head
LookedAt bytes Look.More = IsUnfinishedHead bytes
LookedAt bytes (Look.Bad fault) = IsBadHead fault bytes

-- P but where memory is wanting
abbrev pub UnlessMemory : {T : Type 0} → Result T HttpEnd → Type 0 → Type 0
UnlessMemory (Ok x) P = P
UnlessMemory (Err e) P = e ≢ End.OutOfMemory → P

-- a head, the end between requests, or why there is none
abbrev pub FindsHead : Result (Option Head) HttpEnd → List ℕ → ℕ → Bool → ℕ → ℕ → Type 0
FindsHead (Ok (Some head)) bytes taken ended before after = BeginsWith bytes head
FindsHead (Ok None) bytes taken ended before after = (bytes ≡ []) × (ended ≡ true)
FindsHead (Err e) bytes taken ended before after = IsEnd e bytes taken ended before after

-- why a body of that length behind a head of so many bytes isn't whole: with the bytes of it that are there
abbrev pub BodyEnd : HttpEnd → ℕ → List ℕ → ℕ → ℕ → Bool → ℕ → ℕ → Type 0
BodyEnd (End.Cut n) head body len taken ended before after = (length body < len) × (n ≡ head + length body) × (ended ≡ true)
BodyEnd (End.BadHead f) head body len taken ended before after = ⊥
BodyEnd (End.BadLength f) head body len taken ended before after = ⊥
BodyEnd End.ReadFault head body len taken ended before after = (length body < len) × Rose before after
BodyEnd End.Spent head body len taken ended before after = (length body < len) × (taken ≡ 2 ^ 40)
BodyEnd End.OutOfMemory head body len taken ended before after = ⊤

-- the bytes of the body that were there, those that were taken, and why it isn't whole
abbrev pub BodyEnds : HttpEnd → ℕ → List ℕ → ℕ → ℕ → ℕ → Option (List ℕ) → Option (List ℕ) → Bool → ℕ → ℕ → Type 0
BodyEnds e head held len count count' left next ended before after =
    e ≢ End.OutOfMemory → (body : List ℕ) × Takes held body count count' left next × BodyEnd e head body len count' ended before after

-- the next request and the place behind it among the bytes held, the end between requests, or why there is none
abbrev pub NextIs : Result (Option (Request × ℕ)) HttpEnd → List ℕ → ℕ → List ℕ → ℕ → ℕ → Option (List ℕ) → Option (List ℕ) → Bool → ℕ → ℕ → Type 0
NextIs (Ok (Some r)) old at held count count' left next ended before after = FirstOf r.0 old (drop r.1 held) count count' left next
NextIs (Ok None) old at held count count' left next ended before after = (drop at held ≡ []) × Takes old (drop at held) count count' left next × (ended ≡ true)
NextIs (Err e) old at held count count' left next ended before after = EndsOf e old count count' left next ended before after

-- where the body is whole, or isn't and yet the input didn't end, the source has ended only if it had before
abbrev pub BodyStaysOpen : {T : Type 0} → Result T HttpEnd → Bool → Bool → Type 0
BodyStaysOpen (Ok x) before after = after ≡ true → before ≡ true
BodyStaysOpen (Err e) before after = OnOpenEnd e (after ≡ true → before ≡ true)
