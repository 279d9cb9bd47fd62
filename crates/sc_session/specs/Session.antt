-- The session of one connection: what was taken of its source, what its pass did, and what was written to its sink.
use Rattle.std.specs.Prelude.{◌≡◌, ℕ, ◌⊎◌, Bool, true, false, List, [], ◌∷◌, ◌++◌, length, take, flat_map, Option, Some, None}
use Rattle.std.specs.Io.KnownBytes.{Consumes, Appends}
use Rattle.sc_outside.specs.Causes.{Rose}
use Rattle.sc_http.specs.declared.request.Request.{Request}
use Rattle.sc_http.specs.declared.reply.Reply.{Reply}
use Rattle.sc_http.specs.declared.fault.HttpEnd.{HttpEnd}
use Rattle.sc_http.specs.declared.fault.HttpEnd.TheVariants as End
use Rattle.sc_http.specs.Reply.{reply_bytes, unavailable_bytes}
use Rattle.sc_http.specs.Requests.{AreRequests}
use Rattle.sc_http.specs.Intake.{IsEnd}
use Rattle.sc_visit.specs.Visits.{Visitor}
use Rattle.sc_session.specs.declared.ending.ConnEnd.{ConnEnd}
use Rattle.sc_session.specs.declared.ending.ConnEnd.TheVariants as Conn
use Rattle.sc_session.specs.Service.{Service}
use Rattle.sc_session.specs.Handling.{AreHandled, GivesUp}

-- a connection at one moment: the source's bytes that are left, where it tells them, whether its last read answered the end, and the count of its faults; the
-- bytes that were written to the sink, where it tells them, and the count of its faults; and what is seen of the pass
pub record Place (E : Type 0) : Type 0 where
  pub left : Option (List ℕ)
  pub ended : Bool
  pub faults : ℕ
  pub written : Option (List ℕ)
  pub write_faults : ℕ
  pub visitor : Visitor E

-- the bytes of replies
abbrev pub bytes_of : List Reply → List ℕ
bytes_of replies = flat_map reply_bytes replies

-- no request but the last asks to close, and whether the last does
abbrev pub OpenTo : List Request → Bool → Type 0
OpenTo [] closed = closed ≡ false
OpenTo (q ∷ []) closed = q.close ≡ closed
OpenTo (q ∷ (p ∷ qs)) closed = (q.close ≡ false) × OpenTo (p ∷ qs) closed

-- the bytes of the reply to an end, or none
abbrev pub refusal_bytes : Option Reply → List ℕ
refusal_bytes None = []
refusal_bytes (Some reply) = reply_bytes reply

-- ---- what the end adds to the replies

-- these bytes were written in between
abbrev pub Writes : {E : Type 0} → Place E → Place E → List ℕ → Type 0
Writes old new bytes = Appends old.written new.written bytes

-- these bytes, and then a front of the text, since the sink failed
abbrev pub CutsOff : {E : Type 0} → Place E → Place E → List ℕ → List ℕ → Type 0
CutsOff old new sent text = Rose old.write_faults new.write_faults × ((n : ℕ) × Writes old new (sent ++ take n text))

-- the end of the requests has its cause, with the bytes behind them and the number of bytes taken
abbrev pub HasCauseIn : {E : Type 0} → HttpEnd → List ℕ → ℕ → Place E → Place E → Type 0
HasCauseIn end rest taken old new = IsEnd end rest taken new.ended old.faults new.faults

-- the fixed reply to want of memory follows, or a front of it where the sink failed
abbrev pub Wants : {E : Type 0} → Place E → Place E → List ℕ → Type 0
Wants old new sent = Writes old new (sent ++ unavailable_bytes) ⊎ CutsOff old new sent unavailable_bytes

module _ {E : Type 0} (refusal : HttpEnd → ℕ → Option Reply) (old new : Place E) where
  -- by the end of the requests, none of which asked to close; its reply follows, if there is one
  pub record EndsBy (end : HttpEnd) (closed : Bool) (rest : List ℕ) (taken revision : ℕ) (answers : List Reply) : Type 0 where
    pub open_still : closed ≡ false
    pub cause : HasCauseIn end rest taken old new
    pub wrote : Writes old new (bytes_of answers ++ refusal_bytes (refusal end revision))

  -- between two requests: the last one asked to close, or the input ended behind it
  pub record EndsBetween (closed : Bool) (rest : List ℕ) (answers : List Reply) : Type 0 where
    pub cause : (closed ≡ true) ⊎ ((closed ≡ false) × (rest ≡ []) × (new.ended ≡ true))
    pub wrote : Writes old new (bytes_of answers)

  -- the last reply is cut off
  pub record CutsReply (answers : List Reply) : Type 0 where
    pub before : List Reply
    pub last : Reply
    pub are : answers ≡ before ++ last ∷ []
    pub cuts : CutsOff old new (bytes_of before) (reply_bytes last)

  -- the reply to the end of the requests is cut off
  pub record CutsRefusal (closed : Bool) (rest : List ℕ) (taken revision : ℕ) (answers : List Reply) : Type 0 where
    pub end : HttpEnd
    pub open_still : closed ≡ false
    pub cause : HasCauseIn end rest taken old new
    pub cuts : CutsOff old new (bytes_of answers) (refusal_bytes (refusal end revision))

  -- how the connection ends, by whether the last request asked to close, the bytes behind it, the number of bytes taken, the revision told last, and the replies
  abbrev pub EndsAs : ConnEnd → Bool → List ℕ → ℕ → ℕ → List Reply → Type 0
  EndsAs Conn.Ended closed rest taken revision answers = EndsBetween closed rest answers
  EndsAs (Conn.Cut n) closed rest taken revision answers = EndsBy (End.Cut n) closed rest taken revision answers
  EndsAs (Conn.BadHead fault) closed rest taken revision answers = EndsBy (End.BadHead fault) closed rest taken revision answers
  EndsAs (Conn.BadLength fault) closed rest taken revision answers = EndsBy (End.BadLength fault) closed rest taken revision answers
  EndsAs Conn.ReadFault closed rest taken revision answers = EndsBy End.ReadFault closed rest taken revision answers
  EndsAs Conn.Spent closed rest taken revision answers = EndsBy End.Spent closed rest taken revision answers
  EndsAs Conn.WriteFault closed rest taken revision answers = CutsReply answers ⊎ CutsRefusal closed rest taken revision answers
  EndsAs Conn.OutOfMemory closed rest taken revision answers = Wants old new (bytes_of answers)

-- ---- the whole

-- these bytes were taken of the source; where memory was wanting, maybe further ones behind them, which are lost
abbrev pub TookFront : ConnEnd → Option (List ℕ) → Option (List ℕ) → List ℕ → Type 0
TookFront Conn.OutOfMemory left next front = (lost : List ℕ) × Consumes left next (front ++ lost)
TookFront end left next front = Consumes left next front

-- behind the last request nothing was done; where memory was wanting, one more may have taken its turns
abbrev pub AfterLast : {E L J : Type 0} → Service E L J → ConnEnd → Visitor E → Visitor E → Type 0
AfterLast service Conn.OutOfMemory mid new = GivesUp service mid new
AfterLast service end mid new = new ≡ mid

-- the session: the requests at the front of the bytes were handled one after the other, up to the first that asks to close; the sink has their replies, and then
-- what the end adds
pub record Session {E L J : Type 0} (service : Service E L J) (old new : Place E) (end : ConnEnd) : Type 0 where
  pub front : List ℕ
  pub rest : List ℕ
  pub requests : List Request
  pub answers : List Reply
  pub took : TookFront end old.left new.left front
  pub are : AreRequests front requests rest
  pub closed : Bool
  pub open_to : OpenTo requests closed
  pub mid : Visitor E
  pub handled : AreHandled service requests answers old.visitor mid
  pub after_last : AfterLast service end mid new.visitor
  pub ends : EndsAs service.refusal old new end closed rest (length front) (length mid.seen) answers

-- ends at which nothing was cut off: by a cause of the requests, or between two of them without being asked to
abbrev pub IsOfRequests : ConnEnd → Bool → Type 0
IsOfRequests Conn.Ended closed = closed ≡ false
IsOfRequests (Conn.Cut n) closed = Unit {0}
IsOfRequests (Conn.BadHead fault) closed = Unit {0}
IsOfRequests (Conn.BadLength fault) closed = Unit {0}
IsOfRequests Conn.ReadFault closed = Unit {0}
IsOfRequests Conn.WriteFault closed = ⊥
IsOfRequests Conn.Spent closed = Unit {0}
IsOfRequests Conn.OutOfMemory closed = ⊥
