-- The steps of a session, which the clauses of the loop over requests cite, and no public clause.
use Rattle.std.specs.Prelude.{◌≡◌, ℕ, ◌≤◌, ◌⊎◌, true, false, List, length, take, Option, Some, None}
use Rattle.std.specs.Io.KnownBytes.{Consumes, Appends}
use Rattle.sc_outside.specs.Causes.{Rose}
use Rattle.sc_http.specs.declared.request.Request.{Request}
use Rattle.sc_http.specs.declared.reply.Reply.{Reply}
use Rattle.sc_http.specs.declared.fault.HttpEnd.{HttpEnd}
use Rattle.sc_http.specs.declared.fault.HttpEnd.TheVariants as End
use Rattle.sc_http.specs.Reply.{reply_bytes, unavailable_bytes}
use Rattle.sc_http.specs.Requests.{AreRequests}
use Rattle.sc_http.specs.Intake.{Held}
use Rattle.sc_visit.specs.Visits.{Visitor}
use Rattle.sc_session.specs.declared.ending.ConnEnd.{ConnEnd}
use Rattle.sc_session.specs.declared.ending.ConnEnd.TheVariants as Conn
use Rattle.sc_session.specs.Service.{Service}
use Rattle.sc_session.specs.Handling.{Handles, AreHandled, GivesUp}
use Rattle.sc_session.specs.Session.{Place, Writes, OpenTo, bytes_of, refusal_bytes, Session}

-- the session as far as it has come, with what is held of the bytes
pub record SoFar {E L J : Type 0} (service : Service E L J) (old new : Place E) (held : Held) : Type 0 where
  pub front : List ℕ
  pub requests : List Request
  pub answers : List Reply
  pub took : Consumes old.left new.left front
  pub counted : held.taken ≡ length front
  pub are : AreRequests front requests held.bytes
  pub open_to : OpenTo requests false
  pub handled : AreHandled service requests answers old.visitor new.visitor
  pub sent : Writes old new (bytes_of answers)
  pub read_later : old.faults ≤ new.faults
  pub write_later : old.write_faults ≤ new.write_faults

-- it goes on, or has ended
abbrev pub Goes : {E L J : Type 0} → Service E L J → Place E → Place E → Held → Option ConnEnd → Type 0
Goes service old new held None = SoFar service old new held
Goes service old new held (Some end) = Session service old new end

-- how a connection ends where its requests end so
abbrev pub conn_end : HttpEnd → ConnEnd
conn_end (End.Cut n) = Conn.Cut n
conn_end (End.BadHead fault) = Conn.BadHead fault
conn_end (End.BadLength fault) = Conn.BadLength fault
conn_end End.ReadFault = Conn.ReadFault
conn_end End.Spent = Conn.Spent
conn_end End.OutOfMemory = Conn.OutOfMemory

-- a front of a text was written, since the sink failed
abbrev pub Cuts : Option (List ℕ) → Option (List ℕ) → ℕ → ℕ → List ℕ → Type 0
Cuts written wrote before after text = Rose before after × ((n : ℕ) × Appends written wrote (take n text))

-- the fixed reply to want of memory was written, or a front of it
abbrev pub GivesUpWriting : Option (List ℕ) → Option (List ℕ) → ℕ → ℕ → Type 0
GivesUpWriting written wrote before after = Appends written wrote unavailable_bytes ⊎ Cuts written wrote before after unavailable_bytes

-- one request was answered, or its reply was cut off, or memory was wanting
abbrev pub AnswersOne : {E L J : Type 0} → Service E L J → Option ConnEnd → Request → Visitor E → Visitor E → Option (List ℕ) → Option (List ℕ) → ℕ → ℕ → Type 0
AnswersOne service None q old new written wrote before after =
    (reply : Reply) × Handles service q reply old new × Appends written wrote (reply_bytes reply) × (q.close ≡ false)
AnswersOne service (Some Conn.Ended) q old new written wrote before after =
    (reply : Reply) × Handles service q reply old new × Appends written wrote (reply_bytes reply) × (q.close ≡ true)
AnswersOne service (Some Conn.WriteFault) q old new written wrote before after =
    (reply : Reply) × Handles service q reply old new × Cuts written wrote before after (reply_bytes reply)
AnswersOne service (Some Conn.OutOfMemory) q old new written wrote before after = GivesUp service old new × GivesUpWriting written wrote before after
AnswersOne service (Some end) q old new written wrote before after = ⊥

-- the reply to an end was written, if there is one, or cut off, or memory was wanting
abbrev pub Refused : ConnEnd → HttpEnd → Option Reply → Option (List ℕ) → Option (List ℕ) → ℕ → ℕ → Type 0
Refused result end reply written wrote before after =
    ((result ≡ conn_end end) × Appends written wrote (refusal_bytes reply))
    ⊎ ((result ≡ Conn.WriteFault) × Cuts written wrote before after (refusal_bytes reply))
    ⊎ ((result ≡ Conn.OutOfMemory) × GivesUpWriting written wrote before after)
