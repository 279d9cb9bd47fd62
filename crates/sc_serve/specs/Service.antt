-- The service that is done for a connection: what its requests ask of the history, and the replies to them.
use Rattle.std.specs.Prelude.{◌≡◌, ◌≢◌, ◌⊎◌, ℕ, Bool, true, List, [], length, Option, Some, None, Result, Ok, Err}
use Rattle.sc_http.specs.declared.request.Request.{Request}
use Rattle.sc_http.specs.declared.reply.Reply.{Reply}
use Rattle.sc_http.specs.Reply.{reply_bytes}
use Rattle.sc_load.specs.declared.load.Load.{Load}
use Rattle.sc_catalog.specs.declared.entry.Entry.{Entry}
use Rattle.sc_catalog.specs.Entries.{by, entry_of, Takes}
use Rattle.sc_visit.specs.Visits.{Visitor, TakesTurn}
use Rattle.sc_session.specs.declared.ask.Ask.{Ask}
use Rattle.sc_session.specs.declared.ask.Ask.TheVariants.{Nothing, Look, Publish, PublishFrom}
use Rattle.sc_session.specs.Service.{Service}
use Rattle.sc_session.specs.Handling.{Does, Publishes, GivesUp}
use Rattle.sc_route.specs.declared.job.Job.{Job}
use Rattle.sc_route.specs.declared.job.Work.{Work}
use Rattle.sc_route.specs.declared.job.Work.TheVariants as Of
use Rattle.sc_refusal.specs.declared.fault.RouteFault.{RouteFault}
use Rattle.sc_refusal.specs.declared.fault.RouteFault.TheVariants.{OutOfMemory}
use Rattle.sc_route.specs.Jobs.{JobOf}
use Rattle.sc_said.specs.Said.{Saying, reply_of}
use Rattle.sc_serve.specs.Replies.{IsReply, SaysOrNotStored, SaysOfLoad, TellsNotStored, of_end}

-- the request is read so, and memory wasn't wanting
abbrev pub IsReadAs : List ℕ → Request → Result Job RouteFault → Type 0
IsReadAs base q job = JobOf base q job × (job ≢ Err OutOfMemory)

-- what a document asks that is the same for every history: nothing, but where it states a revision
abbrev pub asks_fixed : Option ℕ → Ask Load
asks_fixed None = Nothing
asks_fixed (Some stated) = Look

-- what a load asks
abbrev pub asks_load : Load → Option ℕ → Ask Load
asks_load load None = Publish load
asks_load load (Some stated) = PublishFrom stated load

abbrev pub asks_of : Work → Option ℕ → Ask Load
asks_of Of.Landing seen = asks_fixed seen
asks_of Of.Conformance seen = asks_fixed seen
asks_of Of.Queryables seen = asks_fixed seen
asks_of (Of.Load load) seen = asks_load load seen
asks_of work seen = Look

abbrev pub asks : Result Job RouteFault → Ask Load
asks (Ok job) = asks_of job.work job.seen
asks (Err fault) = Nothing

-- the reply to an end of the requests, after which the connection ends
abbrev pub refusal_of : Option Saying → ℕ → Option Reply
refusal_of None revision = None
refusal_of (Some said) revision = Some (reply_of said revision true)

-- the STAC API at this address of a catalogue whose loads are stored, which may fail where this holds
abbrev pub api_of : Type 0 → List ℕ → Service Entry Load (Result Job RouteFault)
api_of may_fail base = record {
  by = by;
  entry = entry_of;
  takes = Takes;
  reads = IsReadAs base;
  asks = asks;
  replies = λ q job entries accepted reply. IsReply base may_fail q.close job entries accepted reply;
  refusal = λ end revision. refusal_of (of_end end) revision;
}

-- the STAC API at this address of a catalogue in memory: no load is left unstored
abbrev pub api : List ℕ → Service Entry Load (Result Job RouteFault)
api base = api_of ⊥ base

-- ---- what one request does. No public clause cites them

module _ (may_fail : Type 0) (base : List ℕ) (close : Bool) where
  -- the request that was read so took its turns, and these are the bytes of its reply
  pub record IsDone (job : Result Job RouteFault) (text : List ℕ) (old new : Visitor Entry) : Type 0 where
    pub accepted : Bool
    pub does : Does (api_of may_fail base) (asks job) accepted old new
    pub said : Saying
    pub says : SaysOrNotStored base may_fail job new.seen accepted said
    pub text_is : text ≡ reply_bytes (reply_of said (length new.seen) close)

  abbrev pub Handles : {F : Type 0} → Result Job RouteFault → Result (List ℕ) F → Visitor Entry → Visitor Entry → Type 0
  Handles job (Ok text) old new = IsDone job text old new
  Handles job (Err fault) old new = GivesUp (api_of may_fail base) old new

  -- one turn, in which the load was accepted or refused, and these are the bytes of the reply
  pub record IsTried (load : Load) (text : List ℕ) (old new : Visitor Entry) : Type 0 where
    pub accepted : Bool
    pub publishes : Publishes (api_of may_fail base) load accepted old new
    pub said : Saying
    pub says : SaysOfLoad new.seen load accepted said ⊎ TellsNotStored may_fail new.seen accepted said
    pub text_is : text ≡ reply_bytes (reply_of said (length new.seen) close)

  abbrev pub Tries : {F : Type 0} → Load → Result (List ℕ) F → Visitor Entry → Visitor Entry → Type 0
  Tries load (Ok text) old new = IsTried load text old new
  Tries load (Err fault) old new = (new ≡ old) ⊎ TakesTurn by [] old new
