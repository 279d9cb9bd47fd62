-- What one request does to the history, and its reply.
use Rattle.std.specs.Prelude.{◌≡◌, ℕ, ◌≤◌, ◌<◌, ◌⊎◌, Bool, true, false, List, [], ◌∷◌, ◌++◌, length, Result, Ok, Err}
use Rattle.sc_http.specs.declared.request.Request.{Request}
use Rattle.sc_http.specs.declared.reply.Reply.{Reply}
use Rattle.sc_http.specs.Reply.{reply_bytes}
use Rattle.sc_visit.specs.Visits.{Visitor, TakesTurn, TakesTurns}
use Rattle.sc_session.specs.declared.ask.Ask.{Ask}
use Rattle.sc_session.specs.declared.ask.Ask.TheVariants.{Nothing, Look, Publish, PublishFrom}
use Rattle.sc_session.specs.Service.{Service}

-- ---- turns

module _ {E L J : Type 0} (service : Service E L J) where
  -- one turn: the load was accepted, so the history that the turn found takes it, and has its entry then as the last; or it wasn't, and the turn adds nothing
  abbrev pub Publishes : L → Bool → Visitor E → Visitor E → Type 0
  Publishes load true old new = (turn : TakesTurn service.by (service.entry old.number load ∷ []) old new) × service.takes turn.found load
  Publishes load false old new = TakesTurn service.by [] old new

  -- the stated revision isn't reached, so the load isn't tried; or it is
  abbrev pub PublishesFrom : ℕ → L → Bool → Visitor E → Visitor E → Type 0
  PublishesFrom stated load accepted mid new =
      ((length mid.seen < stated) × (accepted ≡ false) × (new ≡ mid)) ⊎ ((stated ≤ length mid.seen) × Publishes load accepted mid new)

  -- the turns of a request that asks so, and whether it was a load that was accepted
  abbrev pub Does : Ask L → Bool → Visitor E → Visitor E → Type 0
  Does Nothing accepted old new = (accepted ≡ false) × (new ≡ old)
  Does Look accepted old new = (accepted ≡ false) × TakesTurn service.by [] old new
  Does (Publish load) accepted old new = Publishes load accepted old new
  Does (PublishFrom stated load) accepted old new = (mid : Visitor E) × TakesTurn service.by [] old mid × PublishesFrom stated load accepted mid new

  -- want of memory: the request may have taken its turns, and added no entry
  abbrev pub GivesUp : Visitor E → Visitor E → Type 0
  GivesUp old new = (new ≡ old) ⊎ TakesTurn service.by [] old new ⊎ TakesTurns service.by ([] ∷ [] ∷ []) old new

-- ---- requests and their replies

module _ {E L J : Type 0} (service : Service E L J) where
  -- a request was handled, and this is its reply: by the history that the pass had seen then, of which it tells the revision
  pub record Handles (q : Request) (reply : Reply) (old new : Visitor E) : Type 0 where
    pub job : J
    pub read : service.reads q job
    pub accepted : Bool
    pub does : Does service (service.asks job) accepted old new
    pub replied : service.replies q job new.seen accepted reply
    pub revision : reply.revision ≡ length new.seen

  -- with the bytes of the reply
  abbrev pub IsHandledAs : Request → List ℕ → Visitor E → Visitor E → Type 0
  IsHandledAs q text old new = (reply : Reply) × Handles q reply old new × (text ≡ reply_bytes reply)

  -- a request was handled, and these are the bytes of its reply, or memory was wanting
  abbrev pub Answers : {F : Type 0} → Result (List ℕ) F → Request → Visitor E → Visitor E → Type 0
  Answers (Ok text) q old new = IsHandledAs q text old new
  Answers (Err fault) q old new = GivesUp service old new

  -- requests were handled one after the other, and these are their replies
  abbrev pub AreHandled : List Request → List Reply → Visitor E → Visitor E → Type 0
  AreHandled [] [] old new = new ≡ old
  AreHandled [] (a ∷ rs) old new = ⊥
  AreHandled (q ∷ qs) [] old new = ⊥
  AreHandled (q ∷ qs) (a ∷ rs) old new = (mid : Visitor E) × Handles q a old mid × AreHandled qs rs mid new

-- the load that was accepted, if one was
abbrev pub accepted_of : {L : Type 0} → Ask L → Bool → List L
accepted_of Nothing accepted = []
accepted_of Look accepted = []
accepted_of (Publish load) true = load ∷ []
accepted_of (Publish load) false = []
accepted_of (PublishFrom stated load) true = load ∷ []
accepted_of (PublishFrom stated load) false = []

-- the loads that were accepted, in the order of the requests
abbrev pub loads_accepted : {E L J : Type 0} (service : Service E L J) (qs : List Request) (rs : List Reply) (old new : Visitor E) → AreHandled service qs rs old new → List L
loads_accepted service [] [] old new h = []
loads_accepted service [] (a ∷ rs) old new h = absurd h
loads_accepted service (q ∷ qs) [] old new h = absurd h
loads_accepted service (q ∷ qs) (a ∷ rs) old new h = accepted_of (service.asks h.1.job) h.1.accepted ++ loads_accepted service qs rs h.0 new h.2
