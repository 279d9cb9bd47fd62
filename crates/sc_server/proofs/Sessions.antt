-- What a session keeps of its pass.
use Rattle.std.proofs.Common.{◌≡◌, ℕ, inl, inr, Bool, true, false, List, [], ◌∷◌, sym, refl, ◌∙◌, subst}
use Rattle.std.specs.declared.option.Option.{Option}
use Rattle.sc_http.specs.declared.request.Request.{Request}
use Rattle.sc_http.specs.declared.reply.Reply.{Reply}
use Rattle.sc_catalog.specs.declared.entry.Entry.{Entry}
use Rattle.sc_catalog.specs.Entries.{by}
use Rattle.sc_visit.specs.Visits.{Visitor, IsSame, TakesTurns}
use Rattle.sc_session.specs.declared.ending.ConnEnd.{ConnEnd}
use Rattle.sc_session.specs.declared.ending.ConnEnd.TheVariants as Conn
use Rattle.sc_session.specs.declared.ask.Ask.{Ask}
use Rattle.sc_session.specs.declared.ask.Ask.TheVariants as Asks
use Rattle.sc_session.specs.Service.{Service}
use Rattle.sc_session.specs.Handling.{Publishes, Does, GivesUp, AreHandled}
use Rattle.sc_session.specs.Session.{Place, AfterLast, Session}
use Rattle.sc_server.specs.Listening.{place_of, AreServed}

-- ---- a session keeps the pass

pub same_pass : {E : Type 0} (v : Visitor E) → IsSame v v
same_pass v = record { desk_is = refl; number_is = refl; start_is = refl }

pub same_then : {E : Type 0} (u v w : Visitor E) → IsSame u v → IsSame v w → IsSame u w
same_then u v w a b = record { desk_is = b.desk_is ∙ a.desk_is; number_is = b.number_is ∙ a.number_is; start_is = b.start_is ∙ a.start_is }

pub same_as : {E : Type 0} (u v : Visitor E) → v ≡ u → IsSame u v
same_as u v e = subst (IsSame u) (sym e) (same_pass u)

module _ {E L J : Type 0} (service : Service E L J) where
  published_same : (load : L) (accepted : Bool) (old new : Visitor E) → Publishes service load accepted old new → IsSame old new
  published_same load true old new p = p.0.same
  published_same load false old new p = p.same

  does_same : (ask : Ask L) (accepted : Bool) (old new : Visitor E) → Does service ask accepted old new → IsSame old new
  does_same Asks.Nothing accepted old new d = same_as old new d.1
  does_same Asks.Look accepted old new d = d.1.same
  does_same (Asks.Publish load) accepted old new d = published_same load accepted old new d
  does_same (Asks.PublishFrom stated load) accepted old new d = elim d.2 [
    | inl p ↦ same_then old d.0 new d.1.same (same_as d.0 new p.2)
    | inr p ↦ same_then old d.0 new d.1.same (published_same load accepted d.0 new p.1)
  ]

  handled_same : (qs : List Request) (rs : List Reply) (old new : Visitor E) → AreHandled service qs rs old new → IsSame old new
  handled_same [] [] old new h = same_as old new h
  handled_same [] (a ∷ rs) old new h = absurd h
  handled_same (q ∷ qs) [] old new h = absurd h
  handled_same (q ∷ qs) (a ∷ rs) old new h = same_then old h.0 new (does_same (service.asks h.1.job) h.1.accepted old h.0 h.1.does) (handled_same qs rs h.0 new h.2)

  gives_up_same : (old new : Visitor E) → GivesUp service old new → IsSame old new
  gives_up_same old new (inl e) = same_as old new e
  gives_up_same old new (inr (inl t)) = t.same
  gives_up_same old new (inr (inr t)) = same_then old t.0 new t.1.same (same_then t.0 t.2.0 new t.2.1.same (same_as t.2.0 new t.2.2))

  after_same : (end : ConnEnd) (mid new : Visitor E) → AfterLast service end mid new → IsSame mid new
  after_same Conn.OutOfMemory mid new a = gives_up_same mid new a
  after_same Conn.Ended mid new a = same_as mid new a
  after_same (Conn.Cut n) mid new a = same_as mid new a
  after_same (Conn.BadHead fault) mid new a = same_as mid new a
  after_same (Conn.BadLength fault) mid new a = same_as mid new a
  after_same Conn.ReadFault mid new a = same_as mid new a
  after_same Conn.WriteFault mid new a = same_as mid new a
  after_same Conn.Spent mid new a = same_as mid new a

  session_same : (old new : Place E) (end : ConnEnd) → Session service old new end → IsSame old.visitor new.visitor
  session_same old new end s = same_then old.visitor s.mid new.visitor (handled_same s.requests s.answers old.visitor s.mid s.handled) (after_same end s.mid new.visitor s.after_last)

module _ {In Out E L J : Type 0} (left : In → Option (List ℕ)) (ended : In → Bool) (faults : In → ℕ) (written : Out → Option (List ℕ)) (write_faults : Out → ℕ) (service : Service E L J) where
  pub served_same : (cs ds : List (In × Out)) (old new : Visitor E) → AreServed left ended faults written write_faults service cs ds old new → IsSame old new
  served_same [] [] old new s = same_as old new s
  served_same [] (d ∷ ds) old new s = absurd s
  served_same (c ∷ cs) [] old new s = absurd s
  served_same (c ∷ cs) (d ∷ ds) old new s =
      same_then old s.0 new (session_same service (place_of left ended faults written write_faults service c old) (place_of left ended faults written write_faults service d s.0) s.1 s.2) (served_same cs ds s.0 new s.3)

-- ---- so do turns

pub turns_same : (owns : List (List Entry)) (old new : Visitor Entry) → TakesTurns by owns old new → IsSame old new
turns_same [] old new t = same_as old new t
turns_same (own ∷ owns) old new t = same_then old t.0 new t.1.same (turns_same owns t.0 new t.2)
