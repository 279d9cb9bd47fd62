-- A session goes on by one step, or ends.
use Rattle.std.proofs.Common.{◌≡◌, ◌≢◌, ℕ, ◌+◌, ◌<◌, ◌≤◌, IfNone, ◌⊎◌, Bool, true, false, List, [], ◌∷◌, ◌++◌, length, take, Option, Some, None, refl, sym, ap, ◌∙◌, subst, arith, length-append, inl, inr, ⊎_elim}
use Rattle.std.specs.Io.KnownBytes.{Consumes, Appends}
use Rattle.std.proofs.lemmas.List.{append-nil}
use Rattle.sc_outside.specs.Causes.{Rose}
use Rattle.sc_http.specs.declared.request.Request.{Request}
use Rattle.sc_http.specs.declared.reply.Reply.{Reply}
use Rattle.sc_http.specs.declared.fault.HttpEnd.{HttpEnd}
use Rattle.sc_http.specs.declared.fault.HttpEnd.TheVariants as End
use Rattle.sc_http.specs.Reply.{reply_bytes, unavailable_bytes}
use Rattle.sc_http.specs.Requests.{AreRequests, Requests, BeginsWithRequest, HasNoWhole, request_of}
use Rattle.sc_http.specs.Intake.{Held, nothing_held, IsEnd, FirstOf}
use Rattle.sc_http.proofs.Whole.{go_on, are_stay, has_bytes, end_no_whole}
use Rattle.sc_visit.specs.Visits.{Visitor}
use Rattle.sc_session.specs.declared.ending.ConnEnd.{ConnEnd}
use Rattle.sc_session.specs.declared.ending.ConnEnd.TheVariants as Conn
use Rattle.sc_session.specs.Service.{Service}
use Rattle.sc_session.specs.Handling.{Handles, AreHandled, GivesUp}
use Rattle.sc_session.specs.Session.{bytes_of, OpenTo, TookFront, AfterLast, refusal_bytes, Place, EndsBy, EndsAs, Session, EndsBetween, IsOfRequests}
use Rattle.sc_session.specs.Steps.{SoFar, Goes, conn_end, Cuts, GivesUpWriting, AnswersOne, Refused}
use Rattle.sc_session.proofs.Known.{consumes_none, consumes_more, appends_none, appends_more, rose_since, flat_map-one}

open_more : (qs : List Request) (q : Request) (b : Bool) → OpenTo qs false → q.close ≡ b → OpenTo (qs ++ q ∷ []) b
open_more [] q b o c = c
open_more (p ∷ []) q b o c = (o, c)
open_more (p ∷ (r ∷ qs)) q b o c = (o.0, open_more (r ∷ qs) q b o.1 c)

-- behind a request fewer bytes are held than before it, but for those that were taken
pub fewer : (old new : Held) (l l' : Option (List ℕ)) (q : Request) → FirstOf q old.bytes new.bytes old.taken new.taken l l' → (result : Option ConnEnd)
    → IfNone result (length new.bytes + old.taken < new.taken + length old.bytes)
fewer old new l l' q is None =
    let less = has_bytes is.0 new.bytes q is.2 in
    omega (arith, less, ap length is.1.takes.parts, length-append old.bytes is.1.takes.taken, is.1.takes.counted)
fewer old new l l' q is (Some end) = tt

-- the cause of an end, since an earlier moment
cause_since : (end : HttpEnd) (rest : List ℕ) (taken : ℕ) (ended : Bool) (a b c : ℕ) → a ≤ b → IsEnd end rest taken ended b c → IsEnd end rest taken ended a c
cause_since (End.Cut n) rest taken ended a b c le is = is
cause_since (End.BadHead fault) rest taken ended a b c le is = is
cause_since (End.BadLength fault) rest taken ended a b c le is = is
cause_since End.ReadFault rest taken ended a b c le is = (is.0, rose_since a b c le is.1)
cause_since End.Spent rest taken ended a b c le is = is
cause_since End.OutOfMemory rest taken ended a b c le is = is

module _ {E L J : Type 0} (service : Service E L J) where
  handled_more : (qs : List Request) (rs : List Reply) (old mid new : Visitor E) (q : Request) (a : Reply) → AreHandled service qs rs old mid → Handles service q a mid new
      → AreHandled service (qs ++ q ∷ []) (rs ++ a ∷ []) old new
  handled_more [] [] old mid new q a h k = (new, subst (λ v. Handles service q a v new) h k, refl)
  handled_more [] (b ∷ rs) old mid new q a h k = absurd h
  handled_more (p ∷ qs) [] old mid new q a h k = absurd h
  handled_more (p ∷ qs) (b ∷ rs) old mid new q a h k = (h.0, h.1, handled_more qs rs h.0 mid new q a h.2 k)

  abbrev at : Option (List ℕ) → Bool → ℕ → Option (List ℕ) → ℕ → Visitor E → Place E
  at left ended faults written write_faults visitor = record { left = left; ended = ended; faults = faults; written = written; write_faults = write_faults; visitor = visitor }

  pub nothing_yet : (first : Place E) → SoFar service first first nothing_held
  nothing_yet first = record {
    front = [];
    requests = [];
    answers = [];
    took = consumes_none first.left;
    counted = refl;
    are = refl;
    open_to = refl;
    handled = refl;
    sent = appends_none first.written;
    read_later = omega arith;
    write_later = omega arith;
  }

  -- memory was wanting
  wants : (w0 w w' : Option (List ℕ)) (f0 f f' : ℕ) (sent : List ℕ) → Appends w0 w sent → f0 ≤ f → GivesUpWriting w w' f f'
      → Appends w0 w' (sent ++ unavailable_bytes) ⊎ (Rose f0 f' × ((n : ℕ) × Appends w0 w' (sent ++ take n unavailable_bytes)))
  wants w0 w w' f0 f f' sent s le g = ⊎_elim (λ x. inl (appends_more w0 w w' sent unavailable_bytes s x))
      (λ x. inr (rose_since f0 f f' le x.0, (x.1.0, appends_more w0 w w' sent (take x.1.0 unavailable_bytes) s x.1.1))) g

  pub ends_wanting : (first now next : Place E) (held : Held) → SoFar service first now held → (lost : List ℕ) → Consumes now.left next.left lost → GivesUp service now.visitor next.visitor
      → GivesUpWriting now.written next.written now.write_faults next.write_faults → Session service first next Conn.OutOfMemory
  ends_wanting first now next held s lost took g w = record {
    front = s.front;
    rest = held.bytes;
    requests = s.requests;
    answers = s.answers;
    took = (lost, consumes_more first.left now.left next.left s.front lost s.took took);
    are = s.are;
    closed = false;
    open_to = s.open_to;
    mid = now.visitor;
    handled = s.handled;
    after_last = g;
    ends = wants first.written now.written next.written first.write_faults now.write_faults next.write_faults (bytes_of s.answers) s.sent s.write_later w;
  }

  -- the input ended between two requests
  pub ends_between : (first : Place E) (l l' w : Option (List ℕ)) (e e' : Bool) (f f' wf : ℕ) (v : Visitor E) (held : Held) → SoFar service first (at l e f w wf v) held
      → held.bytes ≡ [] → Consumes l l' [] → e' ≡ true → Session service first (at l' e' f' w wf v) Conn.Ended
  ends_between first l l' w e e' f f' wf v held s none c end = record {
    front = s.front;
    rest = held.bytes;
    requests = s.requests;
    answers = s.answers;
    took = subst (λ bs. Consumes first.left l' bs) (append-nil s.front) (consumes_more first.left l l' s.front [] s.took c);
    are = s.are;
    closed = false;
    open_to = s.open_to;
    mid = v;
    handled = s.handled;
    after_last = refl;
    ends = record { cause = inr (refl, none, end); wrote = s.sent };
  }

  -- the requests ended
  ends_by : (first next : Place E) (end : HttpEnd) (closed : Bool) (rest : List ℕ) (taken revision : ℕ) (answers : List Reply) → EndsBy service.refusal first next end closed rest taken revision answers → end ≢ End.OutOfMemory
      → EndsAs service.refusal first next (conn_end end) closed rest taken revision answers
  ends_by first next (End.Cut n) closed rest taken revision answers is not = is
  ends_by first next (End.BadHead fault) closed rest taken revision answers is not = is
  ends_by first next (End.BadLength fault) closed rest taken revision answers is not = is
  ends_by first next End.ReadFault closed rest taken revision answers is not = is
  ends_by first next End.Spent closed rest taken revision answers is not = is
  ends_by first next End.OutOfMemory closed rest taken revision answers is not = absurd (not refl)

  took_by : (end : HttpEnd) (left next : Option (List ℕ)) (front : List ℕ) → Consumes left next front → TookFront (conn_end end) left next front
  took_by (End.Cut n) left next front is = is
  took_by (End.BadHead fault) left next front is = is
  took_by (End.BadLength fault) left next front is = is
  took_by End.ReadFault left next front is = is
  took_by End.Spent left next front is = is
  took_by End.OutOfMemory left next front is = ([], subst (λ bs. Consumes left next bs) (sym (append-nil front)) is)

  after_by : (end : HttpEnd) (v : Visitor E) → AfterLast service (conn_end end) v v
  after_by (End.Cut n) v = refl
  after_by (End.BadHead fault) v = refl
  after_by (End.BadLength fault) v = refl
  after_by End.ReadFault v = refl
  after_by End.Spent v = refl
  after_by End.OutOfMemory v = inl refl

  module _ (first : Place E) (l l' w w' : Option (List ℕ)) (e e' : Bool) (f f' wf wf' : ℕ) (v : Visitor E) (old : Held) (count : ℕ) (s : SoFar service first (at l e f w wf v) old)
      (later : f ≤ f') (write_later : wf ≤ wf') where
    abbrev now : Place E
    now = at l' e' f' w' wf' v

    module _ (end : HttpEnd) (not : end ≢ End.OutOfMemory) (bytes taken : List ℕ) (parts : bytes ≡ old.bytes ++ taken) (took : Consumes l l' taken) (counted : count ≡ old.taken + length taken)
        (is : IsEnd end bytes count e' f f') where
      abbrev front : List ℕ
      front = s.front ++ taken

      cause : IsEnd end bytes (length front) e' first.faults f'
      cause = cause_since end bytes (length front) e' first.faults f f' s.read_later
          (subst (λ n. IsEnd end bytes n e' f f') (counted ∙ ap (λ n. n + length taken) s.counted ∙ sym (length-append s.front taken)) is)

      are : AreRequests front s.requests bytes
      are = subst (λ b. AreRequests front s.requests b) (sym parts) (are_stay s.front old.bytes taken s.requests s.are)

      by_end : Appends w w' (refusal_bytes (service.refusal end (length v.seen))) → Session service first now (conn_end end)
      by_end wrote = record {
        front = front;
        rest = bytes;
        requests = s.requests;
        answers = s.answers;
        took = took_by end first.left l' front (consumes_more first.left l l' s.front taken s.took took);
        are = are;
        closed = false;
        open_to = s.open_to;
        mid = v;
        handled = s.handled;
        after_last = after_by end v;
        ends = ends_by first now end false bytes (length front) (length v.seen) s.answers (record {
          open_still = refl;
          cause = cause;
          wrote = appends_more first.written w w' (bytes_of s.answers) (refusal_bytes (service.refusal end (length v.seen))) s.sent wrote;
        }) not;
      }

      cut_end : Cuts w w' wf wf' (refusal_bytes (service.refusal end (length v.seen))) → Session service first now Conn.WriteFault
      cut_end cuts = record {
        front = front;
        rest = bytes;
        requests = s.requests;
        answers = s.answers;
        took = consumes_more first.left l l' s.front taken s.took took;
        are = are;
        closed = false;
        open_to = s.open_to;
        mid = v;
        handled = s.handled;
        after_last = refl;
        ends = inr (record {
          end = end;
          open_still = refl;
          cause = cause;
          cuts = (
            rose_since first.write_faults wf wf' s.write_later cuts.0,
            (cuts.1.0, appends_more first.written w w' (bytes_of s.answers) (take cuts.1.0 (refusal_bytes (service.refusal end (length v.seen)))) s.sent cuts.1.1),
          );
        });
      }

      pub ends_refused : (result : ConnEnd) → Refused result end (service.refusal end (length v.seen)) w w' wf wf' → Session service first now result
      ends_refused result r = ⊎_elim (λ x. subst (λ c. Session service first now c) (sym x.0) (by_end x.1))
          (⊎_elim (λ x. subst (λ c. Session service first now c) (sym x.0) (cut_end x.1))
          (λ x. subst (λ c. Session service first now c) (sym x.0) (ends_wanting first (at l e f w wf v) now old s taken took (inl refl) x.1))) r

  module _ (first : Place E) (l l' w w' : Option (List ℕ)) (e e' : Bool) (f f' wf wf' : ℕ) (v v' : Visitor E) (old new : Held) (s : SoFar service first (at l e f w wf v) old)
      (later : f ≤ f') (write_later : wf ≤ wf') (q : Request) (is : FirstOf q old.bytes new.bytes old.taken new.taken l l') where
    abbrev next : Place E
    next = at l' e' f' w' wf' v'

    abbrev taken : List ℕ
    taken = is.1.takes.taken

    abbrev all : List ℕ
    all = s.front ++ taken

    are_more : AreRequests all (s.requests ++ q ∷ []) new.bytes
    are_more = go_on s.front old.bytes taken new.bytes s.requests q s.are (subst (λ b. BeginsWithRequest b q new.bytes) is.1.takes.parts is.2)

    took_more : Consumes first.left l' all
    took_more = consumes_more first.left l l' s.front taken s.took is.1.takes.took

    sent_more : (a : Reply) → Appends w w' (reply_bytes a) → Appends first.written w' (bytes_of (s.answers ++ a ∷ []))
    sent_more a wrote = subst (λ b. Appends first.written w' b) (sym (flat_map-one reply_bytes s.answers a)) (appends_more first.written w w' (bytes_of s.answers) (reply_bytes a) s.sent wrote)

    closes : (closed : Bool) (a : Reply) → Handles service q a v v' → q.close ≡ closed → (end : ConnEnd) → TookFront end first.left l' all → AfterLast service end v' v'
        → EndsAs service.refusal first next end closed new.bytes (length all) (length v'.seen) (s.answers ++ a ∷ []) → Session service first next end
    closes closed a h c end took after ends = record {
      front = all;
      rest = new.bytes;
      requests = s.requests ++ q ∷ [];
      answers = s.answers ++ a ∷ [];
      took = took;
      are = are_more;
      closed = closed;
      open_to = open_more s.requests q closed s.open_to c;
      mid = v';
      handled = handled_more s.requests s.answers first.visitor v v' q a s.handled h;
      after_last = after;
      ends = ends;
    }

    pub answered : (result : Option ConnEnd) → AnswersOne service result q v v' w w' wf wf' → Goes service first next new result
    answered None x = record {
      front = all;
      requests = s.requests ++ q ∷ [];
      answers = s.answers ++ x.0 ∷ [];
      took = took_more;
      counted = is.1.takes.counted ∙ ap (λ n. n + length taken) s.counted ∙ sym (length-append s.front taken);
      are = are_more;
      open_to = open_more s.requests q false s.open_to x.3;
      handled = handled_more s.requests s.answers first.visitor v v' q x.0 s.handled x.1;
      sent = sent_more x.0 x.2;
      read_later = omega (arith, s.read_later, later);
      write_later = omega (arith, s.write_later, write_later);
    }
    answered (Some Conn.Ended) x = closes true x.0 x.1 x.3 Conn.Ended took_more refl (record { cause = inl refl; wrote = sent_more x.0 x.2 })
    answered (Some Conn.WriteFault) x = closes q.close x.0 x.1 refl Conn.WriteFault took_more refl (inl (record {
      before = s.answers;
      last = x.0;
      are = refl;
      cuts = (rose_since first.write_faults wf wf' s.write_later x.2.0, (x.2.1.0, appends_more first.written w w' (bytes_of s.answers) (take x.2.1.0 (reply_bytes x.0)) s.sent x.2.1.1));
    }))
    answered (Some Conn.OutOfMemory) x = ends_wanting first (at l e f w wf v) next old s taken is.1.takes.took x.0 x.1
    answered (Some (Conn.Cut n)) x = absurd x
    answered (Some (Conn.BadHead fault)) x = absurd x
    answered (Some (Conn.BadLength fault)) x = absurd x
    answered (Some Conn.ReadFault) x = absurd x
    answered (Some Conn.Spent) x = absurd x

-- ---- which requests were handled

-- no bytes begin with no request
none_in_none : HasNoWhole []
none_in_none h content rest is = let less = has_bytes [] rest (request_of h content) (h, content, is, refl) in absurd (omega (arith, less))

module _ {E L J : Type 0} (service : Service E L J) where
  all_by : (end : HttpEnd) (old new : Place E) (closed : Bool) (front rest : List ℕ) (revision : ℕ) (answers : List Reply) → end ≢ End.OutOfMemory
      → EndsBy service.refusal old new end closed rest (length front) revision answers → HasNoWhole rest
  all_by end old new closed front rest revision answers not by_end = end_no_whole end rest (length front) new.ended old.faults new.faults not by_end.cause

  all_between : (old new : Place E) (closed : Bool) (rest : List ℕ) (answers : List Reply) → closed ≡ false → EndsBetween service.refusal old new closed rest answers → HasNoWhole rest
  all_between old new closed rest answers still ends =
      ⊎_elim (λ x. let no : true ≡ false = sym x ∙ still in absurd cc) (λ x. subst HasNoWhole (sym x.1) none_in_none) ends.cause

  pub handled_all : (old new : Place E) (end : ConnEnd) (s : Session service old new end) → IsOfRequests end s.closed → Requests s.front s.requests s.rest
  handled_all old new Conn.Ended s still = (s.are, all_between old new s.closed s.rest s.answers still s.ends)
  handled_all old new (Conn.Cut n) s still = (s.are, all_by (End.Cut n) old new s.closed s.front s.rest (length s.mid.seen) s.answers (λ (e : End.Cut n ≡ End.OutOfMemory). cc) s.ends)
  handled_all old new (Conn.BadHead fault) s still =
      (s.are, all_by (End.BadHead fault) old new s.closed s.front s.rest (length s.mid.seen) s.answers (λ (e : End.BadHead fault ≡ End.OutOfMemory). cc) s.ends)
  handled_all old new (Conn.BadLength fault) s still =
      (s.are, all_by (End.BadLength fault) old new s.closed s.front s.rest (length s.mid.seen) s.answers (λ (e : End.BadLength fault ≡ End.OutOfMemory). cc) s.ends)
  handled_all old new Conn.ReadFault s still = (s.are, all_by End.ReadFault old new s.closed s.front s.rest (length s.mid.seen) s.answers (λ (e : End.ReadFault ≡ End.OutOfMemory). cc) s.ends)
  handled_all old new Conn.WriteFault s still = absurd still
  handled_all old new Conn.Spent s still = (s.are, all_by End.Spent old new s.closed s.front s.rest (length s.mid.seen) s.answers (λ (e : End.Spent ≡ End.OutOfMemory). cc) s.ends)
  handled_all old new Conn.OutOfMemory s still = absurd still
