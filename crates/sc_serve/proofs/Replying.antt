-- What one request does, from what its parts do.
use Rattle.std.proofs.Common.{◌≡◌, ◌≢◌, ℕ, ◌<◌, ◌≤◌, Bool, true, false, List, [], ◌∷◌, length, Option, Some, None, Result, Ok, Err, refl, sym, ap, ◌∙◌, subst, arith, inl, inr, option_map, ⊎_elim, length-append, lt-ltb, le-ltb}
use Rattle.std.specs.Prelude.{IfOk}
use Rattle.sc_http.specs.declared.request.Request.{Request}
use Rattle.sc_http.specs.Reply.{reply_bytes}
use Rattle.sc_http.specs.declared.fault.HttpEnd.{HttpEnd}
use Rattle.sc_load.specs.declared.load.Load.{Load}
use Rattle.sc_catalog.specs.declared.entry.Entry.{Entry}
use Rattle.sc_catalog.specs.Entries.{by, entry_of}
use Rattle.sc_load.specs.declared.fault.LoadFault.TheVariants as Fault
use Rattle.sc_visit.specs.Visits.{Visitor, TakesTurn}
use Rattle.sc_visit.proofs.Turning.{turn_grows}
use Rattle.sc_desk.specs.declared.calls.LoadRefused.{LoadRefused}
use Rattle.sc_session.specs.declared.ask.Ask.TheVariants.{Nothing, Look}
use Rattle.sc_session.specs.Handling.{Does, Publishes, GivesUp}
use Rattle.sc_session.specs.Handling as session
use Rattle.sc_document.specs.Documents.{landing, conformance, queryables}
use Rattle.sc_route.specs.Jobs.{JobOf}
use Rattle.sc_route.specs.declared.job.Job.{Job}
use Rattle.sc_route.specs.declared.job.Work.{Work}
use Rattle.sc_route.specs.declared.job.Work.TheVariants as Of
use Rattle.sc_refusal.specs.declared.fault.RouteFault.{RouteFault}
use Rattle.sc_refusal.specs.declared.fault.RouteFault.TheVariants as Route
use Rattle.sc_refusal.specs.Refusals.{load_refused}
use Rattle.sc_said.specs.Said.{Saying, reply_of, accepted_of, not_stored, behind, json}
use Rattle.sc_serve.specs.declared.desk.Tried.{Tried}
use Rattle.sc_serve.specs.declared.desk.Tried.TheVariants as tries
use Rattle.sc_serve.specs.Desks.{TakesLoad, LeavesUnstored, RefusesLoad, TriesLoad, revision_of, said_of_tried}
use Rattle.sc_serve.specs.Replies.{makes, count_of, of_refusal, of_route, of_end, is_behind, is_load, fixed, SaysOf, Says}
use Rattle.sc_serve.specs.Service.{api_of, refusal_of, asks_of, IsReadAs, IsDone, Handles, IsTried, Tries}

abbrev pub said_text : Saying → ℕ → Bool → List ℕ
said_text said revision close = reply_bytes (reply_of said revision close)

module _ (may_fail : Type 0) (base : List ℕ) (close : Bool) where
  -- ---- a load in one turn

  accepted : (load : Load) (revision : ℕ) (old new : Visitor Entry) (made : Bool) (items : ℕ) (text : List ℕ) → TakesLoad load revision old new
      → made ≡ makes load → items ≡ count_of load → text ≡ said_text (accepted_of made revision items) revision close → IsTried may_fail base close load text old new
  accepted load revision old new made items text took m i t = record {
    accepted = true;
    publishes = took.turn;
    said = accepted_of (makes load) (length new.seen) (count_of load);
    says = inl refl;
    text_is = t ∙ ap (λ b. said_text (accepted_of b revision items) revision close) m ∙ ap (λ n. said_text (accepted_of (makes load) revision n) revision close) i
        ∙ ap (λ r. said_text (accepted_of (makes load) r (count_of load)) r close) took.revision_is;
  }

  pub refused : {F : Type 0} (load : Load) (why : LoadRefused) (old new : Visitor Entry) (said : Saying) (r : Result (List ℕ) F) → RefusesLoad load why old new
      → (why.fault ≡ Fault.OutOfMemory → ⊥) → said ≡ of_refusal (load_refused why.fault) → IfOk r (λ text. text ≡ said_text said why.revision close) → Tries may_fail base close load r old new
  refused {F} load why old new said (Ok text) took known is t = record {
    accepted = false;
    publishes = took.turn;
    said = said;
    says = inl (record { fault = why.fault; known = known; refuses = took.is; said_is = is });
    text_is = t ∙ ap (λ r. said_text said r close) took.revision_is;
  }
  refused {F} load why old new said (Err fault) took known is t = inr took.turn

  unstored : (load : Load) (revision stored : ℕ) (old new : Visitor Entry) (text : List ℕ) → LeavesUnstored may_fail load revision stored old new
      → text ≡ said_text (not_stored stored) revision close → IsTried may_fail base close load text old new
  unstored load revision stored old new text left t = record {
    accepted = true;
    publishes = left.takes.turn;
    said = not_stored stored;
    says = inr (record { may = left.may; was_accepted = refl; stored = stored; fewer = left.fewer; said_is = refl });
    text_is = t ∙ ap (λ r. said_text (not_stored stored) r close) left.takes.revision_is;
  }

  pub taken : (load : Load) (tried : Tried) (old new : Visitor Entry) (made : Bool) (items : ℕ) (text : List ℕ) → TriesLoad may_fail load (Ok tried) old new
      → made ≡ makes load → items ≡ count_of load → text ≡ said_text (said_of_tried made items tried) (revision_of tried) close → IsTried may_fail base close load text old new
  taken load (tries.Taken revision) old new made items text took m i t = accepted load revision old new made items text took m i t
  taken load (tries.NotStored revision stored) old new made items text took m i t = unstored load revision stored old new text took t

  -- ---- a load, where a revision may be stated

  pub tried : {F : Type 0} (load : Load) (r : Result (List ℕ) F) (old new : Visitor Entry) → Tries may_fail base close load r old new
      → Handles may_fail base close (Ok (record { seen = None; work = Of.Load load })) r old new
  tried {F} load (Ok text) old new t = record { accepted = t.accepted; does = t.publishes; said = t.said; says = t.says; text_is = t.text_is }
  tried {F} load (Err fault) old new t = ⊎_elim (λ x. inl x) (λ x. inr (inl x)) t

  module _ (stated : ℕ) (load : Load) (old mid : Visitor Entry) (turn : TakesTurn by [] old mid) where
    abbrev job : Result Job RouteFault
    job = Ok (record { seen = Some stated; work = Of.Load load })

    pub is_told_behind : {F : Type 0} (r : Result (List ℕ) F) (revision : ℕ) → revision < stated → revision ≡ length mid.seen
        → IfOk r (λ text. text ≡ said_text (behind revision) revision close) → Handles may_fail base close job r old mid
    is_told_behind {F} (Ok text) revision less is t =
        let far : length mid.seen < stated = omega (arith, less, is) in
        record {
          accepted = false;
          does = (mid, turn, inl (far, refl, refl));
          said = behind (length mid.seen);
          says = inl (subst (λ b. Says base b (Of.Load load) mid.seen false (behind (length mid.seen))) (sym (lt-ltb (length mid.seen) stated far)) (refl, refl));
          text_is = t ∙ ap (λ r. said_text (behind r) r close) is;
        }
    is_told_behind {F} (Err fault) revision less is t = inr (inl turn)

    grows : (accepted : Bool) (new : Visitor Entry) → Publishes (api_of may_fail base) load accepted mid new → length mid.seen ≤ length new.seen
    grows true new p = let g = turn_grows by (entry_of mid.number load ∷ []) mid new p.0 in omega (arith, ap length g.1, length-append mid.seen g.0)
    grows false new p = let g = turn_grows by [] mid new p in omega (arith, ap length g.1, length-append mid.seen g.0)

    pub tried_from : {F : Type 0} (r : Result (List ℕ) F) (new : Visitor Entry) → stated ≤ length mid.seen → Tries may_fail base close load r mid new → Handles may_fail base close job r old new
    tried_from {F} (Ok text) new reached t =
        let far : stated ≤ length new.seen = omega (arith, reached, grows t.accepted new t.publishes) in
        record {
          accepted = t.accepted;
          does = (mid, turn, inr (reached, t.publishes));
          said = t.said;
          says = ⊎_elim (λ s. inl (subst (λ b. Says base b (Of.Load load) new.seen t.accepted t.said) (sym (le-ltb (length new.seen) stated far)) s)) (λ s. inr s) t.says;
          text_is = t.text_is;
        }
    tried_from {F} (Err fault) new reached t = ⊎_elim (λ x. inr (inl (subst (λ v. TakesTurn by [] old v) (sym x) turn))) (λ x. inr (inr (mid, turn, (new, x, refl)))) t

  -- ---- other jobs

  pub looked : {F : Type 0} (seen : Option ℕ) (work : Work) (old new : Visitor Entry) (said : Saying) (revision : ℕ) (r : Result (List ℕ) F) → TakesTurn by [] old new → asks_of work seen ≡ Look
      → revision ≡ length new.seen → Says base (is_behind seen (length new.seen)) work new.seen false said → IfOk r (λ text. text ≡ said_text said revision close)
      → Handles may_fail base close (Ok (record { seen = seen; work = work })) r old new
  looked {F} seen work old new said revision (Ok text) turn look is says t = record {
    accepted = false;
    does = subst (λ a. Does (api_of may_fail base) a false old new) (sym look) (refl, turn);
    said = said;
    says = inl says;
    text_is = t ∙ ap (λ r. said_text said r close) is;
  }
  looked {F} seen work old new said revision (Err fault) turn look is says t = inr (inl turn)

  pub fixed_said : {F : Type 0} (work : Work) (v : Visitor Entry) (document : List ℕ) (revision : ℕ) (r : Result (List ℕ) F) → Some document ≡ fixed base work → revision ≡ length v.seen
      → IfOk r (λ text. text ≡ said_text (json document) revision close) → Handles may_fail base close (Ok (record { seen = None; work = work })) r v v
  fixed_said {F} work v document revision (Err fault) f is t = inl refl
  fixed_said {F} work v document revision (Ok text) f is t = go work f
    where
      whole : text ≡ said_text (json document) (length v.seen) close
      whole = t ∙ ap (λ r. said_text (json document) r close) is

      say : (work : Work) → SaysOf base work v.seen false (json document) → asks_of work None ≡ Nothing → IsDone may_fail base close (Ok (record { seen = None; work = work })) text v v
      say work says ask = record { accepted = false; does = subst (λ a. Does (api_of may_fail base) a false v v) (sym ask) (refl, refl); said = json document; says = inl says; text_is = whole }

      go : (work : Work) → Some document ≡ fixed base work → IsDone may_fail base close (Ok (record { seen = None; work = work })) text v v
      go Of.Landing e = let d : document ≡ landing base = cc in say Of.Landing (ap json d) refl
      go Of.Conformance e = let d : document ≡ conformance = cc in say Of.Conformance (ap json d) refl
      go Of.Queryables e = let d : document ≡ queryables = cc in say Of.Queryables (ap json d) refl
      go Of.Collections e = absurd cc
      go (Of.Collection id) e = absurd cc
      go (Of.Item collection id) e = absurd cc
      go (Of.Search within asked links) e = absurd cc
      go (Of.Load load) e = absurd cc

  pub refused_route : {F : Type 0} (fault : RouteFault) (v : Visitor Entry) (said : Saying) (revision : ℕ) (r : Result (List ℕ) F) → said ≡ of_route fault → revision ≡ length v.seen
      → IfOk r (λ text. text ≡ said_text said revision close) → Handles may_fail base close (Err fault) r v v
  refused_route {F} fault v said revision (Ok text) is at t = record { accepted = false; does = (refl, refl); said = said; says = inl is; text_is = t ∙ ap (λ r. said_text said r close) at }
  refused_route {F} fault v said revision (Err f) is at t = inl refl

-- ---- what jobs ask

pub looks : (base : List ℕ) (work : Work) → is_load work ≡ false → None ≡ fixed base work → asks_of work None ≡ Look
looks base Of.Landing l f = absurd cc
looks base Of.Conformance l f = absurd cc
looks base Of.Queryables l f = absurd cc
looks base Of.Collections l f = refl
looks base (Of.Collection id) l f = refl
looks base (Of.Item collection id) l f = refl
looks base (Of.Search within asked links) l f = refl
looks base (Of.Load load) l f = absurd cc

pub looks_from : (work : Work) (stated : ℕ) → is_load work ≡ false → asks_of work (Some stated) ≡ Look
looks_from Of.Landing stated l = refl
looks_from Of.Conformance stated l = refl
looks_from Of.Queryables stated l = refl
looks_from Of.Collections stated l = refl
looks_from (Of.Collection id) stated l = refl
looks_from (Of.Item collection id) stated l = refl
looks_from (Of.Search within asked links) stated l = refl
looks_from (Of.Load load) stated l = absurd cc

-- ---- a whole request

pub err_known : (fault : RouteFault) → fault ≢ Route.OutOfMemory → let job : Result Job RouteFault = Err fault in job ≢ Err Route.OutOfMemory
err_known fault known e = let is : fault ≡ Route.OutOfMemory = cc in known is

pub ok_known : (job : Job) → let read : Result Job RouteFault = Ok job in read ≢ Err Route.OutOfMemory
ok_known job e = cc

pub answers : {F : Type 0} (may_fail : Type 0) (base : List ℕ) (q : Request) (job : Result Job RouteFault) (r : Result (List ℕ) F) (old new : Visitor Entry) → IsReadAs base q job → Handles may_fail base q.close job r old new
    → session.Answers (api_of may_fail base) r q old new
answers {F} may_fail base q j (Ok text) old new read d = (
  reply_of d.said (length new.seen) q.close,
  record { job = j; read = read; accepted = d.accepted; does = d.does; replied = (d.said, d.says, refl); revision = refl },
  d.text_is,
)
answers {F} may_fail base q j (Err fault) old new read d = d

pub route_answers : {F : Type 0} (may_fail : Type 0) (base : List ℕ) (q : Request) (fault : RouteFault) (r : Result (List ℕ) F) (v : Visitor Entry) (revision : ℕ) → JobOf base q (Err fault)
    → IfOk r (λ _. fault ≢ Route.OutOfMemory) → revision ≡ length v.seen → IfOk r (λ text. text ≡ said_text (of_route fault) revision q.close) → session.Answers (api_of may_fail base) r q v v
route_answers {F} may_fail base q fault (Ok text) v revision read known at t =
    answers {F = F} may_fail base q (Err fault) (Ok text) v v (read, err_known fault known) (refused_route may_fail base q.close {F = F} fault v (of_route fault) revision (Ok text) refl at t)
route_answers {F} may_fail base q fault (Err f) v revision read known at t = inl refl

pub not_load : (work : Work) → ((load : Load) → work ≡ Of.Load load → ⊥) → is_load work ≡ false
not_load Of.Landing not = refl
not_load Of.Conformance not = refl
not_load Of.Queryables not = refl
not_load Of.Collections not = refl
not_load (Of.Collection id) not = refl
not_load (Of.Item collection id) not = refl
not_load (Of.Search within asked links) not = refl
not_load (Of.Load load) not = absurd (not load refl)

-- ---- the ends of the requests

pub no_end_told : (end : HttpEnd) (revision : ℕ) → None ≡ of_end end → None ≡ option_map reply_bytes (refusal_of (of_end end) revision)
no_end_told end revision e = ap (λ s. option_map reply_bytes (refusal_of s revision)) e

pub end_told : (end : HttpEnd) (said : Saying) (text : List ℕ) (revision told : ℕ) → Some said ≡ of_end end → told ≡ revision → text ≡ said_text said told true
    → Some text ≡ option_map reply_bytes (refusal_of (of_end end) revision)
end_told end said text revision told e r t = ap Some (t ∙ ap (λ n. said_text said n true) r) ∙ ap (λ s. option_map reply_bytes (refusal_of s revision)) e

-- ---- whether a later revision is stated

module _ (base : List ℕ) (work : Work) (entries : List Entry) (seen : Option ℕ) (revision : ℕ) (said : Saying) (there : revision ≡ length entries) where
  pub says_behind : is_behind seen revision ≡ true → said ≡ behind revision → Says base (is_behind seen (length entries)) work entries false said
  says_behind b e = subst (λ (z : Bool). Says base z work entries false said) (sym (ap (is_behind seen) (sym there) ∙ b)) (refl, e ∙ ap behind there)

  pub says_there : is_behind seen revision ≡ false → SaysOf base work entries false said → Says base (is_behind seen (length entries)) work entries false said
  says_there b s = subst (λ (z : Bool). Says base z work entries false said) (sym (ap (is_behind seen) (sym there) ∙ b)) s
