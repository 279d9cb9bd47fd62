-- What a handled request tells, by what it was read as.
use Rattle.std.proofs.Common.{◌≡◌, ℕ, ◌≤◌, ◌⊎◌, Bool, true, false, nat_lt, List, [], ◌∷◌, length, find, Option, Some, None, Ok, refl, sym, ap, ◌∙◌, subst, arith, inl, inr, ⊎_elim, length-append, ltb-false}
use Rattle.sc_http.specs.declared.request.Request.{Request}
use Rattle.sc_http.specs.declared.reply.Reply.{Reply}
use Rattle.sc_history.specs.Content.{Collection, is_called}
use Rattle.sc_history.specs.Changes.{Change}
use Rattle.sc_history.specs.History.{replay}
use Rattle.sc_catalog.specs.declared.entry.Entry.{Entry}
use Rattle.sc_catalog.specs.Entries.{TellsOf, by, entry_of}
use Rattle.sc_expr.specs.Query.{Asked}
use Rattle.sc_page.specs.declared.links.Links.{Links}
use Rattle.sc_visit.specs.Visits.{Visitor}
use Rattle.sc_visit.proofs.Turning.{turn_grows}
use Rattle.sc_session.specs.Handling.{Handles, Does}
use Rattle.sc_route.specs.declared.job.Work.{Work}
use Rattle.sc_route.specs.declared.job.Work.TheVariants as Of
use Rattle.sc_said.specs.Said.{Saying, reply_of, behind}
use Rattle.sc_serve.specs.Replies.{is_behind, Says, OfSearch, OfSearchIn, TellsPage, IsReply, IsPageOf}
use Rattle.sc_serve.specs.Service.{api_of, asks, asks_of}

module _ (close : Bool) (entries : List Entry) (asked : Asked) (links : Links) (said : Saying) (reply : Reply) (is : reply ≡ reply_of said (length entries) close) (ok : reply.status ≡ 200) where
  said_ok : said.status ≡ 200
  said_ok = ap (λ (r : Reply). r.status) (sym is) ∙ ok

  module _ (past : List Change) (told : TellsOf entries past) where
    page_of : TellsPage asked links (replay past).items said → IsPageOf asked links entries reply
    page_of t = record {
      past = past;
      told = told;
      page = t.0;
      next = t.1;
      is = t.2;
      body_is = ap (λ (r : Reply). r.body) is ∙ ap (λ (s : Saying). s.body) t.3;
      revision_is = ap (λ (r : Reply). r.revision) is;
    }

    found_of : (found : Option Collection) (id : List ℕ) → OfSearchIn found id asked links (replay past).items said → IsPageOf asked links entries reply
    found_of None id s = let no : 404 ≡ 200 = ap (λ (s : Saying). s.status) (sym s) ∙ said_ok in absurd (omega (arith, no))
    found_of (Some collection) id s = page_of s

    search_of : (within : Option (List ℕ)) → OfSearch within asked links (replay past).collections (replay past).items said → IsPageOf asked links entries reply
    search_of None s = page_of s
    search_of (Some id) s = found_of (find (is_called id) (replay past).collections) id s

  pub page_told : (base : List ℕ) (b : Bool) (within : Option (List ℕ)) (accepted : Bool) → Says base b (Of.Search within asked links) entries accepted said → IsPageOf asked links entries reply
  page_told base true within accepted s = let no : 409 ≡ 200 = ap (λ (s : Saying). s.status) (sym s.1) ∙ said_ok in absurd (omega (arith, no))
  page_told base false within accepted s = search_of s.0 s.1 within s.2

pub search_told : (may_fail : Type 0) (base : List ℕ) (q : Request) (reply : Reply) (old new : Visitor Entry) (handled : Handles (api_of may_fail base) q reply old new) (seen : Option ℕ) (within : Option (List ℕ)) (asked : Asked) (links : Links)
    → handled.job ≡ Ok (record { seen = seen; work = Of.Search within asked links }) → reply.status ≡ 200 → IsPageOf asked links new.seen reply
search_told may_fail base q reply old new handled seen within asked links job ok =
    let told = subst (λ j. IsReply base may_fail q.close j new.seen handled.accepted reply) job handled.replied in
    ⊎_elim (page_told q.close new.seen asked links told.0 reply told.2 ok base (is_behind seen (length new.seen)) within handled.accepted)
    (λ s. let no : 500 ≡ 200 = ap (λ (s : Saying). s.status) (sym s.said_is) ∙ ap (λ (r : Reply). r.status) (sym told.2) ∙ ok in absurd (omega (arith, no))) told.1

module _ (base : List ℕ) (close : Bool) (entries : List Entry) (reply : Reply) (said : Saying) (is : reply ≡ reply_of said (length entries) close) (stated : ℕ) where
  stated_by : (work : Work) (accepted : Bool) (b : Bool) → nat_lt (length entries) stated ≡ b → Says base b work entries accepted said
      → (stated ≤ reply.revision) ⊎ (reply ≡ reply_of (behind reply.revision) reply.revision close)
  stated_by work accepted true e s =
      let r : reply.revision ≡ length entries = ap (λ (r : Reply). r.revision) is in
      inr (is ∙ ap (λ (s : Saying). reply_of s (length entries) close) s.1 ∙ ap (λ n. reply_of (behind n) n close) (sym r))
  stated_by work accepted false e s =
      let r : reply.revision ≡ length entries = ap (λ (r : Reply). r.revision) is in
      inl (omega (arith, ltb-false (length entries) stated e, r))

module _ (may_fail : Type 0) (base : List ℕ) (old new : Visitor Entry) (stated : ℕ) where
  -- a load was accepted only where the stated revision is reached
  reached : (work : Work) → Does (api_of may_fail base) (asks_of work (Some stated)) true old new → stated ≤ length new.seen
  reached Of.Landing d = absurd cc
  reached Of.Conformance d = absurd cc
  reached Of.Queryables d = absurd cc
  reached Of.Collections d = absurd cc
  reached (Of.Collection id) d = absurd cc
  reached (Of.Item collection id) d = absurd cc
  reached (Of.Search within asked links) d = absurd cc
  reached (Of.Load load) d =
      ⊎_elim (λ far. absurd cc) (λ near. let g = turn_grows by (entry_of d.0.number load ∷ []) d.0 new near.1.0 in omega (arith, near.0, ap length g.1, length-append d.0.seen g.0)) d.2

pub stated_told : (may_fail : Type 0) (base : List ℕ) (q : Request) (reply : Reply) (old new : Visitor Entry) (handled : Handles (api_of may_fail base) q reply old new) (stated : ℕ) (work : Work)
    → handled.job ≡ Ok (record { seen = Some stated; work = work }) → (stated ≤ reply.revision) ⊎ (reply ≡ reply_of (behind reply.revision) reply.revision q.close)
stated_told may_fail base q reply old new handled stated work job =
    let told = subst (λ j. IsReply base may_fail q.close j new.seen handled.accepted reply) job handled.replied in
    ⊎_elim (stated_by base q.close new.seen reply told.0 told.2 stated work handled.accepted (nat_lt (length new.seen) stated) refl)
    (λ s.
    let does = subst (λ j. Does (api_of may_fail base) (asks j) handled.accepted old new) job handled.does in
    let far = reached may_fail base old new stated work (subst (λ b. Does (api_of may_fail base) (asks_of work (Some stated)) b old new) s.was_accepted does) in
    inl (subst (λ n. stated ≤ n) (sym handled.revision) far)) told.1
