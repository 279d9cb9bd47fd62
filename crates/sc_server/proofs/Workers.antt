-- All workers of a server, and what they show of the closed history and of the notices.
use Rattle.std.proofs.Common.{◌≡◌, ℕ, zero, suc, ◌+◌, ◌-◌, ◌<◌, ◌≤◌, Bool, true, false, ◌||◌, eq-eqb, nat_lt, ltb-true, ltb-false, List, [], ◌∷◌, ◌++◌, length, get_or, sym, refl, ap, ap₂, ◌∙◌, subst, arith, length-append, map}
use Rattle.std.specs.Prelude.{◌==◌, filter, replicate, slice_get, Option, None, Some}
use Rattle.std.proofs.Math.ListN.{get_or-append}
use Rattle.std.proofs.lemmas.Grind.{flat_map-append}
use Rattle.std.proofs.Math.Seq.{get_or-append_right}
use Rattle.std.proofs.lemmas.List.{append-nil, get_or-append-add, length-map, map-append}
use Rattle.std.proofs.lemmas.List.Elements.{All-head, All-tail}
use Rattle.std.specs.List.{All, Any}
use Rattle.sc_turn.specs.{TableId}
use Rattle.sc_turn.specs.History.{Closes, HasNumbers, Knows}
use Rattle.sc_turn.specs.Passes.{card_desk, card_number, pair_of}
use Rattle.sc_turn.specs.declared.booked.Booked.{Ghosts}
use Rattle.sc_turn.specs.declared.pass.Card.{Card}
use Rattle.sc_load.specs.declared.load.Load.{Load}
use Rattle.sc_catalog.specs.declared.entry.Entry.{Entry}
use Rattle.sc_catalog.specs.Entries.{by}
use Rattle.sc_visit.specs.Visits.{Visitor}
use Rattle.sc_notice.specs.declared.notice.Notice.TheVariants.{Stop}
use Rattle.sc_notice.specs.Callers.{Queue, Caller, all_calls, told_by, told_in}
use Rattle.sc_notice.specs.Callers as notices
use Rattle.sc_session.specs.Service.{Service}
use Rattle.sc_serve.specs.Notices.{TellsOfLoads}
use Rattle.sc_server.specs.Seats.{newcomer, AreSeated, AreCardsOf}
use Rattle.sc_server.specs.Workers.{seen_by, turns_at_most, room, AreBack, IsStaffOf, seats_of, AreNoticed, HaveWorked, HasRun, IsServed}
use Rattle.sc_server.specs.declared.seat.Seat.{Seat}
use Rattle.sc_server.specs.declared.worker.Worker.{Worker}
use Rattle.sc_server.specs.declared.staff.Staff.{Staff}
use Rattle.sc_server.proofs.Lists.{all_back, all_front, all_mid, any_image, any_more, map_more, pick, at_map_or, images_kept, images_twice, same_images}
use Rattle.sc_server.proofs.Seats.{kept, kept_as, tightened_kept, tightened_told, tightened_none, stopping_kept, stopping_none, stopping_told, cards_desk, cards_all, cards_many, callers_all}
use Rattle.sc_server.proofs.Sessions.{served_same}

-- ---- the listeners at the end

module _ {N : Type 0} where
  pub none_back : AreBack {N = N} [] [] false
  none_back = record { nets_are = refl; failed_is = refl }

  pub back_step : (ws : List (Worker N)) (w : Worker N) (nets nets' : List N) (net : N) (failed failed' is_failed : Bool)
      → AreBack ws nets failed → nets' ≡ nets ++ net ∷ [] → failed' ≡ (failed || is_failed) → net ≡ w.net → is_failed ≡ w.failed → AreBack (ws ++ w ∷ []) nets' failed'
  back_step ws w nets nets' net failed failed' is_failed back nets_more more net_is failed_is = record {
    nets_are = nets_more ∙ ap₂ (λ xs x. xs ++ x ∷ []) back.nets_are net_is ∙ sym (map_more (λ (v : Worker N). v.net) ws w);
    failed_is = more ∙ ap₂ (λ a b. a || b) back.failed_is failed_is ∙ sym (any_more (λ (v : Worker N). v.failed) ws w);
  }

-- ---- a history without the cards that own none of it

no_own : {E : Type 0} (p : E → Bool) (xs : List E) (i : ℕ) (e : E) → slice_get xs i ≡ Some e → p e ≡ true → filter p xs ≡ [] → ⊥
no_own p [] i e at is none = let bad : None ≡ Some e = at in cc
no_own p (x ∷ xs) zero e at is none =
    let same : x ≡ e = ap (λ o. option_or o x) at in
    head_kept p x xs (subst (λ y. p y ≡ true) (sym same) is) none
  where
    option_or : {E : Type 0} → Option E → E → E
    option_or None d = d
    option_or (Some y) d = y

    head_kept : {E : Type 0} (p : E → Bool) (x : E) (xs : List E) → p x ≡ true → filter p (x ∷ xs) ≡ [] → ⊥
    head_kept p x xs is none = let kept : filter p (x ∷ xs) ≡ x ∷ filter p xs = rw is refl in absurd (omega (arith, ap length (sym kept ∙ none)))
no_own p (x ∷ xs) (suc i) e at is none = no_own p xs i e at is (tail_none p x xs (p x) refl none)
  where
    tail_none : {E : Type 0} (p : E → Bool) (x : E) (xs : List E) (b : Bool) → p x ≡ b → filter p (x ∷ xs) ≡ [] → filter p xs ≡ []
    tail_none p x xs true is none = let kept : filter p (x ∷ xs) ≡ x ∷ filter p xs = rw is refl in absurd (omega (arith, ap length (sym kept ∙ none)))
    tail_none p x xs false is none = let kept : filter p (x ∷ xs) ≡ filter p xs = rw is refl in sym kept ∙ none

-- of the cards, those of the front own all entries where the others own none
pub closes_front : (xs ys : List (ℕ × List Entry)) (history : List Entry) → Closes by [] (xs ++ ys) history → All (λ (c : ℕ × List Entry). filter (λ e. by e == c.0) c.1 ≡ []) ys
    → Closes by [] xs history
closes_front xs ys history closes none = record {
  later = closes.later;
  whole = closes.whole;
  known = all_front (λ (c : ℕ × List Entry). Knows by c.0 c.1 history) xs ys closes.known;
  owned = λ i e le at. let any = closes.owned i e le at in fronted i e any.0 any.1 any.2 any.3 any.4;
}
  where
    fronted : (i : ℕ) (e : Entry) (k : ℕ) (c : ℕ × List Entry) → k < length (xs ++ ys) → get_or (xs ++ ys) k c ≡ c → (by e ≡ c.0) × (slice_get c.1 i ≡ Some e)
        → Any (λ (c : ℕ × List Entry). (by e ≡ c.0) × (slice_get c.1 i ≡ Some e)) xs
    fronted i e k c lt at is = by_side i e k c lt at is (nat_lt k (length xs)) refl
      where
        by_side : (i : ℕ) (e : Entry) (k : ℕ) (c : ℕ × List Entry) → k < length (xs ++ ys) → get_or (xs ++ ys) k c ≡ c → (by e ≡ c.0) × (slice_get c.1 i ≡ Some e) → (b : Bool) → nat_lt k (length xs) ≡ b
            → Any (λ (c : ℕ × List Entry). (by e ≡ c.0) × (slice_get c.1 i ≡ Some e)) xs
        by_side i e k c lt at is true here = let less : k < length xs = ltb-true k (length xs) here in (k, c, less, sym (get_or-append xs ys c k less) ∙ at, is)
        by_side i e k c lt at is false here =
            let more : length xs ≤ k = ltb-false k (length xs) here in
            let j : ℕ = k - length xs in
            let there : j < length ys = omega (arith, length-append xs ys, lt, more) in
            let found : get_or ys j c ≡ c = sym (get_or-append_right xs ys k c more) ∙ at in
            let empty : filter (λ e. by e == c.0) c.1 ≡ [] = subst (λ (d : ℕ × List Entry). filter (λ e. by e == d.0) d.1 ≡ []) found (none j c there) in
            absurd (no_own (λ e. by e == c.0) c.1 i e is.1 (eq-eqb (by e) c.0 is.0) empty)

-- what a seat's pass has seen
abbrev seat_saw : Seat → ℕ × List Entry
seat_saw s = seen_by s.pass

module _ {In Out N J : Type 0} (left : In → Option (List ℕ)) (ended : In → Bool) (faults : In → ℕ) (written : Out → Option (List ℕ)) (write_faults : Out → ℕ) (service : Service Entry Load J) (net_left net_back : N → Option (List (In × Out))) (net_faults : N → ℕ)
    (most count : ℕ) (nets back : List N) (seats : List Seat) (before after : Staff N) (failed : Bool)
    (staffed : IsStaffOf nets seats count before)
    (worked : HaveWorked left ended faults written write_faults service net_left net_back net_faults most before after)
    (backs : AreBack after.serving.workers.items back failed) where
  abbrev old : List (Worker N)
  old = before.serving.workers.items

  abbrev new : List (Worker N)
  new = after.serving.workers.items

  abbrev seat_of : Worker N → Seat
  seat_of w = w.seat

  worker_kept : (k : ℕ) (w : Worker N) → k < length old → kept (get_or new k w).seat ≡ kept (get_or old k w).seat
  worker_kept k w lt =
      let did = worked.served.worked.each k w lt in
      kept_as (get_or old k w).seat (get_or new k w).seat
      (served_same left ended faults written write_faults service did.listened.given did.listened.back (get_or old k w).seat.pass (get_or new k w).seat.pass did.listened.served) did.told.of_is did.told.shares_are

  split_seats : {A : Type 0} (f : Seat → A) (staff : Staff N)
      → map f (seats_of staff) ≡ map (λ (w : Worker N). f w.seat) staff.serving.workers.items ++ (map f staff.tighteners.items ++ f staff.serving.stopper ∷ [])
  split_seats f staff =
      map-append f (map seat_of staff.serving.workers.items) (staff.tighteners.items ++ staff.serving.stopper ∷ [])
      ∙ ap₂ (λ x y. x ++ y) (sym (images_twice seat_of f staff.serving.workers.items)) (map-append f staff.tighteners.items (staff.serving.stopper ∷ []))

  -- all keep their seats
  pub seats_kept : map kept (seats_of after) ≡ map kept seats
  seats_kept =
      let workers = images_kept (λ (w : Worker N). kept w.seat) old new worked.served.worked.count worker_kept in
      let tighteners = images_kept kept before.tighteners.items after.tighteners.items worked.tightened.count
      (λ k s lt. tightened_kept turns_at_most (get_or before.tighteners.items k s) (get_or after.tighteners.items k s) (worked.tightened.each k s lt)) in
      let stopper = stopping_kept room (length before.tighteners.items) before.serving.stopper after.serving.stopper worked.served.stopped in
      split_seats kept after ∙ ap₂ (λ x y. x ++ y) workers (ap₂ (λ x y. x ++ y ∷ []) tighteners stopper) ∙ sym (split_seats kept before) ∙ ap (map kept) staffed.seats_are

  module _ {V : Type 0} {g : Ghosts V Entry} (desk : TableId) (queue : Queue) (dealt callers : List Caller) (cards : List (Card V Entry g)) (seated : AreSeated desk dealt seats) (are : AreCardsOf (seats_of after) cards callers) where
    many : length old ≡ length nets
    many = sym (length-map old (λ (w : Worker N). w.net)) ∙ ap length staffed.nets_are

    -- the seats of the workers come first
    front_seat : (k : ℕ) (w : Worker N) → k < length old → (get_or old k w).seat ≡ get_or seats k w.seat
    front_seat k w lt =
        let rest = before.tighteners.items ++ before.serving.stopper ∷ [] in
        let here : k < length (map seat_of old) = omega (arith, length-map old seat_of, lt) in
        sym (at_map_or seat_of old k w w.seat lt) ∙ sym (get_or-append (map seat_of old) rest w.seat k here) ∙ ap (λ l. get_or l k w.seat) staffed.seats_are

    all_seats : length seats ≡ length old + (length before.tighteners.items + 1)
    all_seats =
        ap length (sym staffed.seats_are) ∙ length-append (map seat_of old) (before.tighteners.items ++ before.serving.stopper ∷ [])
        ∙ ap₂ (λ a b. a + b) (length-map old seat_of) (length-append before.tighteners.items (before.serving.stopper ∷ []))

    worker_new : (k : ℕ) (w : Worker N) → k < length old → (get_or old k w).seat.pass ≡ newcomer desk (k + 1)
    worker_new k w lt = ap (λ (s : Seat). s.pass) (front_seat k w lt) ∙ seated.passes k w.seat (omega (arith, all_seats, lt))

    -- the passes of the tighteners and of the stopper began at nothing
    behind_new : (k : ℕ) (s : Seat) → k < length before.tighteners.items + 1 → (get_or (before.tighteners.items ++ before.serving.stopper ∷ []) k s).pass.seen ≡ []
    behind_new k s lt =
        let rest = before.tighteners.items ++ before.serving.stopper ∷ [] in
        let at : ℕ = length (map seat_of old) + k in
        let there : at < length seats = omega (arith, all_seats, length-map old seat_of, lt) in
        let found : get_or seats at s ≡ get_or rest k s = ap (λ l. get_or l at s) (sym staffed.seats_are) ∙ get_or-append-add (map seat_of old) rest k s in
        ap (λ (x : Seat). x.pass.seen) (sym found) ∙ ap (λ (v : Visitor Entry). v.seen) (seated.passes at s there)

    -- no entry is of the tighteners or of the stopper
    behind_none : All (λ (c : ℕ × List Entry). filter (λ e. by e == c.0) c.1 ≡ []) (map seat_saw (after.tighteners.items ++ after.serving.stopper ∷ []))
    behind_none k c lt =
        let ts = before.tighteners.items in
        let us = after.tighteners.items in
        let a = before.serving.stopper in
        let z = after.serving.stopper in
        let same : length us ≡ length ts = worked.tightened.count in
        let many : k < length (us ++ z ∷ []) = omega (arith, length-map (us ++ z ∷ []) seat_saw, lt) in
        let at : get_or (map seat_saw (us ++ z ∷ [])) k c ≡ seat_saw (get_or (us ++ z ∷ []) k z) = at_map_or seat_saw (us ++ z ∷ []) k z c many in
        subst (λ (x : ℕ × List Entry). filter (λ e. by e == x.0) x.1 ≡ []) (sym at) (by_side k (nat_lt k (length us)) refl (omega (arith, length-append us (z ∷ []), many)))
      where
        by_side : (k : ℕ) (b : Bool) → nat_lt k (length after.tighteners.items) ≡ b → k < length after.tighteners.items + 1
            → filter (λ e. by e == (get_or (after.tighteners.items ++ after.serving.stopper ∷ []) k after.serving.stopper).pass.number) (get_or (after.tighteners.items ++ after.serving.stopper ∷ []) k after.serving.stopper).pass.seen ≡ []
        by_side k true here lt =
            let ts = before.tighteners.items in
            let us = after.tighteners.items in
            let a = before.serving.stopper in
            let z = after.serving.stopper in
            let less : k < length us = ltb-true k (length us) here in
            let there : k < length ts = omega (arith, worked.tightened.count, less) in
            let empty : (get_or ts k z).pass.seen ≡ [] = ap (λ (x : Seat). x.pass.seen) (sym (get_or-append ts (a ∷ []) z k there)) ∙ behind_new k z (omega (arith, there)) in
            let is = tightened_none turns_at_most (get_or ts k z) (get_or us k z) (worked.tightened.each k z there) empty in
            subst (λ (x : Seat). filter (λ e. by e == x.pass.number) x.pass.seen ≡ []) (sym (get_or-append us (z ∷ []) z k less)) is
        by_side k false here lt =
            let ts = before.tighteners.items in
            let us = after.tighteners.items in
            let a = before.serving.stopper in
            let z = after.serving.stopper in
            let more : length us ≤ k = ltb-false k (length us) here in
            let same : length us ≡ length ts = worked.tightened.count in
            let k_is : k ≡ length us + 0 = omega (arith, more, lt) in
            let k_then : length ts + 0 ≡ length us + 0 = omega (arith, same) in
            let first : get_or (ts ++ a ∷ []) (length us + 0) z ≡ a = ap (λ j. get_or (ts ++ a ∷ []) j z) (sym k_then) ∙ get_or-append-add ts (a ∷ []) 0 z in
            let last : get_or (us ++ z ∷ []) k z ≡ z = ap (λ j. get_or (us ++ z ∷ []) j z) k_is ∙ get_or-append-add us (z ∷ []) 0 z in
            let empty : a.pass.seen ≡ [] = ap (λ (x : Seat). x.pass.seen) (sym first) ∙ behind_new (length us + 0) z (omega (arith, same)) in
            let is = stopping_none room (length ts) a z worked.served.stopped empty in
            subst (λ (x : Seat). filter (λ e. by e == x.pass.number) x.pass.seen ≡ []) (sym last) is

    pairs_are : map pair_of cards ≡ map seen_by (map (λ (w : Worker N). w.seat.pass) new) ++ map seat_saw (after.tighteners.items ++ after.serving.stopper ∷ [])
    pairs_are =
        same_images seat_saw pair_of (seats_of after) cards are.count (λ k s c lt. let p = are.each k s c lt in ap₂ (λ a b. (a, b)) p.numbered p.saw)
        ∙ map-append seat_saw (map seat_of new) (after.tighteners.items ++ after.serving.stopper ∷ [])
        ∙ ap (λ l. l ++ map seat_saw (after.tighteners.items ++ after.serving.stopper ∷ [])) (sym (images_twice seat_of seat_saw new) ∙ images_twice (λ (w : Worker N). w.seat.pass) seen_by new)

    -- ---- the notices

    module _ (fresh : All (λ (c : Caller). c.calls ≡ []) dealt) where
      abbrev notices_before : List Caller
      notices_before = map (λ (w : Worker N). w.seat.notices) old

      abbrev notices_after : List Caller
      notices_after = map (λ (w : Worker N). w.seat.notices) new

      dealt_are : notices_before ++ (map (λ (s : Seat). s.notices) before.tighteners.items ++ before.serving.stopper.notices ∷ []) ≡ dealt
      dealt_are = sym (split_seats (λ s. s.notices) before) ∙ ap (map (λ (s : Seat). s.notices)) staffed.seats_are ∙ seated.notices_are

      all_fresh : All (λ (c : Caller). c.calls ≡ []) (notices_before ++ (map (λ (s : Seat). s.notices) before.tighteners.items ++ before.serving.stopper.notices ∷ []))
      all_fresh = subst (All (λ (c : Caller). c.calls ≡ [])) (sym dealt_are) fresh

      behind_fresh : All (λ (c : Caller). c.calls ≡ []) (map (λ (s : Seat). s.notices) before.tighteners.items ++ before.serving.stopper.notices ∷ [])
      behind_fresh = all_back (λ (c : Caller). c.calls ≡ []) notices_before (map (λ (s : Seat). s.notices) before.tighteners.items ++ before.serving.stopper.notices ∷ []) all_fresh

      -- the tighteners told nothing
      tighteners_told : (ts us : List Seat) → length us ≡ length ts → ((k : ℕ) (s : Seat) → k < length ts → told_in (get_or us k s).notices.calls ≡ told_in (get_or ts k s).notices.calls)
          → All (λ (c : Caller). c.calls ≡ []) (map (λ (s : Seat). s.notices) ts) → told_in (all_calls (map (λ (s : Seat). s.notices) us)) ≡ []
      tighteners_told [] [] l e f = refl
      tighteners_told [] (u ∷ us) l e f = absurd (omega (arith, l))
      tighteners_told (t ∷ ts) [] l e f = absurd (omega (arith, l))
      tighteners_told (t ∷ ts) (u ∷ us) l e f =
          let P : Caller → Type 0 = λ c. c.calls ≡ [] in
          flat_map-append told_by u.notices.calls (all_calls (map (λ (s : Seat). s.notices) us))
          ∙ ap₂ (λ x y. x ++ y) (e zero t (omega arith) ∙ ap told_in (All-head P t.notices (map (λ (s : Seat). s.notices) ts) f))
          (tighteners_told ts us (omega (arith, l)) (λ k s lt. e (suc k) s (omega arith)) (All-tail P t.notices (map (λ (s : Seat). s.notices) ts) f))

      stops : told_in (all_calls (map (λ (s : Seat). s.notices) (after.tighteners.items ++ after.serving.stopper ∷ []))) ≡ replicate count Stop
      stops =
          let us = after.tighteners.items in
          let z = after.serving.stopper in
          let P : Caller → Type 0 = λ c. c.calls ≡ [] in
          let ts = map (λ (s : Seat). s.notices) before.tighteners.items in
          let stopped : told_in z.notices.calls ≡ replicate (length before.tighteners.items) Stop =
          stopping_told room (length before.tighteners.items) before.serving.stopper z worked.served.stopped
          ∙ ap (λ l. told_in l ++ replicate (length before.tighteners.items) Stop) (all_mid P ts [] before.serving.stopper.notices behind_fresh) in
          let silent = tighteners_told before.tighteners.items us worked.tightened.count
          (λ k s lt. tightened_told turns_at_most (get_or before.tighteners.items k s) (get_or us k s) (worked.tightened.each k s lt)) (all_front P ts (before.serving.stopper.notices ∷ []) behind_fresh) in
          ap (λ l. told_in (all_calls l)) (map-append (λ (s : Seat). s.notices) us (z ∷ [])) ∙ ap told_in (flat_map-append (λ (c : Caller). c.calls) (map (λ (s : Seat). s.notices) us) (z.notices ∷ []))
          ∙ flat_map-append told_by (all_calls (map (λ (s : Seat). s.notices) us)) (z.notices.calls ++ []) ∙ ap₂ (λ x y. x ++ y) silent (ap told_in (append-nil z.notices.calls) ∙ stopped)
          ∙ ap (λ n. replicate n Stop) staffed.tighteners_are

      callers_are : callers ≡ notices_after ++ map (λ (s : Seat). s.notices) (after.tighteners.items ++ after.serving.stopper ∷ [])
      callers_are =
          are.notices_are ∙ map-append (λ (s : Seat). s.notices) (map seat_of new) (after.tighteners.items ++ after.serving.stopper ∷ [])
          ∙ ap (λ l. l ++ map (λ (s : Seat). s.notices) (after.tighteners.items ++ after.serving.stopper ∷ [])) (sym (images_twice seat_of (λ (s : Seat). s.notices) new))

      noticed : (unheard : ℕ) → notices.Closes callers unheard → AreNoticed desk count (map (λ (w : Worker N). w.seat.pass) new) unheard
      noticed unheard closes =
          let ends : List (Visitor Entry) = map (λ (w : Worker N). w.seat.pass) new in
          let long : length new ≡ length old = worked.served.worked.count in
          record {
            before = notices_before;
            after = notices_after;
            fresh = all_front (λ (c : Caller). c.calls ≡ []) notices_before (map (λ (s : Seat). s.notices) before.tighteners.items ++ before.serving.stopper.notices ∷ []) all_fresh;
            many = (
              length-map old (λ (w : Worker N). w.seat.notices) ∙ sym long ∙ sym (length-map new (λ (w : Worker N). w.seat.pass)),
              length-map new (λ (w : Worker N). w.seat.notices) ∙ sym (length-map new (λ (w : Worker N). w.seat.pass)),
            );
            each = λ k v a b lt.
                let there : k < length new = omega (arith, length-map new (λ (w : Worker N). w.seat.pass), lt) in
                let here : k < length old = omega (arith, long, there) in
                let w = pick new k there in
                let end : get_or ends k v ≡ (get_or new k w).seat.pass = at_map_or (λ (u : Worker N). u.seat.pass) new k w v there in
                let first : get_or notices_before k a ≡ (get_or old k w).seat.notices = at_map_or (λ (u : Worker N). u.seat.notices) old k w a here in
                let last : get_or notices_after k b ≡ (get_or new k w).seat.notices = at_map_or (λ (u : Worker N). u.seat.notices) new k w b there in
                subst (λ x. TellsOfLoads (newcomer desk (k + 1)) x (get_or notices_before k a) (get_or notices_after k b)) (sym end)
                (subst (λ x. TellsOfLoads (newcomer desk (k + 1)) (get_or new k w).seat.pass x (get_or notices_after k b)) (sym first)
                (subst (λ x. TellsOfLoads (newcomer desk (k + 1)) (get_or new k w).seat.pass (get_or old k w).seat.notices x) (sym last)
                (subst (λ x. TellsOfLoads x (get_or new k w).seat.pass (get_or old k w).seat.notices (get_or new k w).seat.notices) (worker_new k w here) (worked.served.worked.each k w here).told)));
            begun = before.tighteners.items;
            tighteners = after.tighteners.items;
            tightened = worked.tightened;
            tighteners_are = worked.tightened.count ∙ staffed.tighteners_are;
            stopper = after.serving.stopper;
            stops = stops;
            closes = subst (λ l. notices.Closes l unheard) callers_are closes;
          }

      pub served : (base history : List Entry) (unheard : ℕ) → base ≡ [] → Closes by base (map pair_of cards) history → notices.Closes callers unheard
          → IsServed left ended faults written write_faults service net_left net_back net_faults most count nets back failed unheard history
      served base history unheard none ends heard =
          let long : length new ≡ length old = worked.served.worked.count in
          record {
            desk = desk;
            ends = map (λ (w : Worker N). w.seat.pass) new;
            flags = map (λ (w : Worker N). w.failed) new;
            many = (
              ap length backs.nets_are ∙ length-map new (λ (w : Worker N). w.net) ∙ long ∙ many,
              length-map new (λ (w : Worker N). w.seat.pass) ∙ long ∙ many,
              length-map new (λ (w : Worker N). w.failed) ∙ long ∙ many,
            );
            each = λ k n v f lt.
                let here : k < length old = omega (arith, many, lt) in
                let there : k < length new = omega (arith, long, here) in
                let w = pick new k there in
                let net : get_or nets k n ≡ (get_or old k w).net = ap (λ (l : List N). get_or l k n) (sym staffed.nets_are) ∙ at_map_or (λ (u : Worker N). u.net) old k w n here in
                let flag = at_map_or (λ (u : Worker N). u.failed) new k w f there in
                let back_is : get_or back k n ≡ (get_or new k w).net = ap (λ (l : List N). get_or l k n) backs.nets_are ∙ at_map_or (λ (u : Worker N). u.net) new k w n there in
                let end = at_map_or (λ (u : Worker N). u.seat.pass) new k w v there in
                rw (flag, net, back_is, end, sym (worker_new k w here)) (worked.served.worked.each k w here).listened;
            failed_is = backs.failed_is ∙ any_image (λ (w : Worker N). w.failed) new;
            closes = closes_front (map seen_by (map (λ (w : Worker N). w.seat.pass) new)) (map seat_saw (after.tighteners.items ++ after.serving.stopper ∷ [])) history
                (subst (λ l. Closes by [] l history) pairs_are (subst (λ b. Closes by b (map pair_of cards) history) none ends)) behind_none;
            noticed = noticed unheard heard;
          }

-- ---- a run, by the seats that were given out

module _ {In Out N J : Type 0} (left : In → Option (List ℕ)) (ended : In → Bool) (faults : In → ℕ) (written : Out → Option (List ℕ)) (write_faults : Out → ℕ) (service : Service Entry Load J) (net_left net_back : N → Option (List (In × Out))) (net_faults : N → ℕ)
    {V : Type 0} {g : Ghosts V Entry} (most count : ℕ) (seats : List Seat) (nets back : List N) (failed : Bool) (cards : List (Card V Entry g)) (callers dealt : List Caller) (desk : TableId) (queue : Queue)
    (run : HasRun left ended faults written write_faults service net_left net_back net_faults most count seats nets back failed cards callers) (seated : AreSeated desk dealt seats) where
  same : map kept (seats_of run.after) ≡ map kept seats
  same = seats_kept left ended faults written write_faults service net_left net_back net_faults most count nets back seats run.before run.after failed run.staffed run.worked run.backs

  pub run_desk : All (λ card. card_desk card ≡ desk) cards
  run_desk = cards_desk desk queue seats (seats_of run.after) dealt callers cards seated same run.are run.after.serving.stopper

  pub run_numbers : (m : ℕ) → m ≡ length dealt → HasNumbers m (map card_number cards)
  run_numbers m is =
      let many = cards_many desk queue seats (seats_of run.after) dealt callers cards seated same run.are in
      cards_all desk queue seats (seats_of run.after) dealt callers cards seated same run.are run.after.serving.stopper m (is ∙ sym many)

  pub run_callers : (n : ℕ) (made : List Caller) → dealt ≡ made → notices.AreNew queue n made → notices.AreAll queue callers
  run_callers n made is new = callers_all desk queue seats (seats_of run.after) dealt callers cards seated same run.are n (subst (notices.AreNew queue n) (sym is) new)

  pub run_served : (n : ℕ) (made : List Caller) (base history : List Entry) (unheard : ℕ) → dealt ≡ made → notices.AreNew queue n made → base ≡ [] → Closes by base (map pair_of cards) history → notices.Closes callers unheard
      → IsServed left ended faults written write_faults service net_left net_back net_faults most count nets back failed unheard history
  run_served n made base history unheard is new none ends heard =
      served left ended faults written write_faults service net_left net_back net_faults most count nets back seats run.before run.after failed run.staffed run.worked run.backs
      desk queue dealt callers cards seated run.are (λ k d lt. ((subst (notices.AreNew queue n) (sym is) new).each k d lt).1) base history unheard none ends heard
