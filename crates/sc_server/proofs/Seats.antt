-- Seats: how they are dealt, what those who have them keep, and what their cards show.
use Rattle.std.proofs.Common.{◌≡◌, ℕ, zero, suc, ◌+◌, ◌-◌, ◌<◌, List, [], ◌∷◌, ◌++◌, length, get_or, sym, refl, ap, ap₂, ◌∙◌, subst, arith, length-append, append_assoc, map}
use Rattle.std.specs.Prelude.{◌==◌, filter, flat_map, replicate, None, Some}
use Rattle.std.proofs.Math.ListN.{get_or-append}
use Rattle.std.proofs.lemmas.Grind.{flat_map-append}
use Rattle.std.proofs.lemmas.List.{append-nil, length-map}
use Rattle.std.proofs.lemmas.List.Elements.{All-nil, All-cons, All-head, All-tail}
use Rattle.std.specs.List.{All, sum_by}
use Rattle.sc_turn.specs.{TableId}
use Rattle.sc_turn.specs.History.{HasNumbers}
use Rattle.sc_turn.specs.Passes.{card_desk, card_number, card_seen, card_start, card_visits, IsNew, AreNew}
use Rattle.sc_turn.specs.declared.booked.Booked.{Ghosts}
use Rattle.sc_turn.specs.declared.pass.Card.{Card}
use Rattle.sc_catalog.specs.declared.entry.Entry.{Entry}
use Rattle.sc_catalog.specs.Entries.{by}
use Rattle.sc_visit.specs.Visits.{Visitor, IsSame}
use Rattle.sc_visit.proofs.Turning.{turns_own}
use Rattle.sc_notice.specs.declared.notice.Notice.{Notice}
use Rattle.sc_notice.specs.declared.notice.Notice.TheVariants.{Stop}
use Rattle.sc_notice.specs.declared.notice.Call.{Call}
use Rattle.sc_notice.specs.declared.notice.Call.TheVariants.{Told, HandedBack}
use Rattle.sc_notice.specs.Callers.{Queue, Caller, Calls, told_by, heard_by, told_in, heard_in, tells}
use Rattle.sc_notice.specs.Callers as notices
use Rattle.sc_tighten.specs.Work.{tightener}
use Rattle.sc_tighten.proofs.Working.{work_quiet, work_listens}
use Rattle.sc_server.specs.Seats.{newcomer, AreSeated, IsTightened, TellsStop, IsStopping, IsCardOf, AreCardsOf}
use Rattle.sc_server.specs.declared.seat.Seat.{Seat}
use Rattle.sc_server.proofs.Lists.{all_alike, at_map_or, at_middle, at_next, images_twice, map_more, pick, snoc_each, sum_image}
use Rattle.sc_server.proofs.Sessions.{same_as, turns_same}

-- ---- dealing

-- the next card is one of the desk
pub next_desk : {V : Type 0} {g : Ghosts V Entry} (desk : TableId) (m : ℕ) (all done next rest : List (Card V Entry g)) (card : Card V Entry g)
    → AreNew desk [] m all → all ≡ done ++ next → next ≡ card ∷ rest → card_desk card ≡ desk
next_desk desk m all done next rest card new split is =
    let at = at_next all done rest next card card split is in
    let count = new.count in
    let lt = at.1 in
    (subst (IsNew desk (length done + 1) []) at.0 (new.each (length done) card (omega arith))).of

-- cards that have just been made, by the list that they stand in
pub new_for : {V : Type 0} {g : Ghosts V Entry} (desk : TableId) (base : List Entry) (m n : ℕ) (cards items : List (Card V Entry g)) → AreNew desk base m cards → base ≡ [] → items ≡ cards → n ≡ length items
    → AreNew desk [] n items
new_for desk base m n cards items new none same is =
    let here = subst (λ k. AreNew desk base k cards) (sym new.count) new in
    let there = subst (λ b. AreNew desk b (length cards) cards) none here in
    subst (λ k. AreNew desk [] k items) (sym is) (subst (λ l. AreNew desk [] (length l) l) (sym same) there)

-- so many seats are numbered, from 1
abbrev pub AreNumbered : TableId → List Seat → Type 0
AreNumbered desk seats = (k : ℕ) (s : Seat) → k < length seats → (get_or seats k s).pass ≡ newcomer desk (k + 1)

pub none_numbered : (desk : TableId) → AreNumbered desk []
none_numbered desk k s lt = absurd (omega (arith, lt))

pub numbered_step : {V : Type 0} {g : Ghosts V Entry} (desk : TableId) (m : ℕ) (all done next rest : List (Card V Entry g)) (card : Card V Entry g) (seats seats' : List Seat) (seat : Seat) (v : Visitor Entry) (caller : Caller)
    → AreNew desk [] m all → all ≡ done ++ next → next ≡ card ∷ rest → length seats ≡ length done → AreNumbered desk seats → seats' ≡ seats ++ seat ∷ [] → seat ≡ record { pass = v; notices = caller }
    → v.desk ≡ card_desk card → v.number ≡ card_number card → v.start ≡ card_start card → v.seen ≡ card_seen card → v.visits ≡ card_visits card → AreNumbered desk seats'
numbered_step desk m all done next rest card seats seats' seat v caller new split is many numbered items seat_is d n st se vi =
    let at = at_next all done rest next card card split is in
    let count = new.count in
    let lt = at.1 in
    let here = subst (IsNew desk (length done + 1) []) at.0 (new.each (length done) card (omega arith)) in
    let number : v.number ≡ length seats + 1 = n ∙ here.numbered ∙ ap (λ k. k + 1) (sym many) in
    let pass : v ≡ newcomer desk (length seats + 1) =
    λ i. record { desk = (d ∙ here.of) i; number = number i; start = (st ∙ here.begun) i; seen = (se ∙ here.saw) i; visits = (vi ∙ here.unvisited) i } in
    let own : seat.pass ≡ newcomer desk (length seats + 1) = ap (λ (s : Seat). s.pass) seat_is ∙ pass in
    let P : ℕ → Seat → Type 0 = λ k s. s.pass ≡ newcomer desk (k + 1) in
    subst (AreNumbered desk) (sym items) (λ k s lt. snoc_each P seats seat numbered own k s (omega (arith, length-append seats (seat ∷ []), lt)))

-- ---- what those who have seats keep

-- what stays of a seat
pub record Kept : Type 0 where
  pub desk : TableId
  pub number : ℕ
  pub of : Queue
  pub shares : ℕ

abbrev pub kept : Seat → Kept
kept s = record { desk = s.pass.desk; number = s.pass.number; of = s.notices.of; shares = s.notices.shares }

pub kept_as : (old new : Seat) → IsSame old.pass new.pass → new.notices.of ≡ old.notices.of → new.notices.shares ≡ old.notices.shares → kept new ≡ kept old
kept_as old new same of shares = λ i. record { desk = same.desk_is i; number = same.number_is i; of = of i; shares = shares i }

pub tightened_kept : (turns : ℕ) (old new : Seat) → IsTightened turns old new → kept new ≡ kept old
tightened_kept turns old new t =
    let quiet = work_quiet turns t.done (tightener old.pass old.notices) (tightener new.pass new.notices) t.works in
    let listens = work_listens turns t.done (tightener old.pass old.notices) (tightener new.pass new.notices) t.works in
    kept_as old new (turns_same quiet.0 old.pass new.pass quiet.2) listens.of_is listens.shares_are

pub tightened_told : (turns : ℕ) (old new : Seat) → IsTightened turns old new → told_in new.notices.calls ≡ told_in old.notices.calls
tightened_told turns old new t = (work_listens turns t.done (tightener old.pass old.notices) (tightener new.pass new.notices) t.works).told_are

nothing_own : (number : ℕ) (owns : List (List Entry)) → All (λ own. own ≡ []) owns → All (All (λ e. by e ≡ number)) owns × (flat_map (λ own. own) owns ≡ [])
nothing_own number [] none = (All-nil (All (λ e. by e ≡ number)), refl)
nothing_own number (own ∷ owns) none =
    let P : List Entry → Type 0 = λ own. own ≡ [] in
    let Q : Entry → Type 0 = λ e. by e ≡ number in
    let first : own ≡ [] = All-head P own owns none in
    let rest = nothing_own number owns (All-tail P own owns none) in
    (All-cons (All Q) own owns (subst (All Q) (sym first) (All-nil Q)) rest.0, ap₂ (λ a b. a ++ b) first rest.1)

-- a pass of a seat that began at nothing has seen no entry of its own
pub tightened_none : (turns : ℕ) (old new : Seat) → IsTightened turns old new → old.pass.seen ≡ [] → filter (λ e. by e == new.pass.number) new.pass.seen ≡ []
tightened_none turns old new t empty =
    let quiet = work_quiet turns t.done (tightener old.pass old.notices) (tightener new.pass new.notices) t.works in
    let none = nothing_own old.pass.number quiet.0 quiet.1 in
    let number = (turns_same quiet.0 old.pass new.pass quiet.2).number_is in
    let own = turns_own by quiet.0 old.pass new.pass none.0 quiet.2 in
    let is : filter (λ e. by e == old.pass.number) new.pass.seen ≡ [] = own ∙ ap₂ (λ a b. filter (λ e. by e == old.pass.number) a ++ b) empty none.1 in
    subst (λ n. filter (λ e. by e == n) new.pass.seen ≡ []) (sym number) is

pub stopping_kept : (turns count : ℕ) (old new : Seat) → IsStopping turns count old new → kept new ≡ kept old
stopping_kept turns count old new s =
    let here : kept new ≡ kept s.mid = kept_as s.mid new (same_as s.mid.pass new.pass s.pass_is) s.stops.of_is s.stops.shares_are in
    here ∙ tightened_kept turns old s.mid s.tightened

pub stopping_none : (turns count : ℕ) (old new : Seat) → IsStopping turns count old new → old.pass.seen ≡ [] → filter (λ e. by e == new.pass.number) new.pass.seen ≡ []
stopping_none turns count old new s empty = subst (λ v. filter (λ e. by e == v.number) v.seen ≡ []) (sym s.pass_is) (tightened_none turns old s.mid s.tightened empty)

pub stopping_told : (turns count : ℕ) (old new : Seat) → IsStopping turns count old new → told_in new.notices.calls ≡ told_in old.notices.calls ++ replicate count Stop
stopping_told turns count old new s = s.stops.told ∙ ap (λ l. l ++ replicate count Stop) (tightened_told turns old s.mid s.tightened)

-- ---- telling to stop

module _ (call : Call) (a b c : Caller) (told : List Notice) where
  -- a call more, which told these and heard nothing
  call_more : told_in b.calls ≡ told_in a.calls ++ told → heard_in b.calls ≡ heard_in a.calls → c.calls ≡ b.calls ++ call ∷ [] → heard_by call ≡ []
      → (told_in c.calls ≡ told_in a.calls ++ (told ++ told_by call)) × (heard_in c.calls ≡ heard_in a.calls)
  call_more t h e none = (
    ap told_in e ∙ flat_map_more told_by b.calls call ∙ ap (λ l. l ++ told_by call) t ∙ append_assoc (told_in a.calls) told (told_by call),
    ap heard_in e ∙ flat_map_more heard_by b.calls call ∙ ap₂ (λ x y. x ++ y) h none ∙ append-nil (heard_in a.calls),
  )
    where
      flat_map_more : {A B : Type 0} (f : A → List B) (xs : List A) (x : A) → flat_map f (xs ++ x ∷ []) ≡ flat_map f xs ++ f x
      flat_map_more f xs x = flat_map-append f xs (x ∷ []) ∙ ap (λ l. flat_map f xs ++ l) (append-nil (f x))

pub tells_none : (caller : Caller) → TellsStop 0 caller caller
tells_none caller = record { of_is = refl; shares_are = refl; told = sym (append-nil (told_in caller.calls)); heard = refl }

-- `Stop` was handed back
pub back_more : (a b c : Caller) (back : Notice) → TellsStop 0 a b → Calls (tells Stop (Some back)) b c → TellsStop 0 a c
back_more a b c back s call =
    let more = call_more (HandedBack Stop) a b c [] s.told s.heard call.calls_are refl in
    record { of_is = call.of_is ∙ s.of_is; shares_are = call.shares_are ∙ s.shares_are; told = more.0; heard = more.1 }

-- it was told
pub told_once : (a b c : Caller) → TellsStop 0 a b → Calls (tells Stop None) b c → TellsStop 1 a c
told_once a b c s call =
    let more = call_more (Told Stop) a b c [] s.told s.heard call.calls_are refl in
    record { of_is = call.of_is ∙ s.of_is; shares_are = call.shares_are ∙ s.shares_are; told = more.0; heard = more.1 }

one_more : (n : ℕ) → replicate n Stop ++ Stop ∷ [] ≡ replicate (n + 1) Stop
one_more zero = refl
one_more (suc n) = let more : suc (n + 1) ≡ suc n + 1 = omega arith in ap (λ l. Stop ∷ l) (one_more n) ∙ ap (λ m. replicate m Stop) more

-- so often, and once more
pub stops_more : (count : ℕ) (a b c : Caller) → TellsStop count a b → TellsStop 1 b c → TellsStop (count + 1) a c
stops_more count a b c s t = record {
  of_is = t.of_is ∙ s.of_is;
  shares_are = t.shares_are ∙ s.shares_are;
  told = t.told ∙ ap (λ l. l ++ Stop ∷ []) s.told ∙ append_assoc (told_in a.calls) (replicate count Stop) (Stop ∷ []) ∙ ap (λ l. told_in a.calls ++ l) (one_more count);
  heard = t.heard ∙ s.heard;
}

-- ---- cards

pub none_back : {V : Type 0} {g : Ghosts V Entry} → AreCardsOf {V = V} {g = g} [] [] []
none_back = record { count = refl; each = λ k s c lt. absurd (omega (arith, lt)); notices_are = refl }

pub cards_step : {V : Type 0} {g : Ghosts V Entry} (seats : List Seat) (seat : Seat) (cards cards' : List (Card V Entry g)) (card : Card V Entry g) (callers callers' : List Caller) (caller : Caller)
    → AreCardsOf seats cards callers → cards' ≡ cards ++ card ∷ [] → callers' ≡ callers ++ caller ∷ [] → IsCardOf seat card → caller ≡ seat.notices → AreCardsOf (seats ++ seat ∷ []) cards' callers'
cards_step {V} {g} seats seat cards cards' card callers callers' caller back items more is caller_is =
    let count = back.count in
    let C : Type 0 = Card V Entry g in
    let Q : ℕ → Seat → Type 0 = λ k s. (d : C) → IsCardOf s (get_or (cards ++ card ∷ []) k d) in
    let last : Q (length seats) seat = λ d. subst (λ k. IsCardOf seat (get_or (cards ++ card ∷ []) k d)) count (subst (IsCardOf seat) (sym (at_middle cards [] card d)) is) in
    let first = λ (k : ℕ) (s : Seat) (lt : k < length seats) (d : C). subst (IsCardOf (get_or seats k s)) (sym (get_or-append cards (card ∷ []) d k (omega arith))) (back.each k s d lt) in
    record {
      count = ap length items ∙ length-append cards (card ∷ []) ∙ ap (λ n. n + 1) count ∙ sym (length-append seats (seat ∷ []));
      each = λ k s d lt. subst (λ l. IsCardOf (get_or (seats ++ seat ∷ []) k s) (get_or l k d)) (sym items) (snoc_each Q seats seat first last k s (omega (arith, length-append seats (seat ∷ []), lt)) d);
      notices_are = more ∙ ap₂ (λ xs x. xs ++ x ∷ []) back.notices_are caller_is ∙ sym (map_more (λ (s : Seat). s.notices) seats seat);
    }

-- ---- the cards at the end, by what the seats were at the beginning

module _ {V : Type 0} {g : Ghosts V Entry} (desk : TableId) (queue : Queue) (before after : List Seat) (dealt callers : List Caller) (cards : List (Card V Entry g))
    (seated : AreSeated desk dealt before) (same : map kept after ≡ map kept before) (are : AreCardsOf after cards callers) where
  long : length after ≡ length before
  long = sym (length-map after kept) ∙ ap length same ∙ length-map before kept

  kept_at : (k : ℕ) (s : Seat) → k < length after → kept (get_or after k s) ≡ kept (get_or before k s)
  kept_at k s lt =
      let there : k < length before = omega (arith, long, lt) in
      sym (at_map_or kept after k s (kept s) lt) ∙ ap (λ l. get_or l k (kept s)) same ∙ at_map_or kept before k s (kept s) there

  card_at : (k : ℕ) (s : Seat) (c : Card V Entry g) → k < length cards → (card_desk (get_or cards k c) ≡ desk) × (card_number (get_or cards k c) ≡ k + 1)
  card_at k s c lt =
      let here : k < length after = omega (arith, are.count, lt) in
      let there : k < length before = omega (arith, long, here) in
      let is = are.each k s c here in
      let at = kept_at k s here in
      let new = seated.passes k s there in
      (is.of ∙ ap (λ (x : Kept). x.desk) at ∙ ap (λ (v : Visitor Entry). v.desk) new, is.numbered ∙ ap (λ (x : Kept). x.number) at ∙ ap (λ (v : Visitor Entry). v.number) new)

  module _ (some : Seat) where
    pub cards_desk : All (λ card. card_desk card ≡ desk) cards
    cards_desk k c lt = (card_at k some c lt).0

    pub cards_all : (m : ℕ) → m ≡ length cards → HasNumbers m (map card_number cards)
    cards_all m is x low high =
        let k : ℕ = x - 1 in
        let lt : k < length cards = omega (arith, is, low, high) in
        let k_is : k + 1 ≡ x = omega (arith, low) in
        let c = pick cards k lt in
        let many = length-map cards card_number in
        (k, omega (arith, many, lt), at_map_or card_number cards k c x lt ∙ (card_at k some c lt).1 ∙ k_is)

  callers_kept : {A : Type 0} (f : Caller → A) (h : Kept → A) → ((s : Seat) → h (kept s) ≡ f s.notices) → map f callers ≡ map f dealt
  callers_kept f h e =
      let across : (l : List Seat) → map f (map (λ s. s.notices) l) ≡ map h (map kept l) =
      λ l. sym (images_twice (λ (s : Seat). s.notices) f l) ∙ ap (λ q. map q l) (λ i s. sym (e s) i) ∙ images_twice kept h l in
      ap (map f) are.notices_are ∙ across after ∙ ap (map h) same ∙ sym (across before) ∙ ap (map f) seated.notices_are

  pub cards_many : length cards ≡ length dealt
  cards_many = are.count ∙ long ∙ sym (length-map before (λ (s : Seat). s.notices)) ∙ ap length seated.notices_are

  pub callers_all : (n : ℕ) → notices.AreNew queue n dealt → notices.AreAll queue callers
  callers_all n new = record {
    each = all_alike (λ (c : Caller). c.of) queue callers dealt (callers_kept (λ c. c.of) (λ x. x.of) (λ s. refl)) (λ k d lt. (new.each k d lt).0);
    all = sum_image (λ (c : Caller). c.shares) callers ∙ ap (sum_by (λ n. n)) (callers_kept (λ c. c.shares) (λ x. x.shares) (λ s. refl)) ∙ sym (sum_image (λ (c : Caller). c.shares) dealt) ∙ new.all;
  }
