-- Making the lock and its cards, taking them back, and closing.
use Rattle.std.proofs.Common.{◌≡◌, ◌≢◌, ◌⊎◌, ℕ, zero, suc, ◌+◌, ◌-◌, ◌<◌, ◌≤◌, List, [], ◌∷◌, ◌++◌, length, set, map, sym, refl, ap, ◌∙◌, subst, inl, inr, ⊎_elim, arith}
use Rattle.std.specs.Prelude.{Option, Some}
use Rattle.std.specs.List.{All}
use Rattle.std.proofs.lemmas.List.{append-nil}
use Rattle.std.proofs.lemmas.List.Elements.{All-nil, All-append, All-weaker}
use Rattle.std.proofs.lemmas.List.Sums.{sum_by-append}
use Rattle.std.proofs.Math.ListN.{length-set}
use mathlib.Core.Option.{none, some, some-injective, some-ne-none}
use mathlib.Core.Option as maybe
use mathlib.Core.Logic.{dite}
use native.Mathlib.Decide.{ℕ_discrete}
use lib.ListN.{get_elem?}
use Rattle.atomic_table.specs.Table.{step, Splits, Joins, Enters, Final, Seen, opening}
use Rattle.atomic_table.proofs.Lists.{at_longer, set_else}
use Rattle.sc_turn.specs.declared.view.View.{View}
use Rattle.sc_turn.specs.declared.view.Role.{Role}
use Rattle.sc_turn.specs.declared.view.Role.TheVariants.{Spent, Maker, Idle, Drawn, Stuck, Called, Closer}
use Rattle.sc_turn.specs.History.{Knows, HasNumbers, Closes}
use Rattle.sc_turn.specs.Views.{maker, made, made_one, new_card, closer, cards_of, joined, spent}
use Rattle.sc_turn.specs.Rule.{may_stick, stuck_by, Lives, InRole, Kept}
use Rattle.sc_turn.specs.Steps.{opened}
use Rattle.sc_turn.proofs.Histories.{one, card_with, closes}
use Rattle.sc_turn.proofs.Seats.{all_set, home_stays, total_set}
use Rattle.sc_turn.proofs.Turns.{held, held-same, held-other}

module _ {A : Type 0} where
  at_end : (l : List A) (a b : A) (j : ℕ) → get_elem? (l ++ a ∷ []) j ≡ some b → (get_elem? l j ≡ some b) ⊎ ((j ≡ length l) × (a ≡ b))
  at_end [] a b zero e = inr (refl, some-injective a b e)
  at_end [] a b (suc j) e = absurd (some-ne-none b (sym e))
  at_end (x ∷ xs) a b zero e = inl e
  at_end (x ∷ xs) a b (suc j) e = ⊎_elim (λ h. inl h) (λ h. inr (ap suc h.0, h.1)) (at_end xs a b j e)

held-keeps : (owner : ℕ → maybe.Option ℕ) (t id n : ℕ) → owner n ≡ some id → held owner t id n ≡ some id
held-keeps owner t id n own = dite (ℕ_discrete n t) (λ e. ap (held owner t id) e ∙ held-same owner t id) (λ ne. held-other owner t id n ne ∙ own)

module _ {V E : Type 0} (history : V → List E) (by : E → ℕ) (m : ℕ) (base : List E) where
  pub opens : (y : V) (n : ℕ) → m ≤ 64 → history y ≡ base → n ≡ length base → Kept history by m base (opening (0 ∷ 0 ∷ n ∷ []) (Some y ∷ []) (maker 0 base))
  opens y n small is len = record {
    ticket = 0;
    serving = 0;
    home = some (Some y);
    later = [];
    owner = λ n. none;
    holder = λ n. none;
    words = ap (λ x. 0 ∷ 0 ∷ x ∷ []) (len ∙ ap length (sym (append-nil base)));
    homes = refl;
    numbered = All-nil (λ e. (1 ≤ by e) × (by e ≤ m));
    has_home = inl (y, refl, is ∙ sym (append-nil base));
    each = λ j u e. ⊎_elim (λ none_there. absurd (some-ne-none u (sym none_there)))
        (λ x. subst (λ (z : ℕ × View E). InRole by m base [] 0 0 (λ n. none) (λ n. none) z.0 z.1 z.1.role) (λ i. (sym x.0 i, x.1 i))
        record { first = refl; few = (let r : 0 ≤ m = omega arith in r); unowned = λ n lt. refl; unused = All-nil (λ e. by e ≤ 0); saw = refl }) (at_end [] (maker 0 base) u j e);
    served = (let r : 0 ≤ 0 = omega arith in r);
    small = small;
    room = (let r : 0 - 9223372036854775808 + (0 + (m - 0)) ≤ m = omega arith in r);
  }

  -- the others, when number n gets its first owner
  lives_on : (log : List E) (owner : ℕ → maybe.Option ℕ) (n to j : ℕ) (u : View E) → owner n ≡ none → Lives by m log owner j u → Lives by m log (held owner n to) j u
  lives_on log owner n to j u unheld h =
      record { low = h.low; high = h.high; own = held-other owner n to u.number (λ e. some-ne-none j (sym h.own ∙ ap owner e ∙ unheld)) ∙ h.own; knows = h.knows }

  owned : (later : List E) (ticket serving : ℕ) (owner holder : ℕ → maybe.Option ℕ) (n to j : ℕ) (u : View E) (r : Role E) → owner n ≡ none → j ≢ 0
      → InRole by m base later ticket serving owner holder j u r → InRole by m base later ticket serving (held owner n to) holder j u r
  owned later ticket serving owner holder n to j u Spent unheld other h = h
  owned later ticket serving owner holder n to j u (Maker k) unheld other h = absurd (other h.first)
  owned later ticket serving owner holder n to j u Idle unheld other h = lives_on (base ++ later) owner n to j u unheld h
  owned later ticket serving owner holder n to j u (Drawn t) unheld other h = (lives_on (base ++ later) owner n to j u unheld h.0, h.1)
  owned later ticket serving owner holder n to j u Stuck unheld other h = lives_on (base ++ later) owner n to j u unheld h
  owned later ticket serving owner holder n to j u (Called t) unheld other h = (lives_on (base ++ later) owner n to j u unheld h.0, h.1)
  owned later ticket serving owner holder n to j u (Closer cards) unheld other h =
      All-weaker (λ (c : ℕ × List E). (owner c.0 ≡ some j) × Knows by c.0 c.1 (base ++ later)) (λ (c : ℕ × List E). (held owner n to c.0 ≡ some j) × Knows by c.0 c.1 (base ++ later))
      (λ c f. (held-other owner n to c.0 (λ e. some-ne-none j (sym f.0 ∙ ap owner e ∙ unheld)) ∙ f.0, f.1)) cards h

  pub makes_card : (id : ℕ) (v : View E) (k : ℕ) → v.role ≡ Maker k → k < m → Splits (Kept history by m base) id v (made_one v) (new_card v)
  makes_card id v k role few s κ at =
      let makes = subst (InRole by m base κ.later κ.ticket κ.serving κ.owner κ.holder id v) role (κ.each id v at) in
      let n : ℕ = made v.role + 1 in
      let is : made v.role ≡ k = ap made role in
      let first : id ≡ 0 = makes.first in
      let unowned : κ.owner n ≡ none = makes.unowned n (omega arith) in
      let to : ℕ = length s.views in
      let free : stuck_by m v ≡ m - k = ap (may_stick m) role in
      let total = total_set (stuck_by m) s.views id v (made_one v) at in
      let more = sum_by-append (stuck_by m) (set s.views id (made_one v)) (new_card v ∷ []) in
      let room = κ.room in
      let Fits : ℕ → View E → Type 0 = λ j u. InRole by m base κ.later κ.ticket κ.serving (held κ.owner n to) κ.holder j u u.role in
      let mine : Fits id (made_one v) = record {
        first = first;
        few = (let r : n ≤ m = omega arith in r);
        unowned = λ x lt. let ne : x ≢ n = (λ e. omega arith) in held-other κ.owner n to x ne ∙ makes.unowned x (omega arith);
        unused = All-weaker (λ e. by e ≤ k) (λ e. by e ≤ n) (λ e le. omega arith) κ.later makes.unused;
        saw = makes.saw;
      } in
      let new : Fits to (new_card v) = record {
        low = (let r : 1 ≤ n = omega arith in r);
        high = (let r : n ≤ m = omega arith in r);
        own = held-same κ.owner n to;
        knows = record { rest = κ.later; whole = ap (λ l. l ++ κ.later) (sym makes.saw); others = All-weaker (λ e. by e ≤ k) (λ e. by e ≢ n) (λ e le eq. omega arith) κ.later makes.unused };
      } in
      let old = all_set Fits s.views id (made_one v) mine (λ j u ne e. owned κ.later κ.ticket κ.serving κ.owner κ.holder n to j u u.role unowned (λ z. ne (z ∙ sym first)) (κ.each j u e)) in
      record {
        ticket = κ.ticket;
        serving = κ.serving;
        home = κ.home;
        later = κ.later;
        owner = held κ.owner n to;
        holder = κ.holder;
        words = κ.words;
        homes = κ.homes;
        numbered = κ.numbered;
        has_home = ⊎_elim (λ x. inl x) (λ x. inr (x.0, x.1, at_longer (set s.views id (made_one v)) (new_card v ∷ []) x.0 x.1 x.2, x.3))
            (home_stays history (base ++ κ.later) κ.serving κ.home s.views id v (made_one v) at (λ e. let unheld : Maker k ≡ Called κ.serving = sym role ∙ e in (cc)) κ.has_home);
        each = λ j u e. ⊎_elim (λ x. old j u x) (λ x. subst (λ (z : ℕ × View E). Fits z.0 z.1) (λ i. (sym (x.0 ∙ length-set s.views id (made_one v)) i, x.1 i)) new) (at_end (set s.views id (made_one v)) (new_card v) u j e);
        served = κ.served;
        small = κ.small;
        room = omega arith;
      }

  pub opens_closer : (n word : ℕ) (first : View E) → Enters {V = View E} (Kept history by m base) n word (λ found w. opened {V = V} (step n word 0 0 none) (first, []) found (w, []))
  opens_closer n word first s κ wide fits =
      let c : View E = closer [] in
      let more = sum_by-append (stuck_by m) s.views (c ∷ []) in
      let room = κ.room in (
        c,
        record {
          ticket = κ.ticket;
          serving = κ.serving;
          home = κ.home;
          later = κ.later;
          owner = κ.owner;
          holder = κ.holder;
          words = κ.words;
          homes = κ.homes;
          numbered = κ.numbered;
          has_home = ⊎_elim (λ x. inl x) (λ x. inr (x.0, x.1, at_longer s.views (c ∷ []) x.0 x.1 x.2, x.3)) κ.has_home;
          each = λ j u e. ⊎_elim (λ x. κ.each j u x)
              (λ x. subst (λ (z : View E). InRole by m base κ.later κ.ticket κ.serving κ.owner κ.holder j z z.role) x.1 (All-nil (λ (c : ℕ × List E). (κ.owner c.0 ≡ some j) × Knows by c.0 c.1 (base ++ κ.later)))) (at_end s.views c u j e);
          served = κ.served;
          small = κ.small;
          room = omega arith;
        },
        refl,
      )

  -- the others, when the number of the seat `from` goes to the seat `to`
  stays : (log : List E) (owner : ℕ → maybe.Option ℕ) (n from to j : ℕ) (u : View E) → owner n ≡ some from → j ≢ from → Lives by m log owner j u → Lives by m log (held owner n to) j u
  stays log owner n from to j u is other h =
      record { low = h.low; high = h.high; own = held-other owner n to u.number (λ e. other (some-injective j from (sym h.own ∙ ap owner e ∙ is))) ∙ h.own; knows = h.knows }

  taken : (later : List E) (ticket serving : ℕ) (owner holder : ℕ → maybe.Option ℕ) (n from to j : ℕ) (u : View E) (r : Role E) → owner n ≡ some from → j ≢ from
      → InRole by m base later ticket serving owner holder j u r → InRole by m base later ticket serving (held owner n to) holder j u r
  taken later ticket serving owner holder n from to j u Spent is other h = h
  taken later ticket serving owner holder n from to j u (Maker k) is other h =
      record { first = h.first; few = h.few; unowned = λ x lt. held-other owner n to x (λ e. some-ne-none from (sym is ∙ ap owner (sym e) ∙ h.unowned x lt)) ∙ h.unowned x lt; unused = h.unused; saw = h.saw }
  taken later ticket serving owner holder n from to j u Idle is other h = stays (base ++ later) owner n from to j u is other h
  taken later ticket serving owner holder n from to j u (Drawn t) is other h = (stays (base ++ later) owner n from to j u is other h.0, h.1)
  taken later ticket serving owner holder n from to j u Stuck is other h = stays (base ++ later) owner n from to j u is other h
  taken later ticket serving owner holder n from to j u (Called t) is other h = (stays (base ++ later) owner n from to j u is other h.0, h.1)
  taken later ticket serving owner holder n from to j u (Closer cards) is other h =
      All-weaker (λ (c : ℕ × List E). (owner c.0 ≡ some j) × Knows by c.0 c.1 (base ++ later)) (λ (c : ℕ × List E). (held owner n to c.0 ≡ some j) × Knows by c.0 c.1 (base ++ later))
      (λ c f. (held-other owner n to c.0 (λ e. other (some-injective j from (sym f.0 ∙ ap owner e ∙ is))) ∙ f.0, f.1)) cards h

  pub joins : (id : ℕ) (v : View E) (other : ℕ) (w : View E) (cards : List (ℕ × List E)) → v.role ≡ Closer cards → w.role ≡ Idle → Joins (Kept history by m base) id v other w (joined v w) spent
  joins id v other w cards role idle s κ at apart at' =
      let both : View E = joined v w in
      let vs : List (View E) = set s.views id both in
      let was : get_elem? s.views other ≡ some w = sym (set_else s.views id other both apart) ∙ at' in
      let closing = subst (InRole by m base κ.later κ.ticket κ.serving κ.owner κ.holder id v) role (κ.each id v at) in
      let lives = subst (InRole by m base κ.later κ.ticket κ.serving κ.owner κ.holder other w) idle (κ.each other w was) in
      let is : κ.owner w.number ≡ some other = lives.own in
      let own = held κ.owner w.number id in
      let freev : stuck_by m v ≡ 0 = ap (may_stick m) role in
      let freew : stuck_by m w ≡ 1 = ap (may_stick m) idle in
      let total = total_set (stuck_by m) s.views id v both at in
      let total' = total_set (stuck_by m) vs other w spent at' in
      let room = κ.room in
      let knew : cards_of v.role ≡ cards = ap cards_of role in
      let Fits : ℕ → View E → Type 0 = λ j u. InRole by m base κ.later κ.ticket κ.serving own κ.holder j u u.role in
      let Is : ℕ × List E → Type 0 = λ c. (own c.0 ≡ some id) × Knows by c.0 c.1 (base ++ κ.later) in
      let mine : Fits id both = All-append Is (cards_of v.role) ((w.number, w.seen) ∷ [])
      (subst (All Is) (sym knew) (All-weaker (λ (c : ℕ × List E). (κ.owner c.0 ≡ some id) × Knows by c.0 c.1 (base ++ κ.later)) Is (λ c f. (held-keeps κ.owner w.number id c.0 f.0, f.1)) cards closing))
      (one Is (w.number, w.seen) (held-same κ.owner w.number id, lives.knows)) in
      let Now : ℕ → View E → Type 0 = λ j u. j ≢ other → Fits j u in
      let first = all_set Now s.views id both (λ _. mine) (λ j u ne e not. taken κ.later κ.ticket κ.serving κ.owner κ.holder w.number other id j u u.role is not (κ.each j u e)) in
      record {
        ticket = κ.ticket;
        serving = κ.serving;
        home = κ.home;
        later = κ.later;
        owner = own;
        holder = κ.holder;
        words = κ.words;
        homes = κ.homes;
        numbered = κ.numbered;
        has_home = home_stays history (base ++ κ.later) κ.serving κ.home vs other w spent at' (λ e. let unheld : Idle ≡ Called κ.serving = sym idle ∙ e in (cc))
            (home_stays history (base ++ κ.later) κ.serving κ.home s.views id v both at (λ e. let unheld : Closer cards ≡ Called κ.serving = sym role ∙ e in (cc)) κ.has_home);
        each = all_set Fits vs other spent tt (λ j u ne e. first j u e ne);
        served = κ.served;
        small = κ.small;
        room = omega arith;
      }

  -- a closed lock has its value at home, and the cards show what its history is
  pub ends : (id : ℕ) (v : View E) (cards : List (ℕ × List E)) (words : List ℕ) (slots : List (Option V)) → v.role ≡ Closer cards → HasNumbers m (map (λ (c : ℕ × List E). c.0) cards)
      → Final (Seen (Kept history by m base) id v) words slots → (y : V) × (get_elem? slots 0 ≡ some (Some y)) × Closes by base cards (history y)
  ends id v cards words slots role all f =
      let s = f.0 in
      let κ = f.1.0 in
      let at = f.1.1 in
      let closing = subst (InRole by m base κ.later κ.ticket κ.serving κ.owner κ.holder id v) role (κ.each id v at) in
      let h : (y : V) × (κ.home ≡ some (Some y)) × (history y ≡ base ++ κ.later) = ⊎_elim (λ x. x)
      (λ x.
      let u = x.1 in
      let lives = (subst (InRole by m base κ.later κ.ticket κ.serving κ.owner κ.holder x.0 u) x.3 (κ.each x.0 u x.2)).0 in
      let c = card_with (λ (c : ℕ × List E). c.0) cards m u.number all lives.low lives.high in
      let mine = (closing c.0 c.1 c.2).0 in
      let same : x.0 ≡ id = some-injective x.0 id (sym lives.own ∙ ap κ.owner (sym (c.4)) ∙ ap (λ (p : ℕ × List E). κ.owner p.0) (sym c.3) ∙ mine) in
      let view_is : u ≡ v = some-injective u v (sym x.2 ∙ ap (get_elem? s.views) same ∙ at) in
      let unheld : Closer cards ≡ Called κ.serving = sym role ∙ ap (λ (z : View E). z.role) (sym view_is) ∙ x.3 in
      absurd (cc)) κ.has_home in
      let y = h.0 in (
        y,
        f.4 0 (Some y) (ap (λ l. get_elem? l 0) κ.homes ∙ ap some h.1),
        closes by m base κ.later cards (history y) h.2 κ.numbered all
            (All-weaker (λ (c : ℕ × List E). (κ.owner c.0 ≡ some id) × Knows by c.0 c.1 (base ++ κ.later)) (λ (c : ℕ × List E). Knows by c.0 c.1 (history y)) (λ c g. subst (Knows by c.0 c.1) (sym h.2) g.1) cards closing),
      )
