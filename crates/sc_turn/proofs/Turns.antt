-- Each step of a turn keeps the rule.
use Rattle.std.proofs.Common.{◌≡◌, ◌≢◌, ℕ, ◌+◌, ◌%◌, ◌<◌, ◌≤◌, List, [], ◌∷◌, ◌++◌, length, get_or, set, sym, refl, ap, ◌∙◌, subst, inl, inr, ⊎_elim, append_assoc, arith, eqb, cond, eq-eqb, ne_eqb}
use Rattle.std.proofs.Math.Nat.{mod-eq_of_lt, lt_of_not-le}
use Rattle.std.specs.Prelude.{Option, Some, unwrap_or}
use Rattle.std.specs.List.{All, sum_by}
use mathlib.Core.Option.{none, some, some-injective, some-ne-none}
use mathlib.Core.Option as maybe
use mathlib.Core.Logic.{dite}
use native.Mathlib.Decide.{dec_le, dec_lt, ℕ_discrete}
use Rattle.std.proofs.lemmas.List.Elements.{All-append, All-weaker}
use Rattle.atomic_table.proofs.Lists.{set_here}
use lib.ListN.{get_elem?}
use Rattle.atomic_table.specs.Table.{State, Me, step, keeps, takes, gives, put_back, Allows}
use Rattle.sc_turn.specs.declared.view.View.{View}
use Rattle.sc_turn.specs.declared.view.Role.{Role}
use Rattle.sc_turn.specs.declared.view.Role.TheVariants.{Spent, Maker, Idle, Drawn, Stuck, Called, Closer}
use Rattle.sc_turn.specs.History.{Knows, MayFollow}
use Rattle.sc_turn.specs.Views.{view, in_role}
use Rattle.sc_turn.specs.Rule.{may_stick, stuck_by, Lives, Waits, InRole, Kept}
use Rattle.sc_turn.specs.Steps.{drawn, read, raised, passed_on}
use Rattle.sc_turn.proofs.Histories.{added, knows_all, knows_on}
use Rattle.sc_turn.proofs.Seats.{here, home_stays, next, total_least}

-- what has n from now on: the seat id at n, and else as before
abbrev pub held : (ℕ → maybe.Option ℕ) → ℕ → ℕ → ℕ → maybe.Option ℕ
held holder t id n = cond (eqb n t) (some id) (holder n)

pub held-same : (holder : ℕ → maybe.Option ℕ) (t id : ℕ) → held holder t id t ≡ some id
held-same holder t id = rw (eq-eqb t t refl) refl

pub held-other : (holder : ℕ → maybe.Option ℕ) (t id n : ℕ) → n ≢ t → held holder t id n ≡ holder n
held-other holder t id n ne = rw (ne_eqb n t ne) refl

abbrev value_in : {V : Type 0} → V → List (ℕ × Option V) → V
value_in d [] = d
value_in d (x ∷ xs) = unwrap_or x.1 d

one_slot : {V : Type 0} (y y' : V) → ◌≡◌ {A = List (ℕ × Option V)} ((0, Some y) ∷ []) ((0, Some y') ∷ []) → y ≡ y'
one_slot y y' both = ap (value_in y) both

module _ {V E : Type 0} (history : V → List E) (by : E → ℕ) (m : ℕ) (base : List E) where
  abbrev M : Type 0
  M = Me (Option V) (View E)

  -- the others, when a ticket is drawn
  waits_drew : (ticket serving : ℕ) (holder : ℕ → maybe.Option ℕ) (id j t : ℕ) → Waits ticket serving holder j t → Waits (ticket + 1) serving (held holder ticket id) j t
  waits_drew ticket serving holder id j t w =
      record { least = w.least; most = (let b = w.most in omega arith); own = held-other holder ticket id t (λ e. let b = w.most in omega arith) ∙ w.own }

  drew : (later : List E) (ticket serving : ℕ) (owner holder : ℕ → maybe.Option ℕ) (id j : ℕ) (u : View E) (r : Role E)
      → InRole by m base later ticket serving owner holder j u r → InRole by m base later (ticket + 1) serving owner (held holder ticket id) j u r
  drew later ticket serving owner holder id j u Spent h = h
  drew later ticket serving owner holder id j u (Maker k) h = h
  drew later ticket serving owner holder id j u Idle h = h
  drew later ticket serving owner holder id j u (Drawn t) h = (h.0, waits_drew ticket serving holder id j t h.1)
  drew later ticket serving owner holder id j u Stuck h = h
  drew later ticket serving owner holder id j u (Called t) h = (h.0, record { now = h.1.now; waits = waits_drew ticket serving holder id j t h.1.waits; all = h.1.all })
  drew later ticket serving owner holder id j u (Closer cards) h = h

  pub draws : (n id : ℕ) (me : M) → me.0.role ≡ Idle → Allows (Kept history by m base) n id me 0 (λ x. (x + 1) % 18446744073709551616) (drawn (step n 0 1 0 none) me)
  draws n id me idle s k wide at fits =
      let v = me.0 in
      let f : ℕ → ℕ = λ x. (x + 1) % 18446744073709551616 in
      let found : get_or s.words 0 0 ≡ k.ticket = ap (λ l. get_or l 0 0) k.words in
      let mine = subst (InRole by m base k.later k.ticket k.serving k.owner k.holder id v) idle (k.each id v at) in
      let sticks : stuck_by m v ≡ 1 = ap (may_stick m) idle in
      let bound : stuck_by m v ≤ sum_by (stuck_by m) s.views = total_least (stuck_by m) s.views id v at in
      let room = k.room in
      let small = k.small in
      let below : k.ticket + 1 < 18446744073709551616 = omega arith in
      let after : f (get_or s.words 0 0) ≡ k.ticket + 1 = ap f found ∙ mod-eq_of_lt below in
      let length_word : ℕ = length (base ++ k.later) in
      let words : set s.words 0 (f (get_or s.words 0 0)) ≡ (k.ticket + 1) ∷ k.serving ∷ length_word ∷ [] = ap (λ l. set l 0 (f (get_or s.words 0 0))) k.words ∙ ap (λ x. x ∷ k.serving ∷ length_word ∷ []) after in
      let others = λ (j : ℕ) (u : View E) (ne : j ≢ id) (e : get_elem? s.views j ≡ some u). drew k.later k.ticket k.serving k.owner k.holder id j u u.role (k.each j u e) in
      let moved = λ (w : View E). next history by m base s k id v w at (k.ticket + 1) k.serving k.home k.later k.owner (held k.holder k.ticket id) (set s.words 0 (f (get_or s.words 0 0))) s.homes words k.homes k.numbered
      (home_stays history (base ++ k.later) k.serving k.home s.views id v w at (λ e. let no : Idle ≡ Called k.serving = sym idle ∙ e in (cc)) k.has_home) in
      let live = λ (r : Role E). let l : Lives by m (base ++ k.later) k.owner id (in_role v r) = record { low = mine.low; high = mine.high; own = mine.own; knows = mine.knows } in l in
      let served : k.serving ≤ k.ticket = k.served in
      let waits : Waits (k.ticket + 1) k.serving (held k.holder k.ticket id) id k.ticket = record { least = served; most = omega arith; own = held-same k.holder k.ticket id } in
      dite (dec_lt k.ticket 9223372036854775808)
      (λ few. (in_role v (Drawn k.ticket), keeps, tt, moved (in_role v (Drawn k.ticket)) (live (Drawn k.ticket), waits) others (omega arith) (omega arith), (refl, λ _. ap (λ t. in_role v (Drawn t)) (sym found))))
      (λ many. (in_role v Stuck, keeps, tt, moved (in_role v Stuck) (live Stuck) others (omega arith) (omega arith), (refl, λ low. absurd (many (subst (λ x. x < 9223372036854775808) found low)))))

  -- where a seat's ticket is served and it isn't called yet, the value is at home
  at_home : (s : State (Option V) (View E)) (k : Kept history by m base s) (id : ℕ) (v : View E) (t : ℕ) → get_elem? s.views id ≡ some v → v.role ≡ Drawn t → k.serving ≡ t
      → (y : V) × (k.home ≡ some (Some y)) × (history y ≡ base ++ k.later)
  at_home s k id v t at role is = ⊎_elim (λ x. x)
      (λ x.
      let i = x.0 in
      let u = x.1 in
      let his = (subst (InRole by m base k.later k.ticket k.serving k.owner k.holder i u) x.3 (k.each i u x.2)).1.waits.own in
      let mine = (subst (InRole by m base k.later k.ticket k.serving k.owner k.holder id v) role (k.each id v at)).1.own in
      let same : i ≡ id = some-injective i id (sym his ∙ ap k.holder is ∙ mine) in
      let view_is : u ≡ v = some-injective u v (sym x.2 ∙ ap (get_elem? s.views) same ∙ at) in
      let no : Drawn t ≡ Called k.serving = sym role ∙ ap (λ (w : View E). w.role) (sym view_is) ∙ x.3 in
      absurd (cc)) k.has_home

  pub reads : (n id : ℕ) (me : M) (t : ℕ) → me.0.role ≡ Drawn t → Allows (Kept history by m base) n id me 1 (λ x. x) (read history by (step n 1 0 0 none) me)
  reads n id me t role s k wide at fits =
      let v = me.0 in
      let found : get_or s.words 1 0 ≡ k.serving = ap (λ l. get_or l 1 0) k.words in
      let mine = subst (InRole by m base k.later k.ticket k.serving k.owner k.holder id v) role (k.each id v at) in
      let length_word : ℕ = length (base ++ k.later) in
      let words : set s.words 1 (get_or s.words 1 0) ≡ k.ticket ∷ k.serving ∷ length_word ∷ [] = ap (λ l. set l 1 (get_or s.words 1 0)) k.words ∙ ap (λ x. k.ticket ∷ x ∷ length_word ∷ []) found in
      let sticks : may_stick m v.role ≡ 1 = ap (may_stick m) role in
      let others = λ (j : ℕ) (u : View E) (ne : j ≢ id) (e : get_elem? s.views j ≡ some u). k.each j u e in
      let same_ticket = λ (t' : ℕ) (e : v.role ≡ Drawn t'). let d : Drawn t ≡ Drawn t' = sym role ∙ e in let r : t ≡ t' = (cc) in r in
      dite (ℕ_discrete k.serving t)
      (λ is.
      let h = at_home s k id v t at role is in
      let y = h.0 in
      let w : View E = view v.number v.start (history y) v.visits (Called t) in
      let lives : Lives by m (base ++ k.later) k.owner id w = record { low = mine.0.low; high = mine.0.high; own = mine.0.own; knows = knows_all by v.number (history y) (base ++ k.later) h.2 } in
      let home : get_elem? s.homes 0 ≡ some (some (Some y)) = ap (λ l. get_elem? l 0) k.homes ∙ ap some h.1 in (
        w,
        takes 0 (Some y),
        home,
        next history by m base s k id v w at k.ticket k.serving none k.later k.owner k.holder (set s.words 1 (get_or s.words 1 0)) (set s.homes 0 none) words (ap (λ l. set l 0 none) k.homes) k.numbered
            (inr (id, w, set_here s.views id w (here s.views id v at).0, ap Called (sym is))) (lives, record { now = sym is; waits = mine.1; all = h.2 }) others k.served (omega arith),
        λ t' e. let tt' = same_ticket t' e in
            ((λ _. (y, ap (λ x. (view v.number v.start (history y) v.visits (Called x), (0, Some y) ∷ me.1)) tt', subst (Knows by v.number v.seen) (sym h.2) mine.0.knows)), λ ne. absurd (ne (found ∙ is ∙ tt'))),
      ))
      (λ not. (
        v,
        keeps,
        tt,
        next history by m base s k id v v at k.ticket k.serving k.home k.later k.owner k.holder (set s.words 1 (get_or s.words 1 0)) s.homes words k.homes k.numbered
            (home_stays history (base ++ k.later) k.serving k.home s.views id v v at (λ e. let no : Drawn t ≡ Called k.serving = sym role ∙ e in (cc)) k.has_home) (k.each id v at) others k.served (omega arith),
        λ t' e. ((λ hit. absurd (not (sym found ∙ hit ∙ sym (same_ticket t' e)))), λ _. refl),
      ))

  -- the others, when the seat id raises the length by entries of its number
  lives_on : (later tail : List E) (owner : ℕ → maybe.Option ℕ) (id number j : ℕ) (u : View E) → j ≢ id → owner number ≡ some id → All (λ e. by e ≡ number) tail
      → Lives by m (base ++ later) owner j u → Lives by m (base ++ (later ++ tail)) owner j u
  lives_on later tail owner id number j u ne own his h = record {
    low = h.low;
    high = h.high;
    own = h.own;
    knows = knows_on by u.number number u.seen base later tail (λ e. ne (some-injective j id (sym h.own ∙ ap owner (sym e) ∙ own))) his h.knows;
  }

  owned_low : (owner : ℕ → maybe.Option ℕ) (id number k : ℕ) → owner number ≡ some id → ((n : ℕ) → k < n → owner n ≡ none) → number ≤ k
  owned_low owner id number k own h = dite (dec_le number k) (λ x. x) (λ no. absurd (some-ne-none id (sym own ∙ h number (lt_of_not-le no))))

  grew : (later tail : List E) (ticket serving : ℕ) (owner holder : ℕ → maybe.Option ℕ) (id number j : ℕ) (u : View E) (r : Role E) → j ≢ id → owner number ≡ some id → holder serving ≡ some id → All (λ e. by e ≡ number) tail
      → InRole by m base later ticket serving owner holder j u r → InRole by m base (later ++ tail) ticket serving owner holder j u r
  grew later tail ticket serving owner holder id number j u Spent ne own held_by his h = h
  grew later tail ticket serving owner holder id number j u (Maker k) ne own held_by his h = let low : number ≤ k = owned_low owner id number k own h.unowned in record {
    first = h.first;
    few = h.few;
    unowned = h.unowned;
    unused = All-append (λ e. by e ≤ k) later tail h.unused (All-weaker (λ e. by e ≡ number) (λ e. by e ≤ k) (λ e is. subst (λ x. x ≤ k) (sym is) low) tail his);
    saw = h.saw;
  }
  grew later tail ticket serving owner holder id number j u Idle ne own held_by his h = lives_on later tail owner id number j u ne own his h
  grew later tail ticket serving owner holder id number j u (Drawn t) ne own held_by his h = (lives_on later tail owner id number j u ne own his h.0, h.1)
  grew later tail ticket serving owner holder id number j u Stuck ne own held_by his h = lives_on later tail owner id number j u ne own his h
  grew later tail ticket serving owner holder id number j u (Called t) ne own held_by his h = absurd (ne (some-injective j id (sym h.1.waits.own ∙ ap holder h.1.now ∙ held_by)))
  grew later tail ticket serving owner holder id number j u (Closer cards) ne own held_by his h =
      All-weaker (λ (c : ℕ × List E). (owner c.0 ≡ some j) × Knows by c.0 c.1 (base ++ later)) (λ (c : ℕ × List E). (owner c.0 ≡ some j) × Knows by c.0 c.1 (base ++ (later ++ tail)))
      (λ c f. (f.0, knows_on by c.0 number c.1 base later tail (λ e. ne (some-injective j id (sym f.0 ∙ ap owner (sym e) ∙ own))) his f.1)) cards h

  pub raises : (n id : ℕ) (me : M) (y : V) (t more : ℕ) → me.0.role ≡ Called t → me.1 ≡ (0, Some y) ∷ [] → MayFollow by me.0.number me.0.seen (history y)
      → length (history y) ≡ length me.0.seen + more → length (history y) < 18446744073709551616
      → Allows (Kept history by m base) n id me 2 (λ x. (x + more) % 18446744073709551616) (raised history (step n 2 more 0 none) me)
  raises n id me y t more role holds may longer short s k wide at fits =
      let v = me.0 in
      let f : ℕ → ℕ = λ x. (x + more) % 18446744073709551616 in
      let mine = subst (InRole by m base k.later k.ticket k.serving k.owner k.holder id v) role (k.each id v at) in
      let held_by : k.holder k.serving ≡ some id = ap k.holder (sym mine.1.now) ∙ mine.1.waits.own in
      let extra = added by v.number v.seen (history y) may in
      let tail = extra.0 in
      let later : List E = k.later ++ tail in
      let log : history y ≡ base ++ later = extra.1 ∙ ap (λ l. l ++ tail) mine.1.all ∙ append_assoc base k.later tail in
      let w : View E = view v.number v.start (history y) v.visits v.role in
      let found : get_or s.words 2 0 ≡ length v.seen = ap (λ l. get_or l 2 0) k.words ∙ ap length (sym mine.1.all) in
      let after : f (get_or s.words 2 0) ≡ length (base ++ later) = ap f found ∙ ap (λ x. x % 18446744073709551616) (sym longer) ∙ mod-eq_of_lt short ∙ ap length log in
      let words : set s.words 2 (f (get_or s.words 2 0)) ≡ k.ticket ∷ k.serving ∷ length (base ++ later) ∷ [] = ap (λ l. set l 2 (f (get_or s.words 2 0))) k.words ∙ ap (λ x. k.ticket ∷ k.serving ∷ x ∷ []) after in
      let lives : Lives by m (base ++ later) k.owner id w = record { low = mine.0.low; high = mine.0.high; own = mine.0.own; knows = knows_all by v.number (history y) (base ++ later) log } in
      let numbered = All-append (λ e. (1 ≤ by e) × (by e ≤ m)) k.later tail k.numbered
      (All-weaker (λ e. by e ≡ v.number) (λ e. (1 ≤ by e) × (by e ≤ m)) (λ e is. subst (λ x. (1 ≤ x) × (x ≤ m)) (sym is) (mine.0.low, mine.0.high)) tail extra.2) in
      let called : InRole by m base later k.ticket k.serving k.owner k.holder id w (Called t) = (lives, record { now = mine.1.now; waits = mine.1.waits; all = log }) in (
        w,
        keeps,
        tt,
        next history by m base s k id v w at k.ticket k.serving k.home later k.owner k.holder (set s.words 2 (f (get_or s.words 2 0))) s.homes words k.homes numbered
            (inr (id, w, set_here s.views id w (here s.views id v at).0, role ∙ ap Called mine.1.now)) (subst (InRole by m base later k.ticket k.serving k.owner k.holder id w) (sym role) called)
            (λ j u ne e. grew k.later tail k.ticket k.serving k.owner k.holder id v.number j u u.role ne mine.0.own held_by extra.2 (k.each j u e)) k.served (omega arith),
        λ y' e.
            let is = one_slot y y' (sym holds ∙ e) in
            λ i. (view v.number v.start (history (is i)) v.visits v.role, me.1),
      )

  -- the others, when the turn is passed on
  went : (later : List E) (ticket serving : ℕ) (owner holder : ℕ → maybe.Option ℕ) (id j : ℕ) (u : View E) (r : Role E) → j ≢ id → holder serving ≡ some id
      → InRole by m base later ticket serving owner holder j u r → InRole by m base later ticket (serving + 1) owner holder j u r
  went later ticket serving owner holder id j u Spent ne held_by h = h
  went later ticket serving owner holder id j u (Maker k) ne held_by h = h
  went later ticket serving owner holder id j u Idle ne held_by h = h
  went later ticket serving owner holder id j u (Drawn t) ne held_by h =
      let other : t ≢ serving = λ e. ne (some-injective j id (sym h.1.own ∙ ap holder e ∙ held_by)) in
      let least = h.1.least in
      (h.0, record { least = omega arith; most = h.1.most; own = h.1.own })
  went later ticket serving owner holder id j u Stuck ne held_by h = h
  went later ticket serving owner holder id j u (Called t) ne held_by h = absurd (ne (some-injective j id (sym h.1.waits.own ∙ ap holder h.1.now ∙ held_by)))
  went later ticket serving owner holder id j u (Closer cards) ne held_by h = h

  pub passes : (n id : ℕ) (me : M) (y : V) (t : ℕ) → me.0.role ≡ Called t → me.1 ≡ (0, Some y) ∷ [] → me.0.seen ≡ history y
      → Allows (Kept history by m base) n id me 1 (λ x. (x + 1) % 18446744073709551616) (passed_on (step n 1 1 0 none) me)
  passes n id me y t role holds saw s k wide at fits =
      let v = me.0 in
      let f : ℕ → ℕ = λ x. (x + 1) % 18446744073709551616 in
      let found : get_or s.words 1 0 ≡ k.serving = ap (λ l. get_or l 1 0) k.words in
      let mine = subst (InRole by m base k.later k.ticket k.serving k.owner k.holder id v) role (k.each id v at) in
      let now : t ≡ k.serving = mine.1.now in
      let most : t < k.ticket = mine.1.waits.most in
      let held_by : k.holder k.serving ≡ some id = ap k.holder (sym now) ∙ mine.1.waits.own in
      let w : View E = view v.number v.start v.seen (v.visits ++ length v.seen ∷ []) Idle in
      let sticks : may_stick m v.role ≡ 1 = ap (may_stick m) role in
      let bound : stuck_by m v ≤ sum_by (stuck_by m) s.views = total_least (stuck_by m) s.views id v at in
      let room = k.room in
      let small = k.small in
      let below : k.serving + 1 < 18446744073709551616 = omega arith in
      let length_word : ℕ = length (base ++ k.later) in
      let after : f (get_or s.words 1 0) ≡ k.serving + 1 = ap f found ∙ mod-eq_of_lt below in
      let words : set s.words 1 (f (get_or s.words 1 0)) ≡ k.ticket ∷ (k.serving + 1) ∷ length_word ∷ [] = ap (λ l. set l 1 (f (get_or s.words 1 0))) k.words ∙ ap (λ x. k.ticket ∷ x ∷ length_word ∷ []) after in
      let homes : put_back s.homes me.1 ≡ some (Some y) ∷ [] = ap (put_back s.homes) holds ∙ ap (λ l. set l 0 (some (Some y))) k.homes in
      let lives : Lives by m (base ++ k.later) k.owner id w = record { low = mine.0.low; high = mine.0.high; own = mine.0.own; knows = mine.0.knows } in (
        w,
        gives,
        tt,
        next history by m base s k id v w at k.ticket (k.serving + 1) (some (Some y)) k.later k.owner k.holder (set s.words 1 (f (get_or s.words 1 0))) (put_back s.homes me.1) words homes k.numbered
            (inl (y, refl, sym saw ∙ mine.1.all)) lives
            (λ j u ne e. went k.later k.ticket k.serving k.owner k.holder id j u u.role ne held_by (k.each j u e)) (omega arith) (omega arith),
        refl,
      )
