-- Lists of views, and the state after one seat's step.
use Rattle.std.proofs.Common.{◌≡◌, ◌≢◌, ℕ, zero, suc, ◌+◌, ◌-◌, ◌<◌, ◌≤◌, List, [], ◌∷◌, ◌++◌, length, get_or, set, sym, refl, ap, ◌∙◌, subst, inl, inr, ⊎_elim, arith, length-append}
use Rattle.std.specs.Prelude.{Option}
use Rattle.std.specs.List.{All, sum_by}
use Rattle.std.proofs.lemmas.List.Sums.{sum_by-set, get_or-le-sum_by}
use mathlib.Core.Option.{none, some, some-injective, some-ne-none}
use mathlib.Core.Option as maybe
use lib.ListN.{get_elem?}
use Rattle.atomic_table.specs.Table.{State}
use Rattle.atomic_table.proofs.Lists.{at_set, set_else}
use Rattle.sc_turn.specs.declared.view.View.{View}
use Rattle.sc_turn.specs.declared.view.Role.TheVariants.{Called}
use Rattle.sc_turn.specs.Rule.{stuck_by, InRole, HasHome, Kept}

module _ {A : Type 0} where
  pub all_set : (F : ℕ → A → Type 0) (views : List A) (id : ℕ) (w : A) → F id w → ((j : ℕ) (u : A) → j ≢ id → get_elem? views j ≡ some u → F j u)
      → (j : ℕ) (u : A) → get_elem? (set views id w) j ≡ some u → F j u
  all_set F views id w mine others j u e = ⊎_elim (λ (x : (j ≡ id) × (w ≡ u)). subst (λ (y : ℕ × A). F y.0 y.1) (λ i. (sym x.0 i, x.1 i)) mine)
      (λ (x : (j ≢ id) × (get_elem? views j ≡ some u)). others j u x.0 x.1) (at_set views id j w u e)

  pub here : (l : List A) (i : ℕ) (a : A) → get_elem? l i ≡ some a → (i < length l) × (get_or l i a ≡ a)
  here [] i a e = absurd (some-ne-none a (sym e))
  here (x ∷ xs) zero a e = (omega arith, some-injective x a e)
  here (x ∷ xs) (suc i) a e = let r = here xs i a e in (omega arith, r.1)

  pub total_set : (f : A → ℕ) (l : List A) (i : ℕ) (v w : A) → get_elem? l i ≡ some v → sum_by f (set l i w) + f v ≡ sum_by f l + f w
  total_set f l i v w e = let r = here l i v e in subst (λ z. sum_by f (set l i w) + f z ≡ sum_by f l + f w) r.1 (sum_by-set f l i w v r.0)

  at_middle : (xs ys : List A) (x d : A) → get_or (xs ++ x ∷ ys) (length xs) d ≡ x
  at_middle [] ys x d = refl
  at_middle (a ∷ xs) ys x d = at_middle xs ys x d

  -- what holds of each element holds of the next one
  pub in_middle : (P : A → Type 0) (all xs ys zs : List A) (x : A) → all ≡ xs ++ zs → zs ≡ x ∷ ys → All P all → P x
  in_middle P all xs ys zs x e f h =
      let is : all ≡ xs ++ x ∷ ys = e ∙ ap (λ l. xs ++ l) f in
      let lt : length xs < length (xs ++ x ∷ ys) = omega (arith, length-append xs (x ∷ ys)) in
      subst P (at_middle xs ys x x) (subst (All P) is h (length xs) x lt)

  pub total_least : (f : A → ℕ) (l : List A) (i : ℕ) (v : A) → get_elem? l i ≡ some v → f v ≤ sum_by f l
  total_least f l i v e = let r = here l i v e in subst (λ z. f z ≤ sum_by f l) r.1 (get_or-le-sum_by f l i v r.0)

module _ {V E : Type 0} (history : V → List E) where
  pub home_stays : (log : List E) (serving : ℕ) (home : maybe.Option (Option V)) (views : List (View E)) (id : ℕ) (v w : View E) → get_elem? views id ≡ some v → v.role ≢ Called serving
      → HasHome history log serving home views → HasHome history log serving home (set views id w)
  home_stays log serving home views id v w at out h = ⊎_elim (λ x. inl x)
      (λ x. inr (x.0, x.1, set_else views id x.0 w (λ e. out (ap (λ (y : View E). y.role) (some-injective v x.1 (sym at ∙ ap (get_elem? views) (sym e) ∙ x.2)) ∙ x.3)) ∙ x.2, x.3)) h

module _ {V E : Type 0} (history : V → List E) (by : E → ℕ) (m : ℕ) (base : List E) where
  -- what is left to show after a step of one seat
  pub next : (s : State (Option V) (View E)) (k : Kept history by m base s) (id : ℕ) (v w : View E) → get_elem? s.views id ≡ some v
      → (ticket serving : ℕ) (home : maybe.Option (Option V)) (later : List E) (owner holder : ℕ → maybe.Option ℕ) (words : List ℕ) (homes : List (maybe.Option (Option V)))
      → words ≡ ticket ∷ serving ∷ length (base ++ later) ∷ [] → homes ≡ home ∷ [] → All (λ e. (1 ≤ by e) × (by e ≤ m)) later → HasHome history (base ++ later) serving home (set s.views id w)
      → InRole by m base later ticket serving owner holder id w w.role
      → ((j : ℕ) (u : View E) → j ≢ id → get_elem? s.views j ≡ some u → InRole by m base later ticket serving owner holder j u u.role)
      → serving ≤ ticket → (ticket - 9223372036854775808) + stuck_by m w ≤ (k.ticket - 9223372036854775808) + stuck_by m v
      → Kept history by m base record { words = words; homes = homes; views = set s.views id w }
  next s k id v w at ticket serving home later owner holder words homes ws hs numbered has mine others served room =
      let total = total_set (stuck_by m) s.views id v w at in
      let old = k.room in
      record {
        ticket = ticket;
        serving = serving;
        home = home;
        later = later;
        owner = owner;
        holder = holder;
        words = ws;
        homes = hs;
        numbered = numbered;
        has_home = has;
        each = all_set (λ j u. InRole by m base later ticket serving owner holder j u u.role) s.views id w mine others;
        served = served;
        small = k.small;
        room = omega arith;
      }
