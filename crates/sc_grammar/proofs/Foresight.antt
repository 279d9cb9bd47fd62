-- Of a grammar whose tables fit, the machine takes just what the rules derive, and stops where no front goes on.
use Rattle.std.proofs.Common.{◌≡◌, ◌⊎◌, inl, inr, List, [], ◌∷◌, ◌++◌, Option, Some, Bool, true, false, ℕ, zero, suc, ◌+◌, ◌<◌, ◌≤◌, refl, sym, ap, subst, ◌∙◌, arith}
use Rattle.std.specs.Prelude.{◌&&◌, ◌||◌, not}
use Rattle.std.proofs.lemmas.List.{append-nil}
use Rattle.sc_grammar.specs.Grammar.{Item, tok, non, act, Derives, done, token, mark, rule, IsFront, Steps, takes, marks, opens, Refuses, Runs, stays, steps}
use Rattle.sc_grammar.specs.Classes.{In, when, all_in, nullable, firsts, are_followed, is_fitting}
use Rattle.sc_grammar.proofs.Sets.{both_true, unless_true, in_left, in_right, when_in, all_in_In, firsts-append}

module _ (T C N K S : Type 0) (class_of : T → C) (eats : T → S → S) (does : K → S → S) (Rule : N → List (Item C N K) → Type 0) where
  abbrev Items : Type 0
  Items = List (Item C N K)

  abbrev Left : Items → S → List T → S → Type 0
  Left = Derives T C N K S class_of eats does Rule

  token_left : (c : C) (is : Items) (s : S) (ts : List T) (s' : S) → Left (tok c ∷ is) s ts s' → (t : T) (g : List T) → ts ≡ t ∷ g → Left is (eats t s) g s'
  token_left _ _ _ _ _ (token u is s ts s' l) t g e =
      let same : u ≡ t = cc in
      let rest : ts ≡ g = cc in
      subst (λ (x : T). Left is (eats x s) g s') same (subst (λ (x : List T). Left is (eats u s) x s') rest l)

  mark_left : (k : K) (is : Items) (s : S) (ts : List T) (s' : S) → Left (act k ∷ is) s ts s' → Left is (does k s) ts s'
  mark_left _ _ _ _ _ (mark k is s ts s' l) = l

  rule_left : (n : N) (is : Items) (s : S) (ts : List T) (s' : S) → Left (non n ∷ is) s ts s' → (a : Items) × Rule n a × Left (a ++ is) s ts s'
  rule_left _ _ _ _ _ (rule n a is s ts s' r l) = (a, r, l)

  -- ---- each list of items derives something

  module _ (plain : N → Items) (plain_is : (n : N) → Rule n (plain n)) (size : N → ℕ) (sample : C → T) (sample_is : (c : C) → class_of (sample c) ≡ c) where
    -- how many steps it takes to write something
    abbrev pub weight : Items → ℕ
    weight [] = 0
    weight (tok c ∷ is) = weight is + 1
    weight (act k ∷ is) = weight is + 1
    weight (non n ∷ is) = size n + weight is

    weight-append : (a is : Items) → weight (a ++ is) ≡ weight a + weight is
    weight-append [] is = omega arith
    weight-append (tok c ∷ a) is = let h = weight-append a is in omega arith
    weight-append (act k ∷ a) is = let h = weight-append a is in omega arith
    weight-append (non n ∷ a) is = let h = weight-append a is in omega arith

    module _ (lighter : (n : N) → weight (plain n) < size n) where
      written : (fuel : ℕ) (is : Items) (s : S) → weight is ≤ fuel → (ts : List T) × (s' : S) × Left is s ts s'
      written fuel [] s h = ([], s, done s)
      written zero (tok c ∷ is) s h = absurd (omega arith)
      written zero (act k ∷ is) s h = absurd (omega arith)
      written zero (non n ∷ is) s h = let l = lighter n in absurd (omega arith)
      written (suc fuel) (tok c ∷ is) s h =
          let p = written fuel is (eats (sample c) s) (omega arith) in
          (sample c ∷ p.0, p.1, subst (λ (x : C). Left (tok x ∷ is) s (sample c ∷ p.0) p.1) (sample_is c) (token (sample c) is s p.0 p.1 p.2))
      written (suc fuel) (act k ∷ is) s h =
          let p = written fuel is (does k s) (omega arith) in
          (p.0, p.1, mark k is s p.0 p.1 p.2)
      written (suc fuel) (non n ∷ is) s h =
          let l = lighter n in
          let w = weight-append (plain n) is in
          let p = written fuel (plain n ++ is) s (omega arith) in
          (p.0, p.1, rule n (plain n) is s p.0 p.1 (plain_is n) p.2)

      -- what was taken is a front
      pub left_is_front : (is : Items) (s : S) (ts : List T) (js : Items) (m : S) → ((g : List T) (s' : S) → Left js m g s' → Left is s (ts ++ g) s') → IsFront T C N K S class_of eats does Rule is s ts
      left_is_front is s ts js m goes =
          let p = written (weight js) js m (omega arith) in
          record { rest = p.0; end = p.1; whole = goes p.0 p.1 p.2 }

  -- ---- items that end in a token derive no nothing

  module _ (is_solid : N → Bool) where
    -- whether the last item is a token, or a rule each of whose alternatives ends so
    abbrev pub ends_solid : Items → Bool
    ends_solid [] = false
    ends_solid (tok c ∷ []) = true
    ends_solid (act k ∷ []) = false
    ends_solid (non n ∷ []) = is_solid n
    ends_solid (i ∷ j ∷ is) = ends_solid (j ∷ is)

    module _ (solid_in : (n : N) (a : Items) → Rule n a → is_solid n ≡ true → ends_solid a ≡ true) where
      ends_solid-append : (a is : Items) → ends_solid is ≡ true → ends_solid (a ++ is) ≡ true
      ends_solid-append [] is e = e
      ends_solid-append (i ∷ []) [] e = absurd cc
      ends_solid-append (tok c ∷ []) (j ∷ is) e = e
      ends_solid-append (act k ∷ []) (j ∷ is) e = e
      ends_solid-append (non n ∷ []) (j ∷ is) e = e
      ends_solid-append (tok c ∷ j ∷ a) is e = ends_solid-append (j ∷ a) is e
      ends_solid-append (act k ∷ j ∷ a) is e = ends_solid-append (j ∷ a) is e
      ends_solid-append (non n ∷ j ∷ a) is e = ends_solid-append (j ∷ a) is e

      pub solid_in_place : (n : N) (a is : Items) → Rule n a → ends_solid (non n ∷ is) ≡ true → ends_solid (a ++ is) ≡ true
      solid_in_place n a [] r e = subst (λ (x : Items). ends_solid x ≡ true) (sym (append-nil a)) (solid_in n a r e)
      solid_in_place n a (j ∷ is) r e = ends_solid-append a (j ∷ is) e

      pub solid_derives_some : (is : Items) (s : S) (ts : List T) (s' : S) → Left is s ts s' → ts ≡ [] → ends_solid is ≡ true → ⊥
      solid_derives_some _ _ _ _ (done s) e h = absurd cc
      solid_derives_some _ _ _ _ (token t is s ts s' l) e h = absurd cc
      solid_derives_some _ _ _ _ (mark k [] s ts s' l) e h = absurd cc
      solid_derives_some _ _ _ _ (mark k (j ∷ is) s ts s' l) e h = solid_derives_some (j ∷ is) (does k s) ts s' l e h
      solid_derives_some _ _ _ _ (rule n a is s ts s' r l) e h = solid_derives_some (a ++ is) s ts s' l e (solid_in_place n a is r h)

  module _ (predict : N → C → Option Items) where
    abbrev Goes : Items → S → T → Items → S → Type 0
    Goes = Steps T C N K S class_of eats does predict

    abbrev Run : Items → S → List T → Items → S → Type 0
    Run = Runs T C N K S class_of eats does predict

    -- ---- what is taken is derived

    pub runs_then : (is : Items) (s : S) (ts : List T) (js : Items) (m : S) → Run is s ts js m → (us : List T) (ks : Items) (s' : S) → Run js m us ks s' → Run is s (ts ++ us) ks s'
    runs_then _ _ _ _ _ (stays is s) us ks s' h = h
    runs_then _ _ _ _ _ (steps is s t ns n ts js m g r) us ks s' h = steps is s t ns n (ts ++ us) ks s' g (runs_then ns n ts js m r us ks s' h)

    -- one token more
    pub runs_push : (is : Items) (s : S) (ts : List T) (js : Items) (m : S) → Run is s ts js m → (t : T) (ks : Items) (s' : S) → Goes js m t ks s' → Run is s (ts ++ t ∷ []) ks s'
    runs_push is s ts js m r t ks s' g = runs_then is s ts js m r (t ∷ []) ks s' (steps js m t ks s' [] ks s' g (stays ks s'))

    module _ (is_rule : (n : N) (c : C) (a : Items) → predict n c ≡ Some a → Rule n a) where
      goes_left : (is : Items) (s : S) (t : T) (js : Items) (m : S) → Goes is s t js m → (g : List T) (s' : S) → Left js m g s' → Left is s (t ∷ g) s'
      goes_left _ _ _ _ _ (takes t is s) g s' l = token t is s g s' l
      goes_left _ _ _ _ _ (marks k is s t js m h) g s' l = mark k is s (t ∷ g) s' (goes_left is (does k s) t js m h g s' l)
      goes_left _ _ _ _ _ (opens n a is s t js m e h) g s' l = rule n a is s (t ∷ g) s' (is_rule n (class_of t) a e) (goes_left (a ++ is) s t js m h g s' l)

      pub runs_left : (is : Items) (s : S) (ts : List T) (js : Items) (m : S) → Run is s ts js m → (g : List T) (s' : S) → Left js m g s' → Left is s (ts ++ g) s'
      runs_left _ _ _ _ _ (stays is s) g s' l = l
      runs_left _ _ _ _ _ (steps is s t ns n ts js m h r) g s' l = goes_left is s t ns n h (ts ++ g) s' (runs_left ns n ts js m r g s' l)

      -- the machine that has come to its end has taken what is derived
      pub taken_derives : (is : Items) (s : S) (ts : List T) (s' : S) → Run is s ts [] s' → Left is s ts s'
      taken_derives is s ts s' r = subst (λ (x : List T). Left is s x s') (append-nil ts) (runs_left is s ts [] s' r [] s' (done s'))

      module _ (is_solid : N → Bool) (solid_in : (n : N) (a : Items) → Rule n a → is_solid n ≡ true → ends_solid is_solid a ≡ true) where
        -- nothing is to come, or what is to come ends in a token
        abbrev pub IsSolid : Items → Type 0
        IsSolid is = (is ≡ []) ⊎ (ends_solid is_solid is ≡ true)

        solid_tail : (i : Item C N K) (is : Items) → ends_solid is_solid (i ∷ is) ≡ true → IsSolid is
        solid_tail i [] e = inl refl
        solid_tail (tok c) (j ∷ is) e = inr e
        solid_tail (act k) (j ∷ is) e = inr e
        solid_tail (non n) (j ∷ is) e = inr e

        no_solid : (k : K) → ends_solid is_solid (act k ∷ []) ≡ true → ⊥
        no_solid k e = cc

        goes_solid : (is : Items) (s : S) (t : T) (js : Items) (m : S) → Goes is s t js m → ends_solid is_solid is ≡ true → IsSolid js
        goes_solid _ _ _ _ _ (takes t is s) e = solid_tail (tok (class_of t)) is e
        goes_solid _ _ _ _ _ (marks k [] s t js m h) e = absurd (no_solid k e)
        goes_solid _ _ _ _ _ (marks k (j ∷ is) s t js m h) e = goes_solid (j ∷ is) (does k s) t js m h e
        goes_solid _ _ _ _ _ (opens n a is s t js m p h) e = goes_solid (a ++ is) s t js m h (solid_in_place is_solid solid_in n a is (is_rule n (class_of t) a p) e)

        nothing_runs : (s : S) (ts : List T) (js : Items) (m : S) → Run [] s ts js m → js ≡ []
        nothing_runs _ _ _ _ (stays _ s) = refl
        nothing_runs _ _ _ _ (steps _ s t ns n ts js m h r) = elim h [ ]

        pub runs_solid : (is : Items) (s : S) (ts : List T) (js : Items) (m : S) → Run is s ts js m → IsSolid is → IsSolid js
        runs_solid is s ts js m r (inl e) = inl (nothing_runs s ts js m (subst (λ (x : Items). Run x s ts js m) e r))
        runs_solid _ _ _ _ _ (stays is s) (inr e) = inr e
        runs_solid _ _ _ _ _ (steps is s t ns n ts js m h r) (inr e) = runs_solid ns n ts js m r (goes_solid is s t ns n h e)

    -- ---- what is derived is taken

    module _ (starts : N → List C) (is_empty : N → Bool) (follows : N → List C) (same : C → C → Bool) (same_is : (a b : C) → same a b ≡ true → a ≡ b)
        (fits : (n : N) (a : Items) → Rule n a → is_fitting same starts is_empty follows n a ≡ true)
        (picks : (n : N) (a : Items) → Rule n a → (c : C) → In c (firsts starts is_empty a) → predict n c ≡ Some a)
        (picks_nothing : (n : N) (a : Items) → Rule n a → nullable is_empty a ≡ true → (c : C) → In c (follows n) → predict n c ≡ Some a)
        (is_rule : (n : N) (c : C) (a : Items) → predict n c ≡ Some a → Rule n a) where
      begins : (n : N) (a : Items) → Rule n a → (c : C) → In c (firsts starts is_empty a) → In c (starts n)
      begins n a r = all_in_In C same same_is (firsts starts is_empty a) (starts n) (both_true (all_in same (firsts starts is_empty a) (starts n)) (not (nullable is_empty a) || is_empty n) (both_true (all_in same (firsts starts is_empty a) (starts n) && (not (nullable is_empty a) || is_empty n)) (are_followed same starts is_empty follows n a) (fits n a r)).0).0

      empties : (n : N) (a : Items) → Rule n a → nullable is_empty a ≡ true → is_empty n ≡ true
      empties n a r = unless_true (nullable is_empty a) (is_empty n) (both_true (all_in same (firsts starts is_empty a) (starts n)) (not (nullable is_empty a) || is_empty n) (both_true (all_in same (firsts starts is_empty a) (starts n) && (not (nullable is_empty a) || is_empty n)) (are_followed same starts is_empty follows n a) (fits n a r)).0).1

      followed : (n : N) (a : Items) → Rule n a → are_followed same starts is_empty follows n a ≡ true
      followed n a r = (both_true (all_in same (firsts starts is_empty a) (starts n) && (not (nullable is_empty a) || is_empty n)) (are_followed same starts is_empty follows n a) (fits n a r)).1

      -- behind each rule that is to come stands one of its followers
      abbrev pub Safe : Items → Type 0
      Safe [] = Unit {0}
      Safe (tok c ∷ is) = Safe is
      Safe (act k ∷ is) = Safe is
      Safe (non n ∷ is) = ((c : C) → In c (firsts starts is_empty is) → In c (follows n)) × Safe is

      safe-append : (n : N) (x is : Items) → are_followed same starts is_empty follows n x ≡ true → ((c : C) → In c (firsts starts is_empty is) → In c (follows n)) → Safe is → Safe (x ++ is)
      safe-append n [] is e h safe = safe
      safe-append n (tok c ∷ x) is e h safe = safe-append n x is e h safe
      safe-append n (act k ∷ x) is e h safe = safe-append n x is e h safe
      safe-append n (non m ∷ x) is e h safe =
          let p = both_true (all_in same (firsts starts is_empty x) (follows m) && (not (nullable is_empty x) || all_in same (follows n) (follows m))) (are_followed same starts is_empty follows n x) e in
          let q = both_true (all_in same (firsts starts is_empty x) (follows m)) (not (nullable is_empty x) || all_in same (follows n) (follows m)) p.0 in (
            λ c i. elim (firsts-append C N K starts is_empty x is c i) [
              | inl j ↦ all_in_In C same same_is (firsts starts is_empty x) (follows m) q.0 c j
              | inr j ↦ all_in_In C same same_is (follows n) (follows m) (unless_true (nullable is_empty x) (all_in same (follows n) (follows m)) q.1 j.0) c (h c j.1)
            ],
            safe-append n x is p.1 h safe,
          )

      safe_in : (n : N) (a is : Items) → Rule n a → Safe (non n ∷ is) → Safe (a ++ is)
      safe_in n a is r safe = safe-append n a is (followed n a r) safe.0 safe.1

      -- the first token is of a class that may come first
      first_is_in : (is : Items) (s : S) (ts : List T) (s' : S) → Left is s ts s' → (t : T) (g : List T) → ts ≡ t ∷ g → In (class_of t) (firsts starts is_empty is)
      first_is_in _ _ _ _ (done s) t g e = absurd cc
      first_is_in _ _ _ _ (token u is s ts s' l) t g e = let same_token : u ≡ t = cc in inl (sym (ap class_of same_token))
      first_is_in _ _ _ _ (mark k is s ts s' l) t g e = first_is_in is (does k s) ts s' l t g e
      first_is_in _ _ _ _ (rule n a is s ts s' r l) t g e =
          elim (firsts-append C N K starts is_empty a is (class_of t) (first_is_in (a ++ is) s ts s' l t g e)) [
            | inl h ↦ in_left (class_of t) (starts n) (when (is_empty n) (firsts starts is_empty is)) (begins n a r (class_of t) h)
            | inr h ↦ in_right (class_of t) (starts n) (when (is_empty n) (firsts starts is_empty is)) (when_in (is_empty n) (class_of t) (firsts starts is_empty is) (empties n a r h.0) h.1)
          ]

      -- the next token picks the alternative
      picked : (n : N) (a is : Items) → Rule n a → Safe (non n ∷ is) → (s : S) (t : T) (g : List T) (s' : S) → Left (a ++ is) s (t ∷ g) s' → predict n (class_of t) ≡ Some a
      picked n a is r safe s t g s' l =
          elim (firsts-append C N K starts is_empty a is (class_of t) (first_is_in (a ++ is) s (t ∷ g) s' l t g refl)) [
            | inl h ↦ picks n a r (class_of t) h
            | inr h ↦ picks_nothing n a r h.0 (class_of t) (safe.0 (class_of t) h.1)
          ]

      pub record Next (is : Items) (s : S) (t : T) (g : List T) (s' : S) : Type 0 where
        pub items : Items
        pub state : S
        pub goes : Goes is s t items state
        pub rest : Left items state g s'

      -- a token that may come is taken
      pub goes_on : (is : Items) (s : S) (ts : List T) (s' : S) → Left is s ts s' → (t : T) (g : List T) → ts ≡ t ∷ g → Safe is → Next is s t g s'
      goes_on _ _ _ _ (done s) t g e safe = absurd cc
      goes_on _ _ _ _ (token u is s ts s' l) t g e safe =
          let same_token : u ≡ t = cc in
          let rest : ts ≡ g = cc in
          subst (λ (x : T). Next (tok (class_of u) ∷ is) s x g s') same_token (record { items = is; state = eats u s; goes = takes u is s; rest = subst (λ (x : List T). Left is (eats u s) x s') rest l })
      goes_on _ _ _ _ (mark k is s ts s' l) t g e safe =
          let x = goes_on is (does k s) ts s' l t g e safe in
          record { items = x.items; state = x.state; goes = marks k is s t x.items x.state x.goes; rest = x.rest }
      goes_on _ _ _ _ (rule n a is s ts s' r l) t g e safe =
          let x = goes_on (a ++ is) s ts s' l t g e (safe_in n a is r safe) in
          record { items = x.items; state = x.state; goes = opens n a is s t x.items x.state (picked n a is r safe s t g s' (subst (λ (y : List T). Left (a ++ is) s y s') e l)) x.goes; rest = x.rest }

      abbrev some : Items → Option Items
      some x = Some x

      in_some : (x y : Items) → some x ≡ some y → x ≡ y
      in_some x y e = cc

      -- what is taken leaves what was to come behind it
      goes_keeps : (is : Items) (s : S) (t : T) (js : Items) (m : S) → Goes is s t js m → Safe is → (g : List T) (s' : S) → Left is s (t ∷ g) s' → Left js m g s'
      goes_keeps _ _ _ _ _ (takes t is s) safe g s' l = token_left (class_of t) is s (t ∷ g) s' l t g refl
      goes_keeps _ _ _ _ _ (marks k is s t js m h) safe g s' l = goes_keeps is (does k s) t js m h safe g s' (mark_left k is s (t ∷ g) s' l)
      goes_keeps _ _ _ _ _ (opens n a is s t js m e h) safe g s' l =
          let p = rule_left n is s (t ∷ g) s' l in
          let other : predict n (class_of t) ≡ Some p.0 = picked n p.0 is p.1 safe s t g s' p.2 in
          let one : p.0 ≡ a = in_some p.0 a (sym other ∙ e) in
          goes_keeps (a ++ is) s t js m h (safe_in n a is (is_rule n (class_of t) a e) safe) g s' (subst (λ (x : Items). Left (x ++ is) s (t ∷ g) s') one p.2)

      goes_safe : (is : Items) (s : S) (t : T) (js : Items) (m : S) → Goes is s t js m → Safe is → Safe js
      goes_safe _ _ _ _ _ (takes t is s) safe = safe
      goes_safe _ _ _ _ _ (marks k is s t js m h) safe = goes_safe is (does k s) t js m h safe
      goes_safe _ _ _ _ _ (opens n a is s t js m e h) safe = goes_safe (a ++ is) s t js m h (safe_in n a is (is_rule n (class_of t) a e) safe)

      pub runs_safe : (is : Items) (s : S) (ts : List T) (js : Items) (m : S) → Run is s ts js m → Safe is → Safe js
      runs_safe _ _ _ _ _ (stays is s) safe = safe
      runs_safe _ _ _ _ _ (steps is s t ns n ts js m h r) safe = runs_safe ns n ts js m r (goes_safe is s t ns n h safe)

      pub runs_keep : (is : Items) (s : S) (ts : List T) (js : Items) (m : S) → Run is s ts js m → Safe is → (g : List T) (s' : S) → Left is s (ts ++ g) s' → Left js m g s'
      runs_keep _ _ _ _ _ (stays is s) safe g s' l = l
      runs_keep _ _ _ _ _ (steps is s t ns n ts js m h r) safe g s' l = runs_keep ns n ts js m r (goes_safe is s t ns n h safe) g s' (goes_keeps is s t ns n h safe (ts ++ g) s' l)

      -- behind what was taken nothing is derived that goes on with a token that is refused
      pub refused_is_no_front : (is : Items) (s : S) (ts : List T) (js : Items) (m : S) → Run is s ts js m → Safe is → (t : T) → Refuses T C N K S class_of eats does predict js m t → (g : List T) (s' : S) → Left is s (ts ++ t ∷ g) s' → ⊥
      refused_is_no_front is s ts js m r safe t refuses g s' l =
          let x = goes_on js m (t ∷ g) s' (runs_keep is s ts js m r safe (t ∷ g) s' l) t g refl (runs_safe is s ts js m r safe) in
          refuses x.items x.state x.goes
