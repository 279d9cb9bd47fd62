-- The steps of the machine: what it comes to before a token is taken or refused, and that values change nothing of it.
use Rattle.std.proofs.Common.{◌≡◌, List, [], ◌∷◌, ◌++◌, Option, Some, refl, sym, subst, ◌∙◌}
use Rattle.sc_grammar.specs.Grammar.{tok, non, act, takes, marks, opens, stays, steps}
use Rattle.sc_grammar.specs.declared.token.Class.{Class}
use Rattle.sc_grammar.specs.declared.token.Token.{Token}
use Rattle.sc_cqlgrammar.specs.declared.rule.Rule.{Rule}
use Rattle.sc_cqlgrammar.specs.declared.mark.Mark.{Mark}
use Rattle.sc_cqlgrammar.specs.Rules.{Items}
use Rattle.sc_cqlgrammar.specs.Table.{predict}
use Rattle.sc_cqlgrammar.specs.Reading.{class_of, Nothing, stays as keeps, Takes, Refuse, TakesAll}
use Rattle.sc_cqlgrammar.specs.Machine.{Opens, as_is, opened as opened_rule, IsStuck}
use Rattle.sc_cqlgrammar.proofs.Readings.{Goes, Run}
use Rattle.sc_cqlread.specs.Passing.{Passes, stands, marked, opened, IsRefused}

abbrev some : Items → Option Items
some x = Some x

in_some : (x y : Items) → some x ≡ some y → x ≡ y
in_some x y e = cc

module _ (S : Type 0) (eats : Token → S → S) (does : Mark → S → S) where
  -- ---- towards the token

  pub passes_then : (is : Items) (s : S) (t : Token) (js : Items) (m : S) → Passes S does is s t js m → (ks : Items) (n : S) → Passes S does js m t ks n → Passes S does is s t ks n
  passes_then _ _ _ _ _ (stands is s t) ks n h = h
  passes_then _ _ _ _ _ (marked k is s t js m p) ks n h = marked k is s t ks n (passes_then is (does k s) t js m p ks n h)
  passes_then _ _ _ _ _ (opened r a is s t js m e p) ks n h = opened r a is s t ks n e (passes_then (a ++ is) s t js m p ks n h)

  pub opens_passes : (js : Items) (c : Class) (ks : Items) → Opens js c ks → (m : S) (t : Token) → c ≡ class_of t → Passes S does js m t ks m
  opens_passes _ _ _ (as_is js c) m t e = stands js m t
  opens_passes _ _ _ (opened_rule n a is c js p o) m t e =
      opened n a is m t js m (subst (λ (x : Class). predict n x ≡ Some a) e p) (opens_passes (a ++ is) c js o m t e)

  -- a mark that was come to is done
  pub passes_mark : (is : Items) (s : S) (t : Token) (js : Items) (m : S) → Passes S does is s t js m → (k : Mark) (ks : Items) → Opens js (class_of t) (act k ∷ ks) → Passes S does is s t ks (does k m)
  passes_mark is s t js m p k ks o =
      passes_then is s t js m p ks (does k m)
      (passes_then js m t (act k ∷ ks) m (opens_passes js (class_of t) (act k ∷ ks) o m t refl) ks (does k m)
      (marked k ks m t ks (does k m) (stands ks (does k m) t)))

  passes_goes : (is : Items) (s : S) (t : Token) (js : Items) (m : S) → Passes S does is s t js m → (ks : Items) → js ≡ tok (class_of t) ∷ ks → Goes S eats does is s t ks (eats t m)
  passes_goes _ _ _ _ _ (stands is s t) ks e = subst (λ (x : Items). Goes S eats does x s t ks (eats t s)) (sym e) (takes t ks s)
  passes_goes _ _ _ _ _ (marked k is s t js m p) ks e = marks k is s t ks (eats t m) (passes_goes is (does k s) t js m p ks e)
  passes_goes _ _ _ _ _ (opened n a is s t js m q p) ks e = opens n a is s t ks (eats t m) q (passes_goes (a ++ is) s t js m p ks e)

  -- the token that was come to is taken
  pub passes_token : (is : Items) (s : S) (t : Token) (js : Items) (m : S) → Passes S does is s t js m → (ks : Items) → Opens js (class_of t) (tok (class_of t) ∷ ks) → Goes S eats does is s t ks (eats t m)
  passes_token is s t js m p ks o =
      passes_goes is s t (tok (class_of t) ∷ ks) m
      (passes_then is s t js m p (tok (class_of t) ∷ ks) m (opens_passes js (class_of t) (tok (class_of t) ∷ ks) o m t refl))
      ks refl

  pub passes_stop : (is : Items) (s : S) (t : Token) (js : Items) (m : S) → Passes S does is s t js m → (ks : Items) → Opens js (class_of t) ks → IsStuck ks (class_of t) → IsRefused S does is s t m
  passes_stop is s t js m p ks o stuck = (ks, passes_then is s t js m p ks m (opens_passes js (class_of t) ks o m t refl), stuck)

  -- ---- a token that is refused isn't taken

  nothing_goes : (s : S) (t : Token) (ks : Items) (n : S) → Goes S eats does [] s t ks n → ⊥
  nothing_goes s t ks n g = elim g [ ]

  token_goes : (c : Class) (is : Items) (s : S) (t : Token) (ks : Items) (n : S) → Goes S eats does (tok c ∷ is) s t ks n → c ≡ class_of t
  token_goes _ is s t _ _ (takes _ _ _) = refl

  mark_goes : (k : Mark) (is : Items) (s : S) (t : Token) (ks : Items) (n : S) → Goes S eats does (act k ∷ is) s t ks n → Goes S eats does is (does k s) t ks n
  mark_goes _ _ _ _ _ _ (marks k is s t ks n g) = g

  rule_goes : (r : Rule) (is : Items) (s : S) (t : Token) (ks : Items) (n : S) → Goes S eats does (non r ∷ is) s t ks n → (a : Items) × (predict r (class_of t) ≡ Some a) × Goes S eats does (a ++ is) s t ks n
  rule_goes _ _ _ _ _ _ (opens r a is s t ks n e g) = (a, e, g)

  stuck_refuses : (js : Items) (m : S) (t : Token) → IsStuck js (class_of t) → (ks : Items) (n : S) → Goes S eats does js m t ks n → ⊥
  stuck_refuses [] m t h ks n g = nothing_goes m t ks n g
  stuck_refuses (tok c ∷ is) m t h ks n g = h (token_goes c is m t ks n g)
  stuck_refuses (act k ∷ is) m t h ks n g = h
  stuck_refuses (non r ∷ is) m t h ks n g = let p = rule_goes r is m t ks n g in absurd cc

  pub stop_refuses : (is : Items) (s : S) (t : Token) (js : Items) (m : S) → Passes S does is s t js m → IsStuck js (class_of t) → (ks : Items) (n : S) → Goes S eats does is s t ks n → ⊥
  stop_refuses _ _ _ _ _ (stands is s t) stuck ks n g = stuck_refuses is s t stuck ks n g
  stop_refuses _ _ _ _ _ (marked k is s t js m p) stuck ks n g = stop_refuses is (does k s) t js m p stuck ks n (mark_goes k is s t ks n g)
  stop_refuses _ _ _ _ _ (opened r a is s t js m e p) stuck ks n g =
      let q = rule_goes r is s t ks n g in
      stop_refuses (a ++ is) s t js m p stuck ks n (subst (λ (x : Items). Goes S eats does (x ++ is) s t ks n) (in_some q.0 a (sym q.1 ∙ e)) q.2)

  -- ---- values change nothing of what is taken

  pub goes_plain : (is : Items) (s : S) (t : Token) (js : Items) (m : S) → Goes S eats does is s t js m → Takes is t js
  goes_plain _ _ _ _ _ (takes t is s) = takes t is tt
  goes_plain _ _ _ _ _ (marks k is s t js m g) = marks k is tt t js tt (goes_plain is (does k s) t js m g)
  goes_plain _ _ _ _ _ (opens n a is s t js m e g) = opens n a is tt t js tt e (goes_plain (a ++ is) s t js m g)

  pub runs_plain : (is : Items) (s : S) (ts : List Token) (js : Items) (m : S) → Run S eats does is s ts js m → TakesAll is ts js
  runs_plain _ _ _ _ _ (stays is s) = stays is tt
  runs_plain _ _ _ _ _ (steps is s t ns n ts js m g r) = steps is tt t ns tt ts js tt (goes_plain is s t ns n g) (runs_plain ns n ts js m r)

  plain_goes : (is : Items) (o : Nothing) (t : Token) (js : Items) (p : Nothing) → Goes Nothing keeps keeps is o t js p → (s : S) → (m : S) × Goes S eats does is s t js m
  plain_goes _ _ _ _ _ (takes t is o) s = (eats t s, takes t is s)
  plain_goes _ _ _ _ _ (marks k is o t js p g) s = let h = plain_goes is o t js p g (does k s) in (h.0, marks k is s t js h.0 h.1)
  plain_goes _ _ _ _ _ (opens n a is o t js p e g) s = let h = plain_goes (a ++ is) o t js p g s in (h.0, opens n a is s t js h.0 e h.1)

  pub stop_refuses_plain : (is : Items) (s : S) (t : Token) (m : S) → IsRefused S does is s t m → Refuse is t
  stop_refuses_plain is s t m h js p g =
      let v = plain_goes is tt t js p g s in
      stop_refuses is s t h.0 m h.1 h.2 js v.0 v.1
