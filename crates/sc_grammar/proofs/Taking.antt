-- A loop that opens rules and passes marks until the token can be compared.
use Rattle.std.proofs.Common.{◌≡◌, List, [], ◌∷◌, ◌++◌, Option, Some, None, Bool, true, false, ℕ, ◌+◌, ◌<◌, ◌≤◌, refl, subst, arith}
use Rattle.std.specs.Prelude.{◌&&◌, if◌then◌else◌}
use Rattle.sc_grammar.specs.Grammar.{Item, tok, non, act, Steps, takes, marks, opens, Refuses}
use Rattle.sc_grammar.specs.Classes.{nullable}

module _ (T C N K S : Type 0) (class_of : T → C) (eats : T → S → S) (does : K → S → S) (predict : N → C → Option (List (Item C N K))) where
  abbrev Items : Type 0
  Items = List (Item C N K)

  abbrev Goes : Items → S → T → Items → S → Type 0
  Goes = Steps T C N K S class_of eats does predict

  abbrev Refused : Items → S → T → Type 0
  Refused = Refuses T C N K S class_of eats does predict

  -- the one list takes the token just as the other does
  pub record IsAsGood (old : Items) (s : S) (now : Items) (m : S) (t : T) : Type 0 where
    pub onto : (js : Items) (s' : S) → Goes now m t js s' → Goes old s t js s'
    pub back : (js : Items) (s' : S) → Goes old s t js s' → Goes now m t js s'

  pub good_at_first : (old : Items) (s : S) (t : T) → IsAsGood old s old s t
  good_at_first old s t = record { onto = λ js s' g. g; back = λ js s' g. g }

  nothing_goes : (s : S) (t : T) → Refused [] s t
  nothing_goes s t js s' g = elim g [ ]

  token_goes : (c : C) (is : Items) (s : S) (t : T) (js : Items) (s' : S) → Goes (tok c ∷ is) s t js s' → class_of t ≡ c
  token_goes _ is s t _ _ (takes _ _ _) = refl

  mark_goes : (k : K) (is : Items) (s : S) (t : T) (js : Items) (s' : S) → Goes (act k ∷ is) s t js s' → Goes is (does k s) t js s'
  mark_goes _ _ _ _ _ _ (marks k is s t js s' g) = g

  part_goes : (n : N) (is : Items) (s : S) (t : T) (js : Items) (s' : S) → Goes (non n ∷ is) s t js s' → (a : Items) × (predict n (class_of t) ≡ Some a) × Goes (a ++ is) s t js s'
  part_goes _ _ _ _ _ _ (opens n a is s t js s' e g) = (a, e, g)

  pub opened : (old : Items) (s : S) (n : N) (a is : Items) (m : S) (t : T) → predict n (class_of t) ≡ Some a → IsAsGood old s (non n ∷ is) m t → IsAsGood old s (a ++ is) m t
  opened old s n a is m t e good = record {
    onto = λ js s' g. good.onto js s' (opens n a is m t js s' e g);
    back = λ js s' g. let p = part_goes n is m t js s' (good.back js s' g) in let same : p.0 ≡ a = cc in subst (λ (x : Items). Goes (x ++ is) m t js s') same p.2;
  }

  pub marked : (old : Items) (s : S) (k : K) (is : Items) (m : S) (t : T) → IsAsGood old s (act k ∷ is) m t → IsAsGood old s is (does k m) t
  marked old s k is m t good = record {
    onto = λ js s' g. good.onto js s' (marks k is m t js s' g);
    back = λ js s' g. mark_goes k is m t js s' (good.back js s' g);
  }

  pub refuses_nothing : (old : Items) (s : S) (m : S) (t : T) → IsAsGood old s [] m t → Refused old s t
  refuses_nothing old s m t good js s' g = nothing_goes m t js s' (good.back js s' g)

  pub refuses_part : (old : Items) (s : S) (n : N) (is : Items) (m : S) (t : T) → predict n (class_of t) ≡ None → IsAsGood old s (non n ∷ is) m t → Refused old s t
  refuses_part old s n is m t e good js s' g = let p = part_goes n is m t js s' (good.back js s' g) in absurd cc

  pub refuses_token : (old : Items) (s : S) (c : C) (is : Items) (m : S) (t : T) → (class_of t ≡ c → ⊥) → IsAsGood old s (tok c ∷ is) m t → Refused old s t
  refuses_token old s c is m t far good js s' g = far (token_goes c is m t js s' (good.back js s' g))

  pub takes_token : (old : Items) (s : S) (c : C) (is : Items) (m : S) (t : T) → class_of t ≡ c → IsAsGood old s (tok c ∷ is) m t → Goes old s t is (eats t m)
  takes_token old s c is m t same good = good.onto is (eats t m) (subst (λ (x : C). Goes (tok x ∷ is) m t is (eats t m)) same (takes t is m))

-- ---- how often a rule is opened or a mark passed before the token is compared, at most

module _ (C N K : Type 0) (rank : N → ℕ) (is_empty : N → Bool) where
  abbrev pub need : List (Item C N K) → ℕ
  need [] = 0
  need (tok c ∷ is) = 0
  need (act k ∷ is) = need is + 1
  need (non n ∷ is) = rank n + (if is_empty n then need is else 0)

  pub need-append : (a is : List (Item C N K)) → need (a ++ is) ≤ need a + (if nullable is_empty a then need is else 0)
  need-append [] is = omega arith
  need-append (tok c ∷ a) is = omega arith
  need-append (act k ∷ a) is = let h = need-append a is in omega (arith, h)
  need-append (non n ∷ a) is = by_rule (is_empty n) (need-append a is)
    where
      by_rule : (b : Bool) → need (a ++ is) ≤ need a + (if nullable is_empty a then need is else 0) → rank n + (if b then need (a ++ is) else 0) ≤ rank n + (if b then need a else 0) + (if b && nullable is_empty a then need is else 0)
      by_rule true h = omega (arith, h)
      by_rule false h = omega arith

  pub needs_less : (n : N) (a is : List (Item C N K)) → need a < rank n → (nullable is_empty a ≡ true → is_empty n ≡ true) → need (a ++ is) < need (non n ∷ is)
  needs_less n a is low empties = by_rule (nullable is_empty a) refl
    where
      by_rule : (b : Bool) → nullable is_empty a ≡ b → need (a ++ is) < rank n + (if is_empty n then need is else 0)
      by_rule true e = let h = need-append a is in rw (empties e) (omega (arith, low, rw e at h))
      by_rule false e = let h = need-append a is in omega (arith, low, rw e at h)
