-- Values change nothing of what the machine takes.
use Rattle.std.proofs.Common.{List, [], ◌∷◌, ◌++◌}
use Rattle.sc_grammar.specs.Grammar.{non, takes, marks, opens, stays, steps}
use Rattle.sc_grammar.specs.declared.token.Token.{Token}
use Rattle.sc_cqlgrammar.specs.declared.mark.Mark.{Mark}
use Rattle.sc_cqlgrammar.specs.declared.rule.Rule.{Rule}
use Rattle.sc_cqlgrammar.specs.Rules.{Items}
use Rattle.sc_cqlgrammar.specs.Reading.{class_of, Nothing, Takes, TakesAll, Refuse, AreFront}
use Rattle.sc_cqlgrammar.specs.Reading as reading
use Rattle.sc_cqlgrammar.proofs.Readings.{Goes, Run, Refused, taken_is_front, refused_is_none}

module _ (S : Type 0) (eats : Token → S → S) (does : Mark → S → S) where
  goes_forget : (is : Items) (s : S) (t : Token) (js : Items) (m : S) → Goes S eats does is s t js m → Takes is t js
  goes_forget _ _ _ _ _ (takes t is s) = takes t is tt
  goes_forget _ _ _ _ _ (marks k is s t js m g) = marks k is tt t js tt (goes_forget is (does k s) t js m g)
  goes_forget _ _ _ _ _ (opens n a is s t js m e g) = opens n a is tt t js tt e (goes_forget (a ++ is) s t js m g)

  pub runs_forget : (is : Items) (s : S) (ts : List Token) (js : Items) (m : S) → Run S eats does is s ts js m → TakesAll is ts js
  runs_forget _ _ _ _ _ (stays is s) = stays is tt
  runs_forget _ _ _ _ _ (steps is s t ns n ts js m g r) = steps is tt t ns tt ts js tt (goes_forget is s t ns n g) (runs_forget ns n ts js m r)

  record Went (is : Items) (s : S) (t : Token) (js : Items) : Type 0 where
    pub state : S
    pub goes : Goes S eats does is s t js state

  goes_with : (is : Items) (a : Nothing) (t : Token) (js : Items) (b : Nothing) → Goes Nothing reading.stays reading.stays is a t js b → (s : S) → Went is s t js
  goes_with _ _ _ _ _ (takes t is a) s = record { state = eats t s; goes = takes t is s }
  goes_with _ _ _ _ _ (marks k is a t js b g) s = let x = goes_with is (reading.stays k a) t js b g (does k s) in record { state = x.state; goes = marks k is s t js x.state x.goes }
  goes_with _ _ _ _ _ (opens n i is a t js b e g) s = let x = goes_with (i ++ is) a t js b g s in record { state = x.state; goes = opens n i is s t js x.state e x.goes }

  pub refused_forget : (is : Items) (s : S) (t : Token) → Refused S eats does is s t → Refuse is t
  refused_forget is s t refuses js b g = let x = goes_with is tt t js b g s in refuses js x.state x.goes

  -- the tokens that are taken are a front, and none with the one that is refused
  pub run_is_front : (n : Rule) (s : S) (ts : List Token) (js : Items) (m : S) → Run S eats does (non n ∷ []) s ts js m → AreFront (non n ∷ []) ts
  run_is_front n s ts js m r = taken_is_front Nothing reading.stays reading.stays n tt ts js tt (runs_forget (non n ∷ []) s ts js m r)

  pub run_stops : (n : Rule) (s : S) (ts : List Token) (js : Items) (m : S) → Run S eats does (non n ∷ []) s ts js m → (t : Token) → Refused S eats does js m t → AreFront (non n ∷ []) (ts ++ t ∷ []) → ⊥
  run_stops n s ts js m r t refuses = refused_is_none Nothing reading.stays reading.stays n tt ts js tt (runs_forget (non n ∷ []) s ts js m r) t (refused_forget js m t refuses)
