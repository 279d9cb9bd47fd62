-- The machine that reads this grammar: what it takes is a front, what it refuses is none, and what it takes whole is what
-- the rules derive; with whatever values the tokens and the marks make.
use Rattle.std.proofs.Common.{◌≡◌, inl, inr, ◌<◌, List, [], ◌∷◌, ◌++◌, Option, Some, Bool, true, false, refl, sym, ap, subst, ◌∙◌, append_assoc, arith}
use Rattle.std.specs.Prelude.{◌||◌, not}
use Rattle.std.specs.List.{list_all}
use Rattle.sc_grammar.proofs.Sets.{unless_true}
use Rattle.sc_grammar.specs.Grammar.{tok, non, act, Derives, done, IsFront, Steps, takes, marks, opens, Refuses, Runs, stays, steps}
use Rattle.sc_grammar.proofs.Foresight as foresight
use Rattle.sc_grammar.specs.declared.token.Class.{Class}
use Rattle.sc_grammar.specs.declared.token.Token.{Token}
use Rattle.sc_cqlgrammar.specs.declared.rule.Rule.{Rule}
use Rattle.sc_cqlgrammar.specs.declared.rule.Rule.TheVariants as rules
use Rattle.sc_cqlgrammar.specs.declared.mark.Mark.{Mark}
use Rattle.sc_cqlgrammar.specs.Rules.{Items, alternatives, IsAlternative}
use Rattle.sc_cqlgrammar.specs.Table.{same, starts, is_empty, follows, predict}
use Rattle.sc_cqlgrammar.specs.Reading.{class_of, IsStart}
use Rattle.sc_cqlgrammar.proofs.Picking.{same_is}
use Rattle.sc_cqlgrammar.proofs.Fitting.{all_is, fits, picks, picks_nothing, is_rule, plain, plain_is, size}

abbrev pub is_solid : Rule → Bool
is_solid rules.Whole = true
is_solid rules.Geometry = true
is_solid rules.Line = true
is_solid rules.Ring = true
is_solid rules.Area = true
is_solid _ = false

abbrev pub sample : Class → Token
sample c = record { class = c; from = 0; to = 0 }

sample_is : (c : Class) → class_of (sample c) ≡ c
sample_is c = refl

module _ (S : Type 0) (eats : Token → S → S) (does : Mark → S → S) where
  abbrev pub Left : Items → S → List Token → S → Type 0
  Left = Derives Token Class Rule Mark S class_of eats does IsAlternative

  abbrev pub Front : Items → S → List Token → Type 0
  Front = IsFront Token Class Rule Mark S class_of eats does IsAlternative

  abbrev pub Goes : Items → S → Token → Items → S → Type 0
  Goes = Steps Token Class Rule Mark S class_of eats does predict

  abbrev pub Run : Items → S → List Token → Items → S → Type 0
  Run = Runs Token Class Rule Mark S class_of eats does predict

  abbrev pub Refused : Items → S → Token → Type 0
  Refused = Refuses Token Class Rule Mark S class_of eats does predict

  lighter : (n : Rule) → foresight.weight Token Class Rule Mark S class_of eats does IsAlternative plain plain_is size sample sample_is (plain n) < size n
  lighter rules.Whole = omega arith
  lighter _ = omega arith

  abbrev Safe : Items → Type 0
  Safe = foresight.Safe Token Class Rule Mark S class_of eats does IsAlternative predict starts is_empty follows same same_is fits picks picks_nothing is_rule

  safe_start : (n : Rule) → Safe (non n ∷ [])
  safe_start n = (λ c i. absurd i, tt)

  -- what is taken is a front
  pub taken_is_front : (n : Rule) (s : S) (ts : List Token) (js : Items) (m : S) → Run (non n ∷ []) s ts js m → Front (non n ∷ []) s ts
  taken_is_front n s ts js m r =
      foresight.left_is_front Token Class Rule Mark S class_of eats does IsAlternative plain plain_is size sample sample_is lighter (non n ∷ []) s ts js m
      (foresight.runs_left Token Class Rule Mark S class_of eats does IsAlternative predict is_rule (non n ∷ []) s ts js m r)

  -- with the first token that is refused it is none
  pub refused_is_none : (n : Rule) (s : S) (ts : List Token) (js : Items) (m : S) → Run (non n ∷ []) s ts js m → (t : Token) → Refused js m t → Front (non n ∷ []) s (ts ++ t ∷ []) → ⊥
  refused_is_none n s ts js m r t refuses front =
      foresight.refused_is_no_front Token Class Rule Mark S class_of eats does IsAlternative predict starts is_empty follows same same_is fits picks picks_nothing is_rule
      (non n ∷ []) s ts js m r (safe_start n) t refuses front.rest front.end (rw append_assoc at front.whole)

  -- what is taken whole is derived
  pub taken_is_derived : (n : Rule) (s : S) (ts : List Token) (s' : S) → Run (non n ∷ []) s ts [] s' → Left (non n ∷ []) s ts s'
  taken_is_derived n s ts s' r = foresight.taken_derives Token Class Rule Mark S class_of eats does IsAlternative predict is_rule (non n ∷ []) s ts s' r

  -- ---- what is derived is taken

  abbrev ends_solid : Items → Bool
  ends_solid = foresight.ends_solid Token Class Rule Mark S class_of eats does IsAlternative is_solid

  solid_all : (n : Rule) → list_all (λ (a : Items). not (is_solid n) || ends_solid a) (alternatives n) ≡ true
  solid_all rules.Whole = refl
  solid_all _ = refl

  solid_in : (n : Rule) (a : Items) → IsAlternative n a → is_solid n ≡ true → ends_solid a ≡ true
  solid_in n a i e = unless_true (is_solid n) (ends_solid a) (all_is (λ (x : Items). not (is_solid n) || ends_solid x) (alternatives n) (solid_all n) a i) e

  start_solid : (n : Rule) → IsStart n → ends_solid (non n ∷ []) ≡ true
  start_solid n (inl e) = ap is_solid e
  start_solid n (inr e) = ap is_solid e

  record Derived (is : Items) (s : S) (ts : List Token) (s' : S) : Type 0 where
    pub items : Items
    pub state : S
    pub runs : Run is s ts items state
    pub rest : Left items state [] s'

  derived_runs : (is : Items) (s : S) (ts : List Token) (s' : S) → Safe is → Left is s ts s' → Derived is s ts s'
  derived_runs is s [] s' safe l = record { items = is; state = s; runs = stays is s; rest = l }
  derived_runs is s (t ∷ g) s' safe l =
      let x = foresight.goes_on Token Class Rule Mark S class_of eats does IsAlternative predict starts is_empty follows same same_is fits picks picks_nothing is_rule is s (t ∷ g) s' l t g refl safe in
      let safe_next : Safe x.items = foresight.runs_safe Token Class Rule Mark S class_of eats does IsAlternative predict starts is_empty follows same same_is fits picks picks_nothing is_rule is s (t ∷ []) x.items x.state (steps is s t x.items x.state [] x.items x.state x.goes (stays x.items x.state)) safe in
      let y = derived_runs x.items x.state g s' safe_next x.rest in
      record { items = y.items; state = y.state; runs = steps is s t x.items x.state g y.items y.state x.goes y.runs; rest = y.rest }

  nothing_left : (m s' : S) (js : Items) → Left js m [] s' → js ≡ [] → m ≡ s'
  nothing_left m s' js l e = of_nothing m [] s' (subst (λ (x : Items). Left x m [] s') e l)
    where
      of_nothing : (m : S) (ts : List Token) (s' : S) → Left [] m ts s' → m ≡ s'
      of_nothing m _ _ (done _) = refl

  -- what is derived from the front is taken whole
  pub derived_is_taken : (n : Rule) → IsStart n → (s : S) (ts : List Token) (s' : S) → Left (non n ∷ []) s ts s' → Run (non n ∷ []) s ts [] s'
  derived_is_taken n start s ts s' l =
      let x = derived_runs (non n ∷ []) s ts s' (safe_start n) l in
      elim (foresight.runs_solid Token Class Rule Mark S class_of eats does IsAlternative predict is_rule is_solid solid_in (non n ∷ []) s ts x.items x.state x.runs (inr (start_solid n start))) [
        | inl e ↦
            let one : x.state ≡ s' = nothing_left x.state s' x.items x.rest e in
            subst (λ (y : S). Run (non n ∷ []) s ts [] y) one (subst (λ (y : Items). Run (non n ∷ []) s ts y x.state) e x.runs)
        | inr e ↦ absurd (foresight.solid_derives_some Token Class Rule Mark S class_of eats does IsAlternative is_solid solid_in x.items x.state [] s' x.rest refl e)
      ]

  -- ---- the machine goes one way

  pub record AreOne (js : Items) (m : S) (ks : Items) (r : S) : Type 0 where
    pub items : js ≡ ks
    pub state : m ≡ r

  token_one : (c : Class) (is : Items) (s : S) (t : Token) (ks : Items) (r : S) → Goes (tok c ∷ is) s t ks r → AreOne is (eats t s) ks r
  token_one _ _ _ _ _ _ (takes t is s) = record { items = refl; state = refl }

  mark_goes : (k : Mark) (is : Items) (s : S) (t : Token) (ks : Items) (r : S) → Goes (act k ∷ is) s t ks r → Goes is (does k s) t ks r
  mark_goes _ _ _ _ _ _ (marks k is s t ks r g) = g

  rule_goes : (n : Rule) (is : Items) (s : S) (t : Token) (ks : Items) (r : S) → Goes (non n ∷ is) s t ks r → (a : Items) × (predict n (class_of t) ≡ Some a) × Goes (a ++ is) s t ks r
  rule_goes _ _ _ _ _ _ (opens n a is s t ks r e g) = (a, e, g)

  abbrev some : Items → Option Items
  some x = Some x

  in_some : (x y : Items) → some x ≡ some y → x ≡ y
  in_some x y e = cc

  goes_one : (is : Items) (s : S) (t : Token) (js : Items) (m : S) → Goes is s t js m → (ks : Items) (r : S) → Goes is s t ks r → AreOne js m ks r
  goes_one _ _ _ _ _ (takes t is s) ks r h = token_one (class_of t) is s t ks r h
  goes_one _ _ _ _ _ (marks k is s t js m g) ks r h = goes_one is (does k s) t js m g ks r (mark_goes k is s t ks r h)
  goes_one _ _ _ _ _ (opens n a is s t js m e g) ks r h =
      let p = rule_goes n is s t ks r h in
      goes_one (a ++ is) s t js m g ks r (subst (λ (x : Items). Goes (x ++ is) s t ks r) (in_some p.0 a (sym p.1 ∙ e)) p.2)

  nothing_run : (is : Items) (s : S) (us : List Token) (ks : Items) (r : S) → Run is s us ks r → us ≡ [] → AreOne is s ks r
  nothing_run _ _ _ _ _ (stays is s) e = record { items = refl; state = refl }
  nothing_run _ _ _ _ _ (steps is s t ns n ts js m g h) e = absurd cc

  step_run : (is : Items) (s : S) (us : List Token) (ks : Items) (r : S) → Run is s us ks r → (t : Token) (ts : List Token) → us ≡ t ∷ ts → (ns : Items) × (n : S) × Goes is s t ns n × Run ns n ts ks r
  step_run _ _ _ _ _ (stays is s) t ts e = absurd cc
  step_run _ _ _ _ _ (steps is s u ns n us ks r g h) t ts e =
      let same_token : u ≡ t = cc in
      let rest : us ≡ ts = cc in
      (ns, n, subst (λ (x : Token). Goes is s x ns n) same_token g, subst (λ (x : List Token). Run ns n x ks r) rest h)

  pub runs_one : (is : Items) (s : S) (ts : List Token) (js : Items) (m : S) → Run is s ts js m → (ks : Items) (r : S) → Run is s ts ks r → AreOne js m ks r
  runs_one _ _ _ _ _ (stays is s) ks r h = nothing_run is s [] ks r h refl
  runs_one _ _ _ _ _ (steps is s t ns n ts js m g h) ks r other =
      let p = step_run is s (t ∷ ts) ks r other t ts refl in
      let one = goes_one is s t ns n g p.0 p.1 p.2 in
      runs_one ns n ts js m h ks r (subst (λ (x : Items). Run x n ts ks r) (sym one.items) (subst (λ (x : S). Run p.0 x ts ks r) (sym one.state) p.3))

  -- tokens have one value
  pub one_value : (n : Rule) → IsStart n → (s : S) (ts : List Token) (a b : S) → Left (non n ∷ []) s ts a → Left (non n ∷ []) s ts b → a ≡ b
  one_value n start s ts a b l k = (runs_one (non n ∷ []) s ts [] a (derived_is_taken n start s ts a l) [] b (derived_is_taken n start s ts b k)).state
