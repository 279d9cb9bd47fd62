-- However the rules derive tokens, they do it as the machine does that predicts by the next one.
use Rattle.std.proofs.Common.{◌≡◌, inl, inr, List, [], ◌∷◌, ◌++◌, Some, true, refl, sym, ap, subst, append-nil}
use Rattle.std.specs.Prelude.{◌&&◌, ◌||◌, not}
use Rattle.sc_grammar.specs.Grammar.{tok, non, act, takes, marks, opens, stays, steps}
use Rattle.sc_grammar.specs.Classes.{In, when, all_in, nullable, firsts, are_followed}
use Rattle.sc_grammar.proofs.Sets.{both_true, unless_true, in_left, in_right, when_in, all_in_In, firsts-append}
use Rattle.sc_grammar.specs.declared.token.Class.{Class}
use Rattle.sc_grammar.specs.declared.token.Token.{Token}
use Rattle.sc_cqlgrammar.specs.declared.rule.Rule.{Rule}
use Rattle.sc_cqlgrammar.specs.declared.mark.Mark.{Mark}
use Rattle.sc_cqlgrammar.specs.Rules.{Items, IsAlternative}
use Rattle.sc_cqlgrammar.specs.Table.{same, starts, is_empty, follows, predict}
use Rattle.sc_cqlgrammar.specs.Reading.{class_of}
use Rattle.sc_cqlgrammar.specs.Machine.{IsStuck}
use Rattle.sc_cqlgrammar.proofs.Picking.{same_is}
use Rattle.sc_cqlgrammar.proofs.Fitting.{fits, picks, picks_nothing, is_rule, empties}
use Rattle.sc_cqlgrammar.proofs.Readings.{Goes, Run}
use Rattle.sc_cqlread.specs.Fronts.{DerivesSoFar, begun, token, mark, rule, IsAtRest}
use Rattle.sc_cqlread.specs.Passing.{Passes, stands, marked, opened, IsRefused}

begins_with : (n : Rule) (a : Items) → IsAlternative n a → (c : Class) → In c (firsts starts is_empty a) → In c (starts n)
begins_with n a r =
    all_in_In Class same same_is (firsts starts is_empty a) (starts n)
    (both_true (all_in same (firsts starts is_empty a) (starts n)) (not (nullable is_empty a) || is_empty n)
    (both_true (all_in same (firsts starts is_empty a) (starts n) && (not (nullable is_empty a) || is_empty n)) (are_followed same starts is_empty follows n a) (fits n a r)).0).0

followed : (n : Rule) (a : Items) → IsAlternative n a → are_followed same starts is_empty follows n a ≡ true
followed n a r = (both_true (all_in same (firsts starts is_empty a) (starts n) && (not (nullable is_empty a) || is_empty n)) (are_followed same starts is_empty follows n a) (fits n a r)).1

-- behind each rule that is to come stands one of its followers
abbrev pub Safe : Items → Type 0
Safe [] = Unit {0}
Safe (tok c ∷ is) = Safe is
Safe (act k ∷ is) = Safe is
Safe (non n ∷ is) = ((c : Class) → In c (firsts starts is_empty is) → In c (follows n)) × Safe is

safe-append : (n : Rule) (x is : Items) → are_followed same starts is_empty follows n x ≡ true → ((c : Class) → In c (firsts starts is_empty is) → In c (follows n)) → Safe is → Safe (x ++ is)
safe-append n [] is e h safe = safe
safe-append n (tok c ∷ x) is e h safe = safe-append n x is e h safe
safe-append n (act k ∷ x) is e h safe = safe-append n x is e h safe
safe-append n (non m ∷ x) is e h safe =
    let p = both_true (all_in same (firsts starts is_empty x) (follows m) && (not (nullable is_empty x) || all_in same (follows n) (follows m))) (are_followed same starts is_empty follows n x) e in
    let q = both_true (all_in same (firsts starts is_empty x) (follows m)) (not (nullable is_empty x) || all_in same (follows n) (follows m)) p.0 in (
      λ c i. elim (firsts-append Class Rule Mark starts is_empty x is c i) [
        | inl j ↦ all_in_In Class same same_is (firsts starts is_empty x) (follows m) q.0 c j
        | inr j ↦ all_in_In Class same same_is (follows n) (follows m) (unless_true (nullable is_empty x) (all_in same (follows n) (follows m)) q.1 j.0) c (h c j.1)
      ],
      safe-append n x is p.1 h safe,
    )

safe_in : (n : Rule) (a is : Items) → IsAlternative n a → Safe (non n ∷ is) → Safe (a ++ is)
safe_in n a is r safe = safe-append n a is (followed n a r) safe.0 safe.1

module _ (S : Type 0) (eats : Token → S → S) (does : Mark → S → S) where
  abbrev pub Begin : Items → S → List Token → Items → S → Type 0
  Begin = DerivesSoFar S eats does

  -- the first token is of a class that may come first
  first_in : (is : Items) (s : S) (us : List Token) (js : Items) (m : S) → Begin is s us js m → (t : Token) (ts : List Token) → us ≡ t ∷ ts → In (class_of t) (firsts starts is_empty is)
  first_in _ _ _ _ _ (begun is s) t ts e = absurd cc
  first_in _ _ _ _ _ (token u is s us js m b) t ts e = let one : u ≡ t = cc in inl (sym (ap class_of one))
  first_in _ _ _ _ _ (mark k is s us js m b) t ts e = first_in is (does k s) us js m b t ts e
  first_in _ _ _ _ _ (rule n a is s us js m r b) t ts e =
      elim (firsts-append Class Rule Mark starts is_empty a is (class_of t) (first_in (a ++ is) s us js m b t ts e)) [
        | inl h ↦ in_left (class_of t) (starts n) (when (is_empty n) (firsts starts is_empty is)) (begins_with n a r (class_of t) h)
        | inr h ↦ in_right (class_of t) (starts n) (when (is_empty n) (firsts starts is_empty is)) (when_in (is_empty n) (class_of t) (firsts starts is_empty is) (empties n a r h.0) h.1)
      ]

  picked : (n : Rule) (a is : Items) → IsAlternative n a → Safe (non n ∷ is) → (t : Token) → In (class_of t) (firsts starts is_empty (a ++ is)) → predict n (class_of t) ≡ Some a
  picked n a is r safe t i =
      elim (firsts-append Class Rule Mark starts is_empty a is (class_of t) i) [
        | inl h ↦ picks n a r (class_of t) h
        | inr h ↦ picks_nothing n a r h.0 (class_of t) (safe.0 (class_of t) h.1)
      ]

  -- the machine takes the first token, and the others are derived of what it leaves
  pub record Follows (is : Items) (s : S) (t : Token) (ts : List Token) (js : Items) (m : S) : Type 0 where
    pub items : Items
    pub state : S
    pub goes : Goes S eats does is s t items state
    pub others : Begin items state ts js m
    pub safe : Safe items

  pub follows_on : (is : Items) (s : S) (us : List Token) (js : Items) (m : S) → Begin is s us js m → (t : Token) (ts : List Token) → us ≡ t ∷ ts → Safe is → Follows is s t ts js m
  follows_on _ _ _ _ _ (begun is s) t ts e safe = absurd cc
  follows_on _ _ _ _ _ (token u is s us js m b) t ts e safe =
      let one : u ≡ t = cc in
      let rest : us ≡ ts = cc in
      subst (λ (x : Token). Follows (tok (class_of u) ∷ is) s x ts js m) one (record {
        items = is;
        state = eats u s;
        goes = takes u is s;
        others = subst (λ (x : List Token). Begin is (eats u s) x js m) rest b;
        safe = safe;
      })
  follows_on _ _ _ _ _ (mark k is s us js m b) t ts e safe =
      let f = follows_on is (does k s) us js m b t ts e safe in
      record { items = f.items; state = f.state; goes = marks k is s t f.items f.state f.goes; others = f.others; safe = f.safe }
  follows_on _ _ _ _ _ (rule n a is s us js m r b) t ts e safe =
      let f = follows_on (a ++ is) s us js m b t ts e (safe_in n a is r safe) in
      record {
        items = f.items;
        state = f.state;
        goes = opens n a is s t f.items f.state (picked n a is r safe t (first_in (a ++ is) s us js m b t ts e)) f.goes;
        others = f.others;
        safe = f.safe;
      }

  -- ---- what the machine does is a derivation

  begins_then : (is : Items) (s : S) (ts : List Token) (js : Items) (m : S) → Begin is s ts js m → (us : List Token) (ks : Items) (n : S) → Begin js m us ks n → Begin is s (ts ++ us) ks n
  begins_then _ _ _ _ _ (begun is s) us ks n h = h
  begins_then _ _ _ _ _ (token t is s ts js m b) us ks n h = token t is s (ts ++ us) ks n (begins_then is (eats t s) ts js m b us ks n h)
  begins_then _ _ _ _ _ (mark k is s ts js m b) us ks n h = mark k is s (ts ++ us) ks n (begins_then is (does k s) ts js m b us ks n h)
  begins_then _ _ _ _ _ (rule r a is s ts js m i b) us ks n h = rule r a is s (ts ++ us) ks n i (begins_then (a ++ is) s ts js m b us ks n h)

  goes_begins : (is : Items) (s : S) (t : Token) (js : Items) (m : S) → Goes S eats does is s t js m → (ts : List Token) (ks : Items) (n : S) → Begin js m ts ks n → Begin is s (t ∷ ts) ks n
  goes_begins _ _ _ _ _ (takes t is s) ts ks n b = token t is s ts ks n b
  goes_begins _ _ _ _ _ (marks k is s t js m g) ts ks n b = mark k is s (t ∷ ts) ks n (goes_begins is (does k s) t js m g ts ks n b)
  goes_begins _ _ _ _ _ (opens r a is s t js m e g) ts ks n b = rule r a is s (t ∷ ts) ks n (is_rule r (class_of t) a e) (goes_begins (a ++ is) s t js m g ts ks n b)

  pub runs_begin : (is : Items) (s : S) (ts : List Token) (js : Items) (m : S) → Run S eats does is s ts js m → (us : List Token) (ks : Items) (n : S) → Begin js m us ks n → Begin is s (ts ++ us) ks n
  runs_begin _ _ _ _ _ (stays is s) us ks n b = b
  runs_begin _ _ _ _ _ (steps is s t ns x ts js m g r) us ks n b = goes_begins is s t ns x g (ts ++ us) ks n (runs_begin ns x ts js m r us ks n b)

  passes_begins : (is : Items) (s : S) (t : Token) (js : Items) (m : S) → Passes S does is s t js m → Begin is s [] js m
  passes_begins _ _ _ _ _ (stands is s t) = begun is s
  passes_begins _ _ _ _ _ (marked k is s t js m p) = mark k is s [] js m (passes_begins is (does k s) t js m p)
  passes_begins _ _ _ _ _ (opened n a is s t js m e p) = rule n a is s [] js m (is_rule n (class_of t) a e) (passes_begins (a ++ is) s t js m p)

  stuck_rests : (js : Items) (c : Class) → IsStuck js c → IsAtRest js
  stuck_rests [] c h = tt
  stuck_rests (tok d ∷ js) c h = tt
  stuck_rests (non n ∷ js) c h = tt
  stuck_rests (act k ∷ js) c h = h

  pub stop_begins : (is : Items) (s : S) (ts : List Token) (js : Items) (m : S) → Run S eats does is s ts js m → (t : Token) (n : S) → IsRefused S does js m t n → (ks : Items) × Begin is s ts ks n × IsAtRest ks
  stop_begins is s ts js m r t n stop = (
    stop.0,
    subst (λ (x : List Token). Begin is s x stop.0 n) (append-nil ts) (runs_begin is s ts js m r [] stop.0 n (passes_begins js m t stop.0 n stop.1)),
    stuck_rests stop.0 (class_of t) stop.2,
  )

  -- ---- what the machine comes to, and what is derived of that without a token

  pub record Ran (is : Items) (s : S) (ts : List Token) (js : Items) (m : S) : Type 0 where
    pub items : Items
    pub state : S
    pub run : Run S eats does is s ts items state
    pub tail : Begin items state [] js m

  pub begins_ran : (is : Items) (s : S) (ts : List Token) (js : Items) (m : S) → Begin is s ts js m → Safe is → Ran is s ts js m
  begins_ran is s [] js m b safe = record { items = is; state = s; run = stays is s; tail = b }
  begins_ran is s (t ∷ ts) js m b safe =
      let f = follows_on is s (t ∷ ts) js m b t ts refl safe in
      let r = begins_ran f.items f.state ts js m f.others f.safe in
      record { items = r.items; state = r.state; run = steps is s t f.items f.state ts r.items r.state f.goes r.run; tail = r.tail }
