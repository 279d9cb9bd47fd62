-- Behind the last token only marks may be done that note no literal, but for those that come next at once.
use Rattle.std.proofs.Common.{◌≡◌, ◌⊎◌, inl, inr, List, [], ◌∷◌, ◌++◌, Bool, true, false, ◌&&◌, ◌||◌, not, refl, sym, ap, ◌∙◌}
use Rattle.std.specs.List.{list_all}
use Rattle.sc_grammar.specs.Grammar.{tok, non, act, takes, marks, opens, stays, steps}
use Rattle.sc_grammar.specs.Classes.{nullable}
use Rattle.sc_grammar.proofs.Sets.{both_true, true_both, unless_true}
use Rattle.sc_grammar.specs.declared.token.Token.{Token}
use Rattle.sc_cqlgrammar.specs.declared.rule.Rule.{Rule}
use Rattle.sc_cqlgrammar.specs.declared.rule.Rule.TheVariants as rules
use Rattle.sc_cqlgrammar.specs.declared.mark.Mark.{Mark}
use Rattle.sc_cqlgrammar.specs.declared.mark.Mark.TheVariants as kinds
use Rattle.sc_cqlgrammar.specs.Rules.{Items, alternatives, IsAlternative}
use Rattle.sc_cqlgrammar.specs.Table.{is_empty}
use Rattle.sc_cqlgrammar.specs.Reading.{class_of}
use Rattle.sc_cqlgrammar.proofs.Fitting.{all_is, is_rule, empties}
use Rattle.sc_cqlgrammar.proofs.Readings.{Goes, Run}
use Rattle.sc_cqlread.specs.Fronts.{DerivesSoFar, begun, token, mark, rule, IsAtRest}

-- whether the mark notes no literal
abbrev pub is_quiet : Mark → Bool
is_quiet kinds.Property = false
is_quiet kinds.Text = false
is_quiet kinds.Number = false
is_quiet kinds.Instant = false
is_quiet kinds.Day = false
is_quiet kinds.Pattern = false
is_quiet kinds.NamedShape = false
is_quiet kinds.Geometry = false
is_quiet kinds.Side = false
is_quiet kinds.Rectangles = false
is_quiet _ = true

-- whether only quiet marks can be done before the next token
abbrev pub is_hushed : Items → Bool
is_hushed [] = true
is_hushed (tok c ∷ is) = true
is_hushed (act k ∷ is) = is_quiet k && is_hushed is
is_hushed (non n ∷ is) = not (is_empty n) || is_hushed is

abbrev pub unmarked : Items → Items
unmarked [] = []
unmarked (tok c ∷ is) = tok c ∷ is
unmarked (non n ∷ is) = non n ∷ is
unmarked (act k ∷ is) = unmarked is

abbrev are_marks : Items → Bool
are_marks [] = true
are_marks (tok c ∷ is) = false
are_marks (non n ∷ is) = false
are_marks (act k ∷ is) = are_marks is

-- whether a rule may derive nothing behind its last token but by rules that may be empty
abbrev ends_loose : Rule → Bool
ends_loose rules.Filter = true
ends_loose rules.OrRest = true
ends_loose rules.Term = true
ends_loose rules.AndRest = true
ends_loose rules.Factor = true
ends_loose rules.Primary = true
ends_loose rules.TruthRest = true
ends_loose rules.ScalarRest = true
ends_loose rules.SideRest = true
ends_loose rules.ZWord = true
ends_loose rules.GeometryRest = true
ends_loose rules.Member = true
ends_loose rules.MemberRest = true
ends_loose rules.LineRest = true
ends_loose rules.AreaRest = true
ends_loose rules.RingRest = true
ends_loose rules.Position = true
ends_loose rules.Height = true
ends_loose rules.PositionRest = true
ends_loose _ = false

-- what comes behind a token or a rule within an alternative: quiet but for marks that come next at once
abbrev rests : Rule → Items → Bool
rests n r = is_hushed (unmarked r) && (not (nullable is_empty r) || (are_marks r || ends_loose n))

-- and quiet at all behind one that ends loose
abbrev closes_loose : Rule → Items → Bool
closes_loose n r = is_hushed r && (not (nullable is_empty r) || ends_loose n)

abbrev is_calm_in : Rule → Items → Bool
is_calm_in n [] = true
is_calm_in n (tok c ∷ r) = rests n r && is_calm_in n r
is_calm_in n (act k ∷ r) = is_calm_in n r
is_calm_in n (non m ∷ r) = (rests n r && (not (ends_loose m) || closes_loose n r)) && is_calm_in n r

calm_all : (n : Rule) → list_all (is_calm_in n) (alternatives n) ≡ true
calm_all rules.Whole = refl
calm_all _ = refl

hushed_all : (n : Rule) → list_all (λ (a : Items). is_hushed a) (alternatives n) ≡ true
hushed_all rules.Whole = refl
hushed_all _ = refl

-- the like of the items that are to come
abbrev pub is_calm : Items → Bool
is_calm [] = true
is_calm (tok c ∷ is) = is_hushed (unmarked is) && is_calm is
is_calm (act k ∷ is) = is_calm is
is_calm (non n ∷ is) = (is_hushed (unmarked is) && (not (ends_loose n) || is_hushed is)) && is_calm is

-- ---- items behind others

tells : (b : Bool) → (b ≡ true) ⊎ (b ≡ false)
tells true = inl refl
tells false = inr refl

either_of : (a b : Bool) → (a ≡ true → b ≡ true) → (not a || b) ≡ true
either_of true b f = f refl
either_of false b f = refl

hushed-append : (a is : Items) → is_hushed a ≡ true → (nullable is_empty a ≡ true → is_hushed is ≡ true) → is_hushed (a ++ is) ≡ true
hushed-append [] is e f = f refl
hushed-append (tok c ∷ a) is e f = refl
hushed-append (act k ∷ a) is e f =
    let p = both_true (is_quiet k) (is_hushed a) e in true_both (is_quiet k) (is_hushed (a ++ is)) p.0 (hushed-append a is p.1 f)
hushed-append (non n ∷ a) is e f =
    either_of (is_empty n) (is_hushed (a ++ is))
    (λ h. hushed-append a is (unless_true (is_empty n) (is_hushed a) e h) (λ y. f (true_both (is_empty n) (nullable is_empty a) h y)))

unmarked-append : (r is : Items) → are_marks r ≡ true → unmarked (r ++ is) ≡ unmarked is
unmarked-append [] is e = refl
unmarked-append (tok c ∷ r) is e = absurd cc
unmarked-append (non n ∷ r) is e = absurd cc
unmarked-append (act k ∷ r) is e = unmarked-append r is e

unmarked-others : (r is : Items) → are_marks r ≡ false → unmarked (r ++ is) ≡ unmarked r ++ is
unmarked-others [] is e = absurd cc
unmarked-others (tok c ∷ r) is e = refl
unmarked-others (non n ∷ r) is e = refl
unmarked-others (act k ∷ r) is e = unmarked-others r is e

nullable-unmarked : (r : Items) → nullable is_empty (unmarked r) ≡ nullable is_empty r
nullable-unmarked [] = refl
nullable-unmarked (tok c ∷ r) = refl
nullable-unmarked (non n ∷ r) = refl
nullable-unmarked (act k ∷ r) = nullable-unmarked r

or_false : (a b : Bool) → (a || b) ≡ true → a ≡ false → b ≡ true
or_false true b e f = absurd cc
or_false false b e f = e

module _ (n : Rule) (is : Items) (next : is_hushed (unmarked is) ≡ true) (loose : ends_loose n ≡ true → is_hushed is ≡ true) where
  rests_on : (r : Items) → rests n r ≡ true → is_hushed (unmarked (r ++ is)) ≡ true
  rests_on r e = by_marks (tells (are_marks r))
    where
      by_marks : (are_marks r ≡ true) ⊎ (are_marks r ≡ false) → is_hushed (unmarked (r ++ is)) ≡ true
      by_marks (inl h) = ap is_hushed (unmarked-append r is h) ∙ next
      by_marks (inr h) =
          let p = both_true (is_hushed (unmarked r)) (not (nullable is_empty r) || (are_marks r || ends_loose n)) e in
          ap is_hushed (unmarked-others r is h)
          ∙ hushed-append (unmarked r) is p.0 (λ x. loose (or_false (are_marks r) (ends_loose n) (unless_true (nullable is_empty r) (are_marks r || ends_loose n) p.1 (sym (nullable-unmarked r) ∙ x)) h))

  loose_on : (r : Items) → closes_loose n r ≡ true → is_hushed (r ++ is) ≡ true
  loose_on r e =
      let p = both_true (is_hushed r) (not (nullable is_empty r) || ends_loose n) e in
      hushed-append r is p.0 (λ x. loose (unless_true (nullable is_empty r) (ends_loose n) p.1 x))

  calm-append : (a : Items) → is_calm_in n a ≡ true → is_calm is ≡ true → is_calm (a ++ is) ≡ true
  calm-append [] e c = c
  calm-append (tok d ∷ r) e c =
      let p = both_true (rests n r) (is_calm_in n r) e in
      true_both (is_hushed (unmarked (r ++ is))) (is_calm (r ++ is)) (rests_on r p.0) (calm-append r p.1 c)
  calm-append (act k ∷ r) e c = calm-append r e c
  calm-append (non m ∷ r) e c =
      let p = both_true (rests n r && (not (ends_loose m) || closes_loose n r)) (is_calm_in n r) e in
      let q = both_true (rests n r) (not (ends_loose m) || closes_loose n r) p.0 in
      true_both (is_hushed (unmarked (r ++ is)) && (not (ends_loose m) || is_hushed (r ++ is))) (is_calm (r ++ is))
      (true_both (is_hushed (unmarked (r ++ is))) (not (ends_loose m) || is_hushed (r ++ is)) (rests_on r q.0)
      (either_of (ends_loose m) (is_hushed (r ++ is)) (λ x. loose_on r (unless_true (ends_loose m) (closes_loose n r) q.1 x))))
      (calm-append r p.1 c)

opened_calm : (n : Rule) (a is : Items) → IsAlternative n a → is_calm (non n ∷ is) ≡ true → is_calm (a ++ is) ≡ true
opened_calm n a is i e =
    let p = both_true (is_hushed (unmarked is) && (not (ends_loose n) || is_hushed is)) (is_calm is) e in
    let q = both_true (is_hushed (unmarked is)) (not (ends_loose n) || is_hushed is) p.0 in
    calm-append n is q.0 (λ x. unless_true (ends_loose n) (is_hushed is) q.1 x) a (all_is (is_calm_in n) (alternatives n) (calm_all n) a i) p.1

opened_hushed : (n : Rule) (a is : Items) → IsAlternative n a → is_hushed (non n ∷ is) ≡ true → is_hushed (a ++ is) ≡ true
opened_hushed n a is i e =
    hushed-append a is (all_is (λ (x : Items). is_hushed x) (alternatives n) (hushed_all n) a i) (λ x. unless_true (is_empty n) (is_hushed is) e (empties n a i x))

-- ---- along the machine

pub record IsSettled (is : Items) : Type 0 where
  pub calm : is_calm is ≡ true
  pub next : is_hushed (unmarked is) ≡ true

module _ (S : Type 0) (eats : Token → S → S) (does : Mark → S → S) where
  goes_calm : (is : Items) (s : S) (t : Token) (js : Items) (m : S) → Goes S eats does is s t js m → is_calm is ≡ true → IsSettled js
  goes_calm _ _ _ _ _ (takes t is s) e = let p = both_true (is_hushed (unmarked is)) (is_calm is) e in record { calm = p.1; next = p.0 }
  goes_calm _ _ _ _ _ (marks k is s t js m g) e = goes_calm is (does k s) t js m g e
  goes_calm _ _ _ _ _ (opens n a is s t js m q g) e = goes_calm (a ++ is) s t js m g (opened_calm n a is (is_rule n (class_of t) a q) e)

  pub runs_calm : (is : Items) (s : S) (ts : List Token) (js : Items) (m : S) → Run S eats does is s ts js m → IsSettled is → IsSettled js
  runs_calm _ _ _ _ _ (stays is s) e = e
  runs_calm _ _ _ _ _ (steps is s t ns n ts js m g r) e = runs_calm ns n ts js m r (goes_calm is s t ns n g e.calm)

  -- what is noted, which quiet marks don't change
  module _ (Noted : Type 0) (noted : S → Noted) (keeps : (k : Mark) (s : S) → is_quiet k ≡ true → noted (does k s) ≡ noted s) where
    hushed_keeps : (is : Items) (s : S) (ts : List Token) (js : Items) (m : S) → DerivesSoFar S eats does is s ts js m → ts ≡ [] → is_hushed is ≡ true → noted m ≡ noted s
    hushed_keeps _ _ _ _ _ (begun is s) e h = refl
    hushed_keeps _ _ _ _ _ (token t is s ts js m b) e h = absurd cc
    hushed_keeps _ _ _ _ _ (mark k is s ts js m b) e h =
        let p = both_true (is_quiet k) (is_hushed is) h in hushed_keeps is (does k s) ts js m b e p.1 ∙ keeps k s p.0
    hushed_keeps _ _ _ _ _ (rule n a is s ts js m i b) e h = hushed_keeps (a ++ is) s ts js m b e (opened_hushed n a is i h)

    -- what is noted once the marks are done that come next at once
    abbrev pub noted_next : Items → S → Noted
    noted_next [] s = noted s
    noted_next (tok c ∷ is) s = noted s
    noted_next (non n ∷ is) s = noted s
    noted_next (act k ∷ is) s = noted_next is (does k s)

    pub settled_keeps : (is : Items) (s : S) (ts : List Token) (js : Items) (m : S) → DerivesSoFar S eats does is s ts js m → ts ≡ [] → IsAtRest js → is_hushed (unmarked is) ≡ true → noted m ≡ noted_next is s
    settled_keeps _ _ _ _ _ (begun [] s) e r h = refl
    settled_keeps _ _ _ _ _ (begun (tok c ∷ is) s) e r h = refl
    settled_keeps _ _ _ _ _ (begun (non n ∷ is) s) e r h = refl
    settled_keeps _ _ _ _ _ (begun (act k ∷ is) s) e r h = absurd r
    settled_keeps _ _ _ _ _ (token t is s ts js m b) e r h = absurd cc
    settled_keeps _ _ _ _ _ (mark k is s ts js m b) e r h = settled_keeps is (does k s) ts js m b e r h
    settled_keeps _ _ _ _ _ (rule n a is s ts js m i b) e r h = hushed_keeps (non n ∷ is) s ts js m (rule n a is s ts js m i b) e h
