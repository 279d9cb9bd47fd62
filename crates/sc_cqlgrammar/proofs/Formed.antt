-- No rule but that of a whole text takes a byte at which no token can be formed, or the end of the text.
use Rattle.std.proofs.Common.{◌≡◌, [], ◌∷◌, ◌++◌, Bool, true, false, ◌&&◌, ◌||◌, not, refl}
use Rattle.std.specs.List.{list_all}
use Rattle.sc_grammar.specs.Grammar.{tok, non, act, takes, marks, opens}
use Rattle.sc_grammar.specs.Words.{IsFormedClass}
use Rattle.sc_grammar.proofs.Sets.{both_true, true_both, unless_true}
use Rattle.sc_grammar.specs.declared.token.Class.{Class}
use Rattle.sc_grammar.specs.declared.token.Class.TheVariants as classes
use Rattle.sc_grammar.specs.declared.token.Token.{Token}
use Rattle.sc_cqlgrammar.specs.declared.rule.Rule.{Rule}
use Rattle.sc_cqlgrammar.specs.declared.rule.Rule.TheVariants as rules
use Rattle.sc_cqlgrammar.specs.declared.mark.Mark.{Mark}
use Rattle.sc_cqlgrammar.specs.Rules.{Items, alternatives, IsAlternative}
use Rattle.sc_cqlgrammar.specs.Reading.{class_of}
use Rattle.sc_cqlgrammar.proofs.Fitting.{all_is, is_rule}
use Rattle.sc_cqlgrammar.proofs.Readings.{Goes}

abbrev pub is_formed : Class → Bool
is_formed classes.Bad = false
is_formed classes.End = false
is_formed _ = true

pub formed_is : (c : Class) → is_formed c ≡ true → IsFormedClass c
formed_is classes.Bad e = absurd cc
formed_is classes.End e = absurd cc
formed_is _ e = tt

abbrev pub is_part : Rule → Bool
is_part rules.Whole = false
is_part _ = true

abbrev pub are_formed : Items → Bool
are_formed [] = true
are_formed (tok c ∷ is) = is_formed c && are_formed is
are_formed (act k ∷ is) = are_formed is
are_formed (non n ∷ is) = is_part n && are_formed is

all_formed : (n : Rule) → list_all (λ (a : Items). not (is_part n) || are_formed a) (alternatives n) ≡ true
all_formed rules.Whole = refl
all_formed _ = refl

formed_in : (n : Rule) (a : Items) → IsAlternative n a → is_part n ≡ true → are_formed a ≡ true
formed_in n a i e = unless_true (is_part n) (are_formed a) (all_is (λ (x : Items). not (is_part n) || are_formed x) (alternatives n) (all_formed n) a i) e

formed-append : (a is : Items) → are_formed a ≡ true → are_formed is ≡ true → are_formed (a ++ is) ≡ true
formed-append [] is e f = f
formed-append (tok c ∷ a) is e f = let p = both_true (is_formed c) (are_formed a) e in true_both (is_formed c) (are_formed (a ++ is)) p.0 (formed-append a is p.1 f)
formed-append (act k ∷ a) is e f = formed-append a is e f
formed-append (non n ∷ a) is e f = let p = both_true (is_part n) (are_formed a) e in true_both (is_part n) (are_formed (a ++ is)) p.0 (formed-append a is p.1 f)

module _ (S : Type 0) (eats : Token → S → S) (does : Mark → S → S) where
  pub goes_formed : (is : Items) (s : S) (t : Token) (js : Items) (m : S) → Goes S eats does is s t js m → are_formed is ≡ true → (is_formed (class_of t) ≡ true) × (are_formed js ≡ true)
  goes_formed _ _ _ _ _ (takes t is s) e = both_true (is_formed (class_of t)) (are_formed is) e
  goes_formed _ _ _ _ _ (marks k is s t js m g) e = goes_formed is (does k s) t js m g e
  goes_formed _ _ _ _ _ (opens n a is s t js m p g) e =
      let q = both_true (is_part n) (are_formed is) e in
      goes_formed (a ++ is) s t js m g (formed-append a is (formed_in n a (is_rule n (class_of t) a p) q.0) q.1)
