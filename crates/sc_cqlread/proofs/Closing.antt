-- The end of the text is the last token of a whole text, and no other: nothing but the end comes behind a filter, and a byte
-- at which no token can be formed is taken nowhere.
use Rattle.std.proofs.Common.{◌≡◌, ◌⊎◌, inl, inr, [], ◌∷◌, ◌++◌, Bool, true, false, ◌&&◌, ◌||◌, not, refl}
use Rattle.std.specs.List.{list_all}
use Rattle.sc_grammar.specs.Grammar.{Item, tok, non, act, takes, marks, opens}
use Rattle.sc_grammar.specs.Words.{IsFormedClass}
use Rattle.sc_grammar.proofs.Sets.{both_true, true_both, unless_true}
use Rattle.sc_grammar.specs.declared.token.Class.{Class}
use Rattle.sc_grammar.specs.declared.token.Class.TheVariants as classes
use Rattle.sc_grammar.specs.declared.token.Token.{Token}
use Rattle.sc_cqlgrammar.specs.declared.rule.Rule.{Rule}
use Rattle.sc_cqlgrammar.specs.declared.rule.Rule.TheVariants as rules
use Rattle.sc_cqlgrammar.specs.declared.mark.Mark.{Mark}
use Rattle.sc_cqlgrammar.specs.Rules.{Items, alternatives, IsAlternative}
use Rattle.sc_cqlgrammar.specs.Reading.{class_of}
use Rattle.sc_cqlgrammar.proofs.Fitting.{all_is, is_rule}
use Rattle.sc_cqlgrammar.proofs.Formed.{is_formed, formed_is}
use Rattle.sc_cqlgrammar.proofs.Readings.{Goes}

abbrev is_end : Class → Bool
is_end classes.End = true
is_end _ = false

end_is : (c : Class) → is_end c ≡ true → c ≡ classes.End
end_is classes.End e = refl
end_is _ e = absurd cc

abbrev is_whole : Rule → Bool
is_whole rules.Whole = true
is_whole _ = false

abbrev is_inner : Item Class Rule Mark → Bool
is_inner (tok c) = is_formed c
is_inner (act k) = true
is_inner (non n) = not (is_whole n)

abbrev is_last : Item Class Rule Mark → Bool
is_last (tok c) = is_end c
is_last (act k) = false
is_last (non n) = is_whole n

abbrev are_inner : Items → Bool
are_inner [] = true
are_inner (i ∷ is) = is_inner i && are_inner is

-- the last item is the end, or a whole text, and no other is
abbrev pub closes : Items → Bool
closes [] = false
closes (i ∷ []) = is_last i
closes (i ∷ j ∷ is) = is_inner i && closes (j ∷ is)

all_inner : (n : Rule) → list_all (λ (a : Items). is_whole n || are_inner a) (alternatives n) ≡ true
all_inner rules.Whole = refl
all_inner _ = refl

all_close : (n : Rule) → list_all (λ (a : Items). not (is_whole n) || closes a) (alternatives n) ≡ true
all_close rules.Whole = refl
all_close _ = refl

inner_in : (n : Rule) (a : Items) → IsAlternative n a → not (is_whole n) ≡ true → are_inner a ≡ true
inner_in n a i e = by_rule (is_whole n) (all_is (λ (x : Items). is_whole n || are_inner x) (alternatives n) (all_inner n) a i) e
  where
    by_rule : (b : Bool) → (b || are_inner a) ≡ true → not b ≡ true → are_inner a ≡ true
    by_rule true h e = absurd cc
    by_rule false h e = h

close_in : (n : Rule) (a : Items) → IsAlternative n a → is_whole n ≡ true → closes a ≡ true
close_in n a i e = unless_true (is_whole n) (closes a) (all_is (λ (x : Items). not (is_whole n) || closes x) (alternatives n) (all_close n) a i) e

closes-append : (a : Items) (j : Item Class Rule Mark) (is : Items) → are_inner a ≡ true → closes (j ∷ is) ≡ true → closes (a ++ j ∷ is) ≡ true
closes-append [] j is e f = f
closes-append (i ∷ []) j is e f = true_both (is_inner i) (closes (j ∷ is)) (both_true (is_inner i) true e).0 f
closes-append (i ∷ k ∷ a) j is e f =
    let p = both_true (is_inner i) (are_inner (k ∷ a)) e in
    true_both (is_inner i) (closes (k ∷ (a ++ j ∷ is))) p.0 (closes-append (k ∷ a) j is p.1 f)

closes_alone : (a : Items) → closes a ≡ true → closes (a ++ []) ≡ true
closes_alone [] e = e
closes_alone (i ∷ []) e = e
closes_alone (i ∷ k ∷ a) e =
    let p = both_true (is_inner i) (closes (k ∷ a)) e in
    true_both (is_inner i) (closes (k ∷ (a ++ []))) p.0 (closes_alone (k ∷ a) p.1)

opened_closes : (n : Rule) (a is : Items) → IsAlternative n a → closes (non n ∷ is) ≡ true → closes (a ++ is) ≡ true
opened_closes n a [] i e = closes_alone a (close_in n a i e)
opened_closes n a (j ∷ is) i e =
    let p = both_true (not (is_whole n)) (closes (j ∷ is)) e in
    closes-append a j is (inner_in n a i p.0) p.1

-- the token that was taken is the end, and nothing is to come; or it is formed, and the end is to come
abbrev pub EndsOrGoesOn : Class → Items → Type 0
EndsOrGoesOn c js = (c ≡ classes.End) × (js ≡ []) ⊎ IsFormedClass c × (closes js ≡ true)

token_closes : (c : Class) (js : Items) → closes (tok c ∷ js) ≡ true → EndsOrGoesOn c js
token_closes c [] e = inl (end_is c e, refl)
token_closes c (j ∷ js) e = let p = both_true (is_formed c) (closes (j ∷ js)) e in inr (formed_is c p.0, p.1)

mark_closes : (k : Mark) (is : Items) → closes (act k ∷ is) ≡ true → closes is ≡ true
mark_closes k [] e = absurd cc
mark_closes k (j ∷ is) e = e

module _ (S : Type 0) (eats : Token → S → S) (does : Mark → S → S) where
  pub goes_closing : (is : Items) (s : S) (t : Token) (js : Items) (m : S) → Goes S eats does is s t js m → closes is ≡ true → EndsOrGoesOn (class_of t) js
  goes_closing _ _ _ _ _ (takes t is s) e = token_closes (class_of t) is e
  goes_closing _ _ _ _ _ (marks k is s t js m g) e = goes_closing is (does k s) t js m g (mark_closes k is e)
  goes_closing _ _ _ _ _ (opens n a is s t js m q g) e = goes_closing (a ++ is) s t js m g (opened_closes n a is (is_rule n (class_of t) a q) e)
