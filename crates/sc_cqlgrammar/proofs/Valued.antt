-- The machine with values: a caller does what each mark means until the token is taken or refused, and so comes to what the
-- token's step comes to.
use Rattle.std.proofs.Common.{◌≡◌, [], ◌∷◌, ◌++◌, Some, refl, sym, subst}
use Rattle.sc_grammar.specs.Grammar.{tok, non, act}
use Rattle.sc_grammar.proofs.Taking as taking
use Rattle.sc_grammar.specs.declared.token.Class.{Class}
use Rattle.sc_grammar.specs.declared.token.Token.{Token}
use Rattle.sc_cqlgrammar.specs.declared.rule.Rule.{Rule}
use Rattle.sc_cqlgrammar.specs.declared.mark.Mark.{Mark}
use Rattle.sc_cqlgrammar.specs.Rules.{Items}
use Rattle.sc_cqlgrammar.specs.Table.{predict}
use Rattle.sc_cqlgrammar.specs.Reading.{class_of}
use Rattle.sc_cqlgrammar.specs.Machine.{Opens, as_is, opened, IsStuck}
use Rattle.sc_cqlgrammar.proofs.Readings.{Goes, Refused}

module _ (S : Type 0) (eats : Token → S → S) (does : Mark → S → S) where
  -- the one list takes the token just as the other does
  abbrev pub IsAsGood : Items → S → Items → S → Token → Type 0
  IsAsGood = taking.IsAsGood Token Class Rule Mark S class_of eats does predict

  pub good_at_first : (old : Items) (s : S) (t : Token) → IsAsGood old s old s t
  good_at_first old s t = taking.good_at_first Token Class Rule Mark S class_of eats does predict old s t

  good_opened : (old : Items) (s : S) (is : Items) (m : S) (t : Token) (c : Class) (js : Items) → class_of t ≡ c → Opens is c js → IsAsGood old s is m t → IsAsGood old s js m t
  good_opened old s _ m t _ _ e (as_is is c) good = good
  good_opened old s _ m t _ _ e (opened n a is c js p o) good =
      good_opened old s (a ++ is) m t c js e o (taking.opened Token Class Rule Mark S class_of eats does predict old s n a is m t (subst (λ (x : Class). predict n x ≡ Some a) (sym e) p) good)

  -- a mark is done
  pub good_marked : (old : Items) (s : S) (is : Items) (m : S) (t : Token) (k : Mark) (js : Items) → Opens is (class_of t) (act k ∷ js) → IsAsGood old s is m t → IsAsGood old s js (does k m) t
  good_marked old s is m t k js o good =
      taking.marked Token Class Rule Mark S class_of eats does predict old s k js m t (good_opened old s is m t (class_of t) (act k ∷ js) refl o good)

  -- the token is taken
  pub good_taken : (old : Items) (s : S) (is : Items) (m : S) (t : Token) (js : Items) → Opens is (class_of t) (tok (class_of t) ∷ js) → IsAsGood old s is m t → Goes S eats does old s t js (eats t m)
  good_taken old s is m t js o good =
      taking.takes_token Token Class Rule Mark S class_of eats does predict old s (class_of t) js m t refl (good_opened old s is m t (class_of t) (tok (class_of t) ∷ js) refl o good)

  -- the token is refused
  pub good_refused : (old : Items) (s : S) (is : Items) (m : S) (t : Token) (js : Items) → Opens is (class_of t) js → IsStuck js (class_of t) → IsAsGood old s is m t → Refused S eats does old s t
  good_refused old s is m t js o stuck good = by_front js stuck (good_opened old s is m t (class_of t) js refl o good)
    where
      by_front : (js : Items) → IsStuck js (class_of t) → IsAsGood old s js m t → Refused S eats does old s t
      by_front [] h g = taking.refuses_nothing Token Class Rule Mark S class_of eats does predict old s m t g
      by_front (tok d ∷ js) h g = taking.refuses_token Token Class Rule Mark S class_of eats does predict old s d js m t (λ e. h (sym e)) g
      by_front (act k ∷ js) h g = absurd h
      by_front (non n ∷ js) h g = taking.refuses_part Token Class Rule Mark S class_of eats does predict old s n js m t h g
