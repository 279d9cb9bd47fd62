-- The loop that opens rules: what it comes to is what the stack opened onto at first.
use Rattle.std.proofs.Common.{◌≡◌, [], ◌∷◌, ◌++◌, Some, None, sym, subst}
use Rattle.sc_grammar.specs.Grammar.{tok, non, act}
use Rattle.sc_grammar.specs.declared.token.Class.{Class}
use Rattle.sc_cqlgrammar.specs.declared.rule.Rule.{Rule}
use Rattle.sc_cqlgrammar.specs.declared.mark.Mark.{Mark}
use Rattle.sc_cqlgrammar.specs.declared.step.Step.{Step}
use Rattle.sc_cqlgrammar.specs.declared.step.Step.TheVariants.{Mark as marked, Taken, Refused}
use Rattle.sc_cqlgrammar.specs.Rules.{Items}
use Rattle.sc_cqlgrammar.specs.Table.{predict}
use Rattle.sc_cqlgrammar.specs.Machine.{Opens, as_is, opened, IsStuck, IsStep, IsComparison}

module _ (old : Items) (c : Class) (now : Items) (leads : (js : Items) → Opens now c js → Opens old c js) where
  itself : (is : Items) → now ≡ is → Opens old c is
  itself is e = leads is (subst (λ (x : Items). Opens x c is) (sym e) (as_is is c))

  pub nothing_left : now ≡ [] → (js : Items) × Opens old c js × IsStuck js c
  nothing_left e = ([], itself [] e, tt)

  pub mark_in_front : (k : Mark) (is : Items) → now ≡ act k ∷ is → Opens old c (act k ∷ is)
  mark_in_front k is e = itself (act k ∷ is) e

  pub token_in_front : (d : Class) (is : Items) (step : Step) → now ≡ tok d ∷ is → IsComparison d c step → IsStep old c step is
  token_in_front d is (marked k) e h = absurd h
  token_in_front d is Taken e h = subst (λ (x : Class). Opens old c (tok x ∷ is)) h (itself (tok d ∷ is) e)
  token_in_front d is Refused e h = (tok d ∷ is, itself (tok d ∷ is) e, h)

  pub rule_refused : (n : Rule) (is : Items) → now ≡ non n ∷ is → None ≡ predict n c → (js : Items) × Opens old c js × IsStuck js c
  rule_refused n is e p = (non n ∷ is, itself (non n ∷ is) e, sym p)

  pub rule_opened : (n : Rule) (a is next : Items) → now ≡ non n ∷ is → Some a ≡ predict n c → next ≡ a ++ is → (js : Items) → Opens next c js → Opens old c js
  rule_opened n a is next e p put js o =
      leads js (subst (λ (x : Items). Opens x c js) (sym e) (opened n a is c js (sym p) (subst (λ (x : Items). Opens x c js) put o)))
