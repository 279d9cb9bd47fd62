-- How far the machine opens rules: there is a measure, which opening a rule or passing a mark lessens.
use Rattle.std.proofs.Common.{◌≡◌, ℕ, ◌<◌, ◌≤◌, ◌∷◌, ◌++◌, Some, true, refl, sym, arith}
use Rattle.std.specs.Prelude.{nat_lt}
use Rattle.std.specs.List.{list_all}
use Rattle.std.proofs.lemmas.Bool.{ltb-true}
use Rattle.sc_grammar.specs.Grammar.{non, act}
use Rattle.sc_grammar.proofs.Taking as taking
use Rattle.sc_grammar.specs.declared.token.Class.{Class}
use Rattle.sc_cqlgrammar.specs.declared.rule.Rule.{Rule}
use Rattle.sc_cqlgrammar.specs.declared.rule.Rule.TheVariants as rules
use Rattle.sc_cqlgrammar.specs.declared.mark.Mark.{Mark}
use Rattle.sc_cqlgrammar.specs.Rules.{Items, alternatives, IsAlternative}
use Rattle.sc_cqlgrammar.specs.Table.{is_empty, predict}
use Rattle.sc_cqlgrammar.specs.Machine.{Opens, as_is, opened}
use Rattle.sc_cqlgrammar.proofs.Fitting.{all_is, is_rule, empties}

-- how many rules and marks stand before the first token of a rule, at most
abbrev pub rank : Rule → ℕ
rank rules.Whole = 9
rank rules.Filter = 8
rank rules.Term = 6
rank rules.Factor = 4
rank rules.Primary = 3
rank rules.TruthRest = 3
rank rules.Test = 2
rank rules.Scalar = 3
rank rules.Operand = 2
rank rules.Shape = 3
rank rules.Member = 2
rank _ = 1

-- the like of items
abbrev pub need : Items → ℕ
need = taking.need Class Rule Mark rank is_empty

all_low : (n : Rule) → list_all (λ (a : Items). nat_lt (need a) (rank n)) (alternatives n) ≡ true
all_low rules.Whole = refl
all_low _ = refl

low : (n : Rule) (a : Items) → IsAlternative n a → need a < rank n
low n a i = ltb-true (need a) (rank n) (all_is (λ (x : Items). nat_lt (need x) (rank n)) (alternatives n) (all_low n) a i)

pub opening_needs_less : (n : Rule) (c : Class) (a is : Items) → predict n c ≡ Some a → need (a ++ is) < need (non n ∷ is)
opening_needs_less n c a is e =
    let i = is_rule n c a e in
    taking.needs_less Class Rule Mark rank is_empty n a is (low n a i) (empties n a i)

pub opens_need : (is : Items) (c : Class) (js : Items) → Opens is c js → need js ≤ need is
opens_need _ _ _ (as_is is c) = omega arith
opens_need _ _ _ (opened n a is c js e o) =
    let h = opens_need (a ++ is) c js o in
    let l = opening_needs_less n c a is e in
    omega arith

-- a mark that is passed lessens the need
pub mark_needs_less : (is : Items) (c : Class) (k : Mark) (js : Items) → Opens is c (act k ∷ js) → need js < need is
mark_needs_less is c k js o = let h = opens_need is c (act k ∷ js) o in omega arith

pub opened_needs_less : (now : Items) (n : Rule) (c : Class) (a is next : Items) → now ≡ non n ∷ is → Some a ≡ predict n c → next ≡ a ++ is → need next < need now
opened_needs_less now n c a is next e p put = rw (put, e) (opening_needs_less n c a is (sym p))
