-- What the tokens of a front make (OGC 21-065r2, Annex B): the rules derive them as far as they go.
use Rattle.std.specs.Prelude.{List, [], ◌∷◌, ◌++◌}
use Rattle.sc_grammar.specs.Grammar.{tok, non, act}
use Rattle.sc_grammar.specs.declared.token.Token.{Token}
use Rattle.sc_cqlgrammar.specs.declared.rule.Rule.{Rule}
use Rattle.sc_cqlgrammar.specs.declared.mark.Mark.{Mark}
use Rattle.sc_cqlgrammar.specs.Rules.{Items, IsAlternative}
use Rattle.sc_cqlgrammar.specs.Reading.{class_of}

-- the items in order derive the tokens, and the items that are still to come; the tokens and the marks between take the first
-- state to the second. A rule in front stands for one of its alternatives
pub data DerivesSoFar (S : Type 0) (eats : Token → S → S) (does : Mark → S → S) : Items → S → List Token → Items → S → Type 0 where
  begun : (is : Items) (s : S) → DerivesSoFar S eats does is s [] is s
  token : (t : Token) (is : Items) (s : S) (ts : List Token) (js : Items) (m : S) → DerivesSoFar S eats does is (eats t s) ts js m → DerivesSoFar S eats does (tok (class_of t) ∷ is) s (t ∷ ts) js m
  mark : (k : Mark) (is : Items) (s : S) (ts : List Token) (js : Items) (m : S) → DerivesSoFar S eats does is (does k s) ts js m → DerivesSoFar S eats does (act k ∷ is) s ts js m
  rule : (n : Rule) (a is : Items) (s : S) (ts : List Token) (js : Items) (m : S) → IsAlternative n a → DerivesSoFar S eats does (a ++ is) s ts js m → DerivesSoFar S eats does (non n ∷ is) s ts js m

-- what comes next is no mark: all that the tokens ask for is done
abbrev pub IsAtRest : Items → Type 0
IsAtRest [] = Unit {0}
IsAtRest (tok c ∷ is) = Unit {0}
IsAtRest (non n ∷ is) = Unit {0}
IsAtRest (act k ∷ is) = ⊥
