-- What the machine that predicts by the next token does with one: it takes it, or stops before it.
use Rattle.std.specs.Prelude.{◌≡◌, ℕ, List, ◌∷◌, ◌++◌, Some}
use Rattle.sc_grammar.specs.Grammar.{non, act, Steps, Runs}
use Rattle.sc_grammar.specs.declared.token.Class.{Class}
use Rattle.sc_grammar.specs.declared.token.Token.{Token}
use Rattle.sc_cqlgrammar.specs.declared.rule.Rule.{Rule}
use Rattle.sc_cqlgrammar.specs.declared.mark.Mark.{Mark}
use Rattle.sc_cqlgrammar.specs.Rules.{Items}
use Rattle.sc_cqlgrammar.specs.Table.{predict}
use Rattle.sc_cqlgrammar.specs.Reading.{class_of}
use Rattle.sc_cqlgrammar.specs.Machine.{IsStuck}
use Rattle.sc_cqlread.specs.Reading.{Reading, eats, does}

-- rules are opened for the token, and marks that stand in front are done: the items that are to come and the state before
-- that, and behind
pub data Passes (S : Type 0) (does : Mark → S → S) : Items → S → Token → Items → S → Type 0 where
  stands : (is : Items) (s : S) (t : Token) → Passes S does is s t is s
  marked : (k : Mark) (is : Items) (s : S) (t : Token) (js : Items) (m : S) → Passes S does is (does k s) t js m → Passes S does (act k ∷ is) s t js m
  opened : (n : Rule) (a is : Items) (s : S) (t : Token) (js : Items) (m : S) → predict n (class_of t) ≡ Some a → Passes S does (a ++ is) s t js m → Passes S does (non n ∷ is) s t js m

-- and then no rule can be opened, and the token isn't the one that is to come: the state that is left
abbrev pub IsRefused : (S : Type 0) (does : Mark → S → S) → Items → S → Token → S → Type 0
IsRefused S does is s t m = (js : Items) × Passes S does is s t js m × IsStuck js (class_of t)

-- the machine takes a token: what is to come and what was made before it, and behind it
abbrev pub Takes : List ℕ → Items → Reading → Token → Items → Reading → Type 0
Takes chars = Steps Token Class Rule Mark Reading class_of (eats chars) (does chars) predict

-- what the machine makes of tokens that it takes in order, where the characters are those of the text
abbrev pub Reads : List ℕ → Items → Reading → List Token → Items → Reading → Type 0
Reads chars = Runs Token Class Rule Mark Reading class_of (eats chars) (does chars) predict
