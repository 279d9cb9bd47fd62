-- A step of the machine: rules are opened for the class of the next token until a mark or a token stands in front, which
-- is taken off.
use Rattle.std.specs.Prelude.{◌≡◌, ◌≢◌, [], ◌∷◌, ◌++◌, Some, None}
use Rattle.sc_grammar.specs.Grammar.{Item, tok, non, act}
use Rattle.sc_grammar.specs.declared.token.Class.{Class}
use Rattle.sc_cqlgrammar.specs.declared.rule.Rule.{Rule}
use Rattle.sc_cqlgrammar.specs.declared.mark.Mark.{Mark}
use Rattle.sc_cqlgrammar.specs.declared.item.Item as items
use Rattle.sc_cqlgrammar.specs.declared.item.Item.TheVariants as places
use Rattle.sc_cqlgrammar.specs.declared.step.Step.{Step}
use Rattle.sc_cqlgrammar.specs.declared.step.Step.TheVariants.{Mark as marked, Taken, Refused}
use Rattle.sc_cqlgrammar.specs.Rules.{Items}
use Rattle.sc_cqlgrammar.specs.Table.{predict}

-- what an item of the stack is to the grammar
abbrev pub item_of : items.Item → Item Class Rule Mark
item_of (places.Token c) = tok c
item_of (places.Rule n) = non n
item_of (places.Mark k) = act k

-- the items that are to come before rules are opened for a class, and behind that
pub data Opens : Items → Class → Items → Type 0 where
  as_is : (is : Items) (c : Class) → Opens is c is
  opened : (n : Rule) (a is : Items) (c : Class) (js : Items) → predict n c ≡ Some a → Opens (a ++ is) c js → Opens (non n ∷ is) c js

-- nothing, another token, or a rule of which the class picks no alternative
abbrev pub IsStuck : Items → Class → Type 0
IsStuck [] c = Unit {0}
IsStuck (tok d ∷ is) c = d ≢ c
IsStuck (act k ∷ is) c = ⊥
IsStuck (non n ∷ is) c = predict n c ≡ None

-- what a step comes to, and what is to come behind it
abbrev pub IsStep : Items → Class → Step → Items → Type 0
IsStep before c (marked k) behind = Opens before c (act k ∷ behind)
IsStep before c Taken behind = Opens before c (tok c ∷ behind)
IsStep before c Refused behind = (js : Items) × Opens before c js × IsStuck js c

-- the token that is wanted is of the class, or isn't
abbrev pub IsComparison : Class → Class → Step → Type 0
IsComparison wanted c (marked k) = ⊥
IsComparison wanted c Taken = wanted ≡ c
IsComparison wanted c Refused = wanted ≢ c
