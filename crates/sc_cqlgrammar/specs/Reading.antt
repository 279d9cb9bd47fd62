-- What the rules derive and which tokens are a front of it, and how the machine that predicts by the next token goes
-- through them: without values, which change nothing of either.
use Rattle.std.specs.Prelude.{◌≡◌, List, ◌⊎◌}
use Rattle.sc_grammar.specs.Grammar.{Derives, IsFront, Steps, Refuses, Runs}
use Rattle.sc_grammar.specs.declared.token.Class.{Class}
use Rattle.sc_grammar.specs.declared.token.Token.{Token}
use Rattle.sc_cqlgrammar.specs.declared.rule.Rule.{Rule}
use Rattle.sc_cqlgrammar.specs.declared.rule.Rule.TheVariants as rules
use Rattle.sc_cqlgrammar.specs.declared.mark.Mark.{Mark}
use Rattle.sc_cqlgrammar.specs.Rules.{Items, IsAlternative}
use Rattle.sc_cqlgrammar.specs.Table.{predict}

abbrev pub class_of : Token → Class
class_of t = t.class

-- no value
abbrev pub Nothing : Type 0
Nothing = Unit {0}

abbrev pub stays : {A : Type 0} → A → Nothing → Nothing
stays a nothing = nothing

-- the items in order derive the tokens
abbrev pub Derive : Items → List Token → Type 0
Derive items tokens = Derives Token Class Rule Mark Nothing class_of stays stays IsAlternative items tt tokens tt

-- the tokens are a front of what the items derive: some tokens behind them make them whole
abbrev pub AreFront : Items → List Token → Type 0
AreFront items tokens = IsFront Token Class Rule Mark Nothing class_of stays stays IsAlternative items tt tokens

-- the machine takes the token: what is to come before it, and behind it
abbrev pub Takes : Items → Token → Items → Type 0
Takes before token behind = Steps Token Class Rule Mark Nothing class_of stays stays predict before tt token behind tt

-- the machine doesn't take the token
abbrev pub Refuse : Items → Token → Type 0
Refuse items token = Refuses Token Class Rule Mark Nothing class_of stays stays predict items tt token

-- the machine takes the tokens in order
abbrev pub TakesAll : Items → List Token → Items → Type 0
TakesAll before tokens behind = Runs Token Class Rule Mark Nothing class_of stays stays predict before tt tokens behind tt

-- what is read from its front: a whole text of a filter, or a geometry
abbrev pub IsStart : Rule → Type 0
IsStart n = (n ≡ rules.Whole) ⊎ (n ≡ rules.Geometry)
