-- What reading a geometry from the front of a text comes to.
use Rattle.std.specs.Prelude.{◌≡◌, ℕ, List, [], ◌∷◌, ◌++◌, Bool}
use Rattle.sc_grammar.specs.Grammar.{non, Derives, Steps, Refuses}
use Rattle.sc_grammar.specs.declared.token.Class.{Class}
use Rattle.sc_grammar.specs.declared.token.Token.{Token}
use Rattle.sc_cqlgrammar.specs.declared.rule.Rule.{Rule}
use Rattle.sc_cqlgrammar.specs.declared.rule.Rule.TheVariants as rules
use Rattle.sc_cqlgrammar.specs.declared.mark.Mark.{Mark}
use Rattle.sc_cqlgrammar.specs.Rules.{Items, IsAlternative}
use Rattle.sc_cqlgrammar.specs.Table.{predict}
use Rattle.sc_cqlgrammar.specs.Reading.{class_of, AreFront, Derive}
use Rattle.sc_wkt.specs.declared.drawing.Drawing as kept
use Rattle.sc_wkt.specs.declared.reading.End.{End}
use Rattle.sc_wkt.specs.declared.reading.End.TheVariants.{Whole, Refused}
use Rattle.sc_wkt.specs.declared.reading.Reading.{Reading}
use Rattle.sc_wkt.specs.Kept.{IsDrawing}
use Rattle.sc_wkt.specs.Drawing.{Drawing, blank, reads, draws, first_wide}
use Rattle.sc_wkt.specs.Levels.{AreTokens, next_token}

abbrev pub geometry : Items
geometry = non rules.Geometry ∷ []

-- a whole geometry stands at the front, up to a place: its tokens, and what they draw
pub record Draws (text : List ℕ) (is_whole : Bool) (tokens : List Token) (to : ℕ) (d : Drawing) : Type 0 where
  pub level : ℕ
  pub tokens_are : AreTokens text is_whole 0 0 tokens to level
  pub derived : Derives Token Class Rule Mark Drawing class_of (reads text) draws IsAlternative geometry blank tokens d

-- these tokens at the front are a front of a geometry and no whole one, and with the next one, at a place, they are no front
pub record Stops (text : List ℕ) (is_whole : Bool) (tokens : List Token) (at : ℕ) : Type 0 where
  pub to : ℕ
  pub level : ℕ
  pub tokens_are : AreTokens text is_whole 0 0 tokens to level
  pub front : AreFront geometry tokens
  pub unfinished : Derive geometry tokens → ⊥
  pub none : AreFront geometry (tokens ++ next_token text is_whole to level ∷ []) → ⊥
  pub place : at ≡ (next_token text is_whole to level).from

-- the machine takes the token, and what is drawn by that
abbrev pub Takes : List ℕ → Items → Drawing → Token → Items → Drawing → Type 0
Takes text before d token behind e = Steps Token Class Rule Mark Drawing class_of (reads text) draws predict before d token behind e

-- the machine doesn't take the token
abbrev pub Refuse : List ℕ → Items → Drawing → Token → Type 0
Refuse text items d token = Refuses Token Class Rule Mark Drawing class_of (reads text) draws predict items d token

-- where reading ended and what is known of it: the tokens that were taken, and where the first number of them stands that is
-- too wide
abbrev pub IsEnd : List ℕ → Bool → List Token → kept.Drawing → End → Type 0
IsEnd text is_whole tokens drawing (Whole to) = (d : Drawing) × Draws text is_whole tokens to d × IsDrawing drawing d
IsEnd text is_whole tokens drawing (Refused at) = Stops text is_whole tokens at

pub record IsReading (text : List ℕ) (is_whole : Bool) (reading : Reading) : Type 0 where
  pub tokens : List Token
  pub wide_is : reading.wide ≡ first_wide text tokens
  pub end_is : IsEnd text is_whole tokens reading.drawing reading.end
