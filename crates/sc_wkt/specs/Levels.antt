-- The tokens of a text in order, and the level of parentheses at each: an opening parenthesis of the 65th level is a token
-- that no grammar takes.
use Rattle.std.specs.Prelude.{◌≡◌, ℕ, ◌+◌, ◌-◌, List, [], ◌∷◌, Bool, nat_le, if◌then◌else◌}
use Rattle.sc_grammar.specs.Words.{token_at}
use Rattle.sc_grammar.specs.declared.token.Class.{Class}
use Rattle.sc_grammar.specs.declared.token.Class.TheVariants as classes
use Rattle.sc_grammar.specs.declared.token.Token.{Token}

-- the level behind a token; a closing parenthesis that none opens closes nothing
abbrev pub level_behind : Class → ℕ → ℕ
level_behind classes.Opening level = level + 1
level_behind classes.Closing level = level - 1
level_behind _ level = level

abbrev pub class_within : ℕ → Class → Class
class_within level classes.Opening = if nat_le 64 level then classes.Bad else classes.Opening
class_within level class = class

abbrev pub token_within : ℕ → Token → Token
token_within level token = record token { class = class_within level token.class }

-- the token that comes next at a place and a level
abbrev pub next_token : List ℕ → Bool → ℕ → ℕ → Token
next_token text is_whole at level = token_within level (token_at text is_whole at)

-- these are the tokens from a place and a level up to a place and a level
pub data AreTokens (text : List ℕ) (is_whole : Bool) : ℕ → ℕ → List Token → ℕ → ℕ → Type 0 where
  no_token : (at level : ℕ) → AreTokens text is_whole at level [] at level
  one_more : (at level : ℕ) (token : Token) (tokens : List Token) (to behind : ℕ) → token ≡ next_token text is_whole at level →
      AreTokens text is_whole token.to (level_behind token.class level) tokens to behind → AreTokens text is_whole at level (token ∷ tokens) to behind
