-- A text that grows by tokens, as it is written.
use Rattle.std.specs.Prelude.{ℕ, List, [], ◌∷◌, ◌++◌, Bool, true, false, ◌||◌}
use Rattle.sc_cqlwrite.specs.Tokens.{Token, spelled, holds_next, is_held, blank_unless, between, before_each}

-- the bytes so far, and whether the next token stands at once behind them
pub record Spelled : Type 0 where
  pub bytes : List ℕ
  pub is_tight : Bool

abbrev pub nothing : Spelled
nothing = record { bytes = []; is_tight = true }

-- the bytes of one token more, behind a blank unless none stands there
unfoldable pub with_bytes : Spelled → Bool → Bool → List ℕ → Spelled
with_bytes s held tight bytes = record { bytes = s.bytes ++ blank_unless (s.is_tight || held) ++ bytes; is_tight = tight }

unfoldable pub with_token : Spelled → Token → Spelled
with_token s t = with_bytes s (is_held t) (holds_next t) (spelled t)

abbrev pub with_tokens : Spelled → List Token → Spelled
with_tokens s [] = s
with_tokens s (t ∷ ts) = with_tokens (with_token s t) ts

abbrev pub is_none : {A : Type 0} → List A → Bool
is_none [] = true
is_none (x ∷ xs) = false

-- the token, where it isn't to stand before the first
abbrev pub unless_first : Bool → Token → List Token
unless_first true t = []
unless_first false t = t ∷ []

-- parts with the token between each two, and before the first of them unless that is the first of all
abbrev pub going_on : Bool → Token → List (List Token) → List Token
going_on true t parts = between t parts
going_on false t parts = before_each t parts
