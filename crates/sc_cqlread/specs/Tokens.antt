-- The tokens of a text (OGC 21-065r2, Annex B), from its front up to the first byte at which no token can be formed, or up
-- to the end. `token_at` is the longest token that can be formed, by the law `longest_token` of `sc_grammar`.
use Rattle.std.specs.Prelude.{◌≡◌, ℕ, List, [], ◌∷◌, Bool}
use Rattle.sc_grammar.specs.declared.token.Token.{Token}
use Rattle.sc_grammar.specs.Words.{token_at, IsFormedClass}
pub use Rattle.sc_wkt.specs.Answer.{readable, is_readable}

-- each token is the next one from a place, or behind the token before it. All are formed but the last, which is the byte at
-- which none can be, or the end
abbrev pub AreTokensFrom : List ℕ → Bool → ℕ → List Token → Type 0
AreTokensFrom text is_whole place [] = ⊥
AreTokensFrom text is_whole place (t ∷ []) = (t ≡ token_at text is_whole place) × (IsFormedClass t.class → ⊥)
AreTokensFrom text is_whole place (t ∷ u ∷ ts) = (t ≡ token_at text is_whole place) × IsFormedClass t.class × AreTokensFrom text is_whole t.to (u ∷ ts)

abbrev pub AreTokens : List ℕ → List Token → Type 0
AreTokens text tokens = AreTokensFrom (readable text) (is_readable text) 0 tokens
