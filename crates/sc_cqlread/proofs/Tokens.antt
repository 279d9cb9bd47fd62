-- The tokens of a text, one after another.
use Rattle.std.proofs.Common.{◌≡◌, ℕ, List, [], ◌∷◌, Bool, subst}
use Rattle.sc_grammar.specs.declared.token.Token.{Token}
use Rattle.sc_grammar.specs.Words.{token_at, IsFormedClass}
use Rattle.sc_cqlread.specs.Tokens.{AreTokensFrom}

-- a token that is formed, and the tokens behind it
pub record Begin (text : List ℕ) (w : Bool) (token : Token) (tokens : List Token) : Type 0 where
  pub rest : List Token
  pub is : tokens ≡ token ∷ rest
  pub are : AreTokensFrom text w token.to rest

pub goes_on : (text : List ℕ) (w : Bool) (place : ℕ) (tokens : List Token) (token : Token) → AreTokensFrom text w place tokens → token ≡ token_at text w place → IsFormedClass token.class → Begin text w token tokens
goes_on text w place [] token h e f = absurd h
goes_on text w place (t ∷ []) token h e f =
    let one : token ≡ t = cc in
    absurd (h.1 (subst (λ (x : Token). IsFormedClass x.class) one f))
goes_on text w place (t ∷ u ∷ ts) token h e f =
    let one : t ≡ token = cc in
    record { rest = u ∷ ts; is = cc; are = subst (λ (x : Token). AreTokensFrom text w x.to (u ∷ ts)) one h.2 }

-- one that isn't is the last
pub ends : (text : List ℕ) (w : Bool) (place : ℕ) (tokens : List Token) (token : Token) → AreTokensFrom text w place tokens → token ≡ token_at text w place → (IsFormedClass token.class → ⊥) → tokens ≡ token ∷ []
ends text w place [] token h e f = absurd h
ends text w place (t ∷ []) token h e f = cc
ends text w place (t ∷ u ∷ ts) token h e f =
    let one : t ≡ token = cc in
    absurd (f (subst (λ (x : Token). IsFormedClass x.class) one h.1))

-- the same the other way round
pub put_token : (text : List ℕ) (w : Bool) (place : ℕ) (token : Token) (rest : List Token) → token ≡ token_at text w place → IsFormedClass token.class → AreTokensFrom text w token.to rest → AreTokensFrom text w place (token ∷ rest)
put_token text w place token [] e f h = absurd h
put_token text w place token (u ∷ ts) e f h = (e, f, h)

pub put_last : (text : List ℕ) (w : Bool) (place : ℕ) (token : Token) → token ≡ token_at text w place → (IsFormedClass token.class → ⊥) → AreTokensFrom text w place (token ∷ [])
put_last text w place token e f = (e, f)
