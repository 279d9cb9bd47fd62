-- Parentheses counted token by token.
use Rattle.std.proofs.Common.{◌≡◌, ℕ, ◌<◌, ◌≤◌, List, [], ◌∷◌, Bool, refl, arith}
use Rattle.std.specs.Prelude.{max}
use Rattle.sc_grammar.specs.declared.token.Class.{Class}
use Rattle.sc_grammar.specs.declared.token.Class.TheVariants as classes
use Rattle.sc_grammar.specs.declared.token.Token.{Token}
use Rattle.sc_grammar.specs.Words.{token_at, IsFormedClass}
use Rattle.sc_cqlread.specs.Tokens.{AreTokensFrom}
use Rattle.sc_cqlread.specs.Nesting.{level_behind, deepest_from}
use Rattle.sc_cqlread.proofs.Tokens.{goes_on, ends}

pub at_least : (level : ℕ) (ts : List Token) → level ≤ deepest_from level ts
at_least level [] = omega arith
at_least level (t ∷ ts) = omega arith

pub unformed_level : (c : Class) (level : ℕ) → (IsFormedClass c → ⊥) → level_behind c level ≡ level
unformed_level classes.Opening level h = absurd (h tt)
unformed_level classes.Closing level h = absurd (h tt)
unformed_level _ level h = refl

deepest_is : (tokens : List Token) (token : Token) (rest : List Token) (level next : ℕ) → tokens ≡ token ∷ rest → next ≡ level_behind token.class level → deepest_from level tokens ≡ max level (deepest_from next rest)
deepest_is tokens token rest level next e f = rw (e, f) refl

-- the tokens that are left nest too deep where those from a place on do
pub record Rest (text : List ℕ) (w : Bool) (before : ℕ) (tokens : List Token) (place level : ℕ) : Type 0 where
  pub rest : List Token
  pub are : AreTokensFrom text w place rest
  pub shallow : deepest_from level rest ≤ 64 → deepest_from before tokens ≤ 64
  pub deep : 64 < deepest_from level rest → 64 < deepest_from before tokens

pub all_left : (text : List ℕ) (w : Bool) (place level : ℕ) (tokens : List Token) → AreTokensFrom text w place tokens → Rest text w level tokens place level
all_left text w place level tokens h = record { rest = tokens; are = h; shallow = λ s. s; deep = λ d. d }

module _ (text : List ℕ) (w : Bool) (before : ℕ) (tokens : List Token) (place level : ℕ) (token : Token) (is : token ≡ token_at text w place) where
  pub token_scanned : IsFormedClass token.class → level ≤ 64 → (next : ℕ) → next ≡ level_behind token.class level → Rest text w before tokens place level → Rest text w before tokens token.to next
  token_scanned formed low next next_is r =
      let b = goes_on text w place r.rest token r.are is formed in
      let e : deepest_from level r.rest ≡ max level (deepest_from next b.rest) = deepest_is r.rest token b.rest level next b.is next_is in
      record {
        rest = b.rest;
        are = b.are;
        shallow = λ s. r.shallow (omega (arith, e, low, s));
        deep = λ d. r.deep (omega (arith, e, d));
      }

  pub scanned_too_deep : IsFormedClass token.class → (next : ℕ) → next ≡ level_behind token.class level → 64 < next → Rest text w before tokens place level → 64 < deepest_from before tokens
  scanned_too_deep formed next next_is high r =
      let b = goes_on text w place r.rest token r.are is formed in
      let e : deepest_from level r.rest ≡ max level (deepest_from next b.rest) = deepest_is r.rest token b.rest level next b.is next_is in
      r.deep (omega (arith, e, high, at_least next b.rest))

  pub scanned_all : (IsFormedClass token.class → ⊥) → level ≤ 64 → Rest text w before tokens place level → deepest_from before tokens ≤ 64
  scanned_all unformed low r =
      let e : deepest_from level r.rest ≡ max level (level_behind token.class level) = deepest_is r.rest token [] level (level_behind token.class level) (ends text w place r.rest token r.are is unformed) refl in
      r.shallow (omega (arith, e, low, unformed_level token.class level unformed))
