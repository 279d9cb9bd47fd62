-- How far the loop over the tokens has come, and what it comes to.
use Rattle.std.proofs.Common.{◌≡◌, ◌⊎◌, inl, inr, ℕ, zero, suc, ◌-◌, ◌<◌, ◌≤◌, List, [], ◌∷◌, ◌++◌, length, Bool, true, refl, sym, ap, subst, append_assoc, length-drop, arith}
use Rattle.std.specs.Prelude.{max}
use Rattle.sc_grammar.specs.declared.lexeme.Kind.{Kind}
use Rattle.sc_grammar.specs.declared.lexeme.Kind.TheVariants as kinds
use Rattle.sc_grammar.specs.declared.token.Class.{Class}
use Rattle.sc_grammar.specs.declared.token.Class.TheVariants as classes
use Rattle.sc_grammar.specs.declared.token.Token.{Token}
use Rattle.sc_grammar.specs.Lexing.{lexeme_at}
use Rattle.sc_grammar.specs.Tokens.{IsKind, IsNext, IsFormed}
use Rattle.sc_grammar.specs.Words.{class_at, token_at, IsFormedClass}
use Rattle.sc_grammar.proofs.Next.{next_is, lexeme_goes_on}
use Rattle.sc_grammar.proofs.Foresight as foresight
use Rattle.sc_cqlgrammar.specs.declared.rule.Rule.{Rule}
use Rattle.sc_cqlgrammar.specs.declared.rule.Rule.TheVariants as rules
use Rattle.sc_cqlgrammar.specs.declared.mark.Mark.{Mark}
use Rattle.sc_cqlgrammar.specs.Rules.{Items, IsAlternative}
use Rattle.sc_cqlgrammar.specs.Table.{predict}
use Rattle.sc_cqlgrammar.specs.Reading.{class_of, Nothing, stays as keeps}
use Rattle.sc_cqlgrammar.proofs.Readings.{taken_is_front, refused_is_none, taken_is_derived}
use Rattle.sc_cqlread.specs.declared.taking.End.TheVariants.{Whole, Broken, TooDeep}
use Rattle.sc_cqlread.specs.Tokens.{AreTokensFrom}
use Rattle.sc_cqlread.specs.Nesting.{level_behind, deepest_from, deepest}
use Rattle.sc_cqlread.specs.Passing.{IsRefused, Takes, Reads}
use Rattle.sc_cqlread.specs.Reading.{Reading, start, eats, does}
use Rattle.sc_cqlread.specs.Filters.{whole}
use Rattle.sc_cqlread.specs.Ends.{Ends}
use Rattle.sc_cqlread.proofs.Tokens.{put_token, put_last}
use Rattle.sc_cqlread.proofs.Scanning.{at_least, unformed_level}
use Rattle.sc_cqlread.proofs.Going.{runs_plain, stop_refuses_plain}
use Rattle.sc_cqlread.proofs.Following.{stop_begins}
use Rattle.sc_cqlread.proofs.Closing.{closes, EndsOrGoesOn, goes_closing}

-- ---- there are tokens from each place on

kind_of_class : (text : List ℕ) (w : Bool) (k : Kind) (from to : ℕ) → IsFormedClass (class_at text w k from to) → IsFormed k
kind_of_class text w kinds.Bad from to f = absurd f
kind_of_class text w kinds.End from to f = absurd f
kind_of_class text w _ from to f = tt

kind_within : (text : List ℕ) (w : Bool) (k : Kind) (from to : ℕ) → IsFormed k → IsKind text w k from to → from < to → to ≤ length text
kind_within text w kinds.Bad from to f h lt = absurd f
kind_within text w kinds.End from to f h lt = absurd f
kind_within text w _ from to f h lt = omega (arith, h.1, h.2.0, lt, length-drop from text)

pub formed_within : (text : List ℕ) (w : Bool) (place : ℕ) → place ≤ length text → IsFormedClass (token_at text w place).class → (place < (token_at text w place).to) × ((token_at text w place).to ≤ length text)
unfolding token_at
formed_within text w place le f =
    let l = lexeme_at text w place in
    let next : IsNext text w place l = next_is text w place le in
    let formed : IsFormed l.kind = kind_of_class text w l.kind l.from l.to f in
    let lt : l.from < l.to = lexeme_goes_on text w place l next formed in
    (omega (arith, next.from_is, lt), kind_within text w l.kind l.from l.to formed next.is_kind lt)

is_formed_or : (c : Class) → IsFormedClass c ⊎ (IsFormedClass c → ⊥)
is_formed_or classes.Bad = inr (λ h. h)
is_formed_or classes.End = inr (λ h. h)
is_formed_or _ = inl tt

tokens_in : (fuel : ℕ) (text : List ℕ) (w : Bool) (place : ℕ) → place ≤ length text → length text - place < fuel → (tokens : List Token) × AreTokensFrom text w place tokens
tokens_in zero text w place le lt = absurd (omega (arith, lt))
tokens_in (suc fuel) text w place le lt =
    elim (is_formed_or (token_at text w place).class) [
      | inl f ↦
          let b = formed_within text w place le f in
          let p = tokens_in fuel text w (token_at text w place).to b.1 (omega (arith, le, lt, b.0)) in
          (token_at text w place ∷ p.0, put_token text w place (token_at text w place) p.0 refl f p.1)
      | inr f ↦ (token_at text w place ∷ [], put_last text w place (token_at text w place) refl f)
    ]

pub some_tokens : (text : List ℕ) (w : Bool) (place : ℕ) → place ≤ length text → (tokens : List Token) × AreTokensFrom text w place tokens
some_tokens text w place le = tokens_in (suc (length text - place)) text w place le (omega arith)

-- the first of them is the token at the place
first_is : (text : List ℕ) (w : Bool) (place : ℕ) (tokens : List Token) (token : Token) → AreTokensFrom text w place tokens → token ≡ token_at text w place → (rest : List Token) × (tokens ≡ token ∷ rest)
first_is text w place [] token h e = absurd h
first_is text w place (t ∷ []) token h e = ([], cc)
first_is text w place (t ∷ u ∷ ts) token h e = (u ∷ ts, cc)

-- ---- the tokens so far

-- those before the place are taken, and so many parentheses are open behind them
pub record SoFar (chars : List ℕ) (w : Bool) (place level : ℕ) (items : Items) (made : Reading) : Type 0 where
  pub before : List Token
  pub follow : (rest : List Token) → AreTokensFrom chars w place rest → AreTokensFrom chars w 0 (before ++ rest)
  pub taken : Reads chars whole start before items made
  pub closing : closes items ≡ true
  pub shallow : (rest : List Token) → deepest_from level rest ≤ 64 → deepest (before ++ rest) ≤ 64
  pub deep : (rest : List Token) → 64 < deepest_from level rest → 64 < deepest (before ++ rest)

pub at_first : (chars : List ℕ) (w : Bool) → SoFar chars w 0 0 whole start
at_first chars w = record {
  before = [];
  follow = λ rest h. h;
  taken = Rattle.sc_grammar.specs.Grammar.stays whole start;
  closing = refl;
  shallow = λ rest h. h;
  deep = λ rest h. h;
}

module _ (chars : List ℕ) (w : Bool) (place level : ℕ) (items : Items) (made : Reading) (so : SoFar chars w place level items made) (token : Token) (is : token ≡ token_at chars w place) (low : level ≤ 64) where
  reads_push : (js : Items) (m : Reading) → Takes chars items made token js m → Reads chars whole start (so.before ++ token ∷ []) js m
  reads_push js m g =
      foresight.runs_push Token Class Rule Mark Reading class_of (eats chars) (does chars) IsAlternative predict whole start so.before items made so.taken token js m g

  nests : (next : ℕ) → next ≡ level_behind token.class level → (rest : List Token) → deepest_from level (token ∷ rest) ≡ max level (deepest_from next rest)
  nests next e rest = rw e refl

  moved : (P : List Token → Type 0) (rest : List Token) → P (so.before ++ token ∷ rest) → P ((so.before ++ token ∷ []) ++ rest)
  moved P rest h = subst P (sym (append_assoc so.before (token ∷ []) rest)) h

  -- the token is taken, and the text goes on
  pub token_taken : (js : Items) (m : Reading) → Takes chars items made token js m → IsFormedClass token.class → closes js ≡ true → (next : ℕ) → next ≡ level_behind token.class level → SoFar chars w token.to next js m
  token_taken js m g formed closing next next_is = record {
    before = so.before ++ token ∷ [];
    follow = λ rest h. moved (λ (x : List Token). AreTokensFrom chars w 0 x) rest (so.follow (token ∷ rest) (put_token chars w place token rest is formed h));
    taken = reads_push js m g;
    closing = closing;
    shallow = λ rest h. moved (λ (x : List Token). deepest x ≤ 64) rest (so.shallow (token ∷ rest) (let e = nests next next_is rest in omega (arith, e, low, h)));
    deep = λ rest h. moved (λ (x : List Token). 64 < deepest x) rest (so.deep (token ∷ rest) (let e = nests next next_is rest in omega (arith, e, h)));
  }

  -- the end of the text is taken
  pub end_taken : (js : Items) (m : Reading) → Takes chars items made token js m → js ≡ [] → token.class ≡ classes.End → Ends chars w Whole m
  end_taken js m g nothing end =
      let unformed : IsFormedClass token.class → ⊥ = subst (λ (x : Class). IsFormedClass x → ⊥) (sym end) (λ h. h) in
      let same : level_behind token.class level ≡ level = unformed_level token.class level unformed in (
        so.before ++ token ∷ [],
        so.follow (token ∷ []) (put_last chars w place token is unformed),
        so.shallow (token ∷ []) (let e = nests (level_behind token.class level) refl [] in omega (arith, e, same, low)),
        taken_is_derived Reading (eats chars) (does chars) rules.Whole start (so.before ++ token ∷ []) m
            (subst (λ (x : Items). Reads chars whole start (so.before ++ token ∷ []) x m) nothing (reads_push js m g)),
      )

  -- parentheses nest too deep from the token on
  pub too_deep : (made : Reading) → place ≤ length chars → ((tokens : List Token) → AreTokensFrom chars w place tokens → 64 < deepest_from level tokens) → Ends chars w TooDeep made
  too_deep m within h =
      let p = some_tokens chars w place within in
      (so.before ++ p.0, so.follow p.0 p.1, so.deep p.0 (h p.0 p.1))

  pub level_too_deep : place ≤ length chars → (next : ℕ) → next ≡ level_behind token.class level → 64 < next → Ends chars w TooDeep made
  level_too_deep within next next_is high = too_deep made within by_level
    where
      by_level : (tokens : List Token) → AreTokensFrom chars w place tokens → 64 < deepest_from level tokens
      by_level tokens are =
          let f = first_is chars w place tokens token are is in
          subst (λ (x : List Token). 64 < deepest_from level x) (sym f.1)
          (let e = nests next next_is f.0 in omega (arith, e, high, at_least next f.0))

  -- the token is refused, and nothing nests too deep from it on
  pub token_refused : (m : Reading) → place ≤ length chars → IsRefused Reading (does chars) items made token m → ((tokens : List Token) → AreTokensFrom chars w place tokens → deepest_from level tokens ≤ 64) → Ends chars w (Broken token.from) m
  token_refused m within stops h =
      let p = some_tokens chars w place within in
      let f = first_is chars w place p.0 token p.1 is in
      let begin = stop_begins Reading (eats chars) (does chars) whole start so.before items made so.taken token m stops in
      let run = runs_plain Reading (eats chars) (does chars) whole start so.before items made so.taken in (
        so.before ++ p.0,
        so.follow p.0 p.1,
        so.shallow p.0 (h p.0 p.1),
        record {
          before = so.before;
          token = token;
          behind = f.0;
          are = ap (λ (x : List Token). so.before ++ x) f.1;
          front = taken_is_front Nothing keeps keeps rules.Whole tt so.before items tt run;
          no_front = refused_is_none Nothing keeps keeps rules.Whole tt so.before items tt run token (stop_refuses_plain Reading (eats chars) (does chars) items made token m stops);
          stands = refl;
          begins = record { items = begin.0; begun = begin.1; at_rest = begin.2 };
        },
      )

  pub taken_comes : (js : Items) (m : Reading) → Takes chars items made token js m → EndsOrGoesOn token.class js
  taken_comes js m g = goes_closing Reading (eats chars) (does chars) items made token js m g so.closing

-- ---- which of both it comes to

pub ended : (c : Class) (js : Items) → c ≡ classes.End → EndsOrGoesOn c js → js ≡ []
ended c js e (inl h) = h.1
ended c js e (inr h) = absurd (subst (λ (x : Class). IsFormedClass x) e h.0)

pub went_on : (c : Class) (js : Items) → (c ≡ classes.End → ⊥) → EndsOrGoesOn c js → IsFormedClass c × (closes js ≡ true)
went_on c js e (inl h) = absurd (e h.0)
went_on c js e (inr h) = h
