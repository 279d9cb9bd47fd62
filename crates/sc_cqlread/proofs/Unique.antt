-- The tokens of a text come to one thing.
use Rattle.std.proofs.Common.{◌≡◌, ◌⊎◌, inl, inr, ℕ, ◌<◌, ◌≤◌, List, [], ◌∷◌, ◌++◌, Bool, Option, refl, sym, ap, subst, ◌∙◌, append_assoc, arith}
use Rattle.sc_grammar.specs.Grammar.{done, token, mark, rule}
use Rattle.sc_grammar.specs.declared.token.Token.{Token}
use Rattle.sc_grammar.specs.Words.{IsFormedClass}
use Rattle.sc_cqlgrammar.specs.declared.rule.Rule.TheVariants as rules
use Rattle.sc_cqlgrammar.specs.declared.mark.Mark.{Mark}
use Rattle.sc_cqlgrammar.specs.Rules.{Items}
use Rattle.sc_cqlgrammar.specs.Reading.{Nothing, stays as keeps, Derive, AreFront}
use Rattle.sc_cqlgrammar.proofs.Readings.{Left, one_value, runs_one}
use Rattle.sc_cqlread.specs.declared.taking.End.{End}
use Rattle.sc_cqlread.specs.declared.taking.End.TheVariants.{Whole, Broken, TooDeep}
use Rattle.sc_cqlread.specs.Tokens.{AreTokensFrom}
use Rattle.sc_cqlread.specs.Nesting.{deepest}
use Rattle.sc_cqlread.specs.Reading.{Reading, start, eats, does, bad_of}
use Rattle.sc_cqlread.specs.Filters.{whole, Makes, BeginsAs, Breaks}
use Rattle.sc_cqlread.specs.Ends.{Ends}
use Rattle.sc_cqlread.proofs.Following.{Safe, begins_ran}
use Rattle.sc_cqlread.proofs.Quiet.{IsSettled, runs_calm, noted_next, settled_keeps}
use Rattle.sc_cqlread.proofs.Noting.{quiet_keeps}

-- ---- tokens

pub tokens_one : (text : List ℕ) (w : Bool) (place : ℕ) (a b : List Token) → AreTokensFrom text w place a → AreTokensFrom text w place b → a ≡ b
tokens_one text w place [] b h k = absurd h
tokens_one text w place (t ∷ a) [] h k = absurd k
tokens_one text w place (t ∷ []) (v ∷ []) h k = cc
tokens_one text w place (t ∷ []) (v ∷ y ∷ b) h k =
    let one : v ≡ t = cc in absurd (h.1 (subst (λ (x : Token). IsFormedClass x.class) one k.1))
tokens_one text w place (t ∷ u ∷ a) (v ∷ []) h k =
    let one : t ≡ v = cc in absurd (k.1 (subst (λ (x : Token). IsFormedClass x.class) one h.1))
tokens_one text w place (t ∷ u ∷ a) (v ∷ y ∷ b) h k =
    let one : v ≡ t = cc in
    let rest = tokens_one text w t.to (u ∷ a) (y ∷ b) h.2 (subst (λ (x : Token). AreTokensFrom text w x.to (y ∷ b)) one k.2) in
    cc

-- ---- values change nothing of what is derived

module _ (S : Type 0) (eats : Token → S → S) (does : Mark → S → S) where
  pub derives_plain : (is : Items) (s : S) (ts : List Token) (s' : S) → Left S eats does is s ts s' → Derive is ts
  derives_plain _ _ _ _ (done s) = done tt
  derives_plain _ _ _ _ (token t is s ts s' l) = token t is tt ts tt (derives_plain is (eats t s) ts s' l)
  derives_plain _ _ _ _ (mark k is s ts s' l) = mark k is tt ts tt (derives_plain is (does k s) ts s' l)
  derives_plain _ _ _ _ (rule n a is s ts s' i l) = rule n a is tt ts tt i (derives_plain (a ++ is) s ts s' l)

-- ---- fronts

front_cut : (xs ys : List Token) → AreFront whole (xs ++ ys) → AreFront whole xs
front_cut xs ys f = record { rest = ys ++ f.rest; end = f.end; whole = subst (λ (x : List Token). Left Nothing keeps keeps whole tt x f.end) (append_assoc xs ys f.rest) f.whole }

-- two ways to cut a list before an element
pub record Cuts (a : List Token) (t : Token) (b : List Token) (u : Token) : Type 0 where
  pub same : a ≡ b
  pub token_same : t ≡ u

-- the one cut comes first, or the other, or both are the same
cuts : (a : List Token) (t : Token) (xs b : List Token) (u : Token) (ys : List Token) → a ++ t ∷ xs ≡ b ++ u ∷ ys →
    Cuts a t b u ⊎ ((zs : List Token) × (b ≡ a ++ t ∷ zs)) ⊎ ((zs : List Token) × (a ≡ b ++ u ∷ zs))
cuts [] t xs [] u ys e = inl (record { same = refl; token_same = cc })
cuts [] t xs (v ∷ b) u ys e = inr (inl (b, cc))
cuts (v ∷ a) t xs [] u ys e = inr (inr (a, cc))
cuts (v ∷ a) t xs (z ∷ b) u ys e =
    let head : v ≡ z = cc in
    let tail : a ++ t ∷ xs ≡ b ++ u ∷ ys = cc in
    elim (cuts a t xs b u ys tail) [
      | inl c ↦ let s : a ≡ b = c.same in inl (record { same = cc; token_same = c.token_same })
      | inr (inl p) ↦ let s : b ≡ a ++ t ∷ p.0 = p.1 in inr (inl (p.0, cc))
      | inr (inr p) ↦ let s : a ≡ b ++ u ∷ p.0 = p.1 in inr (inr (p.0, cc))
    ]

too_long : (a : List Token) (t : Token) (b zs : List Token) → b ≡ a ++ t ∷ zs → (AreFront whole (a ++ t ∷ []) → ⊥) → AreFront whole b → ⊥
too_long a t b zs e none f =
    none (front_cut (a ++ t ∷ []) zs (subst (λ (x : List Token). AreFront whole x) (e ∙ sym (append_assoc a (t ∷ []) zs)) f))

-- ---- what the tokens of a front note

start_settled : IsSettled whole
start_settled = record { calm = refl; next = refl }

start_safe : Safe whole
start_safe = (λ c i. absurd i, tt)

noted_one : (chars : List ℕ) (before : List Token) (m n : Reading) → BeginsAs chars before m → BeginsAs chars before n → bad_of m ≡ bad_of n
noted_one chars before m n h k =
    let a = begins_ran Reading (eats chars) (does chars) whole start before h.items m h.begun start_safe in
    let b = begins_ran Reading (eats chars) (does chars) whole start before k.items n k.begun start_safe in
    let one = runs_one Reading (eats chars) (does chars) whole start before a.items a.state a.run b.items b.state b.run in
    let c = runs_calm Reading (eats chars) (does chars) whole start before a.items a.state a.run start_settled in
    let d = runs_calm Reading (eats chars) (does chars) whole start before b.items b.state b.run start_settled in
    let next : Items → Reading → Option ℕ = noted_next Reading (eats chars) (does chars) (Option ℕ) bad_of (quiet_keeps chars) in
    let first : bad_of m ≡ next a.items a.state = settled_keeps Reading (eats chars) (does chars) (Option ℕ) bad_of (quiet_keeps chars) a.items a.state [] h.items m a.tail refl h.at_rest c.next in
    let second : bad_of n ≡ next b.items b.state = settled_keeps Reading (eats chars) (does chars) (Option ℕ) bad_of (quiet_keeps chars) b.items b.state [] k.items n b.tail refl k.at_rest d.next in
    first ∙ (ap (λ (x : Items). next x a.state) one.items ∙ (ap (λ (x : Reading). next b.items x) one.state ∙ sym second))

pub record AreAlike (p : ℕ) (m : Reading) (q : ℕ) (n : Reading) : Type 0 where
  pub place_same : p ≡ q
  pub noted_same : bad_of m ≡ bad_of n

pub breaks_one : (chars : List ℕ) (ts : List Token) (p q : ℕ) (m n : Reading) → Breaks chars ts p m → Breaks chars ts q n → AreAlike p m q n
breaks_one chars ts p q m n h k =
    elim (cuts h.before h.token h.behind k.before k.token k.behind (sym h.are ∙ k.are)) [
      | inl c ↦ record {
        place_same = h.stands ∙ ap (λ (x : Token). x.from) c.token_same ∙ sym k.stands;
        noted_same = noted_one chars k.before m n (subst (λ (x : List Token). BeginsAs chars x m) c.same h.begins) k.begins;
      }
      | inr (inl z) ↦ absurd (too_long h.before h.token k.before z.0 z.1 h.no_front k.front)
      | inr (inr z) ↦ absurd (too_long k.before k.token h.before z.0 z.1 k.no_front h.front)
    ]

pub whole_breaks_not : (chars : List ℕ) (ts : List Token) (p : ℕ) (m n : Reading) → Makes chars ts m → Breaks chars ts p n → ⊥
whole_breaks_not chars ts p m n h k =
    k.no_front (record {
      rest = k.behind;
      end = tt;
      whole = subst (λ (x : List Token). Derive whole x) (k.are ∙ sym (append_assoc k.before (k.token ∷ []) k.behind)) (derives_plain Reading (eats chars) (does chars) whole start ts m h);
    })

pub makes_one : (chars : List ℕ) (ts : List Token) (m n : Reading) → Makes chars ts m → Makes chars ts n → m ≡ n
makes_one chars ts m n h k = one_value Reading (eats chars) (does chars) rules.Whole (inl refl) start ts m n h k

-- ---- all together

too_deep_not : (chars : List ℕ) (w : Bool) (a b : List Token) → AreTokensFrom chars w 0 a → deepest a ≤ 64 → AreTokensFrom chars w 0 b → 64 < deepest b → ⊥
too_deep_not chars w a b h low k high =
    let e : deepest a ≡ deepest b = ap deepest (tokens_one chars w 0 a b h k) in omega (arith, e, low, high)

abbrev pub IsSame : End → Reading → End → Reading → Type 0
IsSame Whole m Whole n = m ≡ n
IsSame (Broken p) m (Broken q) n = AreAlike p m q n
IsSame TooDeep m TooDeep n = Unit {0}
IsSame _ m _ n = ⊥

pub ends_one : (chars : List ℕ) (w : Bool) (a : End) (m : Reading) (b : End) (n : Reading) → Ends chars w a m → Ends chars w b n → IsSame a m b n
ends_one chars w Whole m Whole n h k =
    makes_one chars k.0 m n (subst (λ (x : List Token). Makes chars x m) (tokens_one chars w 0 h.0 k.0 h.1 k.1) h.3) k.3
ends_one chars w Whole m (Broken q) n h k =
    whole_breaks_not chars k.0 q m n (subst (λ (x : List Token). Makes chars x m) (tokens_one chars w 0 h.0 k.0 h.1 k.1) h.3) k.3
ends_one chars w Whole m TooDeep n h k = too_deep_not chars w h.0 k.0 h.1 h.2 k.1 k.2
ends_one chars w (Broken p) m Whole n h k =
    whole_breaks_not chars h.0 p n m (subst (λ (x : List Token). Makes chars x n) (tokens_one chars w 0 k.0 h.0 k.1 h.1) k.3) h.3
ends_one chars w (Broken p) m (Broken q) n h k =
    breaks_one chars k.0 p q m n (subst (λ (x : List Token). Breaks chars x p m) (tokens_one chars w 0 h.0 k.0 h.1 k.1) h.3) k.3
ends_one chars w (Broken p) m TooDeep n h k = too_deep_not chars w h.0 k.0 h.1 h.2 k.1 k.2
ends_one chars w TooDeep m Whole n h k = too_deep_not chars w k.0 h.0 k.1 k.2 h.1 h.2
ends_one chars w TooDeep m (Broken q) n h k = too_deep_not chars w k.0 h.0 k.1 k.2 h.1 h.2
ends_one chars w TooDeep m TooDeep n h k = tt
