-- A text that grows by tokens, of lists one behind the other.
use Rattle.std.proofs.Common.{◌≡◌, ℕ, ◌+◌, ◌<◌, ◌≤◌, List, [], ◌∷◌, ◌++◌, length, drop, get_or, map, suc, Bool, true, false, refl, sym, ap, ◌∙◌, append_assoc, append-nil, ◌||◌, add-one, drop-cons}
use Rattle.std.proofs.lemmas.List.{drop_all}
use Rattle.sc_cqlwrite.specs.Tokens as tokens
use Rattle.sc_cqlwrite.specs.Tokens.{Token, spelled, holds_next, is_held, blank_unless, behind, text_of, before_each, between, enclosed}
use Rattle.sc_cqlwrite.specs.Spelling.{Spelled, nothing, with_bytes, with_token, with_tokens, unless_first, going_on}

pub tokens_append : (s : Spelled) (ts us : List Token) → with_tokens s (ts ++ us) ≡ with_tokens (with_tokens s ts) us
tokens_append s [] us = refl
tokens_append s (t ∷ ts) us = tokens_append (with_token s t) ts us

-- a list in parentheses behind a function word
pub call_pushed : (word : List ℕ) (inside : List Token) (old named opened within new : Spelled)
    → named ≡ with_token old (tokens.function word) → opened ≡ with_token named tokens.opening → within ≡ with_tokens opened inside → new ≡ with_token within tokens.closing
    → new ≡ with_tokens old (tokens.function word ∷ enclosed inside)
call_pushed word inside old named opened within new n o w e =
    e ∙ ap (λ (s : Spelled). with_token s tokens.closing) (w ∙ ap (λ (s : Spelled). with_tokens s inside) (o ∙ ap (λ (s : Spelled). with_token s tokens.opening) n))
    ∙ sym (tokens_append (with_token (with_token old (tokens.function word)) tokens.opening) inside (tokens.closing ∷ []))

-- a part, a comma and another part
pub pair_pushed : (one two : List Token) (old first mid new : Spelled) → first ≡ with_tokens old one → mid ≡ with_token first tokens.comma → new ≡ with_tokens mid two
    → new ≡ with_tokens old (one ++ (tokens.comma ∷ two))
pair_pushed one two old first mid new f m n =
    n ∙ ap (λ (s : Spelled). with_tokens s two) (m ∙ ap (λ (s : Spelled). with_token s tokens.comma) f) ∙ sym (tokens_append old one (tokens.comma ∷ two))

-- ---- a list of parts, one after the other

pub next_part : (A : Type 0) (xs : List A) (i : ℕ) (x : A) → i < length xs → x ≡ get_or xs i x → drop i xs ≡ x ∷ drop (i + 1) xs
next_part A xs i x lt is = rw (add-one, drop-cons xs i x) (ap (λ (y : A). y ∷ drop (suc i) xs) (sym is))

going_on_part : (is_first : Bool) (t : Token) (part : List Token) (parts : List (List Token)) (s : Spelled)
    → with_tokens s (going_on is_first t (part ∷ parts)) ≡ with_tokens (with_tokens (with_tokens s (unless_first is_first t)) part) (before_each t parts)
going_on_part true t part parts s = tokens_append s part (before_each t parts)
going_on_part false t part parts s = tokens_append (with_token s t) part (before_each t parts)

going_on_none : (is_first : Bool) (t : Token) → going_on is_first t [] ≡ []
going_on_none true t = refl
going_on_none false t = refl

module _ {A : Type 0} (f : A → List Token) (t : Token) (xs : List A) (i : ℕ) where
  pub parts_go_on : (is_first : Bool) (x : A) (s mid new whole : Spelled) → i < length xs → x ≡ get_or xs i x
      → mid ≡ with_tokens s (unless_first is_first t) → new ≡ with_tokens mid (f x)
      → with_tokens s (going_on is_first t (map f (drop i xs))) ≡ whole → with_tokens new (going_on false t (map f (drop (i + 1) xs))) ≡ whole
  parts_go_on is_first x s mid new whole lt is before part kept =
      let rest = map f (drop (i + 1) xs) in
      ap (λ (y : Spelled). with_tokens y (before_each t rest)) (part ∙ ap (λ (y : Spelled). with_tokens y (f x)) before)
      ∙ sym (going_on_part is_first t (f x) rest s)
      ∙ ap (λ (ys : List A). with_tokens s (going_on is_first t (map f ys))) (sym (next_part A xs i x lt is)) ∙ kept

  pub parts_end : (is_first : Bool) (s whole : Spelled) → length xs ≤ i → with_tokens s (going_on is_first t (map f (drop i xs))) ≡ whole → s ≡ whole
  parts_end is_first s whole past kept =
      ap (λ (ts : List Token). with_tokens s ts) (sym (going_on_none is_first t))
      ∙ ap (λ (ys : List A). with_tokens s (going_on is_first t (map f ys))) (sym (drop_all i xs past)) ∙ kept

-- ---- the text of all tokens

spelled_behind : (t : Token) (ts : List Token) (s : Spelled) → s.is_tight ≡ holds_next t → (with_tokens s ts).bytes ≡ s.bytes ++ behind t ts
unfolding with_token with_bytes behind
spelled_behind t [] s tight = sym (append-nil s.bytes)
spelled_behind t (u ∷ us) s tight =
    spelled_behind u us (with_token s u) refl
    ∙ ap (λ (b : Bool). (s.bytes ++ blank_unless (b || is_held u) ++ spelled u) ++ behind u us) tight
    ∙ ap (λ (bs : List ℕ). bs ++ behind u us) (append_assoc s.bytes (blank_unless (holds_next t || is_held u)) (spelled u))
    ∙ append_assoc s.bytes (blank_unless (holds_next t || is_held u) ++ spelled u) (behind u us)

pub text_spelled : (ts : List Token) → (with_tokens nothing ts).bytes ≡ text_of ts
unfolding with_token with_bytes text_of
text_spelled [] = refl
text_spelled (t ∷ ts) = spelled_behind t ts (with_token nothing t) refl
