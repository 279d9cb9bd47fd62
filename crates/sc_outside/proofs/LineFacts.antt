-- The first of the lines, by the place of the first line feed.
use Rattle.std.proofs.Common.{◌≡◌, ◌≢◌, ℕ, ◌+◌, ◌<◌, Bool, true, false, eqb, ltb, cond, List, [], ◌∷◌, ◌++◌, length, get_or, take, drop, Some, None, refl, sym, ◌∙◌, ap, arith}
use Rattle.std.specs.List.{position, position_or_len, AllByRecursion, filter}
use Rattle.std.proofs.lemmas.List.Sums.{fails_before_first}
use Rattle.std.proofs.lemmas.List.Quantifiers.{position-Some}
use Rattle.std.proofs.lemmas.List.Elements.{recursion_from_All}
use Rattle.std.proofs.lemmas.List.{take-append-drop, drop_more, take_more, get_or_default, get_or-take, length-take}
use Rattle.std.proofs.lemmas.Bool.Decides.{nat_tests}
use Rattle.sc_outside.specs.Lines.{lines_of, is_whole, without_feed, lines_to_read}

-- bytes without a line feed
abbrev HasNoFeed : List ℕ → Type 0
HasNoFeed bytes = AllByRecursion (λ b. eqb b 10 ≡ false) bytes

pub without_feed-push : (x : List ℕ) → without_feed (x ++ 10 ∷ []) ≡ x
without_feed-push [] = refl
without_feed-push (b ∷ []) = refl
without_feed-push (b ∷ c ∷ bs) = ap (λ t. b ∷ t) (without_feed-push (c ∷ bs))

pub without_feed_same : (s : List ℕ) → ((r : List ℕ) → s ≢ r ++ 10 ∷ []) → without_feed s ≡ s
without_feed_same [] n = refl
without_feed_same (b ∷ []) n = by (eqb b 10) refl
  where
    by : (t : Bool) → eqb b 10 ≡ t → cond t [] (b ∷ []) ≡ b ∷ []
    by true e = let h : b ≡ 10 = grind (arith, nat_tests) in absurd (n [] (ap (λ t. t ∷ []) h))
    by false e = refl
without_feed_same (b ∷ c ∷ bs) n = ap (λ t. b ∷ t) (without_feed_same (c ∷ bs) (λ r e. n (b ∷ r) (ap (λ t. b ∷ t) e)))

lines_of_first : (front rest : List ℕ) → HasNoFeed front → lines_of (front ++ 10 ∷ rest) ≡ (front ++ 10 ∷ []) ∷ lines_of rest
lines_of_first [] rest h = refl
lines_of_first (b ∷ front) rest h = rw (h.0, lines_of_first front rest h.1)

lines_of_last : (b : ℕ) (bytes : List ℕ) → HasNoFeed (b ∷ bytes) → lines_of (b ∷ bytes) ≡ (b ∷ bytes) ∷ []
lines_of_last b [] h = rw h.0
lines_of_last b (c ∷ bytes) h = rw (h.0, lines_of_last c bytes h.1)

is_whole-push : (front : List ℕ) → is_whole (front ++ 10 ∷ []) ≡ true
is_whole-push [] = refl
is_whole-push (b ∷ []) = refl
is_whole-push (b ∷ c ∷ bs) = is_whole-push (c ∷ bs)

not_whole : (bytes : List ℕ) → HasNoFeed bytes → is_whole bytes ≡ false
not_whole [] h = refl
not_whole (b ∷ []) h = h.0
not_whole (b ∷ c ∷ bs) h = not_whole (c ∷ bs) h.1

judged_first : (all : Bool) (front rest : List ℕ) → HasNoFeed front → lines_to_read all (front ++ 10 ∷ rest) ≡ (front ++ 10 ∷ []) ∷ lines_to_read all rest
judged_first true front rest h = lines_of_first front rest h
judged_first false front rest h = ap (filter is_whole) (lines_of_first front rest h) ∙ rw (is_whole-push front)

-- the place of the first line feed splits the bytes
module _ (bytes : List ℕ) (at : ℕ) (e : Some at ≡ position (λ b. eqb b 10) bytes) where
  p : (at < length bytes) × (eqb (get_or bytes at 0) 10 ≡ true) × ((k : ℕ) → k < at → eqb (get_or bytes k 0) 10 ≡ false)
  p = position-Some (λ b. eqb b 10) bytes at 0 (sym e)

  is : get_or bytes at 0 ≡ 10
  is = let h = p.1 in grind (arith, nat_tests)

  front : take (at + 1) bytes ≡ take at bytes ++ 10 ∷ []
  front = take_more bytes at 0 p.0 ∙ ap (λ b. take at bytes ++ b ∷ []) is

  whole : bytes ≡ take at bytes ++ 10 ∷ drop (at + 1) bytes
  whole = sym (take-append-drop at bytes) ∙ ap (λ t. take at bytes ++ t) (drop_more bytes at 0 p.0 ∙ ap (λ b. b ∷ drop (at + 1) bytes) is)

  no_feed : HasNoFeed (take at bytes)
  no_feed = recursion_from_All (λ b. eqb b 10 ≡ false) (take at bytes) (λ k d h.
      let l : k < at = omega (arith, length-take at bytes) in
      ap (λ b. eqb b 10) (get_or-take at bytes k d l ∙ get_or_default bytes k d 0 (omega (arith, p.0))) ∙ p.2 k l)

  pub judged_at_feed : (all : Bool) → lines_to_read all bytes ≡ take (at + 1) bytes ∷ lines_to_read all (drop (at + 1) bytes)
  judged_at_feed all = ap (lines_to_read all) whole ∙ judged_first all (take at bytes) (drop (at + 1) bytes) no_feed ∙ ap (λ t. t ∷ lines_to_read all (drop (at + 1) bytes)) (sym front)

-- where there is no line feed, the bytes are one line
module _ (bytes : List ℕ) (e : None ≡ position (λ b. eqb b 10) bytes) where
  past : (k : ℕ) → k < length bytes → k < position_or_len (λ b. eqb b 10) bytes
  past k lt = by (ltb (position_or_len (λ b. eqb b 10) bytes) (length bytes)) refl e
    where
      none_isnt_some : {A : Type 0} {x : A} → None ≡ Some x → ⊥
      none_isnt_some e = cc

      by : (b : Bool) → ltb (position_or_len (λ b. eqb b 10) bytes) (length bytes) ≡ b → None ≡ cond b (Some (position_or_len (λ b. eqb b 10) bytes)) None → k < position_or_len (λ b. eqb b 10) bytes
      by true t e' = absurd (none_isnt_some e')
      by false t e' = grind (arith, nat_tests)

  none : HasNoFeed bytes
  none = recursion_from_All (λ b. eqb b 10 ≡ false) bytes (λ k d h. fails_before_first (λ b. eqb b 10) bytes k d (past k h))

  one_line : (bs : List ℕ) → HasNoFeed bs → 0 < length bs → lines_of bs ≡ bs ∷ []
  one_line [] h lt = absurd (omega arith)
  one_line (b ∷ bs) h lt = lines_of_last b bs h

  pub judged_without_feed : 0 < length bytes → lines_to_read true bytes ≡ bytes ∷ []
  judged_without_feed lt = one_line bytes none lt

  no_whole_line : (bs : List ℕ) → HasNoFeed bs → lines_to_read false bs ≡ []
  no_whole_line [] h = refl
  no_whole_line (b ∷ bs) h = ap (filter is_whole) (lines_of_last b bs h) ∙ rw (not_whole (b ∷ bs) h)

  pub none_judged : lines_to_read false bytes ≡ []
  none_judged = no_whole_line bytes none

pub none_judged_of_nothing : (all : Bool) (bytes : List ℕ) → length bytes ≡ 0 → lines_to_read all bytes ≡ []
none_judged_of_nothing true [] e = refl
none_judged_of_nothing false [] e = refl
none_judged_of_nothing all (b ∷ bs) e = absurd (omega arith)

pub some_bytes : (n : ℕ) → false ≡ eqb n 0 → 0 < n
some_bytes n e = grind (arith, nat_tests)

pub no_bytes : (n : ℕ) → true ≡ eqb n 0 → n ≡ 0
no_bytes n e = grind (arith, nat_tests)
