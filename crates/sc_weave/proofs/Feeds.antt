-- Bytes that end with a line feed, and bytes without one.
use Rattle.std.proofs.Common.{◌≡◌, ℕ, ◌+◌, ◌-◌, ◌<◌, ◌≤◌, ◌⊎◌, Bool, true, false, eqb, cond, List, [], ◌∷◌, ◌++◌, length, take, drop, get_or, inl, inr, refl, sym, ◌∙◌, ap, subst, arith, append_assoc}
use Rattle.std.specs.List.{filter, AllByRecursion}
use Rattle.std.proofs.lemmas.List.{get_or-drop, get_or_default, length-drop, take_more}
use Rattle.std.proofs.lemmas.List.Elements.{recursion_from_All}
use Rattle.std.proofs.lemmas.List.Folds.{concat-append}
use Rattle.std.proofs.lemmas.Bool.Decides.{nat_tests}
use Rattle.sc_outside.specs.Lines.{lines_of, lines_to_read, is_whole, onto_first}
use Rattle.sc_outside.proofs.Joined.{concat-lines_of}
use Rattle.sc_weave.specs.Inside.{HasNoFeed, IsBehindFeeds, AreWhole}

pub whole_nothing : AreWhole [] []
whole_nothing = record { split = λ all rest. refl; joined = refl }

pub whole_both : (a b : List ℕ) (xs ys : List (List ℕ)) → AreWhole a xs → AreWhole b ys → AreWhole (a ++ b) (xs ++ ys)
whole_both a b xs ys p q = record {
  split = λ all rest. ap (lines_to_read all) (append_assoc a b rest) ∙ p.split all (b ++ rest) ∙ ap (λ t. xs ++ t) (q.split all rest) ∙ sym (append_assoc xs ys (lines_to_read all rest));
  joined = concat-append xs ys ∙ (λ k. p.joined k ++ q.joined k);
}

abbrev Whole : List (List ℕ) → Type 0
Whole lines = AllByRecursion (λ line. is_whole line ≡ true) lines

whole_longer : (b : ℕ) (line : List ℕ) → is_whole line ≡ true → is_whole (b ∷ line) ≡ true
whole_longer b [] h = absurd (grind arith)
whole_longer b (c ∷ cs) h = h

all_whole : (xs ys : List (List ℕ)) → Whole xs → filter is_whole (xs ++ ys) ≡ xs ++ filter is_whole ys
all_whole [] ys h = refl
all_whole (x ∷ xs) ys h = rw h.0 (ap (λ t. x ∷ t) (all_whole xs ys h.1))

-- the lines of bytes up to a line feed, and what stands behind it
abbrev Closed : List ℕ → List ℕ → Type 0
Closed front rest = (line : List ℕ) × (lines : List (List ℕ)) × (lines_of (front ++ 10 ∷ []) ≡ line ∷ lines) × (lines_of (front ++ 10 ∷ rest) ≡ (line ∷ lines) ++ lines_of rest) × Whole (line ∷ lines)

closed : (front rest : List ℕ) → Closed front rest
closed [] rest = (10 ∷ [], [], refl, refl, (refl, tt))
closed (b ∷ front) rest = by (closed front rest) (eqb b 10)
  where
    by : Closed front rest → (t : Bool) → (line : List ℕ) × (lines : List (List ℕ)) × (cond t ((10 ∷ []) ∷ lines_of (front ++ 10 ∷ [])) (onto_first b (lines_of (front ++ 10 ∷ []))) ≡ line ∷ lines)
        × (cond t ((10 ∷ []) ∷ lines_of (front ++ 10 ∷ rest)) (onto_first b (lines_of (front ++ 10 ∷ rest))) ≡ (line ∷ lines) ++ lines_of rest) × Whole (line ∷ lines)
    by r true = (10 ∷ [], r.0 ∷ r.1, ap (λ t. (10 ∷ []) ∷ t) r.2, ap (λ t. (10 ∷ []) ∷ t) r.3, (refl, r.4))
    by r false = (b ∷ r.0, r.1, ap (onto_first b) r.2, ap (onto_first b) r.3, (whole_longer b r.0 r.4.0, r.4.1))

-- bytes that end with a line feed are whole lines
pub whole_at_feed : (front : List ℕ) → AreWhole (front ++ 10 ∷ []) (lines_of (front ++ 10 ∷ []))
whole_at_feed front = record {
  split = split;
  joined = concat-lines_of (front ++ 10 ∷ []);
}
  where
    all_lines : (rest : List ℕ) → lines_of ((front ++ 10 ∷ []) ++ rest) ≡ lines_of (front ++ 10 ∷ []) ++ lines_of rest
    all_lines rest = let r = closed front rest in ap lines_of (append_assoc front (10 ∷ []) rest) ∙ r.3 ∙ ap (λ t. t ++ lines_of rest) (sym r.2)

    split : (all : Bool) (rest : List ℕ) → lines_to_read all ((front ++ 10 ∷ []) ++ rest) ≡ lines_of (front ++ 10 ∷ []) ++ lines_to_read all rest
    split true rest = all_lines rest
    split false rest =
        let r = closed front rest in
        ap (filter is_whole) (all_lines rest ∙ ap (λ t. t ++ lines_of rest) r.2) ∙ all_whole (r.0 ∷ r.1) (lines_of rest) r.4 ∙ ap (λ t. t ++ filter is_whole (lines_of rest)) (sym r.2)

-- ---- bytes without a line feed

pub one_line : (b : ℕ) (bytes : List ℕ) → HasNoFeed (b ∷ bytes) → lines_of (b ∷ bytes) ≡ (b ∷ bytes) ∷ []
one_line b [] h = rw h.0
one_line b (c ∷ bytes) h = rw (h.0, one_line c bytes h.1)

not_whole : (bytes : List ℕ) → HasNoFeed bytes → is_whole bytes ≡ false
not_whole [] h = refl
not_whole (b ∷ []) h = h.0
not_whole (b ∷ c ∷ bs) h = not_whole (c ∷ bs) h.1

pub no_whole_line : (bytes : List ℕ) → HasNoFeed bytes → lines_to_read false bytes ≡ []
no_whole_line [] h = refl
no_whole_line (b ∷ bytes) h = ap (filter is_whole) (one_line b bytes h) ∙ rw (not_whole (b ∷ bytes) h)

-- ---- the place behind the last line feed

module _ (bytes : List ℕ) (at : ℕ) (within : at ≤ length bytes) (none : (k : ℕ) → at ≤ k → k < length bytes → eqb (get_or bytes k 0) 10 ≡ true → ⊥) where
  not_true : (t : Bool) → (t ≡ true → ⊥) → t ≡ false
  not_true true n = absurd (n refl)
  not_true false n = refl

  pub no_feed_behind : HasNoFeed (drop at bytes)
  no_feed_behind = recursion_from_All (λ b. eqb b 10 ≡ false) (drop at bytes) (λ k d h.
      let l : k < length bytes - at = subst (λ n. k < n) (length-drop at bytes) h in
      let e : get_or (drop at bytes) k d ≡ get_or bytes (at + k) 0 = get_or-drop at bytes k d ∙ get_or_default bytes (at + k) d 0 (omega (arith, l, within)) in
      ap (λ b. eqb b 10) e ∙ not_true (eqb (get_or bytes (at + k) 0) 10) (none (at + k) (omega arith) (omega (arith, l, within))))

pub feed_before : (bytes : List ℕ) (at : ℕ) → at < length bytes → eqb (get_or bytes at 0) 10 ≡ true → take (at + 1) bytes ≡ take at bytes ++ 10 ∷ []
feed_before bytes at lt e = let h : get_or bytes at 0 ≡ 10 = grind (arith, nat_tests) in take_more bytes at 0 lt ∙ ap (λ b. take at bytes ++ b ∷ []) h

pub behind_feed : (bytes : List ℕ) (at : ℕ) → at < length bytes → eqb (get_or bytes at 0) 10 ≡ true → ((k : ℕ) → at + 1 ≤ k → k < length bytes → eqb (get_or bytes k 0) 10 ≡ true → ⊥) → IsBehindFeeds bytes (at + 1)
behind_feed bytes at lt e none = record {
  within = omega (arith, lt);
  behind = no_feed_behind bytes (at + 1) (omega (arith, lt)) none;
  feed = inr (take at bytes, feed_before bytes at lt e);
}

pub behind_none : (bytes : List ℕ) → ((k : ℕ) → 0 ≤ k → k < length bytes → eqb (get_or bytes k 0) 10 ≡ true → ⊥) → IsBehindFeeds bytes 0
behind_none bytes none = record { within = omega arith; behind = no_feed_behind bytes 0 (omega arith) none; feed = inl refl }

pub feed_there : (bytes : List ℕ) (at : ℕ) → IsBehindFeeds bytes at → (at ≡ 0 → ⊥) → (front : List ℕ) × (take at bytes ≡ front ++ 10 ∷ [])
feed_there bytes at b n = by b.feed
  where
    by : ((at ≡ 0) ⊎ ((front : List ℕ) × (take at bytes ≡ front ++ 10 ∷ []))) → (front : List ℕ) × (take at bytes ≡ front ++ 10 ∷ [])
    by (inl e) = absurd (n e)
    by (inr f) = f
