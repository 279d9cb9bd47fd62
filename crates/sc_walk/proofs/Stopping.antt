-- A walk that stops at the first part which can't change the first n loses none of them.
use Rattle.std.proofs.Common.{◌≡◌, ◌≤◌, ℕ, suc, zero, ◌+◌, Bool, true, false, cond, List, [], ◌∷◌, ◌++◌, take, filter, length, refl, sym, ap, ◌∙◌, subst, arith, Ordering, is_gt, true≢false, length-append, IsPermutation, append_assoc}
use Rattle.std.specs.Prelude.{flat_map, nat_le}
use Rattle.std.specs.List.{AllByRecursion}
use Rattle.std.proofs.lemmas.List.Elements.{filter-append}
use Rattle.std.proofs.lemmas.List.Sorted.{length_permutation}
use Rattle.std.proofs.lemmas.Bool.Decides.{nat_tests}
use Rattle.sqlite_trees.specs.Tree.{IsAscending}
use Rattle.sqlite_keyed.specs.Lists.{insert_sorted, sort_by}
use Rattle.sqlite_keyed.proofs.ListLemmas.{all_weaker, all-filter, all-append, all-flat_map, filter_none, IsPermutation-filter}

-- how many of these lie strictly before the front of a part
abbrev pub ahead : {X P : Type 0} → (P → X → Bool) → P → List X → ℕ
ahead beyond p xs = length (filter (beyond p) xs)

-- a part is opened where at most so many of all that are asked for lie strictly before its front
abbrev pub is_opened : {X P : Type 0} → (P → X → Bool) → ℕ → List X → P → Bool
is_opened beyond limit asked p = nat_le (ahead beyond p asked) limit

flat_map_both : {A B : Type 0} (f : A → List B) (xs ys : List A) → flat_map f (xs ++ ys) ≡ flat_map f xs ++ flat_map f ys
flat_map_both f [] ys = refl
flat_map_both f (x ∷ xs) ys = ap (λ l. f x ++ l) (flat_map_both f xs ys) ∙ sym (append_assoc (f x) (flat_map f xs) (flat_map f ys))

module _ {X P : Type 0} (cmp : X → X → Ordering) (asked : X → Bool) (items : P → List X) (beyond : P → X → Bool)
    (back : (p : P) (x y : X) → is_gt (cmp x y) ≡ false → beyond p y ≡ true → beyond p x ≡ true) where
  abbrev pub found : List P → List X
  found ps = filter asked (flat_map items ps)

  -- no item of a part lies strictly before its front
  abbrev pub Own : P → Type 0
  Own p = AllByRecursion (λ x. beyond p x ≡ false) (items p)

  -- the front of the second isn't before that of the first
  abbrev pub Rises : P → P → Type 0
  Rises p q = (x : X) → beyond p x ≡ true → beyond q x ≡ true

  abbrev pub AtMost : X → X → Type 0
  AtMost a b = is_gt (cmp a b) ≡ false

  not_yet : (p q : P) → Rises p q → (x : X) → beyond q x ≡ false → beyond p x ≡ false
  not_yet p q up x e = go (beyond p x) refl
    where
      go : (b : Bool) → beyond p x ≡ b → beyond p x ≡ false
      go true h = absurd (true≢false (sym (up x h) ∙ e))
      go false h = h

  later_own : (c : P) (qs : List P) → AllByRecursion (Rises c) qs → AllByRecursion Own qs → AllByRecursion (λ q. AllByRecursion (λ x. beyond c x ≡ false) (items q)) qs
  later_own c [] up own = tt
  later_own c (q ∷ qs) up own = (all_weaker (λ x. beyond q x ≡ false) (λ x. beyond c x ≡ false) (not_yet c q up.0) (items q) own.0, later_own c qs up.1 own.1)

  -- no item of a part or of a later one lies strictly before its front
  pub rest_none : (c : P) (after : List P) → AllByRecursion (Rises c) after → AllByRecursion Own (c ∷ after) → AllByRecursion (λ x. beyond c x ≡ false) (found (c ∷ after))
  rest_none c after up own =
      all-filter (λ x. beyond c x ≡ false) asked (flat_map items (c ∷ after))
      (all-append (λ x. beyond c x ≡ false) (items c) (flat_map items after) own.0 (all-flat_map (λ x. beyond c x ≡ false) items after (later_own c after up own.1)))

  found_both : (xs ys : List P) → found (xs ++ ys) ≡ found xs ++ found ys
  found_both xs ys = ap (filter asked) (flat_map_both items xs ys) ∙ filter-append asked (flat_map items xs) (flat_map items ys)

  ahead_both : (c : P) (xs ys : List X) → ahead beyond c (xs ++ ys) ≡ ahead beyond c xs + ahead beyond c ys
  ahead_both c xs ys = ap length (filter-append (beyond c) xs ys) ∙ length-append (filter (beyond c) xs) (filter (beyond c) ys)

  ahead_none : (c : P) (xs : List X) → AllByRecursion (λ x. beyond c x ≡ false) xs → ahead beyond c xs ≡ 0
  ahead_none c xs none = ap length (filter_none (beyond c) xs none)

  -- what lies strictly before the front of a part is found in the parts before it
  pub ahead_before : (c : P) (before after : List P) → AllByRecursion (Rises c) after → AllByRecursion Own (c ∷ after)
      → ahead beyond c (found (before ++ c ∷ after)) ≡ ahead beyond c (found before)
  ahead_before c before after up own =
      let both = ap (ahead beyond c) (found_both before (c ∷ after)) ∙ ahead_both c (found before) (found (c ∷ after)) in
      let none = ahead_none c (found (c ∷ after)) (rest_none c after up own) in
      omega (arith, both, none)

  ahead_rises : (p q : P) → Rises p q → (xs : List X) → ahead beyond p xs ≤ ahead beyond q xs
  ahead_rises p q up [] = omega arith
  ahead_rises p q up (x ∷ xs) = go (beyond p x) refl (beyond q x) refl (ahead_rises p q up xs)
    where
      go : (a : Bool) → beyond p x ≡ a → (b : Bool) → beyond q x ≡ b → length (filter (beyond p) xs) ≤ length (filter (beyond q) xs)
          → length (cond a (x ∷ filter (beyond p) xs) (filter (beyond p) xs)) ≤ length (cond b (x ∷ filter (beyond q) xs) (filter (beyond q) xs))
      go true h true g le = omega arith
      go true h false g le = absurd (true≢false (sym (up x h) ∙ g))
      go false h true g le = omega arith
      go false h false g le = le

  -- ---- enough are kept

  pub record Done (n : ℕ) (kept : List X) (c : P) : Type 0 where
    pub full : length kept ≡ n
    pub before : AllByRecursion (λ x. beyond c x ≡ true) kept

  pub done_from_count : (n : ℕ) (c : P) (l : List X) → IsAscending AtMost l → n ≤ ahead beyond c l → Done n (take n l) c
  done_from_count zero c l up le = record { full = refl; before = tt }
  done_from_count (suc n) c [] up le = absurd (omega arith)
  done_from_count (suc n) c (x ∷ l) up le = go (beyond c x) refl le (done_from_count n c l up.1)
    where
      none : (y : X) → beyond c x ≡ false → AtMost x y → beyond c y ≡ false
      none y e le = by (beyond c y) refl
        where
          by : (b : Bool) → beyond c y ≡ b → beyond c y ≡ false
          by true h = absurd (true≢false (sym (back c x y le h) ∙ e))
          by false h = h

      go : (b : Bool) → beyond c x ≡ b → suc n ≤ length (cond b (x ∷ filter (beyond c) l) (filter (beyond c) l)) → (n ≤ ahead beyond c l → Done n (take n l) c) → Done (suc n) (x ∷ take n l) c
      go true e le more = let d = more (omega arith) in record { full = ap suc d.full; before = (e, d.before) }
      go false e le more =
          let zero_left = ahead_none c l (all_weaker (AtMost x) (λ y. beyond c y ≡ false) (λ y. none y e) l up.0) in
          absurd (omega (arith, zero_left, le))

  pub count_from_done : (n : ℕ) (c : P) (l : List X) → Done n (take n l) c → n ≤ ahead beyond c l
  count_from_done zero c l d = omega arith
  count_from_done (suc n) c [] d = let f = d.full in absurd (omega (arith, f))
  count_from_done (suc n) c (x ∷ l) d = go (beyond c x) d.before.0 (count_from_done n c l (record { full = (let f = d.full in omega (arith, f)); before = d.before.1 }))
    where
      go : (b : Bool) → b ≡ true → n ≤ ahead beyond c l → suc n ≤ length (cond b (x ∷ filter (beyond c) l) (filter (beyond c) l))
      go true e le = omega arith
      go false e le = cc

  -- ---- the first n stay

  not_taken : (n : ℕ) (c : P) (b : X) (s : List X) → n ≤ length s → beyond c b ≡ false → AllByRecursion (λ x. beyond c x ≡ true) (take n s) → take n (insert_sorted cmp b s) ≡ take n s
  not_taken zero c b s le e all = refl
  not_taken (suc n) c b [] le e all = absurd (omega arith)
  not_taken (suc n) c b (y ∷ ys) le e all = go (is_gt (cmp b y)) refl (not_taken n c b ys (omega arith) e all.1)
    where
      go : (g : Bool) → is_gt (cmp b y) ≡ g → take n (insert_sorted cmp b ys) ≡ take n ys → take (suc n) (cond g (y ∷ insert_sorted cmp b ys) (b ∷ y ∷ ys)) ≡ take (suc n) (y ∷ ys)
      go true h same = ap (λ t. y ∷ t) same
      go false h same = absurd (true≢false (sym (back c b y h all.0) ∙ e))

  full_long : (n : ℕ) (s : List X) → length (take n s) ≡ n → n ≤ length s
  full_long zero s e = omega arith
  full_long (suc n) [] e = absurd (omega (arith, e))
  full_long (suc n) (x ∷ s) e = let h = full_long n s (omega (arith, e)) in omega (arith, h)

  pub none_comes : (n : ℕ) (c : P) (xs s : List X) → AllByRecursion (λ x. beyond c x ≡ false) xs → Done n (take n (sort_by cmp s)) c
      → take n (sort_by cmp (xs ++ s)) ≡ take n (sort_by cmp s)
  none_comes n c [] s none d = refl
  none_comes n c (x ∷ xs) s none d =
      let same = none_comes n c xs s none.1 d in
      let e : Done n (take n (sort_by cmp (xs ++ s))) c = subst (λ t. Done n t c) (sym same) d in
      not_taken n c x (sort_by cmp (xs ++ s)) (full_long n _ e.full) none.0 e.before ∙ same

  -- ---- which parts are opened

  ahead_same : (c : P) (xs ys : List X) → IsPermutation xs ys → ahead beyond c ys ≡ ahead beyond c xs
  ahead_same c xs ys p = length_permutation (filter (beyond c) xs) (filter (beyond c) ys) (IsPermutation-filter (beyond c) xs ys p)

  within : (m limit : ℕ) (b : Bool) → nat_le m limit ≡ b → (limit + 1 ≤ m → ⊥) → nat_le m limit ≡ true
  within m limit true e not = e
  within m limit false e not = absurd (not (grind (arith, nat_tests, e)))

  past : (m limit : ℕ) (b : Bool) → nat_le m limit ≡ b → limit + 1 ≤ m → nat_le m limit ≡ false
  past m limit true e le = absurd (past_false m limit e le)
    where
      past_false : (m limit : ℕ) → nat_le m limit ≡ true → limit + 1 ≤ m → ⊥
      past_false m limit e le = grind (arith, nat_tests)
  past m limit false e le = e

  -- a part at which the walk goes on is opened
  pub goes_on : (limit : ℕ) (c : P) (before after : List P) (all kept : List X) → AllByRecursion (Rises c) after → AllByRecursion Own (c ∷ after)
      → IsPermutation (found (before ++ c ∷ after)) all → IsAscending AtMost kept → IsPermutation kept (found before) → ¬ Done (limit + 1) (take (limit + 1) kept) c
      → is_opened beyond limit all c ≡ true
  goes_on limit c before after all kept up own same sorted perm not =
      let a = ahead_same c (found (before ++ c ∷ after)) all same in
      let b = ahead_before c before after up own in
      let d = ahead_same c kept (found before) perm in
      within (ahead beyond c all) limit (nat_le (ahead beyond c all) limit) refl (λ le. not (done_from_count (limit + 1) c kept sorted (omega (arith, a, b, d, le))))

  -- from the part on at which it stops none is
  pub stops : (limit : ℕ) (c : P) (before after : List P) (all kept : List X) → AllByRecursion (Rises c) after
      → IsPermutation (found (before ++ c ∷ after)) all → IsPermutation kept (found before) → Done (limit + 1) (take (limit + 1) kept) c
      → AllByRecursion (λ q. is_opened beyond limit all q ≡ false) (c ∷ after)
  stops limit c before after all kept up same perm done =
      (each c (λ x e. e), all_weaker (Rises c) (λ q. is_opened beyond limit all q ≡ false) each after up)
    where
      each : (q : P) → Rises c q → is_opened beyond limit all q ≡ false
      each q rises =
          let a = ahead_same q (found (before ++ c ∷ after)) all same in
          let b = ap (ahead beyond q) (found_both before (c ∷ after)) ∙ ahead_both q (found before) (found (c ∷ after)) in
          let d = ahead_rises c q rises (found before) in
          let e = ahead_same c kept (found before) perm in
          let f = count_from_done (limit + 1) c kept done in
          past (ahead beyond q all) limit (nat_le (ahead beyond q all) limit) refl (omega (arith, a, b, d, e, f))

-- narrower bounds open no part that wider ones leave closed
pub narrow_opens_less : {X P : Type 0} (beyond : P → X → Bool) (limit : ℕ) (asked : List X) (wide narrow : P) → ((x : X) → beyond wide x ≡ true → beyond narrow x ≡ true)
    → is_opened beyond limit asked narrow ≡ true → is_opened beyond limit asked wide ≡ true
narrow_opens_less {X} {P} beyond limit asked wide narrow f e = go (nat_le (length (filter (beyond wide) asked)) limit) refl
  where
    fewer : (xs : List X) → length (filter (beyond wide) xs) ≤ length (filter (beyond narrow) xs)
    fewer [] = omega arith
    fewer (x ∷ xs) = by (beyond wide x) refl (beyond narrow x) refl (fewer xs)
      where
        by : (a : Bool) → beyond wide x ≡ a → (b : Bool) → beyond narrow x ≡ b → length (filter (beyond wide) xs) ≤ length (filter (beyond narrow) xs)
            → length (cond a (x ∷ filter (beyond wide) xs) (filter (beyond wide) xs)) ≤ length (cond b (x ∷ filter (beyond narrow) xs) (filter (beyond narrow) xs))
        by true h true g le = omega arith
        by true h false g le = absurd (true≢false (sym (f x h) ∙ g))
        by false h true g le = omega arith
        by false h false g le = le

    go : (b : Bool) → nat_le (length (filter (beyond wide) asked)) limit ≡ b → nat_le (length (filter (beyond wide) asked)) limit ≡ true
    go true h = h
    go false h = let le = fewer asked in grind (arith, nat_tests, h, e, le)
