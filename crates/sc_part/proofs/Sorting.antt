-- Sorting by a total order, as the toolchain's `sort_by` does it, one element after another.
use Rattle.std.proofs.Common.{◌≡◌, suc, zero, Bool, true, false, cond, List, [], ◌∷◌, ◌++◌, get_or, refl, sym, ap, ◌∙◌, arith, Ordering, Less, Equal, Greater, is_lt, is_gt, is_eq, true≢false, IsPermutation, IsSorted, ◌+◌}
use Rattle.std.specs.List.{AllByRecursion, AllPairs}
use Rattle.std.specs.Cmp.{IsTotalOrder}
use Rattle.std.specs.Ordering.{ordering_reverse}
use Rattle.std.proofs.lemmas.Cmp.{upto}
use Rattle.std.proofs.lemmas.List.Elements.{recursion_from_All, All-from_recursion}
use Rattle.std.proofs.lemmas.List.Sorted.{All-permutation, IsPermutation-cons, IsPermutation-middle, IsPermutation-refl, IsPermutation-sym, IsPermutation-trans}
use Rattle.sqlite_trees.specs.Tree.{IsAscending}
use Rattle.sqlite_keyed.specs.Lists.{insert_sorted, sort_by}
use Rattle.sqlite_keyed.proofs.ListLemmas.{all_weaker, all-append, along_permutation, ascending_weaker}
use Rattle.sqlite_keyed.proofs.SortLemmas.{IsPermutation-sort_by, sorted_unique}

-- between a fact on each two places and the same by recursion on the list
pub ascending_from_pairs : {X : Type 0} (R : X → X → Type 0) (xs : List X) → AllPairs R xs → IsAscending R xs
ascending_from_pairs R [] up = tt
ascending_from_pairs R (x ∷ xs) up =
    (recursion_from_All (R x) xs (λ k d lt. up 0 (suc k) d (omega arith) (omega arith)), ascending_from_pairs R xs (λ i j d l m. up (suc i) (suc j) d (omega arith) (omega arith)))

pub pairs_from_ascending : {X : Type 0} (R : X → X → Type 0) (xs : List X) → IsAscending R xs → AllPairs R xs
pairs_from_ascending R [] up i j d l m = absurd (omega arith)
pairs_from_ascending R (x ∷ xs) up zero zero d l m = absurd (omega arith)
pairs_from_ascending R (x ∷ xs) up zero (suc j) d l m = All-from_recursion (R x) xs up.0 j d (omega arith)
pairs_from_ascending R (x ∷ xs) up (suc i) zero d l m = absurd (omega arith)
pairs_from_ascending R (x ∷ xs) up (suc i) (suc j) d l m = pairs_from_ascending R xs up.1 i j d (omega arith) (omega arith)

module _ {X : Type 0} (cmp : X → X → Ordering) (total : IsTotalOrder cmp) where
  abbrev AtMost : X → X → Type 0
  AtMost a b = is_gt (cmp a b) ≡ false

  all-insert_sorted : (P : X → Type 0) (new : X) (xs : List X) → P new → AllByRecursion P xs → AllByRecursion P (insert_sorted cmp new xs)
  all-insert_sorted P new [] h all = (h, tt)
  all-insert_sorted P new (x ∷ xs) h all =
      elim (is_gt (cmp new x)) as (λ b. AllByRecursion P (cond b (x ∷ insert_sorted cmp new xs) (new ∷ x ∷ xs))) [ true ↦ (all.0, all-insert_sorted P new xs h all.1) | false ↦ (h, all) ]

  pub all-sort_by : (P : X → Type 0) (xs : List X) → AllByRecursion P xs → AllByRecursion P (sort_by cmp xs)
  all-sort_by P [] all = tt
  all-sort_by P (x ∷ xs) all = all-insert_sorted P x _ all.0 (all-sort_by P xs all.1)

  -- without ties a sorted list rises
  rises-insert_sorted : (new : X) (xs : List X) → AllByRecursion (λ y. is_eq (cmp new y) ≡ false) xs → IsAscending (λ a b. cmp a b ≡ Less) xs → IsAscending (λ a b. cmp a b ≡ Less) (insert_sorted cmp new xs)
  rises-insert_sorted new [] apart up = (tt, tt)
  rises-insert_sorted new (x ∷ xs) apart up = go (cmp new x) refl (rises-insert_sorted new xs apart.1 up.1)
    where
      go : (o : Ordering) → cmp new x ≡ o → IsAscending (λ a b. cmp a b ≡ Less) (insert_sorted cmp new xs)
          → IsAscending (λ a b. cmp a b ≡ Less) (cond (is_gt o) (x ∷ insert_sorted cmp new xs) (new ∷ x ∷ xs))
      go Less e more = ((e, all_weaker _ (λ y. cmp new y ≡ Less) (λ y. total.trans new x y e) xs up.0), up)
      go Equal e more = absurd (true≢false (sym (ap is_eq e) ∙ apart.0))
      go Greater e more = (all-insert_sorted _ new xs (total.antisymm x new ∙ ap ordering_reverse e) up.0, more)

  pub rises-sort_by : (xs : List X) → IsAscending (λ a b. is_eq (cmp a b) ≡ false) xs → IsAscending (λ a b. cmp a b ≡ Less) (sort_by cmp xs)
  rises-sort_by [] apart = tt
  rises-sort_by (x ∷ xs) apart = rises-insert_sorted x _ (all-sort_by _ xs apart.0) (rises-sort_by xs apart.1)

  -- what is at most all others goes first
  insert_first : (x : X) (m : List X) → AllByRecursion (AtMost x) m → insert_sorted cmp x m ≡ x ∷ m
  insert_first x [] least = refl
  insert_first x (y ∷ m) least = rw least.0 refl

  above : (c o x : X) → is_gt (cmp c o) ≡ true → is_gt (cmp c x) ≡ false → is_gt (cmp x o) ≡ true
  above c o x h up = go (is_gt (cmp x o)) refl
    where
      go : (b : Bool) → is_gt (cmp x o) ≡ b → is_gt (cmp x o) ≡ true
      go true e = e
      go false e = absurd (true≢false (sym h ∙ upto total c x o up e))

  -- where the first of a sorted list comes after o, all do
  pub all_above : (c o : X) (cs : List X) → IsAscending AtMost (c ∷ cs) → is_gt (cmp c o) ≡ true → AllByRecursion (λ x. is_gt (cmp x o) ≡ true) (c ∷ cs)
  all_above c o cs up h = (h, all_weaker _ (λ x. is_gt (cmp x o) ≡ true) (λ x. above c o x h) cs up.0)

  -- what isn't after the others goes first
  pub first_comes : (c o : X) (cs rest : List X) → IsAscending AtMost (c ∷ cs) → is_gt (cmp c o) ≡ false → AllByRecursion (AtMost o) rest
      → sort_by cmp ((c ∷ cs) ++ rest) ≡ c ∷ sort_by cmp (cs ++ rest)
  first_comes c o cs rest up h all =
      insert_first c _ (all-sort_by (AtMost c) (cs ++ rest) (all-append _ cs rest up.0 (all_weaker _ (AtMost c) (λ x. upto total c o x h) rest all)))

  -- what is before all that come and not after the others goes first
  pub first_stays : (o : X) (cs rest : List X) → AllByRecursion (λ c. is_gt (cmp c o) ≡ true) cs → AllByRecursion (AtMost o) rest
      → sort_by cmp (cs ++ o ∷ rest) ≡ o ∷ sort_by cmp (cs ++ rest)
  first_stays o [] rest far all = insert_first o _ (all-sort_by (AtMost o) rest all)
  first_stays o (c ∷ cs) rest far all = rw (first_stays o cs rest far.1 all, far.0) refl

  -- a sorted list stays
  pub sort_by-sorted : (xs : List X) → IsAscending AtMost xs → sort_by cmp xs ≡ xs
  sort_by-sorted [] up = refl
  sort_by-sorted (x ∷ xs) up = rw (sort_by-sorted xs up.1) (insert_first x xs up.0)

  pub at_most_from_rises : (xs : List X) → IsAscending (λ a b. cmp a b ≡ Less) xs → IsAscending AtMost xs
  at_most_from_rises xs up = ascending_weaker _ AtMost (λ a b e. ap is_gt e) xs up

  up-insert_sorted : (new : X) (xs : List X) → IsAscending AtMost xs → IsAscending AtMost (insert_sorted cmp new xs)
  up-insert_sorted new [] up = (tt, tt)
  up-insert_sorted new (x ∷ xs) up = go (cmp new x) refl (up-insert_sorted new xs up.1)
    where
      go : (o : Ordering) → cmp new x ≡ o → IsAscending AtMost (insert_sorted cmp new xs)
          → IsAscending AtMost (cond (is_gt o) (x ∷ insert_sorted cmp new xs) (new ∷ x ∷ xs))
      go Less e more = ((ap is_gt e, all_weaker _ (AtMost new) (λ y. upto total new x y (ap is_gt e)) xs up.0), up)
      go Equal e more = ((ap is_gt e, all_weaker _ (AtMost new) (λ y. upto total new x y (ap is_gt e)) xs up.0), up)
      go Greater e more = (all-insert_sorted (AtMost x) new xs (ap is_gt (total.antisymm x new ∙ ap ordering_reverse e)) up.0, more)

  pub up-sort_by : (xs : List X) → IsAscending AtMost (sort_by cmp xs)
  up-sort_by [] = tt
  up-sort_by (x ∷ xs) = up-insert_sorted x _ (up-sort_by xs)

  sorted_from_up : (xs : List X) → IsAscending AtMost xs → IsSorted cmp xs
  sorted_from_up xs up k d low lt = back (cmp (get_or xs (k + 1) d) (get_or xs k d)) refl (pairs_from_ascending AtMost xs up k (k + 1) d (omega arith) lt)
    where
      back : (o : Ordering) → cmp (get_or xs (k + 1) d) (get_or xs k d) ≡ o → is_gt (cmp (get_or xs k d) (get_or xs (k + 1) d)) ≡ false → is_lt o ≡ false
      back Less e h = absurd (true≢false (sym (ap is_gt (total.antisymm (get_or xs k d) (get_or xs (k + 1) d) ∙ ap ordering_reverse e)) ∙ h))
      back Equal e h = refl
      back Greater e h = refl

  -- lists without ties that have the same elements are sorted alike
  pub sorted_alike : (xs ys : List X) → IsAscending (λ a b. is_eq (cmp a b) ≡ false) xs → IsPermutation xs ys → sort_by cmp ys ≡ sort_by cmp xs
  sorted_alike xs ys apart same =
      sorted_unique cmp total (sort_by cmp xs) (sort_by cmp ys) (rises-sort_by xs apart)
      (IsPermutation-trans _ _ _ (IsPermutation-sort_by cmp total xs) (IsPermutation-trans _ _ _ same (IsPermutation-sym _ _ (IsPermutation-sort_by cmp total ys))))
      (sorted_from_up _ (up-sort_by ys))

  -- and so have one listing that rises
  pub one_rising : (xs ys zs : List X) → IsAscending (λ a b. cmp a b ≡ Less) ys → IsAscending (λ a b. cmp a b ≡ Less) zs → IsPermutation xs ys → IsPermutation xs zs → ys ≡ zs
  one_rising xs ys zs p q same other =
      sym (sorted_unique cmp total ys zs p (IsPermutation-trans _ _ _ (IsPermutation-sym _ _ same) other) (sorted_from_up zs (at_most_from_rises zs q)))

-- what holds of each two elements, in whatever order, holds of them in another list of the same
pub any_order : {X : Type 0} (S : X → X → Type 0) → ((a b : X) → S a b → S b a) → (xs ys : List X) → IsPermutation xs ys → IsAscending S xs → IsAscending S ys
any_order {X} S turned xs ys same up = (along_permutation Keeps (λ l. (IsPermutation-refl l, λ u. u)) under exchanged (λ a b d f g. (IsPermutation-trans a b d f.0 g.0, λ u. g.1 (f.1 u))) xs ys same).1 up
  where
    Keeps : List X → List X → Type 0
    Keeps a b = IsPermutation a b × (IsAscending S a → IsAscending S b)

    under : (x : X) (a b : List X) → Keeps a b → Keeps (x ∷ a) (x ∷ b)
    under x a b f = (IsPermutation-cons x a b f.0, λ u. (recursion_from_All (S x) b (All-permutation (S x) a b f.0 (All-from_recursion (S x) a u.0)), f.1 u.1))

    exchanged : (x y : X) (a : List X) → Keeps (x ∷ y ∷ a) (y ∷ x ∷ a)
    exchanged x y a = (IsPermutation-middle (x ∷ []) y a, λ u. ((turned x y u.0.0, u.1.0), (u.0.1, u.1.1)))
