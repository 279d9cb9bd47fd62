-- Sorted lists, facts of each two elements, and filters.
use Rattle.std.proofs.Common.{◌≡◌, zero, suc, Bool, true, false, not, cond, List, [], ◌∷◌, filter, refl, sym, ap, ◌∙◌, arith, add-one, Ordering, Less, Equal, Greater, is_lt, is_gt, is_eq, true≢false, IsPermutation, IsSorted}
use Rattle.std.specs.List.{AllByRecursion, AllPairs, list_any}
use Rattle.std.specs.Cmp.{IsTotalOrder}
use Rattle.std.specs.Ordering.{ordering_reverse}
use Rattle.std.proofs.lemmas.Cmp.{upto}
use Rattle.std.proofs.lemmas.List.Elements.{recursion_from_All, All-from_recursion}
use Rattle.std.proofs.lemmas.List.Sorted.{IsPermutation-sym, IsPermutation-trans}
use Rattle.sqlite_trees.specs.Tree.{IsAscending}
use Rattle.sqlite_keyed.specs.Lists.{insert_sorted, sort_by}
use Rattle.sqlite_keyed.proofs.ListLemmas.{all_weaker, filter_all, none_from_any}
use Rattle.sqlite_keyed.proofs.SortLemmas.{IsPermutation-sort_by, sorted_is-sort_by}

-- ---- facts of each two places, and the same by recursion on the list

pub ascending_from_pairs : {X : Type 0} (R : X → X → Type 0) (xs : List X) → AllPairs R xs → IsAscending R xs
ascending_from_pairs R [] up = tt
ascending_from_pairs R (x ∷ xs) up =
    (recursion_from_All (R x) xs (λ k d lt. up 0 (suc k) d (omega arith) (omega arith)), ascending_from_pairs R xs (λ i j d l m. up (suc i) (suc j) d (omega arith) (omega arith)))

pub pairs_from_ascending : {X : Type 0} (R : X → X → Type 0) (xs : List X) → IsAscending R xs → AllPairs R xs
pairs_from_ascending R [] up i j d l m = absurd (omega arith)
pairs_from_ascending R (x ∷ xs) up zero zero d l m = absurd (omega arith)
pairs_from_ascending R (x ∷ xs) up zero (suc j) d l m = All-from_recursion (R x) xs up.0 j d (omega arith)
pairs_from_ascending R (x ∷ xs) up (suc i) zero d l m = absurd (omega arith)
pairs_from_ascending R (x ∷ xs) up (suc i) (suc j) d l m = pairs_from_ascending R xs up.1 i j d (omega arith) (omega arith)

-- ---- sorted lists

module _ {X : Type 0} (cmp : X → X → Ordering) (total : IsTotalOrder cmp) where
  abbrev AtMost : X → X → Type 0
  AtMost a b = is_gt (cmp a b) ≡ false

  all-insert_sorted : (P : X → Type 0) (new : X) (xs : List X) → P new → AllByRecursion P xs → AllByRecursion P (insert_sorted cmp new xs)
  all-insert_sorted P new [] h all = (h, tt)
  all-insert_sorted P new (x ∷ xs) h all =
      elim (is_gt (cmp new x)) as (λ b. AllByRecursion P (cond b (x ∷ insert_sorted cmp new xs) (new ∷ x ∷ xs))) [ true ↦ (all.0, all-insert_sorted P new xs h all.1) | false ↦ (h, all) ]

  pub all-sort_by : (P : X → Type 0) (xs : List X) → AllByRecursion P xs → AllByRecursion P (sort_by cmp xs)
  all-sort_by P [] all = tt
  all-sort_by P (x ∷ xs) all = all-insert_sorted P x _ all.0 (all-sort_by P xs all.1)

  up-insert_sorted : (new : X) (xs : List X) → IsAscending AtMost xs → IsAscending AtMost (insert_sorted cmp new xs)
  up-insert_sorted new [] up = (tt, tt)
  up-insert_sorted new (x ∷ xs) up = go (cmp new x) refl (up-insert_sorted new xs up.1)
    where
      go : (o : Ordering) → cmp new x ≡ o → IsAscending AtMost (insert_sorted cmp new xs)
          → IsAscending AtMost (cond (is_gt o) (x ∷ insert_sorted cmp new xs) (new ∷ x ∷ xs))
      go Less e more = ((ap is_gt e, all_weaker _ (AtMost new) (λ y. upto total new x y (ap is_gt e)) xs up.0), up)
      go Equal e more = ((ap is_gt e, all_weaker _ (AtMost new) (λ y. upto total new x y (ap is_gt e)) xs up.0), up)
      go Greater e more = (all-insert_sorted (AtMost x) new xs (ap is_gt (total.antisymm x new ∙ ap ordering_reverse e)) up.0, more)

  up-sort_by : (xs : List X) → IsAscending AtMost (sort_by cmp xs)
  up-sort_by [] = tt
  up-sort_by (x ∷ xs) = up-insert_sorted x _ (up-sort_by xs)

  turned : (o : Ordering) → is_gt o ≡ false → is_lt (ordering_reverse o) ≡ false
  turned Less e = refl
  turned Equal e = refl
  turned Greater e = e

  sorted_from_ascending : (xs : List X) → IsAscending AtMost xs → IsSorted cmp xs
  sorted_from_ascending [] up k d low lt = absurd (omega arith)
  sorted_from_ascending (x ∷ []) up k d low lt = absurd (omega arith)
  sorted_from_ascending (x ∷ y ∷ xs) up zero d low lt = ap is_lt (total.antisymm y x) ∙ turned (cmp x y) up.0.0
  sorted_from_ascending (x ∷ y ∷ xs) up (suc k) d low lt = rw add-one (rw add-one at (sorted_from_ascending (y ∷ xs) up.1 k d (omega arith) (omega arith)))

  -- lists with the same elements and no ties are sorted alike
  pub sort_by_permutation : (xs ys : List X) → IsAscending (λ a b. is_eq (cmp a b) ≡ false) xs → IsPermutation xs ys → sort_by cmp ys ≡ sort_by cmp xs
  sort_by_permutation xs ys apart same =
      sorted_is-sort_by cmp total xs (sort_by cmp ys) apart (IsPermutation-trans _ _ _ same (IsPermutation-sym _ _ (IsPermutation-sort_by cmp total ys))) (sorted_from_ascending _ (up-sort_by ys))

-- ---- filters

-- where what isn't taken passes both tests alike, a filter and a removal go in either order
pub filters_swap : {X : Type 0} (p q g : X → Bool) (xs : List X) → AllByRecursion (λ x. g x ≡ false → q x ≡ p x) xs → filter q (filter (λ x. not (g x)) xs) ≡ filter (λ x. not (g x)) (filter p xs)
filters_swap p q g [] all = refl
filters_swap p q g (x ∷ xs) all = go (g x) refl (p x) refl (q x) refl all.0 (filters_swap p q g xs all.1)
  where
    go : (s : Bool) → g x ≡ s → (t : Bool) → p x ≡ t → (u : Bool) → q x ≡ u → (s ≡ false → u ≡ t) → filter q (filter (λ y. not (g y)) xs) ≡ filter (λ y. not (g y)) (filter p xs)
        → filter q (cond (not s) (x ∷ filter (λ y. not (g y)) xs) (filter (λ y. not (g y)) xs)) ≡ filter (λ y. not (g y)) (cond t (x ∷ filter p xs) (filter p xs))
    go true e true f u h same more = rw e more
    go true e false f u h same more = more
    go false e true f true h same more = rw (h, e) (ap (λ l. x ∷ l) more)
    go false e true f false h same more = absurd (true≢false (sym (same refl)))
    go false e false f true h same more = absurd (true≢false (same refl))
    go false e false f false h same more = rw h more

-- tests that agree at each element keep the same elements
pub filter_alike : {X : Type 0} (p q : X → Bool) (xs : List X) → AllByRecursion (λ x. p x ≡ q x) xs → filter p xs ≡ filter q xs
filter_alike p q [] all = refl
filter_alike p q (x ∷ xs) all = rw (all.0, filter_alike p q xs all.1) refl

-- where none is taken all stay
pub filter_whole : {X : Type 0} (g : X → Bool) (xs : List X) → list_any g xs ≡ false → filter (λ x. not (g x)) xs ≡ xs
filter_whole g xs none = filter_all (λ x. not (g x)) xs (all_weaker (λ x. g x ≡ false) (λ x. not (g x) ≡ true) (λ x e. ap not e) xs (none_from_any g xs none))

pub all_passing : {X : Type 0} (p : X → Bool) (xs : List X) → AllByRecursion (λ x. p x ≡ true) (filter p xs)
all_passing p [] = tt
all_passing p (x ∷ xs) = go (p x) refl (all_passing p xs)
  where
    go : (b : Bool) → p x ≡ b → AllByRecursion (λ y. p y ≡ true) (filter p xs) → AllByRecursion (λ y. p y ≡ true) (cond b (x ∷ filter p xs) (filter p xs))
    go true e more = (e, more)
    go false e more = more

-- a fact of each two elements of two lists, from either side
pub all_turn : {A B : Type 0} (R : A → B → Type 0) (xs : List A) (ys : List B) → AllByRecursion (λ b. AllByRecursion (λ a. R a b) xs) ys → AllByRecursion (λ a. AllByRecursion (R a) ys) xs
all_turn R [] ys all = tt
all_turn R (x ∷ xs) ys all =
    (all_weaker (λ b. AllByRecursion (λ a. R a b) (x ∷ xs)) (R x) (λ b h. h.0) ys all, all_turn R xs ys (all_weaker (λ b. AllByRecursion (λ a. R a b) (x ∷ xs)) (λ b. AllByRecursion (λ a. R a b) xs) (λ b h. h.1) ys all))
