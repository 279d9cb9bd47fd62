-- The first of a sorted list, where more elements come: what stands behind them doesn't count.
use Rattle.std.proofs.Common.{◌≡◌, ◌≤◌, ℕ, suc, zero, Bool, true, false, cond, not, List, [], ◌∷◌, ◌++◌, take, filter, length, refl, sym, ap, ◌∙◌, arith, Ordering, Less, Equal, Greater, is_eq, is_gt, true≢false}
use Rattle.std.specs.List.{AllByRecursion}
use Rattle.std.specs.Cmp.{IsTotalOrder}
use Rattle.std.specs.Ordering.{ordering_reverse}
use Rattle.std.proofs.lemmas.Cmp.{upto}
use Rattle.sqlite_trees.specs.Tree.{IsAscending}
use Rattle.sqlite_keyed.specs.Lists.{insert_sorted, sort_by}
use Rattle.sqlite_keyed.proofs.ListLemmas.{all_weaker}

pub take_twice : {X : Type 0} (k : ℕ) (xs : List X) → take k (take k xs) ≡ take k xs
take_twice zero xs = refl
take_twice (suc k) [] = refl
take_twice (suc k) (x ∷ xs) = ap (λ t. x ∷ t) (take_twice k xs)

pub take_of_more : {X : Type 0} (k : ℕ) (xs : List X) → take k (take (suc k) xs) ≡ take k xs
take_of_more zero xs = refl
take_of_more (suc k) [] = refl
take_of_more (suc k) (x ∷ xs) = ap (λ t. x ∷ t) (take_of_more k xs)

take_first : {X : Type 0} (k : ℕ) (y : X) (ys : List X) → take k (y ∷ ys) ≡ take k (y ∷ take k ys)
take_first zero y ys = refl
take_first (suc k) y ys = ap (λ t. y ∷ t) (sym (take_of_more k ys))

all_fewer : {X : Type 0} (P : X → Type 0) (k : ℕ) (xs : List X) → AllByRecursion P (take (suc k) xs) → AllByRecursion P (take k xs)
all_fewer P zero xs all = tt
all_fewer P (suc k) [] all = tt
all_fewer P (suc k) (x ∷ xs) all = (all.0, all_fewer P k xs all.1)

module _ {X : Type 0} (cmp : X → X → Ordering) (total : IsTotalOrder cmp) where
  -- what stands behind the first n doesn't show in them once one more has come
  insert_taken : (n : ℕ) (x : X) (s : List X) → take n (insert_sorted cmp x s) ≡ take n (insert_sorted cmp x (take n s))
  insert_taken zero x s = refl
  insert_taken (suc k) x [] = refl
  insert_taken (suc k) x (y ∷ ys) =
      elim (is_gt (cmp x y)) as (λ b. take (suc k) (cond b (y ∷ insert_sorted cmp x ys) (x ∷ y ∷ ys)) ≡ take (suc k) (cond b (y ∷ insert_sorted cmp x (take k ys)) (x ∷ y ∷ take k ys)))
      [ true ↦ ap (λ t. y ∷ t) (insert_taken k x ys) | false ↦ ap (λ t. x ∷ t) (take_first k y ys) ]

  -- nor once many have come
  pub first_behind : (n : ℕ) (xs s t : List X) → take n (sort_by cmp s) ≡ take n (sort_by cmp t) → take n (sort_by cmp (xs ++ s)) ≡ take n (sort_by cmp (xs ++ t))
  first_behind n [] s t e = e
  first_behind n (x ∷ xs) s t e =
      insert_taken n x _ ∙ ap (λ l. take n (insert_sorted cmp x l)) (first_behind n xs s t e) ∙ sym (insert_taken n x _)

  longer : (n : ℕ) (x : X) (s : List X) → n ≤ length s → n ≤ length (insert_sorted cmp x s)
  longer zero x s le = omega arith
  longer (suc k) x [] le = omega arith
  longer (suc k) x (y ∷ ys) le =
      let more : suc k ≤ length (y ∷ insert_sorted cmp x ys) = let h = longer k x ys (omega arith) in omega arith in
      elim (is_gt (cmp x y)) as (λ b. suc k ≤ length (cond b (y ∷ insert_sorted cmp x ys) (x ∷ y ∷ ys))) [ true ↦ more | false ↦ omega arith ]

  long : (n : ℕ) (xs p : List X) → n ≤ length (sort_by cmp p) → n ≤ length (sort_by cmp (xs ++ p))
  long n [] p le = le
  long n (x ∷ xs) p le = longer n x _ (long n xs p le)

  all-insert_sorted : (P : X → Type 0) (new : X) (xs : List X) → P new → AllByRecursion P xs → AllByRecursion P (insert_sorted cmp new xs)
  all-insert_sorted P new [] h all = (h, tt)
  all-insert_sorted P new (x ∷ xs) h all =
      elim (is_gt (cmp new x)) as (λ b. AllByRecursion P (cond b (x ∷ insert_sorted cmp new xs) (new ∷ x ∷ xs))) [ true ↦ (all.0, all-insert_sorted P new xs h all.1) | false ↦ (h, all) ]

  all-sort_by : (P : X → Type 0) (xs : List X) → AllByRecursion P xs → AllByRecursion P (sort_by cmp xs)
  all-sort_by P [] all = tt
  all-sort_by P (x ∷ xs) all = all-insert_sorted P x _ all.0 (all-sort_by P xs all.1)

  rises-insert_sorted : (new : X) (xs : List X) → AllByRecursion (λ y. is_eq (cmp new y) ≡ false) xs → IsAscending (λ a b. cmp a b ≡ Less) xs → IsAscending (λ a b. cmp a b ≡ Less) (insert_sorted cmp new xs)
  rises-insert_sorted new [] apart up = (tt, tt)
  rises-insert_sorted new (x ∷ xs) apart up = go (cmp new x) refl (rises-insert_sorted new xs apart.1 up.1)
    where
      go : (o : Ordering) → cmp new x ≡ o → IsAscending (λ a b. cmp a b ≡ Less) (insert_sorted cmp new xs)
          → IsAscending (λ a b. cmp a b ≡ Less) (cond (is_gt o) (x ∷ insert_sorted cmp new xs) (new ∷ x ∷ xs))
      go Less e more = ((e, all_weaker _ (λ y. cmp new y ≡ Less) (λ y. total.trans new x y e) xs up.0), up)
      go Equal e more = absurd (true≢false (sym (ap is_eq e) ∙ apart.0))
      go Greater e more = (all-insert_sorted _ new xs (total.antisymm x new ∙ ap ordering_reverse e) up.0, more)

  -- without ties a sorted list rises
  pub rises-sort_by : (xs : List X) → IsAscending (λ a b. is_eq (cmp a b) ≡ false) xs → IsAscending (λ a b. cmp a b ≡ Less) (sort_by cmp xs)
  rises-sort_by [] apart = tt
  rises-sort_by (x ∷ xs) apart = rises-insert_sorted x _ (all-sort_by _ xs apart.0) (rises-sort_by xs apart.1)

  insert_first : (x : X) (xs : List X) → AllByRecursion (λ y. cmp x y ≡ Less) xs → insert_sorted cmp x xs ≡ x ∷ xs
  insert_first x [] least = refl
  insert_first x (y ∷ ys) least = rw (ap is_gt least.0) refl

  -- a list that rises stays
  pub sort_by-rising : (xs : List X) → IsAscending (λ a b. cmp a b ≡ Less) xs → sort_by cmp xs ≡ xs
  sort_by-rising [] up = refl
  sort_by-rising (x ∷ xs) up = rw (sort_by-rising xs up.1) (insert_first x xs up.0)

  -- the element at which the first n end, which none of them comes after
  module _ (last : X) where
    abbrev UpToLast : X → Type 0
    UpToLast y = is_gt (cmp y last) ≡ false

    within_insert : (n : ℕ) (z : X) (s : List X) → n ≤ length s → AllByRecursion UpToLast (take n s) → AllByRecursion UpToLast (take n (insert_sorted cmp z s))
    within_insert zero z s le all = tt
    within_insert (suc k) z [] le all = absurd (omega arith)
    within_insert (suc k) z (y ∷ ys) le all = go (is_gt (cmp z y)) refl (within_insert k z ys (omega arith) all.1)
      where
        go : (b : Bool) → is_gt (cmp z y) ≡ b → AllByRecursion UpToLast (take k (insert_sorted cmp z ys)) → AllByRecursion UpToLast (take (suc k) (cond b (y ∷ insert_sorted cmp z ys) (z ∷ y ∷ ys)))
        go true e more = (all.0, more)
        go false e more = (upto total z y last e all.0, all_fewer UpToLast k (y ∷ ys) all)

    within : (n : ℕ) (xs p : List X) → n ≤ length (sort_by cmp p) → AllByRecursion UpToLast (take n (sort_by cmp p)) → AllByRecursion UpToLast (take n (sort_by cmp (xs ++ p)))
    within n [] p le all = all
    within n (x ∷ xs) p le all = within_insert n x _ (long n xs p le) (within n xs p le all)

    -- what comes after the last isn't among the first
    not_taken : (n : ℕ) (x : X) (s : List X) → n ≤ length s → is_gt (cmp x last) ≡ true → AllByRecursion UpToLast (take n s) → take n (insert_sorted cmp x s) ≡ take n s
    not_taken zero x s le h all = refl
    not_taken (suc k) x [] le h all = absurd (omega arith)
    not_taken (suc k) x (y ∷ ys) le h all = go (is_gt (cmp x y)) refl (not_taken k x ys (omega arith) h all.1)
      where
        go : (b : Bool) → is_gt (cmp x y) ≡ b → take k (insert_sorted cmp x ys) ≡ take k ys → take (suc k) (cond b (y ∷ insert_sorted cmp x ys) (x ∷ y ∷ ys)) ≡ take (suc k) (y ∷ ys)
        go true e same = ap (λ t. y ∷ t) same
        go false e same = absurd (true≢false (sym h ∙ upto total x y last e all.0))

    abbrev pub stay : X → Bool
    stay y = not (is_gt (cmp y last))

    -- so it needn't come
    pub first_without_later : (n : ℕ) (xs p : List X) → n ≤ length (sort_by cmp p) → AllByRecursion UpToLast (take n (sort_by cmp p))
        → take n (sort_by cmp (xs ++ p)) ≡ take n (sort_by cmp (filter stay xs ++ p))
    first_without_later n [] p le all = refl
    first_without_later n (x ∷ xs) p le all = go (is_gt (cmp x last)) refl (first_without_later n xs p le all)
      where
        go : (b : Bool) → is_gt (cmp x last) ≡ b → take n (sort_by cmp (xs ++ p)) ≡ take n (sort_by cmp (filter stay xs ++ p))
            → take n (insert_sorted cmp x (sort_by cmp (xs ++ p))) ≡ take n (sort_by cmp (cond (not b) (x ∷ filter stay xs) (filter stay xs) ++ p))
        go true e same = not_taken n x _ (long n xs p le) e (within n xs p le all) ∙ same
        go false e same = insert_taken n x _ ∙ ap (λ l. take n (insert_sorted cmp x l)) same ∙ sym (insert_taken n x _)
