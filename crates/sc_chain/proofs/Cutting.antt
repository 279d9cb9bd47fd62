-- A rising list that is cut behind one of its elements: those up to it don't come after it, and the others do.
use Rattle.std.proofs.Common.{◌≡◌, ℕ, suc, zero, true, false, Some, List, [], ◌∷◌, take, drop, slice_get, refl, sym, ap, subst, ◌∙◌, Ordering, Less, Equal, Greater, is_gt}
use Rattle.std.specs.List.{AllByRecursion}
use Rattle.std.specs.Cmp.{IsTotalOrder}
use Rattle.std.specs.Ordering.{ordering_reverse}
use Rattle.sqlite_trees.specs.Tree.{IsAscending}
use Rattle.sqlite_keyed.proofs.ListLemmas.{all_weaker, all-slice_get}

pub get_taken : {X : Type 0} (n : ℕ) (xs : List X) → slice_get (take (suc n) xs) n ≡ slice_get xs n
get_taken n [] = refl
get_taken zero (x ∷ xs) = refl
get_taken (suc n) (x ∷ xs) = get_taken n xs

pub ascending_dropped : {X : Type 0} (R : X → X → Type 0) (n : ℕ) (xs : List X) → IsAscending R xs → IsAscending R (drop n xs)
ascending_dropped R zero xs up = up
ascending_dropped R (suc n) [] up = tt
ascending_dropped R (suc n) (x ∷ xs) up = ascending_dropped R n xs up.1

module _ {X : Type 0} (cmp : X → X → Ordering) (total : IsTotalOrder cmp) where
  abbrev IsBefore : X → X → Type 0
  IsBefore a b = cmp a b ≡ Less

  -- nothing comes after itself
  itself : (a : X) → is_gt (cmp a a) ≡ false
  itself a = go (cmp a a) refl
    where
      go : (c : Ordering) → cmp a a ≡ c → is_gt c ≡ false
      go Less e = refl
      go Equal e = refl
      go Greater e = let f : Greater ≡ Less = sym e ∙ total.antisymm a a ∙ ap ordering_reverse e in cc

  -- what comes after something that comes after a third comes after it
  pub after_after : (a b c : X) → is_gt (cmp a b) ≡ true → is_gt (cmp b c) ≡ true → is_gt (cmp a c) ≡ true
  after_after a b c p q = ap is_gt (total.antisymm a c ∙ ap ordering_reverse (total.trans c b a (before b c (cmp b c) refl q) (before a b (cmp a b) refl p)))
    where
      before : (x y : X) (o : Ordering) → cmp x y ≡ o → is_gt (cmp x y) ≡ true → cmp y x ≡ Less
      before x y Less e h = absurd (no (sym h ∙ ap is_gt e))
        where
          no : true ≡ false → ⊥
          no e = cc
      before x y Equal e h = absurd (no (sym h ∙ ap is_gt e))
        where
          no : true ≡ false → ⊥
          no e = cc
      before x y Greater e h = total.antisymm y x ∙ ap ordering_reverse e

  pub up_to_cut : (n : ℕ) (xs : List X) (last : X) → IsAscending IsBefore xs → slice_get xs n ≡ Some last → AllByRecursion (λ x. is_gt (cmp x last) ≡ false) (take (suc n) xs)
  up_to_cut n [] last up e = tt
  up_to_cut zero (x ∷ xs) last up e = let h : x ≡ last = cc in (rw h (itself last), tt)
  up_to_cut (suc n) (x ∷ xs) last up e = (ap is_gt (all-slice_get (λ y. cmp x y ≡ Less) xs n last e up.0), up_to_cut n xs last up.1 e)

  pub behind_cut : (n : ℕ) (xs : List X) (last : X) → IsAscending IsBefore xs → slice_get xs n ≡ Some last → AllByRecursion (λ x. is_gt (cmp x last) ≡ true) (drop (suc n) xs)
  behind_cut n [] last up e = tt
  behind_cut zero (x ∷ xs) last up e =
      let h : x ≡ last = cc in
      all_weaker _ _ (λ y b. ap is_gt (total.antisymm y last ∙ ap ordering_reverse (subst (λ a. cmp a y ≡ Less) h b))) xs up.0
  behind_cut (suc n) (x ∷ xs) last up e = behind_cut n xs last up.1 e

pub all_dropped : {X : Type 0} (P : X → Type 0) (n : ℕ) (xs : List X) → AllByRecursion P xs → AllByRecursion P (drop n xs)
all_dropped P zero xs all = all
all_dropped P (suc n) [] all = tt
all_dropped P (suc n) (x ∷ xs) all = all_dropped P n xs all.1
