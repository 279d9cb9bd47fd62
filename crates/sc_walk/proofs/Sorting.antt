-- A sorted list, of which no element comes after a later one.
use Rattle.std.proofs.Common.{◌≡◌, ◌+◌, suc, false, List, [], ◌∷◌, get_or, refl, ap, ◌∙◌, subst, arith, Ordering, Less, Equal, Greater, is_lt, is_gt, IsSorted}
use Rattle.std.specs.Ordering.{ordering_reverse}
use Rattle.std.specs.Cmp.{IsTotalOrder}
use Rattle.std.proofs.lemmas.Cmp.{upto}
use Rattle.sqlite_trees.specs.Tree.{IsAscending}
use Rattle.sqlite_keyed.proofs.ListLemmas.{all_weaker}

module _ {X : Type 0} (cmp : X → X → Ordering) (total : IsTotalOrder cmp) where
  abbrev pub AtMost : X → X → Type 0
  AtMost a b = is_gt (cmp a b) ≡ false

  sorted_rest : (x : X) (xs : List X) → IsSorted cmp (x ∷ xs) → IsSorted cmp xs
  sorted_rest x xs s k d low lt =
      let e : suc k + 1 ≡ suc (k + 1) = omega arith in
      subst (λ n. is_lt (cmp (get_or (x ∷ xs) n d) (get_or xs k d)) ≡ false) e (s (suc k) d (omega arith) (omega arith))

  turned : (a b : X) → is_lt (cmp b a) ≡ false → AtMost a b
  turned a b e = go (cmp b a) refl e
    where
      go : (o : Ordering) → cmp b a ≡ o → is_lt o ≡ false → AtMost a b
      go Less h f = cc
      go Equal h f = ap is_gt (total.antisymm a b ∙ ap ordering_reverse h)
      go Greater h f = ap is_gt (total.antisymm a b ∙ ap ordering_reverse h)

  pub ascending_sorted : (xs : List X) → IsSorted cmp xs → IsAscending AtMost xs
  ascending_sorted [] s = tt
  ascending_sorted (x ∷ []) s = (tt, tt)
  ascending_sorted (x ∷ y ∷ ys) s =
      let rest = ascending_sorted (y ∷ ys) (sorted_rest x (y ∷ ys) s) in
      let first : AtMost x y = turned x y (s 0 x (omega arith) (omega arith)) in
      ((first, all_weaker (AtMost y) (AtMost x) (λ z le. upto total x y z first le) ys rest.0), rest)
