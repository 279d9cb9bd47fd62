-- A list arranged by where its elements end.
use Rattle.std.proofs.Common.{◌≡◌, Bool, true, false, cond, List, [], ◌∷◌, refl, IsPermutation}
use Rattle.std.specs.List.{AllByRecursion}
use Rattle.std.proofs.lemmas.List.Sorted.{IsPermutation-refl, IsPermutation-trans, IsPermutation-cons, IsPermutation-middle}
use Rattle.sqlite_trees.specs.Tree.{IsAscending}
use Rattle.sqlite_keyed.proofs.ListLemmas.{all_weaker}

module _ {X : Type 0} (no_later : X → X → Bool) (Ends : X → X → Type 0)
    (told : (x y : X) → no_later x y ≡ true → Ends x y)
    (other : (x y : X) → no_later x y ≡ false → Ends y x)
    (trans : (x y z : X) → Ends x y → Ends y z → Ends x z) where
  abbrev place : X → List X → List X
  place x [] = x ∷ []
  place x (y ∷ ys) = cond (no_later x y) (x ∷ y ∷ ys) (y ∷ place x ys)

  abbrev pub arranged : List X → List X
  arranged [] = []
  arranged (x ∷ xs) = place x (arranged xs)

  all_placed : (P : X → Type 0) (x : X) (ys : List X) → P x → AllByRecursion P ys → AllByRecursion P (place x ys)
  all_placed P x [] p all = (p, tt)
  all_placed P x (y ∷ ys) p all = elim (no_later x y) as (λ b. AllByRecursion P (cond b (x ∷ y ∷ ys) (y ∷ place x ys))) [ true ↦ (p, all) | false ↦ (all.0, all_placed P x ys p all.1) ]

  rises_placed : (x : X) (ys : List X) → IsAscending Ends ys → IsAscending Ends (place x ys)
  rises_placed x [] up = (tt, tt)
  rises_placed x (y ∷ ys) up = go (no_later x y) refl (rises_placed x ys up.1)
    where
      go : (b : Bool) → no_later x y ≡ b → IsAscending Ends (place x ys) → IsAscending Ends (cond b (x ∷ y ∷ ys) (y ∷ place x ys))
      go true e more = let f = told x y e in ((f, all_weaker (Ends y) (Ends x) (λ z g. trans x y z f g) ys up.0), up)
      go false e more = (all_placed (Ends y) x ys (other x y e) up.0, more)

  pub rises : (xs : List X) → IsAscending Ends (arranged xs)
  rises [] = tt
  rises (x ∷ xs) = rises_placed x (arranged xs) (rises xs)

  same_placed : (x : X) (ys : List X) → IsPermutation (place x ys) (x ∷ ys)
  same_placed x [] = IsPermutation-refl _
  same_placed x (y ∷ ys) =
      elim (no_later x y) as (λ b. IsPermutation (cond b (x ∷ y ∷ ys) (y ∷ place x ys)) (x ∷ y ∷ ys)) [
        | true ↦ IsPermutation-refl _
        | false ↦ IsPermutation-trans _ _ _ (IsPermutation-cons y _ _ (same_placed x ys)) (IsPermutation-middle (y ∷ []) x ys)
      ]

  pub same : (xs : List X) → IsPermutation (arranged xs) xs
  same [] = IsPermutation-refl []
  same (x ∷ xs) = IsPermutation-trans _ _ _ (same_placed x (arranged xs)) (IsPermutation-cons x _ _ (same xs))
