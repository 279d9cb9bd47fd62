-- What looking up each of some ids finds is what has one of them.
use Rattle.std.proofs.Common.{◌≡◌, ◌≢◌, ℕ, Bool, true, false, ◌&&◌, ◌||◌, not, cond, List, [], ◌∷◌, ◌++◌, filter, find, Some, refl, sym, ap, ◌∙◌, subst, IsPermutation}
use Rattle.std.specs.Prelude.{flat_map}
use Rattle.std.specs.List.{AllByRecursion, list_any}
use Rattle.std.specs.Option.{option_to_list}
use Rattle.std.specs.Str.{bytes_eq}
use Rattle.std.proofs.lemmas.Slice.Eq.{bytes_eq-Decides}
use Rattle.std.proofs.lemmas.List.Sorted.{IsPermutation-append_right, IsPermutation-filter_both, IsPermutation-refl, IsPermutation-sym, IsPermutation-trans}
use Rattle.sqlite_trees.specs.Tree.{IsAscending}
use Rattle.sqlite_trees.proofs.ListLemmas.{filter_none}
use Rattle.sqlite_keyed.proofs.ListLemmas.{all_weaker, filter-filter, filter_same, any_from_none}

filter_twice : {X : Type 0} (p q : X → Bool) (xs : List X) → filter q (filter p xs) ≡ filter (λ x. p x && q x) xs
filter_twice p q [] = refl
filter_twice p q (x ∷ xs) = go (p x) (filter_twice p q xs)
  where
    go : (b : Bool) → filter q (filter p xs) ≡ filter (λ x. p x && q x) xs → filter q (cond b (x ∷ filter p xs) (filter p xs)) ≡ cond (b && q x) (x ∷ filter (λ x. p x && q x) xs) (filter (λ x. p x && q x) xs)
    go true same = ap (λ l. cond (q x) (x ∷ l) l) same
    go false same = same

module _ {X : Type 0} (id_of : X → List ℕ) where
  abbrev pub has : List ℕ → X → Bool
  has id x = bytes_eq (id_of x) id

  abbrev pub has_one : List (List ℕ) → X → Bool
  has_one ids x = list_any (bytes_eq (id_of x)) ids

  -- by each id what it finds
  abbrev pub looked_up : List (List ℕ) → List X → List X
  looked_up ids xs = flat_map (λ id. option_to_list (find (has id) xs)) ids

  another : (id : List ℕ) (x y : X) → has id x ≡ true → id_of x ≢ id_of y → has id y ≡ false
  another id x y e ne = go (has id y) refl
    where
      go : (b : Bool) → has id y ≡ b → has id y ≡ false
      go true h = absurd (ne ((bytes_eq-Decides (id_of x) id).0 e ∙ sym ((bytes_eq-Decides (id_of y) id).0 h)))
      go false h = h

  one_found : (id : List ℕ) (xs : List X) → IsAscending (λ a b. id_of a ≢ id_of b) xs → option_to_list (find (has id) xs) ≡ filter (has id) xs
  one_found id [] apart = refl
  one_found id (x ∷ xs) apart = go (has id x) refl (one_found id xs apart.1)
    where
      go : (b : Bool) → has id x ≡ b → option_to_list (find (has id) xs) ≡ filter (has id) xs → option_to_list (cond b (Some x) (find (has id) xs)) ≡ cond b (x ∷ filter (has id) xs) (filter (has id) xs)
      go true e same = ap (λ l. x ∷ l) (sym (filter_none (has id) xs (all_weaker (λ y. id_of x ≢ id_of y) (λ y. has id y ≡ false) (λ y ne. another id x y e ne) xs apart.0)))
      go false e same = same

  -- the ids apart from the first
  other_ids : (id : List ℕ) (ids : List (List ℕ)) (x : X) → AllByRecursion (λ other. bytes_eq id other ≡ false) ids → (has_one (id ∷ ids) x && not (has id x)) ≡ has_one ids x
  other_ids id ids x none = go (has id x) refl
    where
      lacks : has id x ≡ true → has_one ids x ≡ false
      lacks e = subst (λ t. list_any (bytes_eq t) ids ≡ false) (sym ((bytes_eq-Decides (id_of x) id).0 e)) (any_from_none (bytes_eq id) ids none)

      go : (b : Bool) → has id x ≡ b → ((b || has_one ids x) && not b) ≡ has_one ids x
      go true e = sym (lacks e)
      go false e = all (has_one ids x)
        where
          all : (c : Bool) → (c && true) ≡ c
          all true = refl
          all false = refl

  of_first : (id : List ℕ) (ids : List (List ℕ)) (x : X) → has id x ≡ true → has_one (id ∷ ids) x ≡ true
  of_first id ids x e = ap (λ b. b || has_one ids x) e

  pub all_found : (ids : List (List ℕ)) (xs : List X) → IsAscending (λ a b. bytes_eq a b ≡ false) ids → IsAscending (λ a b. id_of a ≢ id_of b) xs → IsPermutation (looked_up ids xs) (filter (has_one ids) xs)
  all_found [] xs distinct apart = subst (IsPermutation []) (sym (filter_none (has_one []) xs (none xs))) (IsPermutation-refl [])
    where
      none : (ys : List X) → AllByRecursion (λ y. has_one [] y ≡ false) ys
      none [] = tt
      none (y ∷ ys) = (refl, none ys)
  all_found (id ∷ ids) xs distinct apart =
      let r = filter (has_one (id ∷ ids)) xs in
      let first : filter (has id) r ≡ filter (has id) xs = filter-filter (has id) (has_one (id ∷ ids)) (of_first id ids) xs in
      let rest : filter (λ x. not (has id x)) r ≡ filter (has_one ids) xs =
      filter_twice (has_one (id ∷ ids)) (λ x. not (has id x)) xs ∙ filter_same _ (has_one ids) (λ x. other_ids id ids x distinct.0) xs in
      let both : IsPermutation r (filter (has id) xs ++ filter (has_one ids) xs) = subst (λ t. IsPermutation r (filter (has id) xs ++ t)) rest (subst (λ t. IsPermutation r (t ++ filter (λ x. not (has id x)) r)) first (IsPermutation-filter_both (has id) (λ x. not (has id x)) (λ x. refl) r)) in
      IsPermutation-trans _ _ _ (subst (λ t. IsPermutation (option_to_list (find (has id) xs) ++ looked_up ids xs) (t ++ filter (has_one ids) xs)) (one_found id xs apart)
      (IsPermutation-append_right (option_to_list (find (has id) xs)) (looked_up ids xs) (filter (has_one ids) xs) (all_found ids xs distinct.1 apart)))
      (IsPermutation-sym _ _ both)
