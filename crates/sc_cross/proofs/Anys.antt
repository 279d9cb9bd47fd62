-- Some element of a list, by its first element and the rest, and of lists that are joined.
use Rattle.std.proofs.Common.{◌≡◌, ◌↔◌, ◌⊎◌, inl, inr, refl, sym, subst, arith, ℕ, zero, suc, ◌+◌, ◌<◌, List, [], ◌∷◌, ◌++◌, length, get_or, drop, drop-cons, length-drop, add-one, ap, ◌∙◌, ◌≤◌, Any}
use Rattle.std.specs.List.{flat_map}

pub any_none : {X : Type 0} (P : X → Type 0) → Any P [] → ⊥
any_none P h = absurd (omega (arith, h.2))

pub any_here : {X : Type 0} (P : X → Type 0) (x : X) (xs : List X) → P x → Any P (x ∷ xs)
any_here P x xs p = (0, x, omega arith, refl, p)

pub any_later : {X : Type 0} (P : X → Type 0) (x : X) (xs : List X) → Any P xs → Any P (x ∷ xs)
any_later P x xs h = (suc h.0, h.1, omega (arith, h.2), h.3, h.4)

pub any_first : {X : Type 0} (P : X → Type 0) (x : X) (xs : List X) → Any P (x ∷ xs) → P x ⊎ Any P xs
any_first P x xs (zero, y, below, is, p) = inl (subst P (sym is) p)
any_first P x xs (suc k, y, below, is, p) = inr (k, y, omega (arith, below), is, p)

pub any_weaker : {X : Type 0} (P Q : X → Type 0) → ((x : X) → P x → Q x) → (xs : List X) → Any P xs → Any Q xs
any_weaker P Q f xs h = (h.0, h.1, h.2, h.3, f h.1 h.4)

any_left : {X : Type 0} (P : X → Type 0) (xs ys : List X) → Any P xs → Any P (xs ++ ys)
any_left P [] ys h = absurd (any_none P h)
any_left P (x ∷ xs) ys h = elim (any_first P x xs h) [ inl p ↦ any_here P x (xs ++ ys) p | inr r ↦ any_later P x (xs ++ ys) (any_left P xs ys r) ]

any_right : {X : Type 0} (P : X → Type 0) (xs ys : List X) → Any P ys → Any P (xs ++ ys)
any_right P [] ys h = h
any_right P (x ∷ xs) ys h = any_later P x (xs ++ ys) (any_right P xs ys h)

any_either : {X : Type 0} (P : X → Type 0) (xs ys : List X) → Any P (xs ++ ys) → Any P xs ⊎ Any P ys
any_either P [] ys h = inr h
any_either P (x ∷ xs) ys h =
    elim (any_first P x (xs ++ ys) h) [
      | inl p ↦ inl (any_here P x xs p)
      | inr r ↦ elim (any_either P xs ys r) [ inl l ↦ inl (any_later P x xs l) | inr s ↦ inr s ]
    ]

pub any_append : {X : Type 0} (P : X → Type 0) (xs ys : List X) → Any P (xs ++ ys) ↔ (Any P xs ⊎ Any P ys)
any_append P xs ys = (any_either P xs ys, λ h. elim h [ inl l ↦ any_left P xs ys l | inr r ↦ any_right P xs ys r ])

any_parts : {X Y : Type 0} (P : Y → Type 0) (f : X → List Y) (xs : List X) → Any P (flat_map f xs) → Any (λ x. Any P (f x)) xs
any_parts P f [] h = absurd (any_none P h)
any_parts P f (x ∷ xs) h =
    elim (any_either P (f x) (flat_map f xs) h) [
      | inl l ↦ any_here (λ x. Any P (f x)) x xs l
      | inr r ↦ any_later (λ x. Any P (f x)) x xs (any_parts P f xs r)
    ]

any_joined : {X Y : Type 0} (P : Y → Type 0) (f : X → List Y) (xs : List X) → Any (λ x. Any P (f x)) xs → Any P (flat_map f xs)
any_joined P f [] h = absurd (any_none (λ x. Any P (f x)) h)
any_joined P f (x ∷ xs) h =
    elim (any_first (λ x. Any P (f x)) x xs h) [
      | inl l ↦ any_left P (f x) (flat_map f xs) l
      | inr r ↦ any_right P (f x) (flat_map f xs) (any_joined P f xs r)
    ]

pub any_flat_map : {X Y : Type 0} (P : Y → Type 0) (f : X → List Y) (xs : List X) → Any P (flat_map f xs) ↔ Any (λ x. Any P (f x)) xs
any_flat_map P f xs = (any_parts P f xs, any_joined P f xs)

-- what is left of a list from an index on
pub rest_at : {X : Type 0} (xs : List X) (i : ℕ) (d : X) → i < length xs → drop i xs ≡ get_or xs i d ∷ drop (i + 1) xs
rest_at xs i d below = rw (add-one, drop-cons xs i d) refl

pub rest_from : {X : Type 0} (xs : List X) (i : ℕ) (x : X) → i < length xs → x ≡ get_or xs i x → drop i xs ≡ x ∷ drop (i + 1) xs
rest_from xs i x below is = rest_at xs i x below ∙ ap (λ y. y ∷ drop (i + 1) xs) (sym is)

empty : {X : Type 0} (xs : List X) → length xs ≡ 0 → xs ≡ []
empty [] h = refl
empty (x ∷ xs) h = absurd (omega (arith, h))

pub rest_none : {X : Type 0} (xs : List X) (i : ℕ) → length xs ≤ i → drop i xs ≡ []
rest_none xs i past = empty (drop i xs) (omega (arith, length-drop i xs))
