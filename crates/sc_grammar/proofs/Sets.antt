-- Lists of classes as sets.
use Rattle.std.proofs.Common.{◌≡◌, ◌⊎◌, inl, inr, List, [], ◌∷◌, ◌++◌, Bool, true, false, refl, sym, subst}
use Rattle.std.specs.Prelude.{◌&&◌, ◌||◌, not}
use Rattle.sc_grammar.specs.Grammar.{Item, tok, non, act}
use Rattle.sc_grammar.specs.Classes.{In, Each, when, is_in, all_in, nullable, firsts}

pub both_true : (a b : Bool) → (a && b) ≡ true → (a ≡ true) × (b ≡ true)
both_true true b e = (refl, e)
both_true false b e = absurd cc

pub true_both : (a b : Bool) → a ≡ true → b ≡ true → (a && b) ≡ true
true_both true b e f = f
true_both false b e f = e

either_true : (a b : Bool) → (a || b) ≡ true → (a ≡ true) ⊎ (b ≡ true)
either_true true b e = inl refl
either_true false b e = inr e

pub unless_true : (a b : Bool) → (not a || b) ≡ true → a ≡ true → b ≡ true
unless_true true b e f = e
unless_true false b e f = absurd cc

pub each_at : {A : Type 0} (P : A → Type 0) (xs : List A) → Each P xs → (x : A) → In x xs → P x
each_at P [] e x i = absurd i
each_at P (y ∷ ys) e x (inl same) = subst P (sym same) e.0
each_at P (y ∷ ys) e x (inr i) = each_at P ys e.1 x i

pub in_left : {A : Type 0} (x : A) (xs ys : List A) → In x xs → In x (xs ++ ys)
in_left x [] ys i = absurd i
in_left x (z ∷ zs) ys (inl e) = inl e
in_left x (z ∷ zs) ys (inr i) = inr (in_left x zs ys i)

pub in_right : {A : Type 0} (x : A) (xs ys : List A) → In x ys → In x (xs ++ ys)
in_right x [] ys i = i
in_right x (z ∷ zs) ys i = inr (in_right x zs ys i)

pub in_either : {A : Type 0} (x : A) (xs ys : List A) → In x (xs ++ ys) → In x xs ⊎ In x ys
in_either x [] ys i = inr i
in_either x (z ∷ zs) ys (inl e) = inl (inl e)
in_either x (z ∷ zs) ys (inr i) = elim (in_either x zs ys i) [ inl h ↦ inl (inr h) | inr h ↦ inr h ]

pub in_when : {A : Type 0} (b : Bool) (x : A) (xs : List A) → In x (when b xs) → (b ≡ true) × In x xs
in_when true x xs i = (refl, i)
in_when false x xs i = absurd i

pub when_in : {A : Type 0} (b : Bool) (x : A) (xs : List A) → b ≡ true → In x xs → In x (when b xs)
when_in true x xs e i = i
when_in false x xs e i = absurd cc

module _ (C : Type 0) (same : C → C → Bool) (same_is : (a b : C) → same a b ≡ true → a ≡ b) where
  is_in_In : (x : C) (ys : List C) → is_in same x ys ≡ true → In x ys
  is_in_In x [] e = absurd cc
  is_in_In x (y ∷ ys) e = elim (either_true (same x y) (is_in same x ys) e) [ inl h ↦ inl (same_is x y h) | inr h ↦ inr (is_in_In x ys h) ]

  pub all_in_In : (xs ys : List C) → all_in same xs ys ≡ true → (x : C) → In x xs → In x ys
  all_in_In [] ys e x i = absurd i
  all_in_In (z ∷ zs) ys e x (inl h) = subst (λ (y : C). In y ys) (sym h) (is_in_In z ys (both_true (is_in same z ys) (all_in same zs ys) e).0)
  all_in_In (z ∷ zs) ys e x (inr i) = all_in_In zs ys (both_true (is_in same z ys) (all_in same zs ys) e).1 x i

module _ (C N K : Type 0) (starts : N → List C) (is_empty : N → Bool) where
  pub nullable-append : (x is : List (Item C N K)) → nullable is_empty (x ++ is) ≡ true → (nullable is_empty x ≡ true) × (nullable is_empty is ≡ true)
  nullable-append [] is e = (refl, e)
  nullable-append (tok c ∷ x) is e = absurd cc
  nullable-append (act k ∷ x) is e = nullable-append x is e
  nullable-append (non n ∷ x) is e =
      let p = both_true (is_empty n) (nullable is_empty (x ++ is)) e in
      let q = nullable-append x is p.1 in
      (true_both (is_empty n) (nullable is_empty x) p.0 q.0, q.1)

  -- what comes first of items in a row comes first of the former, or of the latter where the former may derive nothing
  pub firsts-append : (x is : List (Item C N K)) (c : C) → In c (firsts starts is_empty (x ++ is)) → In c (firsts starts is_empty x) ⊎ ((nullable is_empty x ≡ true) × In c (firsts starts is_empty is))
  firsts-append [] is c i = inr (refl, i)
  firsts-append (tok d ∷ x) is c i = inl i
  firsts-append (act k ∷ x) is c i = firsts-append x is c i
  firsts-append (non n ∷ x) is c i =
      elim (in_either c (starts n) (when (is_empty n) (firsts starts is_empty (x ++ is))) i) [
        | inl h ↦ inl (in_left c (starts n) (when (is_empty n) (firsts starts is_empty x)) h)
        | inr h ↦
            let w = in_when (is_empty n) c (firsts starts is_empty (x ++ is)) h in
            elim (firsts-append x is c w.1) [
              | inl j ↦ inl (in_right c (starts n) (when (is_empty n) (firsts starts is_empty x)) (when_in (is_empty n) c (firsts starts is_empty x) w.0 j))
              | inr j ↦ inr (true_both (is_empty n) (nullable is_empty x) w.0 j.0, j.1)
            ]
      ]
