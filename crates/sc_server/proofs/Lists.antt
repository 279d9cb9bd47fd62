-- Lists by their places, and their images.
use Rattle.std.proofs.Common.{◌≡◌, ℕ, zero, suc, ◌+◌, ◌<◌, Bool, true, false, ◌||◌, List, [], ◌∷◌, ◌++◌, length, get_or, sym, refl, ap, ap₂, ◌∙◌, subst, arith, length-append, append_assoc, map}
use Rattle.std.proofs.lemmas.List.{append-nil, length-map}
use Rattle.std.proofs.Math.ListN.{get_or-append}
use Rattle.std.proofs.lemmas.List.Elements.{All-head, All-tail}
use Rattle.std.proofs.lemmas.List.Sums.{sum_by-cons}
use Rattle.std.specs.List.{All, list_any, sum_by}

module _ {A : Type 0} where
  pub at_middle : (xs ys : List A) (x d : A) → get_or (xs ++ x ∷ ys) (length xs) d ≡ x
  at_middle [] ys x d = refl
  at_middle (a ∷ xs) ys x d = at_middle xs ys x d

  pub at_next : (all xs ys zs : List A) (x d : A) → all ≡ xs ++ zs → zs ≡ x ∷ ys → (get_or all (length xs) d ≡ x) × (length xs < length all)
  at_next all xs ys zs x d e f =
      let is : all ≡ xs ++ x ∷ ys = e ∙ ap (λ l. xs ++ l) f in
      let lt : length xs < length (xs ++ x ∷ ys) = omega (arith, length-append xs (x ∷ ys)) in
      (ap (λ l. get_or l (length xs) d) is ∙ at_middle xs ys x d, subst (λ l. length xs < length l) (sym is) lt)

  pub snoc_each : (P : ℕ → A → Type 0) (xs : List A) (x : A) → ((k : ℕ) (d : A) → k < length xs → P k (get_or xs k d)) → P (length xs) x
      → (k : ℕ) (d : A) → k < length xs + 1 → P k (get_or (xs ++ x ∷ []) k d)
  snoc_each P [] x h p zero d lt = p
  snoc_each P [] x h p (suc k) d lt = absurd (omega arith)
  snoc_each P (a ∷ xs) x h p zero d lt = h zero d (omega arith)
  snoc_each P (a ∷ xs) x h p (suc k) d lt = snoc_each (λ j. P (suc j)) xs x (λ j e m. h (suc j) e (omega arith)) p k d (omega arith)

  -- one more was counted, and joins the list
  pub count_step : (xs : List A) (x : A) (n n' : ℕ) → n' ≡ n + 1 → n ≡ length xs → n' ≡ length (xs ++ x ∷ [])
  count_step xs x n n' more is = more ∙ ap (λ k. k + 1) is ∙ sym (length-append xs (x ∷ []))

  pub split_step : (all ys zs zs' : List A) (x : A) → all ≡ ys ++ zs' → zs' ≡ x ∷ zs → all ≡ (ys ++ x ∷ []) ++ zs
  split_step all ys zs zs' x split next = split ∙ ap (λ l. ys ++ l) next ∙ sym (append_assoc ys (x ∷ []) zs)

-- an image has at a place the image of what stands there
pub at_map_or : {A B : Type 0} (f : A → B) (xs : List A) (k : ℕ) (d : A) (e : B) → k < length xs → get_or (map f xs) k e ≡ f (get_or xs k d)
at_map_or f [] k d e lt = absurd (omega arith)
at_map_or f (x ∷ xs) zero d e lt = refl
at_map_or f (x ∷ xs) (suc k) d e lt = at_map_or f xs k d e (omega arith)

-- two lists of one type have one image where they have it at each place
pub images_kept : {A C : Type 0} (f : A → C) (xs ys : List A) → length ys ≡ length xs → ((k : ℕ) (d : A) → k < length xs → f (get_or ys k d) ≡ f (get_or xs k d)) → map f ys ≡ map f xs
images_kept f [] [] l e = refl
images_kept f [] (y ∷ ys) l e = absurd (omega (arith, l))
images_kept f (x ∷ xs) [] l e = absurd (omega (arith, l))
images_kept f (x ∷ xs) (y ∷ ys) l e = ap₂ (λ z zs. z ∷ zs) (e zero x (omega arith)) (images_kept f xs ys (omega (arith, l)) (λ k d lt. e (suc k) d (omega arith)))

-- two lists have one image where they have it at each place
pub same_images : {A B C : Type 0} (f : A → C) (g : B → C) (xs : List A) (ys : List B) → length ys ≡ length xs
    → ((k : ℕ) (x : A) (y : B) → k < length xs → g (get_or ys k y) ≡ f (get_or xs k x)) → map g ys ≡ map f xs
same_images f g [] [] l e = refl
same_images f g [] (y ∷ ys) l e = absurd (omega (arith, l))
same_images f g (x ∷ xs) [] l e = absurd (omega (arith, l))
same_images f g (x ∷ xs) (y ∷ ys) l e = ap₂ (λ z zs. z ∷ zs) (e zero x y (omega arith)) (same_images f g xs ys (omega (arith, l)) (λ k a b lt. e (suc k) a b (omega arith)))

pub images_twice : {A B C : Type 0} (f : A → B) (g : B → C) (xs : List A) → map (λ x. g (f x)) xs ≡ map g (map f xs)
images_twice f g [] = refl
images_twice f g (x ∷ xs) = ap (λ ys. g (f x) ∷ ys) (images_twice f g xs)

pub any_image : {A : Type 0} (f : A → Bool) (xs : List A) → list_any f xs ≡ list_any (λ b. b) (map f xs)
any_image f [] = refl
any_image f (x ∷ xs) = ap (λ b. f x || b) (any_image f xs)

pub any_more : {A : Type 0} (f : A → Bool) (xs : List A) (x : A) → list_any f (xs ++ x ∷ []) ≡ (list_any f xs || f x)
any_more f [] x = or_false (f x)
  where
    or_false : (b : Bool) → (b || false) ≡ b
    or_false true = refl
    or_false false = refl
any_more f (y ∷ xs) x = ap (λ b. f y || b) (any_more f xs x) ∙ or_again (f y) (list_any f xs) (f x)
  where
    or_again : (a b c : Bool) → (a || (b || c)) ≡ ((a || b) || c)
    or_again true b c = refl
    or_again false b c = refl

-- which of two conditions is known tells of both
pub either_first : (a b : Bool) → a ≡ true → a ≡ (a || b)
either_first true b e = refl
either_first false b e = absurd cc

pub either_second : (a b : Bool) → a ≡ false → b ≡ (a || b)
either_second true b e = absurd cc
either_second false b e = refl

pub map_more : {A B : Type 0} (f : A → B) (xs : List A) (x : A) → map f (xs ++ x ∷ []) ≡ map f xs ++ f x ∷ []
map_more f [] x = refl
map_more f (y ∷ xs) x = ap (λ ys. f y ∷ ys) (map_more f xs x)

-- what is left of a list as long as its front is nothing
pub none_left : {A : Type 0} (xs ys zs : List A) → xs ≡ ys ++ zs → length xs ≡ length ys → ys ≡ xs
none_left xs ys [] e l = sym (e ∙ append-nil ys)
none_left xs ys (z ∷ zs) e l = absurd (omega (arith, ap length e, length-append ys (z ∷ zs), l))

-- what holds of all holds of one
pub all_mid : {A : Type 0} (P : A → Type 0) (xs ys : List A) (x : A) → All P (xs ++ x ∷ ys) → P x
all_mid P [] ys x holds = All-head P x ys holds
all_mid P (z ∷ xs) ys x holds = all_mid P xs ys x (All-tail P z (xs ++ x ∷ ys) holds)

pub all_front : {A : Type 0} (P : A → Type 0) (xs ys : List A) → All P (xs ++ ys) → All P xs
all_front P xs ys holds k d lt = subst P (get_or-append xs ys d k lt) (holds k d (omega (arith, length-append xs ys, lt)))

pub all_back : {A : Type 0} (P : A → Type 0) (xs ys : List A) → All P (xs ++ ys) → All P ys
all_back P [] ys holds = holds
all_back P (x ∷ xs) ys holds = all_back P xs ys (All-tail P x (xs ++ ys) holds)

-- what an image tells of all
pub all_alike : {A B : Type 0} (f : A → B) (b : B) (xs ys : List A) → map f xs ≡ map f ys → All (λ y. f y ≡ b) ys → All (λ x. f x ≡ b) xs
all_alike f b xs ys e holds k d lt =
    let long : length xs ≡ length ys = sym (length-map xs f) ∙ ap length e ∙ length-map ys f in
    let there : k < length ys = omega (arith, long, lt) in
    sym (at_map_or f xs k d (f d) lt) ∙ ap (λ l. get_or l k (f d)) e ∙ at_map_or f ys k d (f d) there ∙ holds k d there

-- a sum is that of the images
pub sum_image : {A : Type 0} (f : A → ℕ) (xs : List A) → sum_by f xs ≡ sum_by (λ n. n) (map f xs)
sum_image f [] = refl
sum_image f (x ∷ xs) = sum_by-cons f x xs ∙ ap (λ n. f x + n) (sum_image f xs) ∙ sym (sum_by-cons (λ (n : ℕ). n) (f x) (map f xs))

-- what stands at a place
pub pick : {A : Type 0} (xs : List A) (k : ℕ) → k < length xs → A
pick [] k lt = absurd (omega (arith, lt))
pick (x ∷ xs) k lt = x
