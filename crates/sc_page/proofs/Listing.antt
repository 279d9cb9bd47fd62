-- What a sort leaves is the listing of the items, and there is one.
use Rattle.std.proofs.Common.{◌≡◌, ◌≢◌, ℕ, ◌<◌, Bool, true, false, cond, eqb, ⊎_elim, ◌⊎◌, inl, inr, suc, zero, List, [], ◌∷◌, length, get_or, filter, take, Ordering, refl, sym, ◌∙◌, ap, subst, arith, rules}
use Rattle.std.specs.declared.cmp.Ordering.TheVariants.{Less, Equal, Greater}
use Rattle.std.specs.Ordering.{nat_cmp, int_cmp, ordering_then, ordering_reverse}
use Rattle.std.specs.Cmp.{IsTotalOrder}
use Rattle.std.specs.Cmp.Rules.{comparing}
use Rattle.std.specs.List.{AllPairs, Contains, swap}
use Rattle.std.specs.List.Sorted.{IsPermutation}
use Rattle.std.proofs.lemmas.Cmp.{ranked, by_ranked}
use Rattle.std.proofs.lemmas.Bool.{cases_lt}
use Rattle.std.proofs.lemmas.Bool.Decides.{nat_tests}
use Rattle.std.proofs.lemmas.List.Sorted.{IsPermutation-keeps, IsPermutation-sym, Contains-permutation}
use Rattle.std.proofs.lemmas.List.Edits.{swapped_from_swap, Swapped, length-swap}
use Rattle.sc_base.specs.Text.{text_order}
use Rattle.sc_item.specs.Feature.{Feature}
use Rattle.sc_item.specs.Names.{HaveOneName, AreApart}
use Rattle.sc_page.specs.Page.{every_item, IsFlatPage}
use Rattle.sc_page.specs.Order.{default_order, IsItemOrder, IsListing}

pub default_total : IsTotalOrder default_order
default_total = search (comparing, rules) depth 12

then_equal : (o p : Ordering) → ordering_then o p ≡ Equal → (o ≡ Equal) × (p ≡ Equal)
then_equal Less p e = cc
then_equal Equal p e = (refl, e)
then_equal Greater p e = cc

number_tie : (x y : ℕ) → nat_cmp x y ≡ Equal → x ≡ y
number_tie x y e = by_ranked (x < y) (x ≡ y) (y < x) (nat_cmp x y) (ranked x y (nat_cmp x y) refl) (λ l _. cc (l, e)) (λ _ h. h) (λ g _. cc (g, e))

pub text_tie : (a b : List ℕ) → text_order a b ≡ Equal → a ≡ b
text_tie [] [] e = refl
text_tie [] (y ∷ ys) e = cc
text_tie (x ∷ xs) [] e = cc
text_tie (x ∷ xs) (y ∷ ys) e =
    let t = then_equal (nat_cmp x y) (text_order xs ys) e in
    let h : x ≡ y = number_tie x y t.0 in
    let u : xs ≡ ys = text_tie xs ys t.1 in
    cc

pub tie_has_one_name : (a b : Feature) → default_order a b ≡ Equal → HaveOneName a b
tie_has_one_name a b e =
    let t = then_equal (int_cmp b.start a.start) (ordering_then (text_order a.collection b.collection) (text_order a.id b.id)) e in
    let u = then_equal (text_order a.collection b.collection) (text_order a.id b.id) t.1 in
    (text_tie _ _ u.0, text_tie _ _ u.1)

pub default_item_order : IsItemOrder default_order
default_item_order = record { total = default_total; ties = tie_has_one_name }

-- at each two places
abbrev ApartAt : List Feature → Type 0
ApartAt items = (i j : ℕ) (d : Feature) → i < length items → j < length items → i ≢ j → ¬ HaveOneName (get_or items i d) (get_or items j d)

apart_at : (items : List Feature) → AreApart items → ApartAt items
apart_at items apart i j d li lj ne h =
    ⊎_elim (λ l. apart i j d l lj h) (λ l. apart j i d (omega arith) li (sym h.0, sym h.1)) (cases_lt i j)

-- where the element at m stood before the swap
abbrev place : ℕ → ℕ → ℕ → ℕ
place i j m = cond (eqb m i) j (cond (eqb m j) i m)

place_apart : (i j m n : ℕ) → m ≢ n → place i j m ≢ place i j n
place_apart i j m n ne = grind (arith, nat_tests)

place_within : (i j m len : ℕ) → i < len → j < len → m < len → place i j m < len
place_within i j m len li lj lm = grind (arith, nat_tests)

place_read : (l : List Feature) (i j : ℕ) → i < length l → j < length l → (m : ℕ) (d : Feature) → get_or (swap l i j) m d ≡ get_or l (place i j m) d
place_read l i j li lj m d =
    let s = swapped_from_swap l (swap l i j) i j d li lj refl in
    by (eqb m i) (eqb m j) refl refl s
  where
    by : (x y : Bool) → eqb m i ≡ x → eqb m j ≡ y → Swapped (λ k. get_or l k d) (λ k. get_or (swap l i j) k d) i j → get_or (swap l i j) m d ≡ get_or l (cond x j (cond y i m)) d
    by true y e f s = let h : m ≡ i = grind (arith, nat_tests) in subst (λ k. get_or (swap l i j) k d ≡ get_or l j d) (sym h) s.0
    by false true e f s = let h : m ≡ j = grind (arith, nat_tests) in subst (λ k. get_or (swap l i j) k d ≡ get_or l i d) (sym h) s.1
    by false false e f s = s.2 m (λ h. grind (arith, nat_tests)) (λ h. grind (arith, nat_tests))

apart_at-swap : (l : List Feature) (i j : ℕ) → i < length l → j < length l → ApartAt l → ApartAt (swap l i j)
apart_at-swap l i j li lj apart m n d lm ln ne h =
    let km : m < length l = subst (λ x. m < x) (length-swap l i j) lm in
    let kn : n < length l = subst (λ x. n < x) (length-swap l i j) ln in
    apart (place i j m) (place i j n) d (place_within i j m _ li lj km) (place_within i j n _ li lj kn) (place_apart i j m n ne)
    (subst2' (place_read l i j li lj m d) (place_read l i j li lj n d) h)
  where
    subst2' : {a b x y : Feature} → a ≡ x → b ≡ y → HaveOneName a b → HaveOneName x y
    subst2' e f g = (ap (λ t. t.collection) (sym e) ∙ g.0 ∙ ap (λ t. t.collection) f, ap (λ t. t.id) (sym e) ∙ g.1 ∙ ap (λ t. t.id) f)

-- names that differ do so in any order of the items
pub apart_permutation : (xs ys : List Feature) → IsPermutation xs ys → AreApart xs → AreApart ys
apart_permutation xs ys p apart i j d l m =
    IsPermutation-keeps xs ApartAt (apart_at xs apart) apart_at-swap ys p i j d (omega arith) m (omega arith)

module _ (order : Feature → Feature → Ordering) (o : IsItemOrder order) where
  abbrev IsBefore : Feature → Feature → Type 0
  IsBefore a b = order a b ≡ Less

  not_both : (a b : Feature) → IsBefore a b → IsBefore b a → ⊥
  not_both a b p q = let e : Less ≡ Greater = sym p ∙ o.total.antisymm a b ∙ ap ordering_reverse q in cc

  first_is_in : (x : Feature) (xs : List Feature) → Contains (x ∷ xs) x
  first_is_in x xs = (0, omega arith, refl)

  later_is_in : (x : Feature) (xs : List Feature) (z : Feature) → Contains xs z → Contains (x ∷ xs) z
  later_is_in x xs z (k, lt, e) = (suc k, omega arith, e)

  -- what a list has is its first or stands later
  which : (x : Feature) (xs : List Feature) (z : Feature) → Contains (x ∷ xs) z → (x ≡ z) ⊎ Contains xs z
  which x xs z (zero, lt, e) = inl e
  which x xs z (suc k, lt, e) = inr (k, omega arith, e)

  first_before : (x : Feature) (xs : List Feature) (z : Feature) → AllPairs IsBefore (x ∷ xs) → Contains xs z → IsBefore x z
  first_before x xs z up (k, lt, e) = subst (λ t. IsBefore x t) e (up 0 (suc k) z (omega arith) (omega arith))

  rest_ordered : (x : Feature) (xs : List Feature) → AllPairs IsBefore (x ∷ xs) → AllPairs IsBefore xs
  rest_ordered x xs up i j d l lj = up (suc i) (suc j) d (omega arith) (omega arith)

  nothing_in : (z : Feature) → Contains [] z → ⊥
  nothing_in z (k, lt, e) = absurd (omega arith)

  -- two ordered lists of the same items are one
  same_order : (ys zs : List Feature) → AllPairs IsBefore ys → AllPairs IsBefore zs → ((w : Feature) → Contains ys w → Contains zs w) → ((w : Feature) → Contains zs w → Contains ys w) → ys ≡ zs
  same_order [] [] p q f g = refl
  same_order [] (z ∷ zs) p q f g = absurd (nothing_in z (g z (first_is_in z zs)))
  same_order (y ∷ ys) [] p q f g = absurd (nothing_in y (f y (first_is_in y ys)))
  same_order (y ∷ ys) (z ∷ zs) p q f g =
      let e : y ≡ z = heads (which z zs y (f y (first_is_in y ys))) (which y ys z (g z (first_is_in z zs))) in
      let t : ys ≡ zs = same_order ys zs (rest_ordered y ys p) (rest_ordered z zs q)
      (λ w m. tail y z ys zs w p e m (which z zs w (f w (later_is_in y ys w m))))
      (λ w m. tail z y zs ys w q (sym e) m (which y ys w (g w (later_is_in z zs w m)))) in
      cc
    where
      heads : (z ≡ y) ⊎ Contains zs y → (y ≡ z) ⊎ Contains ys z → y ≡ z
      heads (inl e) b = sym e
      heads (inr a) (inl e) = e
      heads (inr a) (inr b) = absurd (not_both y z (first_before y ys z p b) (first_before z zs y q a))

      tail : (a b : Feature) (us vs : List Feature) (w : Feature) → AllPairs IsBefore (a ∷ us) → a ≡ b → Contains us w → (b ≡ w) ⊎ Contains vs w → Contains vs w
      tail a b us vs w up e m (inl h) = let before = subst (λ t. IsBefore a t) (sym (e ∙ h)) (first_before a us w up m) in absurd (not_both a a before before)
      tail a b us vs w up e m (inr c) = c

  -- items have one listing
  pub one_listing : (xs ys zs : List Feature) → IsListing order xs ys → IsListing order xs zs → ys ≡ zs
  one_listing xs ys zs a b =
      same_order ys zs a.ordered b.ordered
      (λ w m. Contains-permutation xs zs w b.same (Contains-permutation ys xs w (IsPermutation-sym xs ys a.same) m))
      (λ w m. Contains-permutation xs ys w a.same (Contains-permutation zs xs w (IsPermutation-sym xs zs b.same) m))

-- no item is left out
pub filter_every : (xs : List Feature) → filter every_item xs ≡ xs
filter_every [] = refl
filter_every (x ∷ xs) = ap (λ t. x ∷ t) (filter_every xs)

-- what is cut from the listing of all the items is their page
pub page_from_listing : (order : Feature → Feature → Ordering) (limit : ℕ) (xs ys page : List Feature) → IsListing order xs ys → page ≡ take limit ys → IsFlatPage every_item order limit xs page
page_from_listing order limit xs ys page l e = record {
  listed = ys;
  is_listing = subst (λ t. IsListing order t ys) (sym (filter_every xs)) l;
  cut = e;
}

-- items have one page
pub one_page : (wanted : Feature → Bool) (order : Feature → Feature → Ordering) (limit : ℕ) → IsItemOrder order → (items a b : List Feature) → IsFlatPage wanted order limit items a → IsFlatPage wanted order limit items b → a ≡ b
one_page wanted order limit o items a b p q =
    p.cut ∙ ap (take limit) (one_listing order o (filter wanted items) p.listed q.listed p.is_listing q.is_listing) ∙ sym q.cut
