-- The page of items becomes that of these and more.
use Rattle.std.proofs.Common.{◌≡◌, ◌≤◌, ◌<◌, ◌-◌, ℕ, suc, zero, Bool, true, false, cond, Option, Some, None, List, [], ◌∷◌, ◌++◌, take, filter, length, get_or, nat_lt, append-nil, refl, sym, ap, subst, ◌∙◌, arith, ◌⊎◌, inl, inr, Ordering, Less, Equal, Greater, is_eq, is_gt, IsPermutation, IsSorted}
use Rattle.std.specs.List.{AllByRecursion, AllPairs, slice_get}
use Rattle.std.specs.Ordering.{ordering_reverse}
use Rattle.std.proofs.lemmas.Bool.{cases_lt}
use Rattle.std.proofs.lemmas.Bool.Decides.{nat_tests}
use Rattle.std.proofs.lemmas.List.Elements.{recursion_from_All, All-from_recursion}
use Rattle.std.proofs.lemmas.List.Sorted.{IsPermutation-append_comm, IsPermutation-append_right, IsPermutation-sym, IsPermutation-trans}
use Rattle.sqlite_trees.specs.Tree.{IsAscending}
use Rattle.sqlite_keyed.specs.Lists.{sort_by}
use Rattle.sqlite_keyed.proofs.ListLemmas.{ascending_weaker}
use Rattle.sqlite_keyed.proofs.SortLemmas.{IsPermutation-sort_by, sorted_is-sort_by}
use Rattle.sc_item.specs.Feature.{Feature}
use Rattle.sc_item.specs.Names.{AreApart, HaveOneName}
use Rattle.sc_page.specs.Kept.{AreKept, HasSeen}
use Rattle.sc_page.specs.Leading.{last_of_full, may_stand}
use Rattle.sc_page.specs.Order.{IsItemOrder, default_order}
use Rattle.sc_page.specs.Page.{every_item, IsFlatPage}
use Rattle.sc_page.specs.declared.page.PageSoFar.{PageSoFar}
use Rattle.sc_page.proofs.Leading.{first_behind, first_without_later, rises-sort_by, sort_by-rising, take_twice}
use Rattle.sc_page.proofs.Listing.{apart_permutation, default_item_order, filter_every, page_from_listing}

-- a page of this limit is full, and this is its last item
pub record EndsWith (limit : ℕ) (page : List Feature) (last : Feature) : Type 0 where
  pub full : limit ≤ length page
  pub ends : (other : Feature) → last ≡ get_or page (length page - 1) other

abbrev HaveTwoNames : Feature → Feature → Type 0
HaveTwoNames a b = ¬ HaveOneName a b

not_equal : (o : Ordering) → (o ≡ Equal → ⊥) → is_eq o ≡ false
not_equal Less n = refl
not_equal Equal n = absurd (n refl)
not_equal Greater n = refl

pub ascending_from_pairs : {X : Type 0} (R : X → X → Type 0) (xs : List X) → AllPairs R xs → IsAscending R xs
ascending_from_pairs R [] up = tt
ascending_from_pairs R (x ∷ xs) up =
    (recursion_from_All (R x) xs (λ k d lt. up 0 (suc k) d (omega arith) (omega arith)), ascending_from_pairs R xs (λ i j d l m. up (suc i) (suc j) d (omega arith) (omega arith)))

pub pairs_from_ascending : {X : Type 0} (R : X → X → Type 0) (xs : List X) → IsAscending R xs → AllPairs R xs
pairs_from_ascending R [] up i j d l m = absurd (omega arith)
pairs_from_ascending R (x ∷ xs) up zero zero d l m = absurd (omega arith)
pairs_from_ascending R (x ∷ xs) up zero (suc j) d l m = All-from_recursion (R x) xs up.0 j d (omega arith)
pairs_from_ascending R (x ∷ xs) up (suc i) zero d l m = absurd (omega arith)
pairs_from_ascending R (x ∷ xs) up (suc i) (suc j) d l m = pairs_from_ascending R xs up.1 i j d (omega arith) (omega arith)

-- what holds of each two holds of some of them
module _ {X : Type 0} (keep : X → Bool) (n : ℕ) where
  all_taken : (P : X → Type 0) (k : ℕ) (xs : List X) → AllByRecursion P xs → AllByRecursion P (take k xs)
  all_taken P zero xs all = tt
  all_taken P (suc k) [] all = tt
  all_taken P (suc k) (x ∷ xs) all = (all.0, all_taken P k xs all.1)

  all_some : (P : X → Type 0) (xs ys : List X) → AllByRecursion P (xs ++ ys) → AllByRecursion P (filter keep xs ++ take n ys)
  all_some P [] ys all = all_taken P n ys all
  all_some P (x ∷ xs) ys all =
      elim (keep x) as (λ b. AllByRecursion P (cond b (x ∷ filter keep xs) (filter keep xs) ++ take n ys)) [ true ↦ (all.0, all_some P xs ys all.1) | false ↦ all_some P xs ys all.1 ]

  ascending_taken : (R : X → X → Type 0) (k : ℕ) (xs : List X) → IsAscending R xs → IsAscending R (take k xs)
  ascending_taken R zero xs up = tt
  ascending_taken R (suc k) [] up = tt
  ascending_taken R (suc k) (x ∷ xs) up = (all_taken (R x) k xs up.0, ascending_taken R k xs up.1)

  ascending_some : (R : X → X → Type 0) (xs ys : List X) → IsAscending R (xs ++ ys) → IsAscending R (filter keep xs ++ take n ys)
  ascending_some R [] ys up = ascending_taken R n ys up
  ascending_some R (x ∷ xs) ys up =
      elim (keep x) as (λ b. IsAscending R (cond b (x ∷ filter keep xs) (filter keep xs) ++ take n ys))
      [ true ↦ (all_some (R x) xs ys up.0, ascending_some R xs ys up.1) | false ↦ ascending_some R xs ys up.1 ]

-- what holds of each two holds of the first of them
pub pairs_taken : {X : Type 0} (R : X → X → Type 0) (n : ℕ) (xs : List X) → AllPairs R xs → AllPairs R (take n xs)
pairs_taken R n xs up = pairs_from_ascending R (take n xs) (ascending_taken (λ _. true) n R n xs (ascending_from_pairs R xs up))

-- items of which some are left out stay apart
pub apart-filter : (keep : Feature → Bool) (items : List Feature) → AreApart items → AreApart (filter keep items)
apart-filter keep items apart =
    let up : IsAscending HaveTwoNames (items ++ []) = subst (IsAscending HaveTwoNames) (sym (append-nil items)) (ascending_from_pairs HaveTwoNames items apart) in
    pairs_from_ascending HaveTwoNames (filter keep items) (subst (IsAscending HaveTwoNames) (append-nil (filter keep items)) (ascending_some keep 0 HaveTwoNames items [] up))

module _ (order : Feature → Feature → Ordering) (o : IsItemOrder order) where
  abbrev Untied : Feature → Feature → Type 0
  Untied a b = is_eq (order a b) ≡ false

  abbrev IsBefore : Feature → Feature → Type 0
  IsBefore a b = order a b ≡ Less

  pub untied : (items : List Feature) → AreApart items → IsAscending Untied items
  untied items apart =
      ascending_weaker HaveTwoNames Untied (λ a b n. not_equal _ (λ e. n (o.ties a b e))) items (ascending_from_pairs _ items apart)

  filter_all : (xs : List Feature) → filter (may_stand order None) xs ≡ xs
  filter_all [] = refl
  filter_all (x ∷ xs) = ap (λ t. x ∷ t) (filter_all xs)

  itself : (a : Feature) → is_gt (order a a) ≡ false
  itself a = go (order a a) refl
    where
      go : (c : Ordering) → order a a ≡ c → is_gt c ≡ false
      go Less e = refl
      go Equal e = refl
      go Greater e = let f : Greater ≡ Less = sym e ∙ o.total.antisymm a a ∙ ap ordering_reverse e in cc

  pub up_to_last : (page : List Feature) (last : Feature) → AllPairs IsBefore page → ((d : Feature) → last ≡ get_or page (length page - 1) d) → AllByRecursion (λ y. is_gt (order y last) ≡ false) page
  up_to_last page last up ends = recursion_from_All _ page (λ k d lt. go k d lt (cases_lt k (length page - 1)))
    where
      go : (k : ℕ) (d : Feature) → k < length page → (k < length page - 1) ⊎ (length page - 1 ≤ k) → is_gt (order (get_or page k d) last) ≡ false
      go k d lt (inl l) = rw (ends d) (ap is_gt (up k (length page - 1) d l (omega arith)))
      go k d lt (inr m) = let e : k ≡ length page - 1 = omega arith in rw (e, ends d) (itself (get_or page (length page - 1) d))

  -- what may not stand on the page doesn't count
  without_later : (n : ℕ) (last : Option Feature) (more page : List Feature) → ((l : Feature) → last ≡ Some l → EndsWith n page l) → IsAscending IsBefore page
      → take n (sort_by order (more ++ page)) ≡ take n (sort_by order (filter (may_stand order last) more ++ page))
  without_later n None more page ends up = ap (λ t. take n (sort_by order (t ++ page))) (sym (filter_all more))
  without_later n (Some l) more page ends up =
      let stays : sort_by order page ≡ page = sort_by-rising order o.total page up in
      let it = ends l refl in
      first_without_later order o.total l n more page (subst (λ t. n ≤ length t) (sym stays) it.full)
      (subst (λ t. AllByRecursion (λ y. is_gt (order y l) ≡ false) (take n t)) (sym stays)
      (all_taken (λ _. true) n _ n page (up_to_last page l (pairs_from_ascending IsBefore page up) it.ends)))

  page_grows : (n : ℕ) (last : Option Feature) (seen more page ys : List Feature) → ((l : Feature) → last ≡ Some l → EndsWith n page l) → AreApart (seen ++ more)
      → IsFlatPage every_item order n seen page → IsPermutation (page ++ filter (may_stand order last) more) ys → IsSorted order ys
      → IsFlatPage every_item order n (seen ++ more) (take n ys)
  page_grows n last seen more page ys ends apart p same sorted =
      let listed = p.listed in
      let some = filter (may_stand order last) more in
      let here : IsPermutation seen listed = subst (λ t. IsPermutation t listed) (filter_every seen) p.is_listing.same in
      let all : IsPermutation (seen ++ more) (more ++ listed) = IsPermutation-trans _ _ _ (IsPermutation-append_comm seen more) (IsPermutation-append_right more seen listed here) in
      let free : IsAscending Untied (more ++ listed) = untied _ (apart_permutation _ _ all apart) in
      let free_some : IsAscending Untied (some ++ page) = subst (λ t. IsAscending Untied (some ++ t)) (sym p.cut) (ascending_some (may_stand order last) n Untied more listed free) in
      let up : IsAscending IsBefore listed = ascending_from_pairs IsBefore listed p.is_listing.ordered in
      let up_page : IsAscending IsBefore page = subst (IsAscending IsBefore) (sym p.cut) (ascending_taken (λ _. true) n IsBefore n listed up) in
      let is : ys ≡ sort_by order (some ++ page) =
      sorted_is-sort_by order o.total (some ++ page) ys free_some (IsPermutation-trans _ _ _ (IsPermutation-append_comm some page) same) sorted in
      let first : take n (sort_by order page) ≡ take n (sort_by order listed) =
      ap (take n) (sort_by-rising order o.total page up_page) ∙ ap (take n) p.cut ∙ take_twice n listed
      ∙ sym (ap (take n) (sort_by-rising order o.total listed up)) in
      page_from_listing order n (seen ++ more) (sort_by order (more ++ listed)) (take n ys)
      (record {
        same = IsPermutation-trans _ _ _ all (IsPermutation-sym _ _ (IsPermutation-sort_by order o.total (more ++ listed)));
        ordered = pairs_from_ascending IsBefore _ (rises-sort_by order o.total (more ++ listed) free);
      })
      (ap (take n) is ∙ sym (without_later n last more page ends up_page) ∙ first_behind order o.total n more page listed first)

  -- where a full page ends
  pub ends_full : (n : ℕ) (page : List Feature) (l : Feature) → last_of_full n page ≡ Some l → EndsWith n page l
  ends_full n page l e = by (nat_lt (length page) n) refl e
    where
      at : (xs : List Feature) (k : ℕ) → slice_get xs k ≡ Some l → (d : Feature) → l ≡ get_or xs k d
      at [] k e d = cc
      at (x ∷ xs) zero e d = cc
      at (x ∷ xs) (suc k) e d = at xs k e d

      by : (b : Bool) → nat_lt (length page) n ≡ b → cond b None (slice_get page (length page - 1)) ≡ Some l → EndsWith n page l
      by true h e = cc
      by false h e = record { full = grind (arith, nat_tests); ends = at page (length page - 1) e }

  -- what waits is sorted into the page
  pub settled : (limit : ℕ) (page waiting items sorted : List Feature) → AreApart items → AreKept order limit page waiting items → IsPermutation (page ++ waiting) sorted → IsSorted order sorted
      → AreKept order limit (take limit sorted) [] items × IsFlatPage every_item order limit items (take limit sorted)
  settled limit page waiting items sorted apart k same up =
      let grown : IsFlatPage every_item order limit (k.first ++ k.others) (take limit sorted) =
      page_grows limit (last_of_full limit page) k.first k.others page sorted (ends_full limit page) (subst AreApart k.all apart) k.flat (subst (λ t. IsPermutation (page ++ t) sorted) k.wait same) up in
      let flat : IsFlatPage every_item order limit items (take limit sorted) = subst (λ t. IsFlatPage every_item order limit t (take limit sorted)) (sym k.all) grown in (
        record {
          first = items;
          others = [];
          all = sym (append-nil items);
          flat = flat;
          wait = refl;
        },
        flat,
      )

-- the same of the page of the items so far
pub settled_so_far : (limit : ℕ) (old new : PageSoFar) (items sorted : List Feature) → AreApart items → HasSeen limit old items → IsPermutation (old.page.items ++ old.waiting.items) sorted → IsSorted default_order sorted
    → new.limit ≡ old.limit → new.page.items ≡ take old.limit sorted → new.waiting.items ≡ [] → HasSeen limit new items × IsFlatPage every_item default_order limit items new.page.items
settled_so_far limit old new items sorted apart s same up l cut none =
    let it = settled default_order default_item_order limit old.page.items old.waiting.items items sorted apart s.kept same up in
    let e : take limit sorted ≡ new.page.items = sym (cut ∙ ap (λ n. take n sorted) s.limited) in (
      record {
        limited = l ∙ s.limited;
        kept = subst (λ t. AreKept default_order limit new.page.items t items) (sym none) (subst (λ t. AreKept default_order limit t [] items) e it.0);
      },
      subst (IsFlatPage every_item default_order limit items) e it.1,
    )
