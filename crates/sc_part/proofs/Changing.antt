-- A version after a change: its items, their ids, and what is found among them.
use Rattle.std.proofs.Common.{◌≡◌, ℕ, zero, suc, ◌+◌, ◌<◌, Bool, true, false, not, cond, List, [], ◌∷◌, ◌++◌, ⊎_elim, length, length-append, get_or, map, filter, find, Some, None, refl, sym, ap, ◌∙◌, subst, arith, IsPermutation}
use Rattle.std.specs.declared.alloc.Global.{Global}
use Rattle.std.specs.declared.sync.Arc.{Arc}
use Rattle.std.specs.Arc.{arc_value}
use Rattle.std.specs.List.{All, Contains}
use Rattle.std.specs.Str.{bytes_eq}
use Rattle.std.specs.Cmp.Lexicographic.{same_text, nat_list_eq_equiv}
use Rattle.std.specs.declared.cmp.Ordering.TheVariants.{Less}
use Rattle.std.proofs.lemmas.Bool.{cases_lt}
use Rattle.std.proofs.lemmas.List.{get_or-map, length-map, map-append}
use Rattle.std.proofs.lemmas.List.Elements.{All-append, All-filter}
use Rattle.std.proofs.lemmas.List.Sorted.{All-permutation, Contains-permutation, IsPermutation-append_left, IsPermutation-map, IsPermutation-sym}
use Rattle.sqlite_keyed.specs.Lists.{sort_by}
use Rattle.sqlite_keyed.proofs.ListLemmas.{map-map}
use Rattle.sqlite_keyed.proofs.SortLemmas.{IsPermutation-sort_by}
use Rattle.sc_item.specs.Feature.{Feature}
use Rattle.sc_item.specs.Feature as features
use Rattle.sc_item.specs.Names.{HaveOneName, AreApart}
use Rattle.sc_cut.specs.declared.name.PartName.{PartName}
use Rattle.sc_part.specs.Entry.{id_at, ids_of}
use Rattle.sc_part.specs.Index.{AreDistinct}
use Rattle.sc_part.specs.Merged.{IsUp, staying}
use Rattle.sc_part.specs.Scan.{Fits, HaveOwnIds, IsScan, IsScanned, after, is_among, scan_of, scan_order, shared}
use Rattle.sc_part.specs.Version.{Version, IsKept}
use Rattle.sc_part.proofs.Sorting.{any_order, ascending_from_pairs, at_most_from_rises, one_rising, pairs_from_ascending, sorted_alike, up-sort_by}
use Rattle.sc_part.proofs.Scanning.{no_ties, own_ids, scan_is, scan_total}

turned : (a b : Feature) → (HaveOneName a b → ⊥) → HaveOneName b a → ⊥
turned a b n h = n (sym h.0, sym h.1)

pub apart_in_any_order : (items other : List Feature) → IsPermutation items other → AreApart items → AreApart other
apart_in_any_order items other same apart =
    pairs_from_ascending (λ a b. HaveOneName a b → ⊥) other (any_order (λ a b. HaveOneName a b → ⊥) turned items other same (ascending_from_pairs (λ a b. HaveOneName a b → ⊥) items apart))

pub one_scan : (items a b : List Feature) → IsScan items a → IsScan items b → a ≡ b
one_scan items a b p q =
    one_rising scan_order scan_total items a b (ascending_from_pairs _ a p.ordered) (ascending_from_pairs _ b q.ordered) p.same q.same

-- the ids of shared items
pub ids_are : (items : List (Arc Feature Global)) → ids_of items ≡ map (λ i. i.id) (shared items)
ids_are items = sym (map-map (λ (i : Feature). i.id) arc_value items)

pub count_is : (items : List (Arc Feature Global)) → length (ids_of items) ≡ length items
count_is items = length-map items (λ (i : Arc Feature Global). (arc_value i).id)

pub distinct_ids : (items : List Feature) → HaveOwnIds items → AreDistinct (map (λ i. i.id) items)
distinct_ids [] own i j li lj e = absurd (omega arith)
distinct_ids (x ∷ xs) own i j li lj e =
    ⊎_elim (λ l. absurd (own i j x l (inside j lj) (same i j li lj e))) (λ l. ⊎_elim (λ m. absurd (own j i x m (inside i li) (same j i lj li (sym e)))) (λ m. omega arith) (cases_lt j i)) (cases_lt i j)
  where
    inside : (k : ℕ) → k < length (map (λ (i : Feature). i.id) (x ∷ xs)) → k < length (x ∷ xs)
    inside k l = subst (λ n. k < n) (length-map (x ∷ xs) (λ (i : Feature). i.id)) l

    id_of : (k : ℕ) → k < length (map (λ (i : Feature). i.id) (x ∷ xs)) → id_at (map (λ (i : Feature). i.id) (x ∷ xs)) k ≡ (get_or (x ∷ xs) k x).id
    id_of k l = get_or-map (λ (i : Feature). i.id) (x ∷ xs) k x [] (inside k l)

    same : (k m : ℕ) → k < length (map (λ (i : Feature). i.id) (x ∷ xs)) → m < length (map (λ (i : Feature). i.id) (x ∷ xs)) → id_at (map (λ (i : Feature). i.id) (x ∷ xs)) k ≡ id_at (map (λ (i : Feature). i.id) (x ∷ xs)) m → (get_or (x ∷ xs) k x).id ≡ (get_or (x ∷ xs) m x).id
    same k m lk lm h = sym (id_of k lk) ∙ h ∙ id_of m lm

pub kept_distinct : (name : PartName) (stamp : ℕ) (items : List (Arc Feature Global)) → IsKept (record { name = name; stamp = stamp; items = shared items }) → AreDistinct (ids_of items)
kept_distinct name stamp items kept = subst AreDistinct (sym (ids_are items)) (distinct_ids (shared items) (own_ids name (shared items) kept.fits kept.apart))

abbrev pub version_of : PartName → ℕ → List Feature → Version
version_of name stamp items = record { name = name; stamp = stamp; items = items }

pub same_version : (n m : PartName) (stamp : ℕ) (xs ys : List Feature) → n ≡ m → xs ≡ ys → version_of n stamp xs ≡ version_of m stamp ys
same_version n m stamp xs ys e f = rw (e, f)

-- marks of those that go keep the others
pub staying_is : (gone : List (List ℕ)) (items : List Feature) → staying (map (is_among gone) (map (λ i. i.id) items)) items ≡ filter (λ i. not (is_among gone i.id)) items
staying_is gone [] = refl
staying_is gone (x ∷ items) = go (is_among gone x.id) (staying_is gone items)
  where
    go : (b : Bool) → staying (map (is_among gone) (map (λ (i : Feature). i.id) items)) items ≡ filter (λ i. not (is_among gone i.id)) items
        → cond b (staying (map (is_among gone) (map (λ (i : Feature). i.id) items)) items) (x ∷ staying (map (is_among gone) (map (λ (i : Feature). i.id) items)) items) ≡ cond (not b) (x ∷ filter (λ i. not (is_among gone i.id)) items) (filter (λ i. not (is_among gone i.id)) items)
    go true e = e
    go false e = ap (λ l. x ∷ l) e

ids_staying : (marks : List Bool) (items : List Feature) → map (λ i. i.id) (staying marks items) ≡ staying marks (map (λ i. i.id) items)
ids_staying [] items = refl
ids_staying (m ∷ marks) [] = refl
ids_staying (m ∷ marks) (x ∷ items) =
    elim m as (λ b. map (λ (i : Feature). i.id) (cond b (staying marks items) (x ∷ staying marks items)) ≡ cond b (staying marks (map (λ (i : Feature). i.id) items)) (x.id ∷ staying marks (map (λ (i : Feature). i.id) items)))
    [ true ↦ ids_staying marks items | false ↦ ap (λ l. x.id ∷ l) (ids_staying marks items) ]

-- each id after a merge came or stayed
pub id_came_or_stayed : (come items merged : List (Arc Feature Global)) (marks : List Bool) → shared merged ≡ sort_by scan_order (shared come ++ staying marks (shared items)) → (id : List ℕ) → Contains (ids_of merged) id → Contains (ids_of come ++ staying marks (ids_of items)) id
id_came_or_stayed come items merged marks is id there =
    let ids : ids_of merged ≡ map (λ i. i.id) (sort_by scan_order (shared come ++ staying marks (shared items))) = ids_are merged ∙ ap (map (λ i. i.id)) is in
    let parts : map (λ i. i.id) (shared come ++ staying marks (shared items)) ≡ ids_of come ++ staying marks (ids_of items) =
    map-append (λ (i : Feature). i.id) (shared come) (staying marks (shared items)) ∙ ap (λ l. l ++ map (λ i. i.id) (staying marks (shared items))) (sym (ids_are come))
    ∙ ap (λ l. ids_of come ++ l) (ids_staying marks (shared items) ∙ ap (staying marks) (sym (ids_are items))) in
    subst (λ l. Contains l id) parts
    (Contains-permutation _ _ id (IsPermutation-map (λ (i : Feature). i.id) _ _ (IsPermutation-sort_by scan_order scan_total (shared come ++ staying marks (shared items)))) (subst (λ l. Contains l id) ids there))

front_of : (xs ys : List Feature) (k : ℕ) (d : Feature) → k < length xs → get_or (xs ++ ys) k d ≡ get_or xs k d
front_of [] ys k d lt = absurd (omega arith)
front_of (x ∷ xs) ys zero d lt = refl
front_of (x ∷ xs) ys (suc k) d lt = front_of xs ys k d (omega arith)

-- the items after a change
module _ (name : PartName) (gone : List (List ℕ)) (come items : List Feature) (fits_come : All (Fits name) come) (fits_items : All (Fits name) items) (apart : AreApart (after gone come items)) where
  fits_after : All (Fits name) (after gone come items)
  fits_after = All-append (Fits name) come _ fits_come (All-filter (λ i. not (is_among gone i.id)) (Fits name) items fits_items)

  pub own_after : HaveOwnIds (after gone come items)
  own_after = own_ids name (after gone come items) fits_after apart

  pub scan_after : IsScan (after gone come items) (scan_of (after gone come items))
  scan_after = scan_is (after gone come items) own_after

  pub own_come : HaveOwnIds come
  own_come i j d l m e =
      let size : length (after gone come items) ≡ length come + length (filter (λ x. not (is_among gone x.id)) items) = length-append come _ in
      own_after i j d l (omega (arith, m, size)) (ap (λ t. t.id) (front i d (omega arith)) ∙ e ∙ sym (ap (λ t. t.id) (front j d m)))
    where
      front : (k : ℕ) (d : Feature) → k < length come → get_or (after gone come items) k d ≡ get_or come k d
      front k d lt = front_of come (filter (λ x. not (is_among gone x.id)) items) k d lt

  -- those that come may be sorted before
  pub merged_is : (arrivals kept merged : List Feature) → arrivals ≡ scan_of come → kept ≡ filter (λ i. not (is_among gone i.id)) items → merged ≡ sort_by scan_order (arrivals ++ kept) → merged ≡ scan_of (after gone come items)
  unfolding scan_of
  merged_is arrivals kept merged e f is =
      is ∙ ap (λ l. sort_by scan_order (l ++ kept)) e ∙ ap (λ l. sort_by scan_order (sort_by scan_order come ++ l)) f
      ∙ sorted_alike scan_order scan_total (after gone come items) (sort_by scan_order come ++ filter (λ i. not (is_among gone i.id)) items) (no_ties _ own_after)
      (IsPermutation-append_left _ _ _ (IsPermutation-sym _ _ (IsPermutation-sort_by scan_order scan_total come)))

  pub kept_after : (stamp : ℕ) (merged : List Feature) → merged ≡ scan_of (after gone come items) → All features.IsKept merged → IsKept (record { name = name; stamp = stamp; items = merged })
  kept_after stamp merged is each = subst (λ l. IsKept (record { name = name; stamp = stamp; items = l })) (sym is) (record {
    each = subst (All features.IsKept) is each;
    fits = All-permutation (Fits name) _ _ scan_after.same fits_after;
    apart = apart_in_any_order _ _ scan_after.same apart;
    ordered = scan_after.ordered;
  })

  pub permuted_after : (merged : List Feature) → merged ≡ scan_of (after gone come items) → IsPermutation (after gone come items) merged
  permuted_after merged is = subst (IsPermutation (after gone come items)) (sym is) scan_after.same

pub up_from_scanned : (items : List Feature) → IsScanned items → IsUp items
up_from_scanned items up = at_most_from_rises scan_order scan_total items (ascending_from_pairs (λ a b. scan_order a b ≡ Less) items up)

pub up_of_scan : (items : List Feature) → IsUp (scan_of items)
unfolding scan_of
up_of_scan items = up-sort_by scan_order scan_total items

-- the item at a place with the id is the one that is sought
pub find_there : (items : List (Arc Feature Global)) (p : ℕ) (a : Arc Feature Global) (id : List ℕ) → AreDistinct (ids_of items) → p < length items → a ≡ get_or items p a → id_at (ids_of items) p ≡ id → find (λ i. bytes_eq i.id id) (shared items) ≡ Some (arc_value a)
find_there [] p a id distinct lt is here = absurd (omega arith)
find_there (x ∷ items) zero a id distinct lt is here =
    let same : bytes_eq (arc_value x).id id ≡ true = rw here (nat_list_eq_equiv.refl id) in
    rw same (ap (λ t. Some (arc_value t)) (sym is))
find_there (x ∷ items) (suc p) a id distinct lt is here =
    let other : bytes_eq (arc_value x).id id ≡ false = not_same (bytes_eq (arc_value x).id id) refl in
    rw other (find_there items p a id (λ i j li lj e. down (distinct (suc i) (suc j) (omega arith) (omega arith) e)) (omega arith) is here)
  where
    down : {i j : ℕ} → suc i ≡ suc j → i ≡ j
    down e = omega (arith, e)

    not_same : (b : Bool) → bytes_eq (arc_value x).id id ≡ b → b ≡ false
    not_same true e =
        let z : 0 ≡ suc p = distinct 0 (suc p) (omega arith) (let n = count_is items in omega (arith, n, lt)) (same_text _ _ (sym e) ∙ sym here) in
        absurd (omega (arith, z))
    not_same false e = refl

pub find_nowhere : (items : List (Arc Feature Global)) (id : List ℕ) → (Contains (ids_of items) id → ⊥) → find (λ i. bytes_eq i.id id) (shared items) ≡ None
find_nowhere [] id none = refl
find_nowhere (x ∷ items) id none = go (bytes_eq (arc_value x).id id) refl (find_nowhere items id (λ c. none (suc c.0, (let l = c.1 in omega (arith, l)), c.2)))
  where
    go : (b : Bool) → bytes_eq (arc_value x).id id ≡ b → find (λ i. bytes_eq i.id id) (shared items) ≡ None → cond b (Some (arc_value x)) (find (λ i. bytes_eq i.id id) (shared items)) ≡ None
    go true e rest = absurd (none (0, omega arith, same_text _ _ (sym e)))
    go false e rest = rest
