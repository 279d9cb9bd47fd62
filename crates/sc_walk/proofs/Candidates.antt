-- Parts that are no candidates have no item that is asked for; sorted candidates can be walked; and what the walk opens of them is what is opened of all parts.
use Rattle.std.proofs.Common.{◌≡◌, ◌≤ℤ◌, ◌<ℤ◌, ℤ, ◌+◌, Bool, true, false, ◌&&◌, cond, not, nat_le, nat_lt, List, [], ◌∷◌, ◌++◌, filter, length, map, refl, sym, ap, ◌∙◌, subst, arith, rules, true≢false, Option, Some, None, Ordering, Less, Equal, Greater, is_lt, is_gt, IsPermutation}
use Rattle.std.specs.Prelude.{All, int_le}
use Rattle.std.specs.List.{AllByRecursion}
use Rattle.std.specs.Ordering.{int_cmp, ordering_then, MatchOrdering}
use Rattle.std.proofs.lemmas.Cmp.{int_ranked}
use Rattle.std.proofs.lemmas.Int.{ints}
use Rattle.std.proofs.lemmas.List.Elements.{All-from_recursion, recursion_from_All, filter-append}
use Rattle.std.proofs.lemmas.List.Sorted.{All-permutation, IsPermutation-filter_both, IsPermutation-sym, IsPermutation-trans, length_permutation, sum_by-IsPermutation}
use Rattle.sqlite_keyed.proofs.ListLemmas.{all_both, all-filter, all_weaker, ascending_weaker, filter_none, filter_same, IsPermutation-filter, IsPermutation-flat_map}
use Rattle.sc_item.specs.Feature as items
use Rattle.sc_item.specs.Feature.{Feature}
use Rattle.sc_bounds.specs.Moments.{HasMoment}
use Rattle.sc_bounds.specs.Sets.{Covers}
use Rattle.sc_part.specs.Scan.{Fits, reach}
use Rattle.sc_part.specs.Version.{IsKept}
use Rattle.sc_history.specs.Sound.{CoversAll}
use Rattle.sc_history.specs.Part.{Part}
use Rattle.sc_shelf.specs.Kept.{all_items}
use Rattle.sc_shelf.specs.Ticket.{version_of}
use Rattle.sc_sort.specs.declared.key.Key.{Key}
use Rattle.sc_sort.specs.declared.value.SortValue.{SortValue}
use Rattle.sc_sort.specs.declared.value.SortValue.TheVariants.{Moment, Number, Text, Truth, Absent}
use Rattle.sc_sort.specs.Keys.{Keys}
use Rattle.sc_sort.specs.Order.{order_by, values_order, keys_order}
use Rattle.sc_sort.specs.Spec.{is_of_time}
use Rattle.sc_expr.specs.Query.{Asked}
use Rattle.sc_eval.specs.Selection.{is_selected}
use Rattle.sc_need.specs.Need.{need_of}
use Rattle.sc_need.specs.Match.{IsKeptSelect}
use Rattle.sc_need.proofs.Covering.{may_match_holds}
use Rattle.sc_need.proofs.Selects.{selected_satisfies}
use Rattle.sc_page.specs.ItemKey.{key_of, sort_value, values_of}
use Rattle.sc_item.specs.Names.{AreApart}
use Rattle.sc_page.specs.Search.{IsPage, is_asked, is_behind, last_key}
use Rattle.sc_page.proofs.Listing.{apart_permutation}
use Rattle.sc_page.proofs.Shared.{apart_front}
use Rattle.sc_walk.proofs.Taking.{items_of_both}
use Rattle.sc_walk.specs.Walk.{AreCandidates, AreSorted, HasNoneAhead, Rises, cost, first_moment, found, front_order, is_ahead, is_candidate, is_opened, is_within, may_follow, reaches, reaches_moment}
use Rattle.sc_walk.proofs.Fronts.{both_true, front_order_total, own, rises}
use Rattle.sc_walk.proofs.Sorting.{ascending_sorted}
use Rattle.sc_walk.proofs.Times.{time_value}

-- ---- what is behind a place

gt_first : (o p : Ordering) → is_gt (ordering_then o p) ≡ true → is_lt o ≡ false
gt_first Less p e = cc
gt_first Equal p e = refl
gt_first Greater p e = refl

no_less : (a b : ℤ) → is_lt (int_cmp a b) ≡ false → b ≤ℤ a
no_less a b e = go (int_cmp a b) refl (int_ranked a b (int_cmp a b) refl)
  where
    go : (o : Ordering) → int_cmp a b ≡ o → MatchOrdering o (a <ℤ b) (a ≡ b) (b <ℤ a) → b ≤ℤ a
    go Less h r = absurd (true≢false (sym (ap is_lt h) ∙ e))
    go Equal h r = omega (arith, ints, r)
    go Greater h r = omega (arith, ints, r)

le_tested : (a b : ℤ) → a ≤ℤ b → int_le a b ≡ true
le_tested a b h = search (rules, h)

reached : (down : Bool) (at start : ℤ) (starts : Option (ℤ × ℤ)) → HasMoment starts start → is_lt (order_by down (Some (Moment start)) (Some (Moment at))) ≡ false → reaches down at starts ≡ true
reached down at start None h e = absurd h
reached true at start (Some range) h e = let l = no_less at start e in let g = h.0 in le_tested range.0 at (omega (arith, ints, l, g))
reached false at start (Some range) h e = let l = no_less start at e in let g = h.1 in le_tested at range.1 (omega (arith, ints, l, g))

first_not_less : (o p q : Ordering) → is_gt (ordering_then (ordering_then o p) q) ≡ true → is_lt o ≡ false
first_not_less Less p q e = cc
first_not_less Equal p q e = refl
first_not_less Greater p q e = refl

-- an item behind a place is in a part that may have such
follows : (sort : List Key) (after : Option Keys) (part : Part) (item : Feature) → HasMoment part.bounds.starts item.start → is_behind sort after item ≡ true → may_follow sort after part ≡ true
unfolding values_order
follows [] after part item h b = refl
follows (key ∷ keys) None part item h b = refl
follows (key ∷ keys) (Some place) part item h b = go place.values refl
  where
    first : (at : ℤ) (rest : List SortValue) → place.values ≡ Moment at ∷ rest → is_of_time key ≡ true → is_lt (order_by key.down (Some (Moment item.start)) (Some (Moment at))) ≡ false
    first at rest v e =
        let c = subst (λ vs. is_gt (keys_order (key ∷ keys) (key_of (key ∷ keys) item) (record { values = vs; collection = place.collection; id = place.id })) ≡ true) v b in
        let d = subst (λ w. is_gt (keys_order (key ∷ keys) (record { values = sort_value w ∷ values_of keys item; collection = item.collection; id = item.id }) (record { values = Moment at ∷ rest; collection = place.collection; id = place.id })) ≡ true) (time_value key item e) c in
        first_not_less _ _ _ d

    by : (at : ℤ) (rest : List SortValue) → place.values ≡ Moment at ∷ rest → (t : Bool) → is_of_time key ≡ t → cond t (reaches key.down at part.bounds.starts) true ≡ true
    by at rest v true e = reached key.down at item.start part.bounds.starts h (first at rest v e)
    by at rest v false e = refl

    go : (values : List SortValue) → place.values ≡ values → reaches_moment key (first_moment values) part ≡ true
    go [] v = refl
    go (Moment at ∷ rest) v = by at rest v (is_of_time key) refl
    go (Number n ∷ rest) v = refl
    go (Text x ∷ rest) v = refl
    go (Truth x ∷ rest) v = refl
    go (Absent ∷ rest) v = refl

-- ---- parts that are no candidates

-- what is known of a part
pub record IsReady (part : Part) : Type 0 where
  pub covers : CoversAll part.bounds part.items
  pub kept : IsKept (version_of part)

-- what holds of an item of a part
record IsOf (part : Part) (item : Feature) : Type 0 where
  pub covers : Covers part.bounds (reach item)
  pub kept : items.IsKept item
  pub fits : Fits part.name item

all_of_part : (part : Part) → IsReady part → AllByRecursion (IsOf part) part.items
all_of_part part r =
    joined part.items (recursion_from_All (Covers part.bounds) (map reach part.items) r.covers) (recursion_from_All items.IsKept part.items r.kept.each) (recursion_from_All (Fits part.name) part.items r.kept.fits)
  where
    joined : (xs : List Feature) → AllByRecursion (Covers part.bounds) (map reach xs) → AllByRecursion items.IsKept xs → AllByRecursion (Fits part.name) xs → AllByRecursion (IsOf part) xs
    joined [] c k f = tt
    joined (x ∷ xs) c k f = (record { covers = c.0; kept = k.0; fits = f.0 }, joined xs c.1 k.1 f.1)

module _ (asked : Asked) (select : IsKeptSelect asked.select) where
  asked_in_candidate : (part : Part) (item : Feature) → IsOf part item → is_asked asked item ≡ true → is_candidate asked part ≡ true
  unfolding is_candidate
  asked_in_candidate part item r e =
      let b = both_true (is_behind asked.sort asked.after item) (is_selected asked.select item) e in
      let s = selected_satisfies item r.kept.place r.kept.shaped asked.select select b.1 in
      let m = may_match_holds (need_of asked.select) item part.bounds part.name s r.kept.place r.fits.collection r.covers in
      let f = follows asked.sort asked.after part item r.covers.start b.0 in
      rw (m, f) refl

  none_asked : (part : Part) → IsReady part → is_candidate asked part ≡ false → filter (is_asked asked) part.items ≡ []
  none_asked part r e = filter_none (is_asked asked) part.items (all_weaker (IsOf part) (λ item. is_asked asked item ≡ false) each part.items (all_of_part part r))
    where
      each : (item : Feature) → IsOf part item → is_asked asked item ≡ false
      each item o = go (is_asked asked item) refl
        where
          go : (b : Bool) → is_asked asked item ≡ b → is_asked asked item ≡ false
          go true h = absurd (true≢false (sym (asked_in_candidate part item o h) ∙ e))
          go false h = h

  -- what is asked for of all parts is that of the candidates
  pub found_of_candidates : (parts : List Part) → AllByRecursion IsReady parts → found asked (filter (is_candidate asked) parts) ≡ found asked parts
  found_of_candidates [] all = refl
  found_of_candidates (part ∷ parts) all = go (is_candidate asked part) refl (found_of_candidates parts all.1)
    where
      go : (b : Bool) → is_candidate asked part ≡ b → found asked (filter (is_candidate asked) parts) ≡ found asked parts
          → found asked (cond b (part ∷ filter (is_candidate asked) parts) (filter (is_candidate asked) parts)) ≡ found asked (part ∷ parts)
      go true e same = filter-append (is_asked asked) part.items (all_items (filter (is_candidate asked) parts)) ∙ ap (λ l. filter (is_asked asked) part.items ++ l) same ∙ sym (filter-append (is_asked asked) part.items (all_items parts))
      go false e same = same ∙ sym (filter-append (is_asked asked) part.items (all_items parts) ∙ ap (λ l. l ++ found asked parts) (none_asked part all.0 e))

-- ---- sorted candidates

module _ (sort : List Key) (old new : List Part) (s : AreSorted sort old new) where
  has_own : (part : Part) → CoversAll part.bounds part.items → HasNoneAhead sort part
  has_own part c = each part.items (recursion_from_All (Covers part.bounds) (map reach part.items) c)
    where
      each : (xs : List Feature) → AllByRecursion (Covers part.bounds) (map reach xs) → AllByRecursion (λ item. is_ahead sort part item ≡ false) xs
      each [] all = tt
      each (x ∷ xs) all = (own sort part x all.0.start, each xs all.1)

  pub are_candidates : AllByRecursion (λ part. CoversAll part.bounds part.items) old → AreCandidates sort new
  are_candidates all = record {
    own = recursion_from_All (HasNoneAhead sort) new (All-permutation (HasNoneAhead sort) old new s.same (All-from_recursion (HasNoneAhead sort) old (all_weaker _ (HasNoneAhead sort) has_own old all)));
    rise = ascending_weaker (λ p q. is_gt (front_order sort p q) ≡ false) (Rises sort) (rises sort) new (ascending_sorted (front_order sort) (front_order_total sort) new s.sorted);
  }

-- ---- what the walk opens

pub same_found : (asked : Asked) (xs ys : List Part) → IsPermutation xs ys → IsPermutation (found asked xs) (found asked ys)
same_found asked xs ys p = IsPermutation-filter (is_asked asked) (all_items xs) (all_items ys) (IsPermutation-flat_map (λ (part : Part). part.items) xs ys p)

same_within : (asked : Asked) (xs ys : List Part) → IsPermutation (found asked xs) (found asked ys) → (part : Part) → is_within asked ys part ≡ is_within asked xs part
same_within asked xs ys p part = ap (λ n. nat_le n asked.limit) (length_permutation _ _ (IsPermutation-filter (is_ahead asked.sort part) (found asked xs) (found asked ys) p))

filter_twice : {X : Type 0} (p q : X → Bool) (xs : List X) → filter q (filter p xs) ≡ filter (λ x. p x && q x) xs
filter_twice p q [] = refl
filter_twice p q (x ∷ xs) = go (p x) (filter_twice p q xs)
  where
    go : (b : Bool) → filter q (filter p xs) ≡ filter (λ x. p x && q x) xs → filter q (cond b (x ∷ filter p xs) (filter p xs)) ≡ cond (b && q x) (x ∷ filter (λ x. p x && q x) xs) (filter (λ x. p x && q x) xs)
    go true same = ap (λ l. cond (q x) (x ∷ l) l) same
    go false same = same

-- the cost of what is opened of sorted candidates is that of what is opened of all parts
pub cost_of_opened : (asked : Asked) (parts sorted : List Part) → found asked (filter (is_candidate asked) parts) ≡ found asked parts → IsPermutation (filter (is_candidate asked) parts) sorted
    → cost (filter (is_within asked sorted) sorted) ≡ cost (filter (is_opened asked parts) parts)
cost_of_opened asked parts sorted same p =
    let candidates = filter (is_candidate asked) parts in
    let all : IsPermutation (found asked parts) (found asked sorted) = subst (λ l. IsPermutation l (found asked sorted)) same (same_found asked candidates sorted p) in
    ap cost (filter_same (is_within asked sorted) (is_within asked parts) (same_within asked parts sorted all) sorted)
    ∙ sum_by-IsPermutation (λ (part : Part). 1 + length part.items) (filter (is_within asked parts) candidates) (filter (is_within asked parts) sorted) (IsPermutation-filter (is_within asked parts) candidates sorted p)
    ∙ ap cost (filter_twice (is_candidate asked) (is_within asked parts) parts)

-- ---- the candidates of a snapshot

module _ (asked : Asked) (parts sorted : List Part) (select : IsKeptSelect asked.select) (covers : All (λ part. CoversAll part.bounds part.items) parts) (kept : All (λ part. IsKept (version_of part)) parts)
    (s : AreSorted asked.sort (filter (is_candidate asked) parts) sorted) where
  abbrev candidates : List Part
  candidates = filter (is_candidate asked) parts

  ready : AllByRecursion IsReady parts
  ready =
      all_both (λ part. CoversAll part.bounds part.items) (λ part. IsKept (version_of part)) IsReady (λ part c k. record { covers = c; kept = k }) parts
      (recursion_from_All _ parts covers) (recursion_from_All _ parts kept)

  pub walked : AreCandidates asked.sort sorted
  walked = are_candidates asked.sort candidates sorted s (all-filter (λ part. CoversAll part.bounds part.items) (is_candidate asked) parts (recursion_from_All _ parts covers))

  abbrev is_other : Part → Bool
  is_other part = not (is_candidate asked part)

  pub apart_sorted : AreApart (all_items parts) → AreApart (all_items sorted)
  apart_sorted apart =
      let both : IsPermutation (all_items parts) (all_items candidates ++ all_items (filter is_other parts)) =
      subst (IsPermutation (all_items parts)) (items_of_both candidates (filter is_other parts))
      (IsPermutation-flat_map (λ (part : Part). part.items) parts (candidates ++ filter is_other parts) (IsPermutation-filter_both (is_candidate asked) is_other (λ part. refl) parts)) in
      apart_permutation (all_items candidates) (all_items sorted) (IsPermutation-flat_map (λ (part : Part). part.items) candidates sorted s.same)
      (apart_front (all_items candidates) (all_items (filter is_other parts)) (apart_permutation (all_items parts) _ both apart))

  pub found_sorted : IsPermutation (found asked sorted) (found asked parts)
  found_sorted = IsPermutation-sym _ _ (subst (λ l. IsPermutation l (found asked sorted)) (found_of_candidates asked select parts ready) (same_found asked candidates sorted s.same))

  pub cost_sorted : cost (filter (is_within asked sorted) sorted) ≡ cost (filter (is_opened asked parts) parts)
  cost_sorted = cost_of_opened asked parts sorted (found_of_candidates asked select parts ready) s.same

-- a page over some items is that over others of which the same are asked for
pub page_of_same : (asked : Asked) (xs ys page : List Feature) (next : Option Keys) → IsPermutation (filter (is_asked asked) xs) (filter (is_asked asked) ys) → IsPage asked xs page next → IsPage asked ys page next
page_of_same asked xs ys page next same p = record {
  flat = record {
    listed = p.flat.listed;
    is_listing = record { same = IsPermutation-trans _ _ _ (IsPermutation-sym _ _ same) p.flat.is_listing.same; ordered = p.flat.is_listing.ordered };
    cut = p.flat.cut;
  };
  next_is = p.next_is ∙ ap (λ n. cond (nat_lt asked.limit n) (last_key asked.sort page) None) (sym (length_permutation (filter (is_asked asked) xs) (filter (is_asked asked) ys) same));
}
