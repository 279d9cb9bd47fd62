-- Under a sort that begins with the time what starts before the place at which a page begins isn't asked for.
use Rattle.std.proofs.Common.{◌≡◌, ⊎_elim, ◌<◌, ◌≤◌, ◌+◌, ◌≤ℤ◌, ◌<ℤ◌, ℕ, ℤ, suc, zero, Bool, true, false, not, Option, Some, None, List, [], ◌∷◌, ◌++◌, take, drop, filter, length, get_or, refl, sym, ap, ◌∙◌, subst, arith, Ordering, Less, Equal, Greater, is_gt, is_ge, true≢false, append_assoc, append-nil, IsPermutation, length-append}
use Rattle.std.specs.Arc.{arc_value}
use Rattle.std.specs.declared.alloc.Global.{Global}
use Rattle.std.specs.declared.sync.Arc.{Arc}
use Rattle.std.specs.List.{All}
use Rattle.std.specs.List.Sorted.{IsPartitionedBy, IsPartitionPoint}
use Rattle.std.specs.Ordering.{int_cmp, MatchOrdering}
use Rattle.std.proofs.lemmas.Bool.{cases_lt}
use Rattle.std.proofs.lemmas.Cmp.{int_ranked}
use Rattle.std.proofs.lemmas.Int.{ints}
use Rattle.std.proofs.lemmas.List.{map-append, take-append-drop, length-map, get_or-map, get_or_append_left, get_or-drop, get_or-take, length-drop, length-take-le}
use Rattle.std.proofs.lemmas.List.Elements.{filter-append, recursion_from_All}
use Rattle.std.proofs.lemmas.List.Sorted.{IsPermutation-append_right, IsPermutation-append_comm}
use Rattle.sqlite_keyed.proofs.ListLemmas.{filter_none}
use Rattle.sqlite_keyed.proofs.RuleLemmas.{first_of_both, second_of_both}
use Rattle.sc_item.specs.Feature.{Feature}
use Rattle.sc_item.specs.Names.{AreApart}
use Rattle.sc_sort.specs.declared.key.Key.{Key}
use Rattle.sc_sort.specs.declared.value.SortValue.{SortValue}
use Rattle.sc_sort.specs.declared.value.SortValue.TheVariants.{Moment, Number, Text, Truth, Absent}
use Rattle.sc_sort.specs.Keys.{Keys}
use Rattle.sc_sort.specs.Order.{first_there, keys_order, order_by, values_order}
use Rattle.sc_sort.specs.Spec.{is_of_time}
use Rattle.sc_expr.specs.Query.{Asked}
use Rattle.sc_page.specs.declared.first.FirstItems.{FirstItems}
use Rattle.sc_page.specs.ItemKey.{key_of}
use Rattle.sc_page.specs.Kept.{HasFound}
use Rattle.sc_page.specs.Leading.{AreLatestFirst, is_earliest_first, is_latest_first}
use Rattle.sc_page.specs.Placing.{LeavesOut, first_moment, moment_of}
use Rattle.sc_page.specs.Search.{is_asked, is_behind, shared}
use Rattle.sc_page.proofs.Listing.{apart_permutation}
use Rattle.sc_page.proofs.Shared.{apart_front}
use Rattle.sc_page.proofs.Starting.{time_value}

-- ---- what comes before the place

less_is : (a b : ℤ) → a <ℤ b → int_cmp a b ≡ Less
less_is a b lt = go (int_cmp a b) refl (int_ranked a b (int_cmp a b) refl)
  where
    go : (o : Ordering) → int_cmp a b ≡ o → MatchOrdering o (a <ℤ b) (a ≡ b) (b <ℤ a) → int_cmp a b ≡ Less
    go Less h r = h
    go Equal h r = absurd (omega (arith, ints, r, lt))
    go Greater h r = absurd (omega (arith, ints, r, lt))

begins_with : (values : List SortValue) (at : ℤ) → first_moment values ≡ Some at → first_there values ≡ Some (Moment at)
begins_with [] at e = cc
begins_with (Moment x ∷ values) at e = cc
begins_with (Number number ∷ values) at e = cc
begins_with (Text text ∷ values) at e = cc
begins_with (Truth truth ∷ values) at e = cc
begins_with (Absent ∷ values) at e = cc

comes_before : (key : Key) (keys : List Key) (x : Feature) (place : Keys) (at : ℤ) → is_of_time key ≡ true → first_there place.values ≡ Some (Moment at)
    → order_by key.down (Some (Moment x.start)) (Some (Moment at)) ≡ Less → keys_order (key ∷ keys) (key_of (key ∷ keys) x) place ≡ Less
unfolding values_order
comes_before key keys x place at t f o = rw (time_value key x t, f, o) refl

later_not_behind : (sort : List Key) (after : Option Keys) (at : ℤ) (x : Feature) → is_latest_first sort ≡ true → moment_of after ≡ Some at → at <ℤ x.start → is_behind sort after x ≡ false
later_not_behind [] after at x s m lt = cc
later_not_behind (key ∷ keys) None at x s m lt = cc
later_not_behind (key ∷ keys) (Some place) at x s m lt =
    let t = first_of_both (is_of_time key) key.down s in
    let d = second_of_both (is_of_time key) key.down s in
    let o : order_by key.down (Some (Moment x.start)) (Some (Moment at)) ≡ Less = ap (λ (b : Bool). order_by b (Some (Moment x.start)) (Some (Moment at))) d ∙ less_is at x.start lt in
    ap is_gt (comes_before key keys x place at t (begins_with place.values at m) o)

not_true : (b : Bool) → not b ≡ true → b ≡ false
not_true true e = cc
not_true false e = refl

earlier_not_behind : (sort : List Key) (after : Option Keys) (at : ℤ) (x : Feature) → is_earliest_first sort ≡ true → moment_of after ≡ Some at → x.start <ℤ at → is_behind sort after x ≡ false
earlier_not_behind [] after at x s m lt = cc
earlier_not_behind (key ∷ keys) None at x s m lt = cc
earlier_not_behind (key ∷ keys) (Some place) at x s m lt =
    let t = first_of_both (is_of_time key) (not key.down) s in
    let d = not_true key.down (second_of_both (is_of_time key) (not key.down) s) in
    let o : order_by key.down (Some (Moment x.start)) (Some (Moment at)) ≡ Less = ap (λ (b : Bool). order_by b (Some (Moment x.start)) (Some (Moment at))) d ∙ less_is x.start at lt in
    ap is_gt (comes_before key keys x place at t (begins_with place.values at m) o)

not_asked : (asked : Asked) (x : Feature) → is_behind asked.sort asked.after x ≡ false → is_asked asked x ≡ false
not_asked asked x e = rw e refl

-- ---- by halving

gt_is : (a b : ℤ) → is_gt (int_cmp a b) ≡ true → b <ℤ a
gt_is a b e = go (int_cmp a b) refl (int_ranked a b (int_cmp a b) refl)
  where
    go : (o : Ordering) → int_cmp a b ≡ o → MatchOrdering o (a <ℤ b) (a ≡ b) (b <ℤ a) → b <ℤ a
    go Less h r = absurd (true≢false (sym e ∙ ap is_gt h))
    go Equal h r = absurd (true≢false (sym e ∙ ap is_gt h))
    go Greater h r = r

gt_when : (a b : ℤ) → b <ℤ a → is_gt (int_cmp a b) ≡ true
gt_when a b lt = go (int_cmp a b) refl (int_ranked a b (int_cmp a b) refl)
  where
    go : (o : Ordering) → int_cmp a b ≡ o → MatchOrdering o (a <ℤ b) (a ≡ b) (b <ℤ a) → is_gt (int_cmp a b) ≡ true
    go Less h r = absurd (omega (arith, ints, r, lt))
    go Equal h r = absurd (omega (arith, ints, r, lt))
    go Greater h r = ap is_gt h

ge_is : (a b : ℤ) → is_ge (int_cmp a b) ≡ true → b ≤ℤ a
ge_is a b e = go (int_cmp a b) refl (int_ranked a b (int_cmp a b) refl)
  where
    go : (o : Ordering) → int_cmp a b ≡ o → MatchOrdering o (a <ℤ b) (a ≡ b) (b <ℤ a) → b ≤ℤ a
    go Less h r = absurd (true≢false (sym e ∙ ap is_ge h))
    go Equal h r = omega (arith, ints, r)
    go Greater h r = omega (arith, ints, r)

ge_when : (a b : ℤ) → b ≤ℤ a → is_ge (int_cmp a b) ≡ true
ge_when a b le = go (int_cmp a b) refl (int_ranked a b (int_cmp a b) refl)
  where
    go : (o : Ordering) → int_cmp a b ≡ o → MatchOrdering o (a <ℤ b) (a ≡ b) (b <ℤ a) → is_ge (int_cmp a b) ≡ true
    go Less h r = absurd (omega (arith, ints, r, le))
    go Equal h r = ap is_ge h
    go Greater h r = ap is_ge h

not_ge : (a b : ℤ) → is_ge (int_cmp a b) ≡ false → a <ℤ b
not_ge a b e = go (int_cmp a b) refl (int_ranked a b (int_cmp a b) refl)
  where
    go : (o : Ordering) → int_cmp a b ≡ o → MatchOrdering o (a <ℤ b) (a ≡ b) (b <ℤ a) → a <ℤ b
    go Less h r = r
    go Equal h r = absurd (true≢false (sym (ap is_ge h) ∙ e))
    go Greater h r = absurd (true≢false (sym (ap is_ge h) ∙ e))

abbrev pub starts_later : ℤ → Arc Feature Global → Bool
starts_later at item = is_gt (int_cmp (arc_value item).start at)

abbrev pub starts_no_earlier : ℤ → Arc Feature Global → Bool
starts_no_earlier at item = is_ge (int_cmp (arc_value item).start at)

-- the earlier of two places has the later start
starts_fall : (items : List (Arc Feature Global)) → AreLatestFirst (shared items) → (i j : ℕ) (d : Arc Feature Global) → i ≤ j → j < length items → (arc_value (get_or items j d)).start ≤ℤ (arc_value (get_or items i d)).start
starts_fall items latest i j d le within = ⊎_elim earlier (λ m. same (omega (arith, le, m))) (cases_lt i j)
  where
    earlier : i < j → (arc_value (get_or items j d)).start ≤ℤ (arc_value (get_or items i d)).start
    earlier lt =
        let n = length-map items arc_value in
        let p = get_or-map arc_value items i d (arc_value d) (omega (arith, lt, within)) in
        let q = get_or-map arc_value items j d (arc_value d) within in
        subst (λ x. x.start ≤ℤ (arc_value (get_or items i d)).start) q
        (subst (λ x. (get_or (shared items) j (arc_value d)).start ≤ℤ x.start) p (latest i j (arc_value d) lt (omega (arith, n, within))))

    same : i ≡ j → (arc_value (get_or items j d)).start ≤ℤ (arc_value (get_or items i d)).start
    same e = subst (λ k. (arc_value (get_or items k d)).start ≤ℤ (arc_value (get_or items i d)).start) e (omega (arith, ints))

through : (a b at : ℤ) → b ≤ℤ a → is_gt (int_cmp b at) ≡ true → is_gt (int_cmp a at) ≡ true
through a b at le e = let lt = gt_is b at e in gt_when a at (omega (arith, ints, le, lt))

through_ge : (a b at : ℤ) → b ≤ℤ a → is_ge (int_cmp b at) ≡ true → is_ge (int_cmp a at) ≡ true
through_ge a b at le e = let lt = ge_is b at e in ge_when a at (omega (arith, ints, le, lt))

pub later_first : (at : ℤ) (items : List (Arc Feature Global)) → AreLatestFirst (shared items) → IsPartitionedBy (starts_later at) items
later_first at items latest i j d le lt e =
    through (arc_value (get_or items i d)).start (arc_value (get_or items j d)).start at (starts_fall items latest i j d le lt) e

pub no_earlier_first : (at : ℤ) (items : List (Arc Feature Global)) → AreLatestFirst (shared items) → IsPartitionedBy (starts_no_earlier at) items
no_earlier_first at items latest i j d le lt e =
    through_ge (arc_value (get_or items i d)).start (arc_value (get_or items j d)).start at (starts_fall items latest i j d le lt) e

split_shared : (items : List (Arc Feature Global)) (n : ℕ) → shared items ≡ shared (take n items) ++ shared (drop n items)
split_shared items n = ap shared (sym (take-append-drop n items)) ∙ map-append arc_value (take n items) (drop n items)

-- what holds of each as it is shared
all_shared : (P : Feature → Type 0) (items : List (Arc Feature Global)) → ((k : ℕ) (d : Arc Feature Global) → k < length items → P (arc_value (get_or items k d))) → All P (shared items)
all_shared P [] f k d lt = absurd (omega (arith, lt))
all_shared P (x ∷ items) f k d lt =
    let n = length-map (x ∷ items) arc_value in
    let in_items : k < length (x ∷ items) = omega (arith, n, lt) in
    subst P (sym (get_or-map arc_value (x ∷ items) k x d in_items)) (f k x in_items)

latest_drop : (items : List Feature) (n : ℕ) → n ≤ length items → AreLatestFirst items → AreLatestFirst (drop n items)
latest_drop items n le latest i j d l m =
    subst (λ x. (get_or (drop n items) j d).start ≤ℤ x.start) (sym (get_or-drop n items i d))
    (subst (λ x. x.start ≤ℤ (get_or items (n + i) d).start) (sym (get_or-drop n items j d)) (latest (n + i) (n + j) d (omega (arith, l)) (omega (arith, m, length-drop n items, le))))

drop_shared : (xs : List (Arc Feature Global)) (k : ℕ) → shared (drop k xs) ≡ drop k (shared xs)
drop_shared xs zero = refl
drop_shared [] (suc k) = refl
drop_shared (x ∷ xs) (suc k) = drop_shared xs k

latest_front : (xs ys : List Feature) → AreLatestFirst (xs ++ ys) → AreLatestFirst xs
latest_front xs ys up i j d l m =
    let n = length-append xs ys in
    let p = get_or_append_left xs ys d i (omega arith) in
    let q = get_or_append_left xs ys d j m in
    rw (sym p, sym q) (up i j d l (omega (arith, n)))

module _ (asked : Asked) (items : List (Arc Feature Global)) (at : ℤ) (count : ℕ) (bound : count ≤ length items) (begins : moment_of asked.after ≡ Some at) where
  pub later_left_out : is_latest_first asked.sort ≡ true → IsPartitionPoint (λ y. starts_later at y ≡ true) (λ y. starts_later at y ≡ false) items count → LeavesOut asked (shared items) (shared (drop count items))
  later_left_out sort point = record {
    front = shared (take count items);
    back = [];
    all = split_shared items count ∙ ap (λ l. shared (take count items) ++ l) (sym (append-nil (shared (drop count items))));
    before = all_shared (λ x. is_asked asked x ≡ false) (take count items) (λ k d lt.
        let l : k < count = omega (arith, lt, length-take-le count items bound) in
        let e = subst (λ (a : Arc Feature Global). starts_later at a ≡ true) (sym (get_or-take count items k d l)) (point.0 k d (omega arith) l) in
        not_asked asked _ (later_not_behind asked.sort asked.after at _ sort begins (gt_is _ at e)));
    behind = λ k d lt. absurd (omega (arith, lt));
  }

  pub earlier_left_out : is_earliest_first asked.sort ≡ true → IsPartitionPoint (λ y. starts_no_earlier at y ≡ true) (λ y. starts_no_earlier at y ≡ false) items count → LeavesOut asked (shared items) (shared (take count items))
  earlier_left_out sort point = record {
    front = [];
    back = shared (drop count items);
    all = split_shared items count;
    before = λ k d lt. absurd (omega (arith, lt));
    behind = all_shared (λ x. is_asked asked x ≡ false) (drop count items) (λ k d lt.
        let l : count + k < length items = omega (arith, lt, length-drop count items, bound) in
        let e = subst (λ (a : Arc Feature Global). starts_no_earlier at a ≡ false) (sym (get_or-drop count items k d)) (point.1 (count + k) d (omega arith) l) in
        not_asked asked _ (earlier_not_behind asked.sort asked.after at _ sort begins (not_ge _ at e)));
  }

pub latest_dropped : (items : List (Arc Feature Global)) (count : ℕ) → count ≤ length items → AreLatestFirst (shared items) → AreLatestFirst (shared (drop count items))
latest_dropped items count le latest =
    let n = length-map items arc_value in
    subst AreLatestFirst (sym (drop_shared items count)) (latest_drop (shared items) count (omega (arith, n, le)) latest)

pub latest_taken : (items : List (Arc Feature Global)) (count : ℕ) → AreLatestFirst (shared items) → AreLatestFirst (shared (take count items))
latest_taken items count latest = latest_front (shared (take count items)) (shared (drop count items)) (subst AreLatestFirst (split_shared items count) latest)

pub leaves_none : (asked : Asked) (items : List Feature) → LeavesOut asked items items
leaves_none asked items = record {
  front = [];
  back = [];
  all = sym (append-nil items);
  before = λ k d lt. absurd (omega (arith, lt));
  behind = λ k d lt. absurd (omega (arith, lt));
}

-- ---- the rest is enough

module _ (asked : Asked) (before items rest : List Feature) (left : LeavesOut asked items rest) where
  pub apart_left : AreApart (before ++ items) → AreApart (before ++ rest)
  apart_left apart =
      let turned : IsPermutation (left.front ++ (rest ++ left.back)) ((rest ++ left.back) ++ left.front) = IsPermutation-append_comm left.front (rest ++ left.back) in
      let same : IsPermutation (before ++ items) (before ++ ((rest ++ left.back) ++ left.front)) =
      subst (λ l. IsPermutation (before ++ l) (before ++ ((rest ++ left.back) ++ left.front))) (sym left.all) (IsPermutation-append_right before _ _ turned) in
      let e : before ++ ((rest ++ left.back) ++ left.front) ≡ (before ++ rest) ++ (left.back ++ left.front) =
      ap (λ l. before ++ l) (append_assoc rest left.back left.front) ∙ sym (append_assoc before rest (left.back ++ left.front)) in
      apart_front (before ++ rest) (left.back ++ left.front) (subst AreApart e (apart_permutation _ _ same apart))

  asked_same : filter (is_asked asked) (before ++ rest) ≡ filter (is_asked asked) (before ++ items)
  asked_same =
      let p = is_asked asked in
      let front = filter_none p left.front (recursion_from_All (λ x. p x ≡ false) left.front left.before) in
      let back = filter_none p left.back (recursion_from_All (λ x. p x ≡ false) left.back left.behind) in
      let inner : filter p items ≡ filter p rest =
      ap (filter p) left.all ∙ filter-append p left.front (rest ++ left.back) ∙ ap (λ l. l ++ filter p (rest ++ left.back)) front
      ∙ filter-append p rest left.back ∙ ap (λ l. filter p rest ++ l) back ∙ append-nil (filter p rest) in
      filter-append p before rest ∙ ap (λ l. filter p before ++ l) (sym inner) ∙ sym (filter-append p before items)

  pub found_left : (f : FirstItems) → HasFound asked f (before ++ rest) → HasFound asked f (before ++ items)
  found_left f h = record { most = h.most; kept = rw (sym asked_same) h.kept }
