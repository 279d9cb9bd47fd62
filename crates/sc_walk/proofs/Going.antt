-- One step of the walk, and its end.
use Rattle.std.proofs.Common.{◌≡◌, ◌≤◌, ◌<◌, ◌-◌, ℕ, suc, zero, ◌+◌, Bool, true, false, cond, nat_lt, Option, Some, None, List, [], ◌∷◌, ◌++◌, take, drop, filter, length, get_or, add-one, refl, sym, ap, ◌∙◌, subst, arith, Ordering, Less, is_gt, true≢false, IsPermutation, append-nil}
use Rattle.std.specs.List.{AllByRecursion, AllPairs, slice_get}
use Rattle.std.proofs.lemmas.Bool.Decides.{nat_tests}
use Rattle.std.proofs.lemmas.List.{take_more, length-take, take-append-drop}
use Rattle.std.proofs.lemmas.List.Elements.{All-from_recursion, filter-append}
use Rattle.std.proofs.lemmas.List.Sums.{sum_by-append, sum_by-cons}
use Rattle.std.proofs.lemmas.List.Sorted.{IsPermutation-refl, IsPermutation-sym, IsPermutation-trans, IsPermutation-append_comm, IsPermutation-append_right}
use Rattle.std.proofs.lemmas.Option.{slice_get-get_or}
use Rattle.sqlite_trees.specs.Tree.{IsAscending}
use Rattle.sqlite_keyed.specs.Lists.{sort_by}
use Rattle.sqlite_keyed.proofs.ListLemmas.{all_weaker, ascending_weaker, all-append, filter_all, filter_none}
use Rattle.sqlite_keyed.proofs.SortLemmas.{IsPermutation-sort_by}
use Rattle.sc_item.specs.Feature.{Feature}
use Rattle.sc_item.specs.Names.{AreApart}
use Rattle.sc_sort.specs.declared.key.Key.{Key}
use Rattle.sc_expr.specs.Query.{Asked}
use Rattle.sc_history.specs.Part.{Part}
use Rattle.sc_shelf.specs.Kept.{all_items}
use Rattle.sc_page.specs.declared.first.FirstItems.{FirstItems}
use Rattle.sc_page.specs.ItemKey.{item_order}
use Rattle.sc_page.specs.Kept.{IsSettled}
use Rattle.sc_page.specs.Leading.{last_of_full}
use Rattle.sc_page.specs.Order.{IsListing}
use Rattle.sc_page.specs.Search.{is_asked, shared}
use Rattle.sc_page.proofs.Growing.{apart-filter, ascending_from_pairs, ends_full, pairs_from_ascending, pairs_taken, untied, up_to_last}
use Rattle.sc_page.proofs.ItemOrders.{item_order_is}
use Rattle.sc_page.proofs.Leading.{rises-sort_by, sort_by-rising}
use Rattle.sc_page.proofs.Listing.{apart_permutation, filter_every, page_from_listing}
use Rattle.sc_walk.specs.Walk.{AreCandidates, HasNoneAhead, Rises, begins_with_time, cost, found, is_ahead, is_done, is_within}
use Rattle.sc_walk.proofs.Fronts.{back}
use Rattle.sc_walk.proofs.Stopping.{Done, goes_on, stops, none_comes, rest_none}
use Rattle.sc_walk.proofs.Taking.{items_of_both}

-- ---- places in a list

both_parts : {X : Type 0} (xs : List X) (i : ℕ) (x : X) → i < length xs → x ≡ get_or xs i x → xs ≡ take i xs ++ x ∷ drop (i + 1) xs
both_parts [] i x lt is = absurd (omega arith)
both_parts (y ∷ ys) zero x lt is = ap (λ z. z ∷ ys) (sym is)
both_parts (y ∷ ys) (suc i) x lt is = let e : suc (i + 1) ≡ suc i + 1 = omega arith in ap (λ l. y ∷ l) (both_parts ys i x (omega arith) is) ∙ ap (λ k. y ∷ (take i ys ++ x ∷ drop k (y ∷ ys))) e

all_behind : {X : Type 0} (P : X → Type 0) (xs ys : List X) → AllByRecursion P (xs ++ ys) → AllByRecursion P ys
all_behind P [] ys all = all
all_behind P (x ∷ xs) ys all = all_behind P xs ys all.1

rise_behind : {X : Type 0} (R : X → X → Type 0) (xs ys : List X) → IsAscending R (xs ++ ys) → IsAscending R ys
rise_behind R [] ys up = up
rise_behind R (x ∷ xs) ys up = rise_behind R xs ys up.1

module _ (asked : Asked) where
  abbrev order : Feature → Feature → Ordering
  order = item_order asked.sort

  abbrev ahead_of : Part → Feature → Bool
  ahead_of = is_ahead asked.sort

  abbrev items : Part → List Feature
  items part = part.items

  abbrev DoneAt : ℕ → List Feature → Part → Type 0
  DoneAt n kept part = Done order (is_asked asked) items ahead_of (back asked.sort) n kept part

  pub found_both : (xs ys : List Part) → found asked (xs ++ ys) ≡ found asked xs ++ found asked ys
  found_both xs ys = ap (filter (is_asked asked)) (items_of_both xs ys) ∙ filter-append (is_asked asked) (all_items xs) (all_items ys)

  -- ---- the test

  done_from_test : (n : ℕ) (kept : List Feature) (part : Part) → AllPairs (λ a b. order a b ≡ Less) kept → length kept ≤ n → is_done asked.sort (last_of_full n kept) part ≡ true → DoneAt n kept part
  done_from_test n kept part up long e = go (last_of_full n kept) refl e
    where
      go : (last : Option Feature) → last_of_full n kept ≡ last → is_done asked.sort last part ≡ true → DoneAt n kept part
      go None l e = cc
      go (Some last) l e =
          let ends = ends_full order (item_order_is asked.sort) n kept last l in
          let f = ends.full in
          record {
            full = omega (arith, f, long);
            before = all_weaker (λ y. is_gt (order y last) ≡ false) (λ y. ahead_of part y ≡ true) (λ y le. back asked.sort part y last le e) kept (up_to_last order (item_order_is asked.sort) kept last up ends.ends);
          }

  test_from_done : (n : ℕ) (kept : List Feature) (part : Part) → DoneAt (suc n) kept part → is_done asked.sort (last_of_full (suc n) kept) part ≡ true
  test_from_done n [] part d = let f = d.full in absurd (omega (arith, f))
  test_from_done n (x ∷ xs) part d =
      let f = d.full in
      let k : length (x ∷ xs) - 1 < length (x ∷ xs) = omega (arith, f) in
      let full : nat_lt (length (x ∷ xs)) (suc n) ≡ false = grind (arith, nat_tests, f) in
      let last : last_of_full (suc n) (x ∷ xs) ≡ Some (get_or (x ∷ xs) (length (x ∷ xs) - 1) x) =
      ap (λ (b : Bool). cond b None (slice_get (x ∷ xs) (length (x ∷ xs) - 1))) full ∙ slice_get-get_or (x ∷ xs) (length (x ∷ xs) - 1) x k in
      ap (λ l. is_done asked.sort l part) last ∙ All-from_recursion (λ y. ahead_of part y ≡ true) (x ∷ xs) d.before (length (x ∷ xs) - 1) x k

  -- ---- one step

  module _ (parts : List Part) (i : ℕ) (part : Part) (f : FirstItems) (c : AreCandidates asked.sort parts) (apart : AreApart (all_items parts)) (lt : i < length parts) (here : part ≡ get_or parts i part)
      (s : IsSettled asked f (all_items (take i parts))) where
    abbrev n : ℕ
    n = asked.limit + 1

    abbrev after : List Part
    after = drop (i + 1) parts

    abbrev kept : List Feature
    kept = shared f.first.items

    abbrev listed : List Feature
    listed = s.first.listed

    split : parts ≡ take i parts ++ part ∷ after
    split = both_parts parts i part lt here

    own : AllByRecursion (HasNoneAhead asked.sort) (part ∷ after)
    own = all_behind (HasNoneAhead asked.sort) (take i parts) (part ∷ after) (subst (AllByRecursion (HasNoneAhead asked.sort)) split c.own)

    rise : IsAscending (Rises asked.sort) (part ∷ after)
    rise = rise_behind (Rises asked.sort) (take i parts) (part ∷ after) (subst (IsAscending (Rises asked.sort)) split c.rise)

    same : IsPermutation (found asked (take i parts ++ part ∷ after)) (found asked parts)
    same = subst (λ l. IsPermutation (found asked l) (found asked parts)) split (IsPermutation-refl (found asked parts))

    listing : IsListing order (found asked (take i parts)) listed
    listing = subst (λ t. IsListing order t listed) (filter_every (found asked (take i parts))) s.first.is_listing

    perm : IsPermutation listed (found asked (take i parts))
    perm = IsPermutation-sym _ _ listing.same

    ascends : IsAscending (λ a b. order a b ≡ Less) listed
    ascends = ascending_from_pairs (λ a b. order a b ≡ Less) listed listing.ordered

    at_most : IsAscending (λ a b. is_gt (order a b) ≡ false) listed
    at_most = ascending_weaker (λ a b. order a b ≡ Less) (λ a b. is_gt (order a b) ≡ false) (λ a b e. ap is_gt e) listed ascends

    stays : sort_by order listed ≡ listed
    stays = sort_by-rising order (item_order_is asked.sort).total listed ascends

    abbrev test : Bool
    test = is_done asked.sort (last_of_full f.most kept) part

    pub step_opened : test ≡ false → is_within asked parts part ≡ true
    step_opened e =
        goes_on order (is_asked asked) items ahead_of (back asked.sort) asked.limit part (take i parts) after (found asked parts) listed rise.0 own same at_most perm
        (λ d. true≢false (sym (subst (λ k. is_done asked.sort (last_of_full k kept) part ≡ true) (sym (s.most ∙ add-one asked.limit))
        (test_from_done asked.limit kept part (subst (λ k. DoneAt k kept part) (add-one asked.limit) (subst (λ t. DoneAt n t part) (sym s.first.cut) d)))) ∙ e))

    taken : take (i + 1) parts ≡ take i parts ++ part ∷ []
    taken = take_more parts i part lt ∙ ap (λ p. take i parts ++ p ∷ []) (sym here)

    pub step_cost : cost (take (i + 1) parts) ≡ cost (take i parts) + 1 + length part.items
    step_cost =
        let e = ap cost taken ∙ sum_by-append (λ (p : Part). 1 + length p.items) (take i parts) (part ∷ []) in
        let g = sum_by-cons (λ (p : Part). 1 + length p.items) part [] in
        omega (arith, e, g)

    pub step_all : AllByRecursion (λ p. is_within asked parts p ≡ true) (take i parts) → is_within asked parts part ≡ true → AllByRecursion (λ p. is_within asked parts p ≡ true) (take (i + 1) parts)
    step_all all e = subst (AllByRecursion (λ p. is_within asked parts p ≡ true)) (sym taken) (all-append _ (take i parts) (part ∷ []) all (e, tt))

    -- ---- the end

    module _ (is : test ≡ true) where
      long : length kept ≤ n
      long = let e = ap length s.first.cut ∙ length-take n listed in omega (arith, e)

      done : DoneAt n (take n (sort_by order listed)) part
      done =
          subst (λ t. DoneAt n t part) (s.first.cut ∙ ap (take n) (sym stays))
          (done_from_test n kept part (subst (AllPairs (λ a b. order a b ≡ Less)) (sym s.first.cut) (pairs_taken (λ a b. order a b ≡ Less) n listed listing.ordered)) long
          (subst (λ k. is_done asked.sort (last_of_full k kept) part ≡ true) s.most is))

      pub stop_opened : AllByRecursion (λ p. is_within asked parts p ≡ true) (take i parts) → filter (is_within asked parts) parts ≡ take i parts
      stop_opened all =
          let opened = is_within asked parts in
          let none = stops order (is_asked asked) items ahead_of (back asked.sort) asked.limit part (take i parts) after (found asked parts) (sort_by order listed) rise.0 same
          (subst (λ t. IsPermutation t (found asked (take i parts))) (sym stays) perm) done in
          ap (filter opened) split ∙ filter-append opened (take i parts) (part ∷ after)
          ∙ ap (λ l. l ++ filter opened (part ∷ after)) (filter_all opened (take i parts) all)
          ∙ ap (λ l. take i parts ++ l) (filter_none opened (part ∷ after) none) ∙ append-nil (take i parts)

      -- the first of the items so far are the first of all
      pub stop_settled : IsSettled asked f (all_items parts)
      stop_settled =
          let rest = found asked (part ∷ after) in
          let all : IsPermutation (found asked parts) (rest ++ listed) =
          subst (λ t. IsPermutation t (rest ++ listed)) (sym (ap (found asked) split ∙ found_both (take i parts) (part ∷ after)))
          (IsPermutation-trans _ _ _ (IsPermutation-append_comm (found asked (take i parts)) rest) (IsPermutation-append_right rest (found asked (take i parts)) listed listing.same)) in
          let free = untied order (item_order_is asked.sort) (rest ++ listed) (apart_permutation (found asked parts) (rest ++ listed) all (apart-filter (is_asked asked) (all_items parts) apart)) in
          let whole : IsListing order (found asked parts) (sort_by order (rest ++ listed)) = record {
            same = IsPermutation-trans _ _ _ all (IsPermutation-sym _ _ (IsPermutation-sort_by order (item_order_is asked.sort).total (rest ++ listed)));
            ordered = pairs_from_ascending (λ a b. order a b ≡ Less) _ (rises-sort_by order (item_order_is asked.sort).total (rest ++ listed) free);
          } in
          record {
            most = s.most;
            first = page_from_listing order n (found asked parts) (sort_by order (rest ++ listed)) kept whole
                (s.first.cut ∙ ap (take n) (sym stays) ∙ sym (none_comes order (is_asked asked) items ahead_of (back asked.sort) n part rest listed (rest_none order (is_asked asked) items ahead_of (back asked.sort) part after rise.0 own) done));
            none = s.none;
          }

-- what is opened so far costs at most what is opened in all
pub within_cost : (opened : Part → Bool) (parts : List Part) (k : ℕ) → AllByRecursion (λ p. opened p ≡ true) (take k parts) → cost (take k parts) ≤ cost (filter opened parts)
within_cost opened parts k all =
    let whole =
    ap (filter opened) (sym (take-append-drop k parts)) ∙ filter-append opened (take k parts) (drop k parts)
    ∙ ap (λ l. l ++ filter opened (drop k parts)) (filter_all opened (take k parts) all) in
    let e = ap cost whole ∙ sum_by-append (λ (p : Part). 1 + length p.items) (take k parts) (filter opened (drop k parts)) in
    omega (arith, e)

-- ---- all parts

pub cost_next : (parts : List Part) (i : ℕ) (part : Part) → i < length parts → part ≡ get_or parts i part → cost (take (i + 1) parts) ≡ cost (take i parts) + 1 + length part.items
cost_next parts i part lt here =
    let taken : take (i + 1) parts ≡ take i parts ++ part ∷ [] = take_more parts i part lt ∙ ap (λ p. take i parts ++ p ∷ []) (sym here) in
    let e = ap cost taken ∙ sum_by-append (λ (p : Part). 1 + length p.items) (take i parts) (part ∷ []) in
    let g = sum_by-cons (λ (p : Part). 1 + length p.items) part [] in
    omega (arith, e, g)

pub cost_front : (parts : List Part) (k : ℕ) → cost (take k parts) ≤ cost parts
cost_front parts k =
    let e = ap cost (sym (take-append-drop k parts)) ∙ sum_by-append (λ (p : Part). 1 + length p.items) (take k parts) (drop k parts) in
    omega (arith, e)

none_ahead : (sort : List Key) (part : Part) → begins_with_time sort ≡ false → (xs : List Feature) → AllByRecursion (λ x. is_ahead sort part x ≡ false) xs
none_ahead sort part e [] = tt
none_ahead sort part e (x ∷ xs) = (first sort e, none_ahead sort part e xs)
  where
    first : (keys : List Key) → begins_with_time keys ≡ false → is_ahead keys part x ≡ false
    first [] e = refl
    first (key ∷ keys) e = rw e refl

-- where the order doesn't begin with the time, no part is left out
within_other : (asked : Asked) (all : List Part) (part : Part) → begins_with_time asked.sort ≡ false → is_within asked all part ≡ true
within_other asked all part e = go (is_within asked all part) refl
  where
    go : (b : Bool) → is_within asked all part ≡ b → is_within asked all part ≡ true
    go true h = h
    go false h =
        let none : length (filter (is_ahead asked.sort part) (found asked all)) ≡ 0 = ap length (filter_none (is_ahead asked.sort part) (found asked all) (none_ahead asked.sort part e (found asked all))) in
        absurd (grind (arith, nat_tests, h, none))

pub all_within : (asked : Asked) (parts : List Part) → begins_with_time asked.sort ≡ false → filter (is_within asked parts) parts ≡ parts
all_within asked parts e = filter_all (is_within asked parts) parts (each parts)
  where
    each : (ps : List Part) → AllByRecursion (λ p. is_within asked parts p ≡ true) ps
    each [] = tt
    each (p ∷ ps) = (within_other asked parts p e, each ps)
