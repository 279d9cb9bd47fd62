-- What one page leaves: behind the place that it gives as the next, the rest of what was asked for is asked for.
use Rattle.std.proofs.Common.{◌≡◌, ◌<◌, ◌≤◌, ◌-◌, ℕ, suc, zero, Bool, true, false, cond, ◌&&◌, nat_lt, Option, Some, None, option_map, List, [], ◌∷◌, ◌++◌, take, drop, filter, length, slice_get, refl, sym, ap, subst, ◌∙◌, arith, Less, is_gt, IsPermutation}
use Rattle.std.specs.List.{AllByRecursion}
use Rattle.std.proofs.lemmas.Bool.Decides.{nat_tests}
use Rattle.std.proofs.lemmas.List.{take-append-drop, length-take-le, take_all}
use Rattle.std.proofs.lemmas.List.Elements.{filter-append, filter_passes, recursion_from_All}
use Rattle.std.proofs.lemmas.List.Sorted.{All-permutation, IsPermutation-trans, length_permutation}
use Rattle.sqlite_trees.specs.Tree.{IsAscending}
use Rattle.sqlite_keyed.proofs.ListLemmas.{IsPermutation-filter, all-slice_get, filter-filter, filter_all, filter_none, all_both, all_weaker}
use Rattle.sqlite_keyed.proofs.RuleLemmas.{first_of_both, second_of_both}
use Rattle.sc_item.specs.Feature.{Feature}
use Rattle.sc_sort.specs.Keys.{Keys}
use Rattle.sc_sort.specs.Order.{keys_order}
use Rattle.sc_sort.proofs.Orders.{keys_total}
use Rattle.sc_expr.specs.Query.{Asked}
use Rattle.sc_eval.specs.Selection.{is_selected}
use Rattle.sc_page.specs.ItemKey.{key_of, item_order}
use Rattle.sc_page.specs.Order.{IsListing}
use Rattle.sc_page.specs.Search.{is_behind, is_asked, next_of}
use Rattle.sc_page.proofs.Growing.{ascending_from_pairs, pairs_from_ascending}
use Rattle.sc_page.proofs.ItemOrders.{item_order_is}
use Rattle.sc_chain.specs.Chain.{behind, IsAll, IsPageOf}
use Rattle.sc_chain.proofs.Cutting.{get_taken, ascending_dropped, all_dropped, after_after, up_to_cut, behind_cut}

-- the rest of what is asked for, which is what is asked for behind the place
pub record Leaves (asked : Asked) (items page : List Feature) (place : Keys) : Type 0 where
  pub rest : List Feature
  pub all : IsAll asked items (page ++ rest)
  pub left : IsAll (behind asked place) items rest
  pub full : length page ≡ asked.limit

-- the item that a page ends at, where the next begins behind it
pub record EndsAt (asked : Asked) (kept page : List Feature) (place : Keys) : Type 0 where
  pub more : asked.limit < length (filter (is_asked asked) kept)
  pub item : Feature
  pub is_last : slice_get page (length page - 1) ≡ Some item
  pub its_key : place ≡ key_of asked.sort item

some_same : {X : Type 0} (a b : X) → Some a ≡ Some b → a ≡ b
some_same a b e = cc

pub ends_at : (asked : Asked) (kept page : List Feature) (place : Keys) → Some place ≡ next_of asked kept page → EndsAt asked kept page place
ends_at asked kept page place e = go (nat_lt asked.limit (length (filter (is_asked asked) kept))) refl (slice_get page (length page - 1)) refl e
  where
    go : (b : Bool) → nat_lt asked.limit (length (filter (is_asked asked) kept)) ≡ b → (o : Option Feature) → slice_get page (length page - 1) ≡ o
        → Some place ≡ cond b (option_map (key_of asked.sort) o) None → EndsAt asked kept page place
    go false l o s h = cc
    go true l None s h = cc
    go true l (Some item) s h = record { more = grind (arith, nat_tests); item = item; is_last = s; its_key = some_same place (key_of asked.sort item) h }

-- a listing has what is asked for
all_asked : (asked : Asked) (kept listed : List Feature) → IsListing (item_order asked.sort) (filter (is_asked asked) kept) listed → AllByRecursion (λ x. is_asked asked x ≡ true) listed
all_asked asked kept listed l =
    let P : Feature → Type 0 = λ x. is_asked asked x ≡ true in
    recursion_from_All P listed (All-permutation P (filter (is_asked asked) kept) listed l.same (filter_passes (is_asked asked) kept))

-- in whatever order the items are kept
of_kept : (asked : Asked) (items kept listed : List Feature) → IsPermutation items kept → IsListing (item_order asked.sort) (filter (is_asked asked) kept) listed → IsAll asked items listed
of_kept asked items kept listed same l = record { same = IsPermutation-trans _ _ _ (IsPermutation-filter (is_asked asked) items kept same) l.same; ordered = l.ordered }

got : {X : Type 0} (n : ℕ) (xs : List X) → n < length xs → slice_get xs n ≡ None → ⊥
got n [] lt e = absurd (omega (arith, lt))
got zero (x ∷ xs) lt e = cc
got (suc n) (x ∷ xs) lt e = got n xs (omega (arith, lt)) e

-- where there is no next, the limit is enough
few : (asked : Asked) (kept page listed : List Feature) → 1 ≤ asked.limit → IsListing (item_order asked.sort) (filter (is_asked asked) kept) listed → page ≡ take asked.limit listed → None ≡ next_of asked kept page → length listed ≤ asked.limit
few asked kept page listed some l cut e =
    let long : length listed ≡ length (filter (is_asked asked) kept) = length_permutation _ listed l.same in
    go long (nat_lt asked.limit (length (filter (is_asked asked) kept))) refl (slice_get page (length page - 1)) refl e
  where
    go : length listed ≡ length (filter (is_asked asked) kept) → (b : Bool) → nat_lt asked.limit (length (filter (is_asked asked) kept)) ≡ b → (o : Option Feature) → slice_get page (length page - 1) ≡ o
        → None ≡ cond b (option_map (key_of asked.sort) o) None → length listed ≤ asked.limit
    go long false h o s n = grind (arith, nat_tests)
    go long true h (Some item) s n = cc
    go long true h None s n =
        let m : asked.limit < length listed = grind (arith, nat_tests) in
        let count : length page ≡ asked.limit = ap length cut ∙ length-take-le asked.limit listed (omega (arith, m)) in
        absurd (got (length page - 1) page (omega (arith, count, some)) s)

module _ (asked : Asked) (items kept listed : List Feature) (last : Feature) (asked_last : is_asked asked last ≡ true) where
  abbrev here : Asked
  here = behind asked (key_of asked.sort last)

  -- what is asked for behind the last is asked for
  asked_before : (x : Feature) → is_asked here x ≡ true → is_asked asked x ≡ true
  asked_before x e =
      let b : is_gt (item_order asked.sort x last) ≡ true = first_of_both _ (is_selected asked.select x) e in
      let s : is_selected asked.select x ≡ true = second_of_both (is_gt (item_order asked.sort x last)) _ e in
      both (go asked.after (first_of_both _ (is_selected asked.select last) asked_last) b) s
    where
      go : (after : Option Keys) → is_behind asked.sort after last ≡ true → is_gt (item_order asked.sort x last) ≡ true → is_behind asked.sort after x ≡ true
      go None p b = refl
      go (Some place) p b = after_after (keys_order asked.sort) (keys_total asked.sort) (key_of asked.sort x) (key_of asked.sort last) place b p

      both : {p q : Bool} → p ≡ true → q ≡ true → (p && q) ≡ true
      both e f = rw (e, f) refl

  not_asked : (x : Feature) → is_gt (item_order asked.sort x last) ≡ false → is_asked here x ≡ false
  not_asked x e = rw e refl

  still_asked : (x : Feature) → is_gt (item_order asked.sort x last) ≡ true → is_asked asked x ≡ true → is_asked here x ≡ true
  still_asked x e f = rw e (second_of_both (is_behind asked.sort asked.after x) _ f)

  -- what stands behind the last in the listing is what is asked for behind it
  module _ (n : ℕ) (l : IsListing (item_order asked.sort) (filter (is_asked asked) kept) listed) (same : IsPermutation items kept) (at : slice_get listed n ≡ Some last) where
    abbrev IsUpTo : Feature → Type 0
    IsUpTo x = is_gt (item_order asked.sort x last) ≡ false

    abbrev IsAfter : Feature → Type 0
    IsAfter x = is_gt (item_order asked.sort x last) ≡ true

    abbrev IsAsked : Feature → Type 0
    IsAsked x = is_asked asked x ≡ true

    abbrev IsBefore : Feature → Feature → Type 0
    IsBefore a b = item_order asked.sort a b ≡ Less

    rises : IsAscending IsBefore listed
    rises = ascending_from_pairs IsBefore listed l.ordered

    left_listed : filter (is_asked here) listed ≡ drop (suc n) listed
    left_listed =
        ap (filter (is_asked here)) (sym (take-append-drop (suc n) listed)) ∙ filter-append (is_asked here) (take (suc n) listed) (drop (suc n) listed)
        ∙ ap (λ t. t ++ filter (is_asked here) (drop (suc n) listed))
        (filter_none (is_asked here) (take (suc n) listed) (all_weaker IsUpTo (λ x. is_asked here x ≡ false) not_asked (take (suc n) listed) (up_to_cut (item_order asked.sort) (item_order_is asked.sort).total n listed last rises at)))
        ∙ filter_all (is_asked here) (drop (suc n) listed)
        (all_both IsAfter IsAsked (λ x. is_asked here x ≡ true) still_asked (drop (suc n) listed) (behind_cut (item_order asked.sort) (item_order_is asked.sort).total n listed last rises at) (all_dropped IsAsked (suc n) listed (all_asked asked kept listed l)))

    left : IsAll here items (drop (suc n) listed)
    left = record {
      same =
          subst (λ t. IsPermutation (filter (is_asked here) items) t) left_listed
          (subst (λ t. IsPermutation t (filter (is_asked here) listed)) (filter-filter (is_asked here) (is_asked asked) asked_before items)
          (IsPermutation-filter (is_asked here) (filter (is_asked asked) items) listed (of_kept asked items kept listed same l).same));
      ordered = pairs_from_ascending IsBefore (drop (suc n) listed) (ascending_dropped IsBefore (suc n) listed rises);
    }

-- a page that has a next leaves what stands behind it
pub leaves : (asked : Asked) (items page : List Feature) (place : Keys) → 1 ≤ asked.limit → IsPageOf asked items page (Some place) → Leaves asked items page place
leaves asked items page place some p =
    go asked.limit refl (ends_at asked p.kept page place p.is_page.next_is)
  where
    listed : List Feature
    listed = p.is_page.flat.listed

    go : (n : ℕ) → asked.limit ≡ n → EndsAt asked p.kept page place → Leaves asked items page place
    go zero e z = absurd (omega (arith, some, e))
    go (suc n) e z =
        let l = p.is_page.flat.is_listing in
        let long : length listed ≡ length (filter (is_asked asked) p.kept) = length_permutation _ listed l.same in
        let cut : page ≡ take (suc n) listed = p.is_page.flat.cut ∙ ap (λ k. take k listed) e in
        let count : length page ≡ suc n = ap length cut ∙ length-take-le (suc n) listed (omega (arith, long, e, z.more)) in
        let at : slice_get listed n ≡ Some z.item =
        sym (get_taken n listed) ∙ ap (λ t. slice_get t n) (sym cut) ∙ ap (slice_get page) (sym (let h : length page - 1 ≡ n = omega (arith, count) in h)) ∙ z.is_last in
        let asked_last : is_asked asked z.item ≡ true = all-slice_get (λ x. is_asked asked x ≡ true) listed n z.item at (all_asked asked p.kept listed l) in
        record {
          rest = drop (suc n) listed;
          all = subst (IsAll asked items) (sym (ap (λ t. t ++ drop (suc n) listed) cut ∙ take-append-drop (suc n) listed)) (of_kept asked items p.kept listed p.same l);
          left = subst (λ k. IsAll (behind asked k) items (drop (suc n) listed)) (sym z.its_key) (left asked items p.kept listed z.item asked_last n l p.same at);
          full = count ∙ sym e;
        }

-- a page that has no next has all that is asked for
pub ends : (asked : Asked) (items page : List Feature) → 1 ≤ asked.limit → IsPageOf asked items page None → IsAll asked items page
ends asked items page some p =
    subst (IsAll asked items) (sym (p.is_page.flat.cut ∙ take_all asked.limit listed (few asked p.kept page listed some l p.is_page.flat.cut p.is_page.next_is))) (of_kept asked items p.kept listed p.same l)
  where
    listed : List Feature
    listed = p.is_page.flat.listed

    l : IsListing (item_order asked.sort) (filter (is_asked asked) p.kept) listed
    l = p.is_page.flat.is_listing
