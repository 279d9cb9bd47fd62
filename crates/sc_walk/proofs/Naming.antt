-- Ids, each once, and the items that have one of them.
use Rattle.std.proofs.Common.{◌≡◌, ◌<◌, ◌+◌, ℕ, Bool, true, false, not, ◌||◌, cond, Option, Some, None, List, [], ◌∷◌, ◌++◌, take, length, get_or, map, filter, find, append-nil, append_assoc, refl, sym, ap, ◌∙◌, subst, arith, true≢false, IsPermutation}
use Rattle.std.specs.List.{AllByRecursion, list_any}
use Rattle.std.specs.Option.{option_to_list}
use Rattle.std.specs.Str.{bytes_eq}
use Rattle.std.proofs.lemmas.Slice.Eq.{bytes_eq-Decides}
use Rattle.std.proofs.lemmas.List.{take_more}
use Rattle.std.proofs.lemmas.List.Folds.{list_any-append}
use Rattle.std.proofs.lemmas.List.Elements.{filter-append}
use Rattle.std.proofs.lemmas.List.Sorted.{IsPermutation-append_right, IsPermutation-append_comm, IsPermutation-sym, IsPermutation-trans}
use Rattle.sqlite_trees.specs.Tree.{IsAscending}
use Rattle.sqlite_keyed.proofs.ListLemmas.{all_weaker, filter-filter, none_from_any, IsPermutation-filter}
use Rattle.sqlite_keyed.proofs.RuleLemmas.{first_of_both, second_of_both}
use Rattle.sc_item.specs.Feature.{Feature}
use Rattle.sc_item.specs.Names.{AreApart, HaveOneName}
use Rattle.sc_part.specs.Scan.{HaveOwnIds}
use Rattle.sc_part.specs.Version.{IsKept, Version}
use Rattle.sc_expr.specs.Query.{Asked}
use Rattle.sc_eval.specs.Names.{AreNamesOf, AreSameNames}
use Rattle.sc_eval.specs.Selection.{is_listed, is_one_of, is_selected}
use Rattle.sc_eval.proofs.Tables.{any_map}
use Rattle.sc_page.specs.Search.{is_asked, is_behind}
use Rattle.sc_page.proofs.Growing.{ascending_from_pairs, pairs_from_ascending}
use Rattle.sc_page.proofs.Listing.{apart_permutation}
use Rattle.sc_walk.specs.Ids.{AreOnce, looked_up}

-- ---- one id more

pub told_new : {K : Type 0} (f : K → List ℕ) (k : K) (old : List K) (names : List (List ℕ)) (x : List ℕ) (added : Bool) → added ≡ not (list_any (λ o. bytes_eq (f k) (f o)) old) → f k ≡ x → AreSameNames (map f old) names
    → added ≡ not (is_one_of names x)
told_new f k old names x added was told same = was ∙ ap not (sym (any_map f (bytes_eq (f k)) old) ∙ ap (is_one_of (map f old)) told ∙ same x)

turned : (x y : List ℕ) → bytes_eq x y ≡ false → bytes_eq y x ≡ false
turned x y e = go (bytes_eq y x) refl
  where
    go : (b : Bool) → bytes_eq y x ≡ b → bytes_eq y x ≡ false
    go true h = absurd (true≢false (sym ((bytes_eq-Decides x y).1 (sym ((bytes_eq-Decides y x).0 h))) ∙ e))
    go false h = h

at_end : {X : Type 0} (R : X → X → Type 0) (xs : List X) (x : X) → IsAscending R xs → AllByRecursion (λ y. R y x) xs → IsAscending R (xs ++ x ∷ [])
at_end R [] x up all = (tt, tt)
at_end R (y ∷ ys) x up all = (behind ys up.0, at_end R ys x up.1 all.1)
  where
    behind : (zs : List _) → AllByRecursion (R y) zs → AllByRecursion (R y) (zs ++ x ∷ [])
    behind [] h = (all.0, tt)
    behind (z ∷ zs) h = (h.0, behind zs h.1)

is_known : (b : Bool) → false ≡ not b → b ≡ true
is_known true e = refl
is_known false e = cc

is_unknown : (b : Bool) → true ≡ not b → b ≡ false
is_unknown true e = cc
is_unknown false e = refl

either_way : (b c : Bool) → (c ≡ true → b ≡ true) → b ≡ (b || (c || false))
either_way true c h = refl
either_way false true h = h refl
either_way false false h = refl

pub push_once : (once names : List (List ℕ)) (x : List ℕ) (added : Bool) → added ≡ not (is_one_of names x) → AreOnce once → AreSameNames once names
    → AreOnce (once ++ cond added (x ∷ []) []) × AreSameNames (once ++ cond added (x ∷ []) []) (names ++ x ∷ [])
push_once once names x true was o same = (
  at_end (λ a b. bytes_eq a b ≡ false) once x o (all_weaker (λ y. bytes_eq x y ≡ false) (λ y. bytes_eq y x ≡ false) (turned x) once (none_from_any (bytes_eq x) once (same x ∙ is_unknown (is_one_of names x) was))),
  λ name. list_any-append (bytes_eq name) once (x ∷ []) ∙ ap (λ b. b || (bytes_eq name x || false)) (same name) ∙ sym (list_any-append (bytes_eq name) names (x ∷ [])),
)
push_once once names x false was o same = (
  subst AreOnce (sym (append-nil once)) o,
  λ name. ap (λ l. is_one_of l name) (append-nil once) ∙ same name
      ∙ either_way (is_one_of names name) (bytes_eq name x) (λ e. ap (is_one_of names) ((bytes_eq-Decides name x).0 e) ∙ is_known (is_one_of names x) was)
      ∙ sym (list_any-append (bytes_eq name) names (x ∷ [])),
)

-- ---- the items of one id more

looked_up_both : (xs ys : List (List ℕ)) (items : List Feature) → looked_up (xs ++ ys) items ≡ looked_up xs items ++ looked_up ys items
looked_up_both [] ys items = refl
looked_up_both (x ∷ xs) ys items =
    let first = option_to_list (find (λ item. bytes_eq item.id x) items) in
    ap (λ l. first ++ l) (looked_up_both xs ys items) ∙ sym (append_assoc first (looked_up xs items) (looked_up ys items))

pub looked_up_next : (ids : List (List ℕ)) (items : List Feature) (i : ℕ) (id : List ℕ) → i < length ids → id ≡ get_or ids i id → looked_up (take (i + 1) ids) items ≡ looked_up (take i ids) items ++ option_to_list (find (λ item. bytes_eq item.id id) items)
looked_up_next ids items i id lt here =
    let found = option_to_list (find (λ item. bytes_eq item.id id) items) in
    ap (λ l. looked_up l items) (take_more ids i id lt ∙ ap (λ p. take i ids ++ p ∷ []) (sym here)) ∙ looked_up_both (take i ids) (id ∷ []) items ∙ ap (λ l. looked_up (take i ids) items ++ l) (append-nil found)

-- ---- items of which some are found

-- items of a part have ids of their own
pub own_ids : (v : Version) → IsKept v → HaveOwnIds v.items
own_ids v kept i j d l m e =
    let a = kept.fits i d (omega (arith, l, m)) in
    let b = kept.fits j d m in
    kept.apart i j d l m (a.collection ∙ sym b.collection, e)

abbrev HaveTwoNames : Feature → Feature → Type 0
HaveTwoNames a b = ¬ HaveOneName a b

-- those of the items that pass a test are apart too from those before
pub apart_some : (keep : Feature → Bool) (before items found : List Feature) → IsPermutation found (filter keep items) → AreApart (before ++ items) → AreApart (before ++ found)
apart_some keep before items found same apart =
    let turned = ascending_from_pairs HaveTwoNames (items ++ before) (apart_permutation (before ++ items) (items ++ before) (IsPermutation-append_comm before items) apart) in
    let some = pairs_from_ascending HaveTwoNames (filter keep items ++ before) (kept_front HaveTwoNames keep items before turned) in
    apart_permutation (filter keep items ++ before) (before ++ found)
    (IsPermutation-trans _ _ _ (IsPermutation-append_comm (filter keep items) before) (IsPermutation-append_right before (filter keep items) found (IsPermutation-sym _ _ same))) some
  where
    all_front : (P : Feature → Type 0) (k : Feature → Bool) (xs ys : List Feature) → AllByRecursion P (xs ++ ys) → AllByRecursion P (filter k xs ++ ys)
    all_front P k [] ys all = all
    all_front P k (x ∷ xs) ys all = elim (k x) as (λ b. AllByRecursion P (cond b (x ∷ filter k xs) (filter k xs) ++ ys)) [ true ↦ (all.0, all_front P k xs ys all.1) | false ↦ all_front P k xs ys all.1 ]

    kept_front : (R : Feature → Feature → Type 0) (k : Feature → Bool) (xs ys : List Feature) → IsAscending R (xs ++ ys) → IsAscending R (filter k xs ++ ys)
    kept_front R k [] ys up = up
    kept_front R k (x ∷ xs) ys up = elim (k x) as (λ b. IsAscending R (cond b (x ∷ filter k xs) (filter k xs) ++ ys)) [ true ↦ (all_front (R x) k xs ys up.0, kept_front R k xs ys up.1) | false ↦ kept_front R k xs ys up.1 ]

-- what is asked for has one of the ids
has_one_of : (asked : Asked) (ids : List (List ℕ)) → AreNamesOf (Some ids) asked.select.ids → (item : Feature) → is_asked asked item ≡ true → is_one_of ids item.id ≡ true
unfolding is_selected
has_one_of asked ids are item e =
    let s = second_of_both (is_behind asked.sort asked.after item) (is_selected asked.select item) e in
    let l = first_of_both (is_listed asked.select.ids item.id) _ (second_of_both (is_listed asked.select.collections item.collection) _ s) in
    go asked.select.ids are l
  where
    go : (names : Option (List (List ℕ))) → AreNamesOf (Some ids) names → is_listed names item.id ≡ true → is_one_of ids item.id ≡ true
    go None are l = absurd are
    go (Some names) are l = are item.id ∙ l

pub asked_among : (asked : Asked) (ids : List (List ℕ)) (before items found : List Feature) → AreNamesOf (Some ids) asked.select.ids → IsPermutation found (filter (λ item. is_one_of ids item.id) items)
    → IsPermutation (filter (is_asked asked) (before ++ found)) (filter (is_asked asked) (before ++ items))
asked_among asked ids before items found are same =
    let some = subst (IsPermutation (filter (is_asked asked) found)) (filter-filter (is_asked asked) (λ item. is_one_of ids item.id) (has_one_of asked ids are) items) (IsPermutation-filter (is_asked asked) found (filter (λ item. is_one_of ids item.id) items) same) in
    subst (λ l. IsPermutation l (filter (is_asked asked) (before ++ items))) (sym (filter-append (is_asked asked) before found))
    (subst (IsPermutation (filter (is_asked asked) before ++ filter (is_asked asked) found)) (sym (filter-append (is_asked asked) before items))
    (IsPermutation-append_right (filter (is_asked asked) before) (filter (is_asked asked) found) (filter (is_asked asked) items) some))
