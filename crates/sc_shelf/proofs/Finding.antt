-- How an item is found among the items of parts by its collection and id.
use Rattle.std.proofs.Common.{◌≡◌, ◌≢◌, ℕ, ◌+◌, ◌<◌, ◌≤◌, Bool, true, false, cond, List, [], ◌∷◌, ◌++◌, length, get_or, take, drop, Option, Some, None, refl, sym, ap, ◌∙◌, subst, arith, bytes_eq}
use Rattle.std.specs.Prelude.{find, OnErr, Result, Ok, Err}
use Rattle.std.specs.List.{All, AllByRecursion}
use Rattle.std.proofs.lemmas.List.{drop_more}
use Rattle.std.proofs.lemmas.List.Elements.{recursion_from_All}
use Rattle.std.proofs.lemmas.List.Folds.{length-flat_map-take}
use Rattle.sqlite_keyed.proofs.ListLemmas.{all_weaker}
use Rattle.sc_item.specs.Feature.{Feature}
use Rattle.sc_history.specs.Content.{is_item, item_in}
use Rattle.sc_history.specs.Names.{Fits}
use Rattle.sc_history.specs.Part.{Part}
use Rattle.sc_history.proofs.Texts.{same_text, text_test}
use Rattle.sc_shelf.specs.Kept.{AreParts, HasItsOwn, all_items}
use Rattle.sc_shelf.specs.Run.{IsRunOf}
use Rattle.sc_shelf.proofs.Between.{all_split}

-- ---- what is found in two lists

pub find_past : {X : Type 0} (test : X → Bool) (xs ys : List X) → find test xs ≡ None → find test (xs ++ ys) ≡ find test ys
find_past test [] ys e = refl
find_past {X} test (x ∷ xs) ys e = go (test x) e (find_past test xs ys)
  where
    go : (t : Bool) → cond t (Some x) (find test xs) ≡ None → (find test xs ≡ None → find test (xs ++ ys) ≡ find test ys) → cond t (Some x) (find test (xs ++ ys)) ≡ find test ys
    go true e more = cc
    go false e more = more e

pub find_here : {X : Type 0} (test : X → Bool) (xs ys : List X) (x : X) → find test xs ≡ Some x → find test (xs ++ ys) ≡ Some x
find_here test [] ys x e = cc
find_here {X} test (y ∷ xs) ys x e = go (test y) e (find_here test xs ys x)
  where
    go : (t : Bool) → cond t (Some y) (find test xs) ≡ Some x → (find test xs ≡ Some x → find test (xs ++ ys) ≡ Some x) → cond t (Some y) (find test (xs ++ ys)) ≡ Some x
    go true e more = e
    go false e more = more e

nothing_found : {X : Type 0} (test : X → Bool) (xs : List X) → AllByRecursion (λ x. test x ≡ false) xs → find test xs ≡ None
nothing_found test [] all = refl
nothing_found test (x ∷ xs) all = rw all.0 (nothing_found test xs all.1)

found_alike : {X : Type 0} (test other : X → Bool) (xs : List X) → AllByRecursion (λ x. test x ≡ other x) xs → find test xs ≡ find other xs
found_alike test other [] all = refl
found_alike test other (x ∷ xs) all = rw (all.0, found_alike test other xs all.1) refl

-- ---- the items of a part

not_same : (a b : List ℕ) → a ≢ b → bytes_eq a b ≡ false
not_same a b ne = go (bytes_eq a b) refl
  where
    go : (t : Bool) → bytes_eq a b ≡ t → bytes_eq a b ≡ false
    go true e = absurd (ne (same_text a b e))
    go false e = e

-- an item of another collection isn't among those of the part
pub none_of_other : (collection id : List ℕ) (part : Part) → HasItsOwn part → part.name.collection ≢ collection → find (is_item collection id) part.items ≡ None
none_of_other collection id part own ne =
    nothing_found (is_item collection id) part.items
    (all_weaker (Fits part.name) (λ i. is_item collection id i ≡ false) (λ i fit. rw (not_same i.collection collection (λ e. ne (sym fit.collection ∙ e))) refl) part.items (recursion_from_All (Fits part.name) part.items own))

-- one of its collection is found by its id
pub by_id : (collection id : List ℕ) (part : Part) → HasItsOwn part → part.name.collection ≡ collection → find (is_item collection id) part.items ≡ find (λ i. bytes_eq i.id id) part.items
by_id collection id part own same =
    found_alike (is_item collection id) (λ i. bytes_eq i.id id) part.items
    (all_weaker (Fits part.name) (λ i. is_item collection id i ≡ bytes_eq i.id id) (λ i fit. rw (text_test i.collection collection (fit.collection ∙ same)) refl) part.items (recursion_from_All (Fits part.name) part.items own))

-- ---- all parts

flat_append : (xs ys : List Part) → all_items (xs ++ ys) ≡ all_items xs ++ all_items ys
flat_append [] ys = refl
flat_append (x ∷ xs) ys = ap (λ l. x.items ++ l) (flat_append xs ys) ∙ sym (assoc x.items (all_items xs) (all_items ys))
  where
    assoc : (a b c : List Feature) → (a ++ b) ++ c ≡ a ++ (b ++ c)
    assoc [] b c = refl
    assoc (a ∷ as') b c = ap (λ l. a ∷ l) (assoc as' b c)

none_of_others : (collection id : List ℕ) (parts : List Part) → AllByRecursion HasItsOwn parts → AllByRecursion (λ p. p.name.collection ≢ collection) parts → find (is_item collection id) (all_items parts) ≡ None
none_of_others collection id [] own ne = refl
none_of_others collection id (x ∷ parts) own ne =
    find_past (is_item collection id) x.items (all_items parts) (none_of_other collection id x own.0 ne.0) ∙ none_of_others collection id parts own.1 ne.1

or_none : (found : Option Feature) (test : Feature → Bool) (xs ys : List Feature) → find test xs ≡ found → find test ys ≡ None → find test (xs ++ ys) ≡ found
or_none None test xs ys e none = find_past test xs ys e ∙ none
or_none (Some x) test xs ys e none = find_here test xs ys x e

-- what is found among the parts of the collection is found among all
-- what holds anyway holds where there is an error
pub err_anyway : {T E P : Type 0} (r : Result T E) → P → OnErr r P
err_anyway (Ok x) p = tt
err_anyway (Err e) p = p

-- where the parts before one count their items and one each, that one's with all of these are no more than all have
pub within_all : (parts : List Part) (i : ℕ) (p : Part) (old so_far new : ℕ) → i < length parts → p ≡ get_or parts i p → so_far ≡ old + i + length (all_items (take i parts)) → new ≡ so_far + 1 + length p.items → new ≤ old + length parts + length (all_items parts)
within_all parts i p old so_far new lt here before more =
    let most : length (all_items (take i parts)) + length p.items ≤ length (all_items parts) = subst (λ q. length (all_items (take i parts)) + length q.items ≤ length (all_items parts)) (sym here) (length-flat_map-take (λ q. q.items) parts i p lt) in
    omega (arith, before, more, most, lt)

pub found_in_run : (collection id : List ℕ) (parts run : List Part) → AreParts parts → IsRunOf collection parts run → item_in (all_items run) collection id ≡ item_in (all_items parts) collection id
found_in_run collection id parts run are is =
    let own = subst (AllByRecursion HasItsOwn) is.whole (recursion_from_All HasItsOwn parts are.own) in
    let first = all_split HasItsOwn is.before (run ++ is.after) own in
    let second = all_split HasItsOwn run is.after first.1 in
    let before = none_of_others collection id is.before first.0 (recursion_from_All (λ p. p.name.collection ≢ collection) is.before is.others) in
    let behind = none_of_others collection id is.after second.1 (recursion_from_All (λ p. p.name.collection ≢ collection) is.after is.behind) in
    sym (ap (λ l. find (is_item collection id) (all_items l)) is.whole
    ∙ ap (find (is_item collection id)) (flat_append is.before (run ++ is.after))
    ∙ find_past (is_item collection id) (all_items is.before) (all_items (run ++ is.after)) before
    ∙ ap (find (is_item collection id)) (flat_append run is.after)
    ∙ or_none (find (is_item collection id) (all_items run)) (is_item collection id) (all_items run) (all_items is.after) refl behind)

pub run_own : (collection : List ℕ) (parts run : List Part) → AreParts parts → IsRunOf collection parts run → AllByRecursion HasItsOwn run
run_own collection parts run are is =
    let own = subst (AllByRecursion HasItsOwn) is.whole (recursion_from_All HasItsOwn parts are.own) in
    (all_split HasItsOwn run is.after (all_split HasItsOwn is.before (run ++ is.after) own).1).0

-- ---- part by part

module _ (collection id : List ℕ) (run : List Part) (i : ℕ) (p : Part) (lt : i < length run) (here : p ≡ get_or run i p) (own : All HasItsOwn run) (of : All (λ q. q.name.collection ≡ collection) run)
    (so_far : item_in (all_items (drop i run)) collection id ≡ item_in (all_items run) collection id) where
  next : item_in (all_items (drop i run)) collection id ≡ find (is_item collection id) (p.items ++ all_items (drop (i + 1) run))
  next = ap (λ l. item_in (all_items l) collection id) (drop_more run i p lt ∙ ap (λ q. q ∷ drop (i + 1) run) (sym here))

  in_part : find (is_item collection id) p.items ≡ find (λ item. bytes_eq item.id id) p.items
  in_part = by_id collection id p (subst HasItsOwn (sym here) (own i p lt)) (subst (λ q. q.name.collection ≡ collection) (sym here) (of i p lt))

  pub part_has : (item : Feature) → Some item ≡ find (λ other. bytes_eq other.id id) p.items → Some item ≡ item_in (all_items run) collection id
  part_has item e = sym (find_here (is_item collection id) p.items (all_items (drop (i + 1) run)) item (in_part ∙ sym e)) ∙ sym next ∙ so_far

  pub part_lacks : None ≡ find (λ other. bytes_eq other.id id) p.items → item_in (all_items (drop (i + 1) run)) collection id ≡ item_in (all_items run) collection id
  part_lacks e = sym (find_past (is_item collection id) p.items (all_items (drop (i + 1) run)) (in_part ∙ sym e)) ∙ sym next ∙ so_far
