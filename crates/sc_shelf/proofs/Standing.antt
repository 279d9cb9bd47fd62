-- What is found among the items of parts that stand is what the content has.
use Rattle.std.proofs.Common.{◌≡◌, ℕ, Bool, true, false, cond, ◌||◌, List, [], ◌∷◌, Option, Some, None, refl, sym, ap, ◌∙◌, subst, bytes_eq, true≢false, Contains}
use Rattle.std.specs.Prelude.{find}
use Rattle.std.specs.List.{list_any}
use Rattle.std.proofs.lemmas.Bool.{and_parts}
use Rattle.std.proofs.lemmas.List.Sorted.{Contains-permutation, IsPermutation-sym}
use Rattle.sc_item.specs.Feature.{Feature}
use Rattle.sc_history.specs.Content.{IsContent, is_item, item_in}
use Rattle.sc_history.specs.Changes.{Change}
use Rattle.sc_history.specs.History.{replay}
use Rattle.sc_history.specs.Taken.{IsPast}
use Rattle.sc_history.specs.Part.{Part}
use Rattle.sc_history.specs.Sound.{Stand}
use Rattle.sc_history.proofs.Belonging.{stand_has, stand_items}
use Rattle.sc_history.proofs.Counting.{contains_head, contains_tail}
use Rattle.sc_history.proofs.Orders.{item_found}
use Rattle.sc_history.proofs.Pasts.{past_content}
use Rattle.sc_history.proofs.Texts.{same_text}
use Rattle.sc_shelf.specs.Kept.{all_items}

-- what is found is contained, and passes the test
found_contained : {X : Type 0} (test : X → Bool) (xs : List X) (x : X) → find test xs ≡ Some x → Contains xs x × (test x ≡ true)
found_contained test [] x e = cc
found_contained {X} test (y ∷ xs) x e = go (test y) refl e (found_contained test xs x)
  where
    go : (t : Bool) → test y ≡ t → cond t (Some y) (find test xs) ≡ Some x → (find test xs ≡ Some x → Contains xs x × (test x ≡ true)) → Contains (y ∷ xs) x × (test x ≡ true)
    go true is e more = let same : y ≡ x = cc in (subst (Contains (y ∷ xs)) same (contains_head y xs), subst (λ z. test z ≡ true) same is)
    go false is e more = let rest = more e in (contains_tail y x xs rest.0, rest.1)

-- nothing is found exactly where no element passes
none_passes : {X : Type 0} (test : X → Bool) (xs : List X) → find test xs ≡ None → list_any test xs ≡ false
none_passes test [] e = refl
none_passes {X} test (y ∷ xs) e = go (test y) e (none_passes test xs)
  where
    go : (t : Bool) → cond t (Some y) (find test xs) ≡ None → (find test xs ≡ None → list_any test xs ≡ false) → (t || list_any test xs) ≡ false
    go true e more = cc
    go false e more = more e

none_found : {X : Type 0} (test : X → Bool) (xs : List X) → list_any test xs ≡ false → find test xs ≡ None
none_found test [] e = refl
none_found {X} test (y ∷ xs) e = go (test y) e (none_found test xs)
  where
    go : (t : Bool) → (t || list_any test xs) ≡ false → (list_any test xs ≡ false → find test xs ≡ None) → cond t (Some y) (find test xs) ≡ None
    go true e more = absurd (true≢false e)
    go false e more = more e

pub found_as_content : (past : List Change) (parts : List Part) (collection id : List ℕ) → IsPast past → Stand past parts → item_in (all_items parts) collection id ≡ item_in (replay past).items collection id
found_as_content past parts collection id is stand = go (item_in (all_items parts) collection id) refl
  where
    content : IsContent (replay past)
    content = past_content past is

    go : (found : Option Feature) → item_in (all_items parts) collection id ≡ found → item_in (all_items parts) collection id ≡ item_in (replay past).items collection id
    go None e =
        let none = stand_has past parts collection id content stand ∙ none_passes (is_item collection id) (all_items parts) e in
        e ∙ sym (none_found (is_item collection id) (replay past).items none)
    go (Some item) e =
        let there = found_contained (is_item collection id) (all_items parts) item e in
        let here = Contains-permutation (all_items parts) (replay past).items item (IsPermutation-sym _ _ (stand_items past parts content stand)) there.0 in
        let both = and_parts (bytes_eq item.collection collection) (bytes_eq item.id id) there.1 in
        let c = same_text item.collection collection both.0 in
        let i = same_text item.id id both.1 in
        e ∙ sym (ap (λ n. item_in (replay past).items n id) (sym c) ∙ ap (item_in (replay past).items item.collection) (sym i) ∙ item_found (replay past) item content here)
