-- The order of a scan is total, and items of one part don't tie in it.
use Rattle.std.proofs.Common.{◌≡◌, ℕ, Bool, true, false, List, [], ◌∷◌, refl, sym, ◌∙◌, cond, Ordering, Less, Equal, Greater, is_eq, is_gt, IsPermutation, bytes_eq}
use Rattle.std.specs.List.{AllByRecursion, All}
use Rattle.std.specs.Cmp.{IsTotalOrder}
use Rattle.std.specs.Ordering.{int_cmp, ordering_then}
use Rattle.std.specs.Cmp.Lexicographic.{texts_ties}
use Rattle.std.proofs.lemmas.Cmp.{back_total, on_total, then_total, int_cmp_total, nat_list_cmp_total}
use Rattle.std.proofs.lemmas.List.Sorted.{All-permutation, IsPermutation-sym}
use Rattle.sqlite_trees.specs.Tree.{IsAscending}
use Rattle.sqlite_keyed.specs.Lists.{insert_sorted, sort_by}
use Rattle.sqlite_keyed.proofs.ListLemmas.{all_both}
use Rattle.sqlite_keyed.proofs.SortLemmas.{IsPermutation-sort_by}
use Rattle.sc_base.specs.Text.{text_order}
use Rattle.sc_item.specs.Feature.{Feature}
use Rattle.sc_item.specs.Names.{HaveOneName}
use Rattle.sc_history.specs.Names.{is_empty, scan_of, scan_order}
use Rattle.sc_history.proofs.Texts.{same_text, never}
use Rattle.sc_history.proofs.Lists.{sort_by_permutation}

pub scan_total : IsTotalOrder scan_order
scan_total = then_total (back_total (on_total (λ (i : Feature). i.start) int_cmp_total)) (on_total (λ (i : Feature). i.id) nat_list_cmp_total)

then_differ : (o p : Ordering) → is_eq p ≡ false → is_eq (ordering_then o p) ≡ false
then_differ Less p e = refl
then_differ Equal p e = e
then_differ Greater p e = refl

no_tie : (c : List ℕ) (a b : Feature) → a.collection ≡ c → b.collection ≡ c → (HaveOneName a b → ⊥) → is_eq (scan_order a b) ≡ false
no_tie c a b p q apart = then_differ (int_cmp b.start a.start) (text_order a.id b.id) (sym (texts_ties a.id b.id) ∙ go (bytes_eq a.id b.id) refl)
  where
    go : (t : Bool) → bytes_eq a.id b.id ≡ t → bytes_eq a.id b.id ≡ false
    go true e = absurd (apart (p ∙ sym q, same_text a.id b.id e))
    go false e = e

pub no_ties : (c : List ℕ) (items : List Feature) → IsAscending (λ a b. HaveOneName a b → ⊥) items → AllByRecursion (λ i. i.collection ≡ c) items → IsAscending (λ a b. is_eq (scan_order a b) ≡ false) items
no_ties c [] apart own = tt
no_ties c (x ∷ items) apart own =
    (all_both (λ b. HaveOneName x b → ⊥) (λ b. b.collection ≡ c) (λ b. is_eq (scan_order x b) ≡ false) (λ b n q. no_tie c x b own.0 q n) items apart.0 own.1, no_ties c items apart.1 own.1)

pub scan_same : (items : List Feature) → IsPermutation items (scan_of items)
unfolding scan_of
scan_same items = IsPermutation-sym _ _ (IsPermutation-sort_by scan_order scan_total items)

-- items of one part with different ids have one scan
pub one_scan : (c : List ℕ) (xs ys : List Feature) → IsAscending (λ a b. HaveOneName a b → ⊥) xs → AllByRecursion (λ i. i.collection ≡ c) xs → IsPermutation xs ys → scan_of ys ≡ scan_of xs
unfolding scan_of
one_scan c xs ys apart own same = sort_by_permutation scan_order scan_total xs ys (no_ties c xs apart own) same

pub scan_nothing : scan_of [] ≡ []
unfolding scan_of
scan_nothing = refl

some_inserted : (cmp : Feature → Feature → Ordering) (x : Feature) (items : List Feature) → is_empty (insert_sorted cmp x items) ≡ false
some_inserted cmp x [] = refl
some_inserted cmp x (y ∷ items) = go (is_gt (cmp x y))
  where
    go : (b : Bool) → is_empty (cond b (y ∷ insert_sorted cmp x items) (x ∷ y ∷ items)) ≡ false
    go true = refl
    go false = refl

pub scan_empty : (items : List Feature) → is_empty (scan_of items) ≡ is_empty items
unfolding scan_of
scan_empty [] = refl
scan_empty (x ∷ items) = some_inserted scan_order x (sort_by scan_order items)

pub empty_is : {X : Type 0} (xs : List X) → is_empty xs ≡ true → xs ≡ []
empty_is [] e = refl
empty_is (x ∷ xs) e = never false e refl

-- what holds of items holds of their scan, and the other way round
pub all_scanned : (P : Feature → Type 0) (items : List Feature) → All P items → All P (scan_of items)
all_scanned P items all = All-permutation P items (scan_of items) (scan_same items) all

pub all_unscanned : (P : Feature → Type 0) (items : List Feature) → All P (scan_of items) → All P items
all_unscanned P items all = All-permutation P (scan_of items) items (IsPermutation-sym _ _ (scan_same items)) all
