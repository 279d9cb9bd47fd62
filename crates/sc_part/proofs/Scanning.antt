-- The order of a scan: it is total, only equal ids tie in it where ids differ, and items have one scan.
use Rattle.std.proofs.Common.{◌≡◌, ◌≢◌, ℕ, ◌<◌, false, List, [], ◌∷◌, refl, sym, ◌∙◌, arith, Ordering, Less, Equal, Greater, is_eq}
use Rattle.std.specs.Ordering.{nat_cmp, int_cmp, ordering_then}
use Rattle.std.specs.Cmp.{IsTotalOrder}
use Rattle.std.specs.List.{All}
use Rattle.std.proofs.lemmas.Cmp.{ranked, by_ranked, back_total, on_total, then_total, int_cmp_total, nat_cmp_total, nat_list_cmp_total}
use Rattle.std.proofs.lemmas.List.Sorted.{IsPermutation-sym}
use Rattle.sqlite_trees.specs.Tree.{IsAscending}
use Rattle.sqlite_keyed.proofs.ListLemmas.{ascending_weaker}
use Rattle.sqlite_keyed.proofs.SortLemmas.{IsPermutation-sort_by}
use Rattle.sc_base.specs.Text.{text_order}
use Rattle.sc_item.specs.Feature.{Feature}
use Rattle.sc_item.specs.Names.{AreApart}
use Rattle.sc_cut.specs.declared.name.PartName.{PartName}
use Rattle.sc_part.specs.Entry.{Key, key_order}
use Rattle.sc_part.specs.Scan.{Fits, HaveOwnIds, IsScan, scan_of, scan_order}
use Rattle.sc_part.proofs.Sorting.{ascending_from_pairs, pairs_from_ascending, rises-sort_by}

pub scan_total : IsTotalOrder scan_order
scan_total = then_total (back_total (on_total (λ (i : Feature). i.start) int_cmp_total)) (on_total (λ (i : Feature). i.id) nat_list_cmp_total)

pub key_total : IsTotalOrder key_order
key_total = then_total (on_total (λ (k : Key). k.digest) nat_cmp_total) (on_total (λ (k : Key). k.id) nat_list_cmp_total)

pub then_equal : (o p : Ordering) → ordering_then o p ≡ Equal → (o ≡ Equal) × (p ≡ Equal)
then_equal Less p e = cc
then_equal Equal p e = (refl, e)
then_equal Greater p e = cc

pub number_tie : (x y : ℕ) → nat_cmp x y ≡ Equal → x ≡ y
number_tie x y e = by_ranked (x < y) (x ≡ y) (y < x) (nat_cmp x y) (ranked x y (nat_cmp x y) refl) (λ l _. cc (l, e)) (λ _ h. h) (λ g _. cc (g, e))

pub text_tie : (a b : List ℕ) → text_order a b ≡ Equal → a ≡ b
text_tie [] [] e = refl
text_tie [] (y ∷ ys) e = cc
text_tie (x ∷ xs) [] e = cc
text_tie (x ∷ xs) (y ∷ ys) e =
    let t = then_equal (nat_cmp x y) (text_order xs ys) e in
    let h : x ≡ y = number_tie x y t.0 in
    let u : xs ≡ ys = text_tie xs ys t.1 in
    cc

not_equal : (o : Ordering) → (o ≡ Equal → ⊥) → is_eq o ≡ false
not_equal Less n = refl
not_equal Equal n = absurd (n refl)
not_equal Greater n = refl

pub no_tie : (a b : Feature) → a.id ≢ b.id → is_eq (scan_order a b) ≡ false
no_tie a b ne = not_equal (scan_order a b) (λ e. ne (text_tie a.id b.id (then_equal (int_cmp b.start a.start) (text_order a.id b.id) e).1))

pub no_ties : (items : List Feature) → HaveOwnIds items → IsAscending (λ a b. is_eq (scan_order a b) ≡ false) items
no_ties items own = ascending_weaker (λ a b. a.id ≢ b.id) (λ a b. is_eq (scan_order a b) ≡ false) no_tie items (ascending_from_pairs (λ a b. a.id ≢ b.id) items own)

-- items of one part that have names of their own have ids of their own
pub own_ids : (name : PartName) (items : List Feature) → All (Fits name) items → AreApart items → HaveOwnIds items
own_ids name items fits apart i j d l m e =
    apart i j d l m ((fits i d (omega arith)).collection ∙ sym (fits j d m).collection, e)

-- the function gives the scan
pub scan_is : (items : List Feature) → HaveOwnIds items → IsScan items (scan_of items)
unfolding scan_of
scan_is items own = record {
  same = IsPermutation-sym _ _ (IsPermutation-sort_by scan_order scan_total items);
  ordered = pairs_from_ascending (λ a b. scan_order a b ≡ Less) _ (rises-sort_by scan_order scan_total items (no_ties items own));
}
