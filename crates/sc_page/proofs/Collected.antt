-- What is kept of the items that a search asks for, with one item more, sorted in, and cut to a page.
use Rattle.std.proofs.Common.{◌≡◌, ℕ, suc, ◌+◌, Bool, true, false, cond, nat_lt, min, add-one, List, [], ◌∷◌, ◌++◌, take, filter, length, append-nil, refl, sym, ap, ◌∙◌, subst, arith, Ordering, IsPermutation, IsSorted, Option, None}
use Rattle.std.specs.Arc.{arc_value}
use Rattle.std.specs.declared.alloc.Global.{Global}
use Rattle.std.specs.declared.sync.Arc.{Arc}
use Rattle.std.proofs.lemmas.Bool.Decides.{nat_tests}
use Rattle.std.proofs.lemmas.List.{map-append, take-map, length-map, length-take}
use Rattle.std.proofs.lemmas.List.Elements.{filter-append}
use Rattle.std.proofs.lemmas.List.Sorted.{IsPermutation-map, length_permutation}
use Rattle.sc_item.specs.Feature.{Feature}
use Rattle.sc_item.specs.Names.{AreApart}
use Rattle.sc_sort.specs.Keys.{Keys}
use Rattle.sc_expr.specs.Query.{Asked}
use Rattle.sc_page.specs.declared.first.FirstItems.{FirstItems}
use Rattle.sc_page.specs.ItemKey.{item_order}
use Rattle.sc_page.specs.Kept.{AreKept, HasFound, IsSettled}
use Rattle.sc_page.specs.Leading.{last_of_full, may_stand}
use Rattle.sc_page.specs.Order.{IsListing}
use Rattle.sc_page.specs.Page.{every_item, IsFlatPage}
use Rattle.sc_page.specs.Search.{is_asked, last_key, shared, IsPage}
use Rattle.sc_page.proofs.Growing.{apart-filter, settled}
use Rattle.sc_page.proofs.ItemOrders.{item_order_is}
use Rattle.sc_page.proofs.Keeping.{kept_with, kept_without}
use Rattle.sc_page.proofs.Leading.{take_of_more}
use Rattle.sc_page.proofs.Listing.{filter_every}
use Rattle.sc_page.proofs.Shared.{sorted_shared}

module _ (asked : Asked) where
  abbrev order : Feature → Feature → Ordering
  order = item_order asked.sort

  -- what waits is sorted in
  pub sorted_in : (old new : FirstItems) (joined sorted : List (Arc Feature Global)) (items : List Feature) → AreApart items → HasFound asked old items
      → joined ≡ old.first.items ++ old.waiting.items → IsPermutation joined sorted → IsSorted (λ x y. order (arc_value x) (arc_value y)) sorted
      → new.most ≡ old.most → new.first.items ≡ take old.most sorted → new.waiting.items ≡ [] → IsSettled asked new items
  sorted_in old new joined sorted items apart f j same up m cut none =
      let n = asked.limit + 1 in
      let p : IsPermutation (shared old.first.items ++ shared old.waiting.items) (shared sorted) =
      subst (λ t. IsPermutation t (shared sorted)) (ap shared j ∙ map-append arc_value old.first.items old.waiting.items) (IsPermutation-map arc_value joined sorted same) in
      let s = settled order (item_order_is asked.sort) n (shared old.first.items) (shared old.waiting.items) (filter (is_asked asked) items) (shared sorted)
      (apart-filter (is_asked asked) items apart) f.kept p (sorted_shared order sorted up) in
      let e : shared new.first.items ≡ take n (shared sorted) = ap shared cut ∙ sym (take-map arc_value old.most sorted) ∙ ap (λ k. take k (shared sorted)) f.most in
      record {
        most = m ∙ f.most;
        first = subst (IsFlatPage every_item order n (filter (is_asked asked) items)) (sym e) s.1;
        none = none;
      }

  pub found_from_settled : (f : FirstItems) (items : List Feature) → IsSettled asked f items → HasFound asked f items
  found_from_settled f items s = record {
    most = s.most;
    kept = record {
      first = filter (is_asked asked) items;
      others = [];
      all = sym (append-nil (filter (is_asked asked) items));
      flat = s.first;
      wait = ap shared s.none;
    };
  }

  -- ---- one item more

  module _ (items : List Feature) (x : Feature) where
    filtered : (b : Bool) → is_asked asked x ≡ b → filter (is_asked asked) (items ++ x ∷ []) ≡ filter (is_asked asked) items ++ cond b (x ∷ []) []
    filtered b e = filter-append (is_asked asked) items (x ∷ []) ∙ ap (λ (c : Bool). filter (is_asked asked) items ++ cond c (x ∷ []) []) e

    pub found_unasked : (f : FirstItems) → HasFound asked f items → is_asked asked x ≡ false → HasFound asked f (items ++ x ∷ [])
    found_unasked f h e = record {
      most = h.most;
      kept = subst (AreKept order (asked.limit + 1) (shared f.first.items) (shared f.waiting.items)) (sym (filtered false e ∙ append-nil (filter (is_asked asked) items))) h.kept;
    }

    pub found_late : (f : FirstItems) → HasFound asked f items → may_stand order (last_of_full f.most (shared f.first.items)) x ≡ false → HasFound asked f (items ++ x ∷ [])
    found_late f h late = go (is_asked asked x) refl
      where
        go : (b : Bool) → is_asked asked x ≡ b → HasFound asked f (items ++ x ∷ [])
        go false e = found_unasked f h e
        go true e = record {
          most = h.most;
          kept = subst (AreKept order (asked.limit + 1) (shared f.first.items) (shared f.waiting.items)) (sym (filtered true e))
              (kept_without order (asked.limit + 1) (shared f.first.items) (shared f.waiting.items) (filter (is_asked asked) items) x h.kept
              (subst (λ n. may_stand order (last_of_full n (shared f.first.items)) x ≡ false) h.most late));
        }

    pub found_waiting : (old new : FirstItems) (a : Arc Feature Global) → HasFound asked old items → arc_value a ≡ x → may_stand order (last_of_full old.most (shared old.first.items)) x ≡ true → is_asked asked x ≡ true
        → new.most ≡ old.most → new.first.items ≡ old.first.items → new.waiting.items ≡ old.waiting.items ++ a ∷ [] → HasFound asked new (items ++ x ∷ [])
    found_waiting old new a h is may e m f w =
        let n = asked.limit + 1 in
        let k = kept_with order n (shared old.first.items) (shared old.waiting.items) (filter (is_asked asked) items) x h.kept
        (subst (λ t. may_stand order (last_of_full t (shared old.first.items)) x ≡ true) h.most may) in
        let v : shared new.waiting.items ≡ shared old.waiting.items ++ x ∷ [] = ap shared w ∙ map-append arc_value old.waiting.items (a ∷ []) ∙ ap (λ t. shared old.waiting.items ++ t ∷ []) is in
        record {
          most = m ∙ h.most;
          kept = subst (AreKept order n (shared new.first.items) (shared new.waiting.items)) (sym (filtered true e))
              (subst (λ t. AreKept order n (shared t) (shared new.waiting.items) (filter (is_asked asked) items ++ x ∷ [])) (sym f)
              (subst (λ t. AreKept order n (shared old.first.items) t (filter (is_asked asked) items ++ x ∷ [])) (sym v) k));
        }

  -- ---- the page

  more_than : (limit n m : ℕ) → n ≡ min (limit + 1) m → nat_lt limit n ≡ nat_lt limit m
  more_than limit n m e = grind (arith, nat_tests)

  pub page_of : (f : FirstItems) (items page : List Feature) (next : Option Keys) → IsSettled asked f items → page ≡ take asked.limit (shared f.first.items)
      → next ≡ cond (nat_lt asked.limit (length f.first.items)) (last_key asked.sort page) None → IsPage asked items page next
  page_of f items page next s cut is =
      let wanted = filter (is_asked asked) items in
      let listed = s.first.listed in
      let listing : IsListing order wanted listed = subst (λ t. IsListing order t listed) (filter_every wanted) s.first.is_listing in
      let long : length listed ≡ length wanted = length_permutation wanted listed listing.same in
      let first : shared f.first.items ≡ take (suc asked.limit) listed = s.first.cut ∙ ap (λ n. take n listed) (add-one asked.limit) in
      let count : length f.first.items ≡ min (asked.limit + 1) (length wanted) = sym (length-map f.first.items arc_value) ∙ ap length s.first.cut ∙ length-take (asked.limit + 1) listed ∙ ap (min (asked.limit + 1)) long in
      record {
        flat = record {
          listed = listed;
          is_listing = listing;
          cut = cut ∙ ap (take asked.limit) first ∙ take_of_more asked.limit listed;
        };
        next_is = is ∙ ap (λ (b : Bool). cond b (last_key asked.sort page) None) (more_than asked.limit (length f.first.items) (length wanted) count);
      }
