-- Where none waits, what is kept is settled already.
use Rattle.std.proofs.Common.{◌≡◌, ◌+◌, List, [], ◌∷◌, ◌++◌, length, take, filter, append-nil, refl, sym, ap, ◌∙◌, subst, arith, Ordering, Less, is_lt, IsPermutation, IsSorted}
use Rattle.std.specs.List.{AllPairs}
use Rattle.std.specs.Ordering.{ordering_reverse}
use Rattle.sqlite_keyed.proofs.ListLemmas.{IsPermutation-same}
use Rattle.sc_item.specs.Feature.{Feature}
use Rattle.sc_item.specs.Names.{AreApart}
use Rattle.sc_expr.specs.Query.{Asked}
use Rattle.sc_page.specs.declared.first.FirstItems.{FirstItems}
use Rattle.sc_page.specs.ItemKey.{item_order}
use Rattle.sc_page.specs.Kept.{HasFound, IsSettled}
use Rattle.sc_page.specs.Order.{IsItemOrder}
use Rattle.sc_page.specs.Page.{every_item, IsFlatPage}
use Rattle.sc_page.specs.Search.{is_asked, shared}
use Rattle.sc_page.proofs.Growing.{apart-filter, pairs_taken, settled}
use Rattle.sc_page.proofs.ItemOrders.{item_order_is}
use Rattle.sc_page.proofs.Leading.{take_twice}

pub none_waits : {X : Type 0} (xs : List X) → length xs ≡ 0 → xs ≡ []
none_waits [] e = refl
none_waits (x ∷ xs) e = absurd (omega (arith, e))

sorted_from_pairs : (order : Feature → Feature → Ordering) → IsItemOrder order → (xs : List Feature) → AllPairs (λ a b. order a b ≡ Less) xs → IsSorted order xs
sorted_from_pairs order o xs up k d low lt =
    ap is_lt (o.total.antisymm _ _ ∙ ap ordering_reverse (up k (k + 1) d (omega arith) (omega (arith, lt))))

pub settled_already : (asked : Asked) (f : FirstItems) (items : List Feature) → AreApart items → HasFound asked f items → f.waiting.items ≡ [] → IsSettled asked f items
settled_already asked f items apart h none =
    let n = asked.limit + 1 in
    let order = item_order asked.sort in
    let page = shared f.first.items in
    let flat = h.kept.flat in
    let pairs : AllPairs (λ a b. order a b ≡ Less) page = subst (AllPairs (λ a b. order a b ≡ Less)) (sym flat.cut) (pairs_taken (λ a b. order a b ≡ Less) n flat.listed flat.is_listing.ordered) in
    let same : IsPermutation (page ++ shared f.waiting.items) page = subst (λ l. IsPermutation (page ++ shared l) page) (sym none) (IsPermutation-same (page ++ []) page (append-nil page)) in
    let s = settled order (item_order_is asked.sort) n page (shared f.waiting.items) (filter (is_asked asked) items) page (apart-filter (is_asked asked) items apart) h.kept same (sorted_from_pairs order (item_order_is asked.sort) page pairs) in
    let e : take n page ≡ page = ap (take n) flat.cut ∙ take_twice n flat.listed ∙ sym flat.cut in
    record {
      most = h.most;
      first = subst (IsFlatPage every_item order n (filter (is_asked asked) items)) e s.1;
      none = none;
    }
