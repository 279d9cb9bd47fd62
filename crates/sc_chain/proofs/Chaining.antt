-- Pages that follow one another: what they join to, how many they are, and that they are there.
use Rattle.std.proofs.Common.{◌≡◌, ◌<◌, ◌≤◌, ◌+◌, ℕ, suc, zero, Option, Some, None, List, [], ◌∷◌, ◌++◌, take, filter, length, refl, sym, subst, arith, append-nil}
use Rattle.std.proofs.lemmas.List.{length-append}
use Rattle.std.proofs.lemmas.List.Sorted.{IsPermutation-refl, IsPermutation-sym, length_permutation}
use Rattle.sqlite_keyed.specs.Lists.{sort_by}
use Rattle.sqlite_keyed.proofs.SortLemmas.{IsPermutation-sort_by}
use Rattle.sc_item.specs.Feature.{Feature}
use Rattle.sc_item.specs.Names.{AreApart}
use Rattle.sc_sort.specs.Keys.{Keys}
use Rattle.sc_expr.specs.Query.{Asked}
use Rattle.sc_page.specs.ItemKey.{item_order}
use Rattle.sc_page.specs.Search.{is_asked, next_of}
use Rattle.sc_page.proofs.Growing.{apart-filter, pairs_from_ascending, untied}
use Rattle.sc_page.proofs.ItemOrders.{item_order_is}
use Rattle.sc_page.proofs.Leading.{rises-sort_by}
use Rattle.sc_page.proofs.Listing.{apart_permutation, one_listing}
use Rattle.sc_chain.specs.Chain.{behind, IsAll, IsPageOf, IsChain, last, followed, joined}
use Rattle.sc_chain.proofs.Following.{leaves, ends}

one_all : (asked : Asked) (items a b : List Feature) → IsAll asked items a → IsAll asked items b → a ≡ b
one_all asked items a b p q = one_listing (item_order asked.sort) (item_order_is asked.sort) (filter (is_asked asked) items) a b p q

pub all_joined : (items : List Feature) (asked : Asked) (pages : List (List Feature)) → 1 ≤ asked.limit → IsChain items asked pages → IsAll asked items (joined pages)
all_joined items asked pages some (last _ page p) = subst (IsAll asked items) (sym (append-nil page)) (ends asked items page some p)
all_joined items asked pages some (followed _ page place more p c) =
    let r = leaves asked items page place some p in
    let e : r.rest ≡ joined more = one_all (behind asked place) items r.rest (joined more) r.left (all_joined items (behind asked place) more some c) in
    subst (λ t. IsAll asked items (page ++ t)) e r.all

pub only_joined : (items : List Feature) (asked : Asked) (pages : List (List Feature)) (all : List Feature) → 1 ≤ asked.limit → IsChain items asked pages → IsAll asked items all → joined pages ≡ all
only_joined items asked pages all some c a = one_all asked items (joined pages) all (all_joined items asked pages some c) a

pub apart_joined : (items : List Feature) (asked : Asked) (pages : List (List Feature)) → 1 ≤ asked.limit → IsChain items asked pages → AreApart items → AreApart (joined pages)
apart_joined items asked pages some c apart =
    apart_permutation (filter (is_asked asked) items) (joined pages) (all_joined items asked pages some c).same (apart-filter (is_asked asked) items apart)

pub fewer : (items : List Feature) (asked : Asked) (page : List Feature) (place : Keys) → 1 ≤ asked.limit → IsPageOf asked items page (Some place)
    → length (filter (is_asked (behind asked place)) items) + asked.limit ≡ length (filter (is_asked asked) items)
fewer items asked page place some p =
    let r = leaves asked items page place some p in
    let a : length (page ++ r.rest) ≡ length (filter (is_asked asked) items) = length_permutation _ (page ++ r.rest) r.all.same in
    let b : length r.rest ≡ length (filter (is_asked (behind asked place)) items) = length_permutation _ r.rest r.left.same in
    omega (arith, a, b, length-append page r.rest, r.full)

pub few : (items : List Feature) (asked : Asked) (pages : List (List Feature)) → 1 ≤ asked.limit → IsChain items asked pages → length pages ≤ length (filter (is_asked asked) items) + 1
few items asked pages some (last _ page p) = omega arith
few items asked pages some (followed _ page place more p c) =
    let h = few items (behind asked place) more some c in
    omega (arith, h, fewer items asked page place some p, some)

-- the page that sorting gives
page_is : (items : List Feature) (asked : Asked) → AreApart items → IsPageOf asked items (take asked.limit (sort_by (item_order asked.sort) (filter (is_asked asked) items)))
    (next_of asked items (take asked.limit (sort_by (item_order asked.sort) (filter (is_asked asked) items))))
page_is items asked apart = record {
  kept = items;
  same = IsPermutation-refl items;
  is_page = record {
    flat = record {
      listed = sort_by (item_order asked.sort) (filter (is_asked asked) items);
      is_listing = record {
        same = IsPermutation-sym _ _ (IsPermutation-sort_by (item_order asked.sort) (item_order_is asked.sort).total (filter (is_asked asked) items));
        ordered = pairs_from_ascending _ _ (rises-sort_by (item_order asked.sort) (item_order_is asked.sort).total _ (untied (item_order asked.sort) (item_order_is asked.sort) _ (apart-filter (is_asked asked) items apart)));
      };
      cut = refl;
    };
    next_is = refl;
  };
}

pub chain_is : (most : ℕ) (items : List Feature) (asked : Asked) → 1 ≤ asked.limit → AreApart items → length (filter (is_asked asked) items) < most → (pages : List (List Feature)) × IsChain items asked pages
chain_is zero items asked some apart lt = absurd (omega (arith, lt))
chain_is (suc most) items asked some apart lt =
    go (next_of asked items page) (page_is items asked apart) (λ place less. chain_is most items (behind asked place) some apart less)
  where
    page : List Feature
    page = take asked.limit (sort_by (item_order asked.sort) (filter (is_asked asked) items))

    go : (next : Option Keys) → IsPageOf asked items page next
        → ((place : Keys) → length (filter (is_asked (behind asked place)) items) < most → (pages : List (List Feature)) × IsChain items (behind asked place) pages)
        → (pages : List (List Feature)) × IsChain items asked pages
    go None p more = (page ∷ [], last asked page p)
    go (Some place) p more =
        let r = more place (let h = fewer items asked page place some p in omega (arith, h, lt, some)) in
        (page ∷ r.0, followed asked page place r.0 p r.1)
