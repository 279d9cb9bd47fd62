-- The pages of a search, joined one by one.
use Rattle.std.proofs.Common.{◌≡◌, ◌≤◌, ◌<◌, List, ◌++◌, filter, length, Option, Some, None, option_map, sym, subst, arith, append_assoc}
use Rattle.std.proofs.lemmas.List.Sorted.{IsPermutation-refl}
use Rattle.sc_item.specs.Feature.{Feature}
use Rattle.sc_item.specs.Names.{AreApart}
use Rattle.sc_sort.specs.Keys.{Keys}
use Rattle.sc_expr.specs.Query.{Asked}
use Rattle.sc_page.specs.ItemKey.{item_order}
use Rattle.sc_page.specs.Search.{IsPage, is_asked}
use Rattle.sc_page.proofs.Growing.{apart-filter}
use Rattle.sc_page.proofs.ItemOrders.{item_order_is}
use Rattle.sc_page.proofs.Listing.{apart_permutation, one_listing}
use Rattle.sc_chain.specs.Chain.{behind, IsAll, IsPageOf}
use Rattle.sc_chain.specs.Joining.{GoesOn, IsJoined}
use Rattle.sc_chain.proofs.Chaining.{fewer}
use Rattle.sc_chain.proofs.Following.{leaves, ends}

-- what is joined so far and what is asked for now are all that is asked for
abbrev pub Joins : Asked → List Feature → List Feature → Asked → Type 0
Joins asked items joined now = (rest : List Feature) → IsAll now items rest → IsAll asked items (joined ++ rest)

as_kept : (asked : Asked) (items page : List Feature) (next : Option Keys) → IsPage asked items page next → IsPageOf asked items page next
as_kept asked items page next p = record { kept = items; same = IsPermutation-refl items; is_page = p }

some_same : {X : Type 0} (a b : X) → Some a ≡ Some b → a ≡ b
some_same a b e = cc

-- where a page goes on, its query has a place, behind which the next asks
record HasNext (asked : Asked) (items old new : List Feature) (next : Asked) : Type 0 where
  pub place : Keys
  pub some : 1 ≤ asked.limit
  pub page : List Feature
  pub joined : new ≡ old ++ page
  pub is_page : IsPageOf asked items page (Some place)
  pub next_is : next ≡ behind asked place

has_next : (asked : Asked) (items old new : List Feature) (next : Asked) → GoesOn asked items old new (Some next) → HasNext asked items old new next
has_next asked items old new next g = go g.place g.is_joined g.next_is
  where
    go : (place : Option Keys) → IsJoined asked items old new place → Some next ≡ option_map (behind asked) place → HasNext asked items old new next
    go None j e = cc
    go (Some place) j e = record {
      place = place;
      some = g.some;
      page = j.page;
      joined = j.joined;
      is_page = as_kept asked items j.page (Some place) j.is_page;
      next_is = some_same next (behind asked place) e;
    }

pub one_more_page : (asked now next : Asked) (items old new : List Feature) → GoesOn now items old new (Some next) → Joins asked items old now → Joins asked items new next
one_more_page asked now next items old new g joins rest is =
    let h = has_next now items old new next g in
    let l = leaves now items h.page h.place h.some h.is_page in
    let left : IsAll (behind now h.place) items rest = subst (λ n. IsAll n items rest) h.next_is is in
    let same : l.rest ≡ rest = one_listing (item_order now.sort) (item_order_is now.sort) (filter (is_asked (behind now h.place)) items) l.rest rest l.left left in
    subst (λ n. IsAll asked items (n ++ rest)) (sym h.joined) (subst (IsAll asked items) (sym (append_assoc old h.page rest)) (joins (h.page ++ rest) (subst (λ t. IsAll now items (h.page ++ t)) same l.all)))

pub last_page : (asked now : Asked) (items old new : List Feature) → GoesOn now items old new None → Joins asked items old now → IsAll asked items new
last_page asked now items old new g joins = go g.place g.is_joined g.next_is
  where
    go : (place : Option Keys) → IsJoined now items old new place → None ≡ option_map (behind now) place → IsAll asked items new
    go None j e = subst (IsAll asked items) (sym j.joined) (joins j.page (ends now items j.page g.some (as_kept now items j.page None j.is_page)))
    go (Some place) j e = cc

pub fewer_left : (now next : Asked) (items old new : List Feature) → GoesOn now items old new (Some next) → length (filter (is_asked next) items) < length (filter (is_asked now) items)
fewer_left now next items old new g =
    let h = has_next now items old new next g in
    let f = fewer items now h.page h.place h.some h.is_page in
    subst (λ n. length (filter (is_asked n) items) < length (filter (is_asked now) items)) (sym h.next_is) (let s = h.some in omega (arith, f, s))

-- no two of all that is asked for have one name
pub all_apart : (asked : Asked) (items all : List Feature) → IsAll asked items all → AreApart items → AreApart all
all_apart asked items all is apart = apart_permutation (filter (is_asked asked) items) all is.same (apart-filter (is_asked asked) items apart)
