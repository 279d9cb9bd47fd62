-- Under a sort that begins with the time what starts strictly behind the last of a full page may not stand on it, nor what starts further behind.
use Rattle.std.proofs.Common.{◌≡◌, ◌<◌, ◌≤ℤ◌, ◌<ℤ◌, ℕ, ℤ, suc, zero, Bool, true, false, not, Option, Some, None, List, [], ◌∷◌, ◌++◌, drop, length, get_or, refl, sym, ap, ◌∙◌, subst, arith, Ordering, Less, Equal, Greater, is_lt, is_gt, true≢false}
use Rattle.std.specs.List.{AllByRecursion}
use Rattle.std.specs.Ordering.{int_cmp, ordering_then, MatchOrdering}
use Rattle.std.proofs.lemmas.Cmp.{int_ranked}
use Rattle.std.proofs.lemmas.Int.{ints}
use Rattle.sqlite_trees.specs.Tree.{IsAscending}
use Rattle.sqlite_keyed.proofs.ListLemmas.{all_weaker, all-append}
use Rattle.sqlite_keyed.proofs.RuleLemmas.{first_of_both, second_of_both}
use Rattle.sc_base.specs.Text.{text_order}
use Rattle.sc_item.specs.Feature.{Feature}
use Rattle.sc_sort.specs.declared.key.Key.{Key}
use Rattle.sc_sort.specs.declared.value.SortValue.TheVariants.{Moment}
use Rattle.sc_sort.specs.Named.{Named, Id, Collection, Geometry, Time, Member, is_time, named}
use Rattle.sc_sort.specs.Order.{order_by, values_order}
use Rattle.sc_sort.specs.Spec.{is_of_time}
use Rattle.sc_eval.specs.Property.{moment, property_value, value_named}
use Rattle.sc_page.specs.ItemKey.{item_order, values_of}
use Rattle.sc_page.specs.Leading.{AreLatestFirst, is_earliest_first, is_latest_first, may_stand, starts_after, starts_before}
use Rattle.sc_page.proofs.Growing.{ascending_from_pairs}

-- ---- a key of the time

of_time : (name : Named) (item : Feature) → is_time name ≡ true → value_named name item ≡ moment item.start
of_time Id item e = cc
of_time Collection item e = cc
of_time Geometry item e = cc
of_time Time item e = refl
of_time (Member name) item e = cc

pub time_value : (key : Key) (item : Feature) → is_of_time key ≡ true → property_value key.name item ≡ moment item.start
unfolding property_value
time_value key item e = of_time (named key.name) item e

-- the starts count first
starts_first : (key : Key) (keys : List Key) (x y : Feature) → is_of_time key ≡ true → item_order (key ∷ keys) x y
    ≡ ordering_then (ordering_then (order_by key.down (Some (Moment x.start)) (Some (Moment y.start))) (values_order keys (values_of keys x) (values_of keys y))) (ordering_then (text_order x.collection y.collection) (text_order x.id y.id))
unfolding values_order
starts_first key keys x y e = rw (time_value key x e, time_value key y e) refl

-- ---- what starts further behind

lt_is : (a b : ℤ) → is_lt (int_cmp a b) ≡ true → a <ℤ b
lt_is a b e = go (int_cmp a b) refl (int_ranked a b (int_cmp a b) refl)
  where
    go : (o : Ordering) → int_cmp a b ≡ o → MatchOrdering o (a <ℤ b) (a ≡ b) (b <ℤ a) → a <ℤ b
    go Less h r = r
    go Equal h r = absurd (true≢false (sym e ∙ ap is_lt h))
    go Greater h r = absurd (true≢false (sym e ∙ ap is_lt h))

gt_is : (a b : ℤ) → is_gt (int_cmp a b) ≡ true → b <ℤ a
gt_is a b e = go (int_cmp a b) refl (int_ranked a b (int_cmp a b) refl)
  where
    go : (o : Ordering) → int_cmp a b ≡ o → MatchOrdering o (a <ℤ b) (a ≡ b) (b <ℤ a) → b <ℤ a
    go Less h r = absurd (true≢false (sym e ∙ ap is_gt h))
    go Equal h r = absurd (true≢false (sym e ∙ ap is_gt h))
    go Greater h r = r

greater_is : (a b : ℤ) → b <ℤ a → int_cmp a b ≡ Greater
greater_is a b lt = go (int_cmp a b) refl (int_ranked a b (int_cmp a b) refl)
  where
    go : (o : Ordering) → int_cmp a b ≡ o → MatchOrdering o (a <ℤ b) (a ≡ b) (b <ℤ a) → int_cmp a b ≡ Greater
    go Less h r = absurd (omega (arith, ints, r, lt))
    go Equal h r = absurd (omega (arith, ints, r, lt))
    go Greater h r = h

not_true : (b : Bool) → not b ≡ true → b ≡ false
not_true true e = cc
not_true false e = refl

-- the latest first
pub too_early : (sort : List Key) (last : Option Feature) (x y : Feature) → is_latest_first sort ≡ true → starts_before last x ≡ true → y.start ≤ℤ x.start → may_stand (item_order sort) last y ≡ false
too_early [] last x y s e le = cc
too_early (key ∷ keys) None x y s e le = cc
too_early (key ∷ keys) (Some last) x y s e le =
    let t = first_of_both (is_of_time key) key.down s in
    let d = second_of_both (is_of_time key) key.down s in
    let lt = lt_is x.start last.start e in
    let g : int_cmp last.start y.start ≡ Greater = greater_is last.start y.start (omega (arith, ints, lt, le)) in
    let o : order_by key.down (Some (Moment y.start)) (Some (Moment last.start)) ≡ Greater = ap (λ (b : Bool). order_by b (Some (Moment y.start)) (Some (Moment last.start))) d ∙ g in
    ap (λ (c : Ordering). not (is_gt c)) (starts_first key keys y last t ∙ ap (λ (c : Ordering). ordering_then (ordering_then c (values_order keys (values_of keys y) (values_of keys last))) (ordering_then (text_order y.collection last.collection) (text_order y.id last.id))) o)

-- the earliest first
pub too_late : (sort : List Key) (last : Option Feature) (x y : Feature) → is_earliest_first sort ≡ true → starts_after last x ≡ true → x.start ≤ℤ y.start → may_stand (item_order sort) last y ≡ false
too_late [] last x y s e le = cc
too_late (key ∷ keys) None x y s e le = cc
too_late (key ∷ keys) (Some last) x y s e le =
    let t = first_of_both (is_of_time key) (not key.down) s in
    let d = not_true key.down (second_of_both (is_of_time key) (not key.down) s) in
    let lt = gt_is x.start last.start e in
    let g : int_cmp y.start last.start ≡ Greater = greater_is y.start last.start (omega (arith, ints, lt, le)) in
    let o : order_by key.down (Some (Moment y.start)) (Some (Moment last.start)) ≡ Greater = ap (λ (b : Bool). order_by b (Some (Moment y.start)) (Some (Moment last.start))) d ∙ g in
    ap (λ (c : Ordering). not (is_gt c)) (starts_first key keys y last t ∙ ap (λ (c : Ordering). ordering_then (ordering_then c (values_order keys (values_of keys y) (values_of keys last))) (ordering_then (text_order y.collection last.collection) (text_order y.id last.id))) o)

-- ---- the rest of a list

from_on : {X : Type 0} (R : X → X → Type 0) → ((x : X) → R x x) → (xs : List X) (i : ℕ) (x : X) → i < length xs → x ≡ get_or xs i x → IsAscending R xs → AllByRecursion (R x) (drop i xs)
from_on R itself [] i x lt is up = absurd (omega arith)
from_on R itself (y ∷ ys) zero x lt is up = subst (λ z. AllByRecursion (R z) (y ∷ ys)) (sym is) (itself y, up.0)
from_on R itself (y ∷ ys) (suc i) x lt is up = from_on R itself ys i x (omega arith) is up.1

the_last : {X : Type 0} (P : X → Type 0) (xs : List X) (x : X) → AllByRecursion P (xs ++ x ∷ []) → P x
the_last P [] x all = all.0
the_last P (y ∷ ys) x all = the_last P ys x all.1

up_to : {X : Type 0} (R : X → X → Type 0) (xs : List X) (x : X) → IsAscending R (xs ++ x ∷ []) → AllByRecursion (λ y. R y x) xs
up_to R [] x up = tt
up_to R (y ∷ ys) x up = (the_last (R y) ys x up.0, up_to R ys x up.1)

-- the rest of items, the latest first, from one that starts too early on
pub rest_too_early : (sort : List Key) (last : Option Feature) (items : List Feature) (i : ℕ) (x : Feature) → AreLatestFirst items → i < length items → x ≡ get_or items i x → is_latest_first sort ≡ true
    → starts_before last x ≡ true → AllByRecursion (λ y. may_stand (item_order sort) last y ≡ false) (drop i items)
rest_too_early sort last items i x up lt here s e =
    all_weaker (λ y. y.start ≤ℤ x.start) (λ y. may_stand (item_order sort) last y ≡ false) (λ y le. too_early sort last x y s e le) (drop i items)
    (from_on (λ a b. b.start ≤ℤ a.start) (λ a. omega (arith, ints)) items i x lt here (ascending_from_pairs (λ a b. b.start ≤ℤ a.start) items up))

-- what stands before one that starts too late
pub front_too_late : (sort : List Key) (last : Option Feature) (items : List Feature) (x : Feature) → AreLatestFirst (items ++ x ∷ []) → is_earliest_first sort ≡ true → starts_after last x ≡ true
    → AllByRecursion (λ y. may_stand (item_order sort) last y ≡ false) (items ++ x ∷ [])
front_too_late sort last items x up s e =
    all-append _ items (x ∷ [])
    (all_weaker (λ y. x.start ≤ℤ y.start) (λ y. may_stand (item_order sort) last y ≡ false) (λ y le. too_late sort last x y s e le) items
    (up_to (λ a b. b.start ≤ℤ a.start) items x (ascending_from_pairs (λ a b. b.start ≤ℤ a.start) (items ++ x ∷ []) up)))
    (too_late sort last x x s e (omega (arith, ints)), tt)
