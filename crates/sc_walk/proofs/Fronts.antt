-- What comes before the front of a part, by the first key of a sort.
use Rattle.std.proofs.Common.{◌≡◌, ℤ, ◌≤ℤ◌, ◌<ℤ◌, Bool, true, false, ◌&&◌, cond, List, [], ◌∷◌, Option, Some, None, refl, sym, ap, ◌∙◌, subst, arith, true≢false, Ordering, Less, Equal, Greater, is_lt, is_gt}
use Rattle.std.specs.Ordering.{int_cmp, ordering_then, ordering_reverse, MatchOrdering}
use Rattle.std.specs.Cmp.{IsTotalOrder}
use Rattle.std.specs.Cmp.Derive.{point_total}
use Rattle.std.proofs.lemmas.Cmp.{int_ranked, on_total}
use Rattle.std.proofs.lemmas.Int.{ints}
use Rattle.sc_item.specs.Feature.{Feature}
use Rattle.sc_sort.specs.declared.key.Key.{Key}
use Rattle.sc_sort.specs.declared.value.SortValue.{SortValue}
use Rattle.sc_sort.specs.declared.value.SortValue.TheVariants.{Moment}
use Rattle.sc_sort.specs.Order.{order_by, there, values_order}
use Rattle.sc_sort.specs.Spec.{is_of_time}
use Rattle.sc_sort.proofs.Orders.{order_by_total}
use Rattle.sc_eval.specs.Property.{property_value}
use Rattle.sc_bounds.specs.Moments.{HasMoment}
use Rattle.sc_history.specs.Part.{Part}
use Rattle.sc_page.specs.ItemKey.{item_order, sort_value}
use Rattle.sc_walk.specs.Walk.{front, front_order, is_ahead}
use Rattle.sc_walk.proofs.Times.{time_value}

lt_is : (o : Ordering) → is_lt o ≡ true → o ≡ Less
lt_is Less e = refl
lt_is Equal e = cc
lt_is Greater e = cc

pub both_true : (a b : Bool) → (a && b) ≡ true → (a ≡ true) × (b ≡ true)
both_true true b e = (refl, e)
both_true false b e = cc

-- what doesn't come after something that comes before a third comes before the third
module _ {X : Type 0} (cmp : X → X → Ordering) (total : IsTotalOrder cmp) where
  pub up_to_less : (a b c : X) → is_gt (cmp a b) ≡ false → cmp b c ≡ Less → cmp a c ≡ Less
  up_to_less a b c le lt = go (cmp a b) refl
    where
      go : (o : Ordering) → cmp a b ≡ o → cmp a c ≡ Less
      go Less e = total.trans a b c e lt
      go Equal e = total.congr a b c e ∙ lt
      go Greater e = absurd (true≢false (sym (ap is_gt e) ∙ le))

  pub less_up_to : (a b c : X) → cmp a b ≡ Less → is_gt (cmp b c) ≡ false → cmp a c ≡ Less
  less_up_to a b c lt le = go (cmp b c) refl
    where
      go : (o : Ordering) → cmp b c ≡ o → cmp a c ≡ Less
      go Less e = total.trans a b c lt e
      go Equal e =
          let f : cmp b a ≡ cmp c a = total.congr b c a e in
          total.antisymm a c ∙ ap ordering_reverse (sym f) ∙ sym (total.antisymm a b) ∙ lt
      go Greater e = absurd (true≢false (sym (ap is_gt e) ∙ le))

first_decides : (o p : Ordering) → is_gt (ordering_then o p) ≡ false → is_gt o ≡ false
first_decides Less p e = refl
first_decides Equal p e = refl
first_decides Greater p e = e

-- by the first key two items stand as they do, or tie
abbrev value : Key → Feature → Option SortValue
value key item = there (sort_value (property_value key.name item))

first_of_order : (key : Key) (keys : List Key) (x y : Feature) → is_gt (item_order (key ∷ keys) x y) ≡ false → is_gt (order_by key.down (value key x) (value key y)) ≡ false
unfolding values_order
first_of_order key keys x y e = first_decides _ _ (first_decides _ _ e)

-- what stands before an item that is ahead of a part is ahead of it
pub back : (sort : List Key) (part : Part) (x y : Feature) → is_gt (item_order sort x y) ≡ false → is_ahead sort part y ≡ true → is_ahead sort part x ≡ true
back [] part x y le e = cc
back (key ∷ keys) part x y le e =
    let b = both_true (is_of_time key) (is_lt (order_by key.down (value key y) (front key.down part))) e in
    let l = up_to_less (order_by key.down) (order_by_total key.down) (value key x) (value key y) (front key.down part) (first_of_order key keys x y le) (lt_is _ b.1) in
    rw (b.0, l) refl

-- what is ahead of a part is ahead of those with later fronts
pub rises : (sort : List Key) (p q : Part) → is_gt (front_order sort p q) ≡ false → (item : Feature) → is_ahead sort p item ≡ true → is_ahead sort q item ≡ true
rises [] p q le item e = cc
rises (key ∷ keys) p q le item e =
    let b = both_true (is_of_time key) (is_lt (order_by key.down (value key item) (front key.down p))) e in
    let le' : is_gt (order_by key.down (front key.down p) (front key.down q)) ≡ false = subst (λ (c : Bool). is_gt (cond c (order_by key.down (front key.down p) (front key.down q)) Equal) ≡ false) b.0 le in
    let l = less_up_to (order_by key.down) (order_by_total key.down) (value key item) (front key.down p) (front key.down q) (lt_is _ b.1) le' in
    rw (b.0, l) refl

-- ---- no item of a part is ahead of it

not_less : (a b : ℤ) → b ≤ℤ a → is_lt (int_cmp a b) ≡ false
not_less a b le = go (int_cmp a b) refl (int_ranked a b (int_cmp a b) refl)
  where
    go : (o : Ordering) → int_cmp a b ≡ o → MatchOrdering o (a <ℤ b) (a ≡ b) (b <ℤ a) → is_lt (int_cmp a b) ≡ false
    go Less e r = absurd (omega (arith, ints, r))
    go Equal e r = rw e refl
    go Greater e r = rw e refl

own_start : (down : Bool) (part : Part) (at : ℤ) → HasMoment part.bounds.starts at → is_lt (order_by down (Some (Moment at)) (front down part)) ≡ false
own_start down part at h = go down part.bounds.starts refl h
  where
    go : (d : Bool) (starts : Option (ℤ × ℤ)) → part.bounds.starts ≡ starts → HasMoment starts at → is_lt (order_by d (Some (Moment at)) (front d part)) ≡ false
    go true None e h = absurd h
    go false None e h = absurd h
    go true (Some range) e h = rw e (not_less range.1 at h.1)
    go false (Some range) e h = rw e (not_less at range.0 h.0)

pub own : (sort : List Key) (part : Part) (item : Feature) → HasMoment part.bounds.starts item.start → is_ahead sort part item ≡ false
own [] part item h = refl
own (key ∷ keys) part item h = go (is_of_time key) refl
  where
    go : (b : Bool) → is_of_time key ≡ b → (b && is_lt (order_by key.down (value key item) (front key.down part))) ≡ false
    go false e = refl
    go true e = rw (time_value key item e) (own_start key.down part item.start h)

-- ---- the order of fronts

pub front_order_total : (sort : List Key) → IsTotalOrder (front_order sort)
front_order_total [] = point_total
front_order_total (key ∷ keys) =
    elim (is_of_time key) as (λ (b : Bool). IsTotalOrder (λ p q. cond b (order_by key.down (front key.down p) (front key.down q)) Equal))
    [ true ↦ on_total (front key.down) (order_by_total key.down) | false ↦ point_total ]
