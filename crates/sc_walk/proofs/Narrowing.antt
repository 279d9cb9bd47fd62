-- Narrower bounds open no part that wider ones leave closed.
use Rattle.std.proofs.Common.{◌≡◌, ◌≤ℤ◌, ◌<ℤ◌, ℤ, Bool, true, false, cond, List, [], ◌∷◌, ◌++◌, filter, length, nat_le, rules, Option, Some, None, refl, ap, ◌∙◌, subst, arith, Ordering, Less, Equal, Greater, is_gt}
use Rattle.std.specs.Prelude.{int_le}
use Rattle.std.specs.Ordering.{int_cmp, MatchOrdering}
use Rattle.std.proofs.lemmas.Cmp.{int_ranked}
use Rattle.std.proofs.lemmas.Int.{ints}
use Rattle.sqlite_keyed.proofs.RuleLemmas.{first_of_both, second_of_both}
use Rattle.sc_bounds.specs.Moments.{AreMoments, HasMoment}
use Rattle.sc_sort.specs.declared.key.Key.{Key}
use Rattle.sc_sort.specs.Keys.{Keys}
use Rattle.sc_sort.specs.Order.{order_by}
use Rattle.sc_sort.specs.Spec.{is_of_time}
use Rattle.sc_expr.specs.Query.{Asked}
use Rattle.sc_history.specs.Part.{Part}
use Rattle.sc_shelf.specs.Kept.{all_items}
use Rattle.sc_need.specs.Need.{need_of}
use Rattle.sc_need.specs.Match.{may_match}
use Rattle.sc_need.proofs.Covering.{may_match_within}
use Rattle.sc_page.specs.Search.{is_asked}
use Rattle.sc_walk.specs.Walk.{AreNarrower, IsNarrower, found, front, front_order, is_ahead, is_candidate, is_opened, is_within, may_follow, moment_of, reaches, reaches_moment}
use Rattle.sc_walk.proofs.Fronts.{rises}
use Rattle.sc_walk.proofs.Stopping.{narrow_opens_less}

abbrev Holds : Option (ℤ × ℤ) → Option (ℤ × ℤ) → Type 0
Holds narrow wide = (at : ℤ) → HasMoment narrow at → HasMoment wide at

le_tested : (a b : ℤ) → a ≤ℤ b → int_le a b ≡ true
le_tested a b h = search (rules, h)

le_told : (a b : ℤ) → int_le a b ≡ true → a ≤ℤ b
le_told a b e = search (rules, e)

reaches_wider : (down : Bool) (at : ℤ) (narrow wide : Option (ℤ × ℤ)) → AreMoments narrow → Holds narrow wide → reaches down at narrow ≡ true → reaches down at wide ≡ true
reaches_wider down at None wide m h e = cc
reaches_wider down at (Some n) None m h e = absurd (h n.0 (omega (arith, ints), m))
reaches_wider true at (Some n) (Some w) m h e = let l = (h n.0 (omega (arith, ints), m)).0 in let t = le_told n.0 at e in le_tested w.0 at (omega (arith, ints, l, t))
reaches_wider false at (Some n) (Some w) m h e = let l = (h n.1 (m, omega (arith, ints))).1 in let t = le_told at n.1 e in le_tested at w.1 (omega (arith, ints, l, t))

follow_wider : (sort : List Key) (after : Option Keys) (narrow wide : Part) → AreMoments narrow.bounds.starts → Holds narrow.bounds.starts wide.bounds.starts → may_follow sort after narrow ≡ true → may_follow sort after wide ≡ true
follow_wider [] after narrow wide m h e = refl
follow_wider (key ∷ keys) after narrow wide m h e = go (moment_of after) e
  where
    go : (at : Option ℤ) → reaches_moment key at narrow ≡ true → reaches_moment key at wide ≡ true
    go None e = refl
    go (Some at) e = by (is_of_time key) e
      where
        by : (b : Bool) → cond b (reaches key.down at narrow.bounds.starts) true ≡ true → cond b (reaches key.down at wide.bounds.starts) true ≡ true
        by true e = reaches_wider key.down at narrow.bounds.starts wide.bounds.starts m h e
        by false e = refl

up_to : (a b : ℤ) → a ≤ℤ b → is_gt (int_cmp a b) ≡ false
up_to a b le = go (int_cmp a b) refl (int_ranked a b (int_cmp a b) refl)
  where
    go : (o : Ordering) → int_cmp a b ≡ o → MatchOrdering o (a <ℤ b) (a ≡ b) (b <ℤ a) → is_gt (int_cmp a b) ≡ false
    go Less h r = ap is_gt h
    go Equal h r = ap is_gt h
    go Greater h r = absurd (omega (arith, ints, r, le))

fronts_wider : (sort : List Key) (narrow wide : Part) → AreMoments narrow.bounds.starts → Holds narrow.bounds.starts wide.bounds.starts → is_gt (front_order sort wide narrow) ≡ false
fronts_wider [] narrow wide m h = refl
fronts_wider (key ∷ keys) narrow wide m h = by (is_of_time key)
  where
    go : (down : Bool) (n w : Option (ℤ × ℤ)) → narrow.bounds.starts ≡ n → wide.bounds.starts ≡ w → AreMoments n → Holds n w → is_gt (order_by down (front down wide) (front down narrow)) ≡ false
    go true None None e f m h = rw (e, f) refl
    go false None None e f m h = rw (e, f) refl
    go true None (Some w) e f m h = rw (e, f) refl
    go false None (Some w) e f m h = rw (e, f) refl
    go down (Some n) None e f m h = absurd (h n.0 (omega (arith, ints), m))
    go true (Some n) (Some w) e f m h = rw (e, f) (up_to n.1 w.1 (h n.1 (m, omega (arith, ints))).1)
    go false (Some n) (Some w) e f m h = rw (e, f) (up_to w.0 n.0 (h n.0 (omega (arith, ints), m)).0)

    by : (b : Bool) → is_gt (cond b (order_by key.down (front key.down wide) (front key.down narrow)) Equal) ≡ false
    by true = go key.down narrow.bounds.starts wide.bounds.starts refl refl m h
    by false = refl

candidate_wider : (asked : Asked) (narrow wide : Part) → IsNarrower narrow wide → is_candidate asked narrow ≡ true → is_candidate asked wide ≡ true
unfolding is_candidate
candidate_wider asked narrow wide is e =
    let m = may_match_within (need_of asked.select) narrow.bounds wide.bounds narrow.name is.in_order is.within (first_of_both (may_match (need_of asked.select) narrow.bounds narrow.name) (may_follow asked.sort asked.after narrow) e) in
    let n = subst (λ name. may_match (need_of asked.select) wide.bounds name ≡ true) is.name m in
    let f = follow_wider asked.sort asked.after narrow wide is.in_order.starts is.within.starts (second_of_both (may_match (need_of asked.select) narrow.bounds narrow.name) (may_follow asked.sort asked.after narrow) e) in
    rw (n, f) refl

same_items : (narrows wides : List Part) → AreNarrower narrows wides → all_items narrows ≡ all_items wides
same_items [] [] are = refl
same_items [] (wide ∷ wides) are = absurd are
same_items (narrow ∷ narrows) [] are = absurd are
same_items (narrow ∷ narrows) (wide ∷ wides) are = ap (λ l. l ++ all_items narrows) are.0.items ∙ ap (λ l. wide.items ++ l) (same_items narrows wides are.1)

pub opened_wider : (asked : Asked) (narrows wides : List Part) (narrow wide : Part) → AreNarrower narrows wides → IsNarrower narrow wide → is_opened asked narrows narrow ≡ true → is_opened asked wides wide ≡ true
opened_wider asked narrows wides narrow wide are is e =
    let c = candidate_wider asked narrow wide is (first_of_both (is_candidate asked narrow) (is_within asked narrows narrow) e) in
    let w = second_of_both (is_candidate asked narrow) (is_within asked narrows narrow) e in
    let v = subst (λ l. nat_le (length (filter (is_ahead asked.sort narrow) l)) asked.limit ≡ true) (ap (filter (is_asked asked)) (same_items narrows wides are)) w in
    let o = narrow_opens_less (is_ahead asked.sort) asked.limit (found asked wides) wide narrow (rises asked.sort wide narrow (fronts_wider asked.sort narrow wide is.in_order.starts is.within.starts)) v in
    rw (c, o) refl
