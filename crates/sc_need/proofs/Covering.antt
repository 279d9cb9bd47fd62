-- A part whose bounds cover an item that meets a need may match.
use Rattle.std.proofs.Common.{◌≡◌, ℕ, ℤ, ◌≤ℤ◌, Bool, true, false, ◌&&◌, ◌||◌, List, [], ◌∷◌, refl, sym, ap, ◌∙◌, subst, arith, rules, int_le}
use Rattle.std.specs.Prelude.{Option, Some, None}
use Rattle.std.specs.List.{AllByRecursion, list_any, list_all}
use Rattle.std.proofs.lemmas.Int.{ints}
use Rattle.sc_geom.specs.declared.point.Pt.{Pt}
use Rattle.sc_geom.specs.Shapes.{Shapes, positions_of}
use Rattle.sc_geom.specs.Rectangle.{Rectangle, Holds, overlap}
use Rattle.sc_cut.specs.declared.name.PartName.{PartName}
use Rattle.sc_bounds.specs.declared.reach.Reach.{Reach}
use Rattle.sc_bounds.specs.Extent.{Extent, AreBounds}
use Rattle.sc_bounds.specs.Moments.{HasMoment, AreMoments}
use Rattle.sc_bounds.specs.Places.{HasPoint, IsPlace}
use Rattle.sc_bounds.specs.Sets.{Covers, AreMomentsOf, ArePointsOf, IsWithin}
use Rattle.sc_geom.specs.Rectangle.{AreOverlapping}
use Rattle.sc_item.specs.Feature.{Feature, IsPlaceOf}
use Rattle.sc_geom.proofs.Deciding.{overlap_test}
use Rattle.sc_need.specs.declared.need.Need.{Need}
use Rattle.sc_need.specs.declared.need.Limits.{Limits}
use Rattle.sc_eval.specs.Selection.{is_listed}
use Rattle.sc_need.specs.Match.{from_low, to_high, may_lie, may_touch, may_match, Satisfies}
use Rattle.sc_need.proofs.Comparing.{and_both}
use Rattle.sc_need.proofs.Smallest.{in_order}

le_test : (a b : ℤ) → int_le a b ≡ true → a ≤ℤ b
le_test a b e = search (rules, e)

le_tested : (a b : ℤ) → a ≤ℤ b → int_le a b ≡ true
le_tested a b h = search (rules, h)

and_left : (a b : Bool) → (a && b) ≡ true → a ≡ true
and_left true b e = refl
and_left false b e = e

and_right : (a b : Bool) → (a && b) ≡ true → b ≡ true
and_right true b e = e
and_right false b e = cc

low_wider : (low : Option ℤ) (at last : ℤ) → at ≤ℤ last → from_low low at ≡ true → from_low low last ≡ true
low_wider None at last le e = refl
low_wider (Some x) at last le e = let h = le_test x at e in le_tested x last (omega (arith, ints, h, le))

high_wider : (high : Option ℤ) (at first : ℤ) → first ≤ℤ at → to_high high at ≡ true → to_high high first ≡ true
high_wider None at first le e = refl
high_wider (Some x) at first le e = let h = le_test at x e in le_tested first x (omega (arith, ints, h, le))

lie_wider : (limits : Limits) (moments : Option (ℤ × ℤ)) (at : ℤ) → HasMoment moments at → may_lie limits (Some (at, at)) ≡ true → may_lie limits moments ≡ true
lie_wider limits None at h e = absurd h
lie_wider limits (Some range) at h e =
    and_both (from_low limits.low range.1) (to_high limits.high range.0)
    (low_wider limits.low at range.1 h.1 (and_left (from_low limits.low at) (to_high limits.high at) e))
    (high_wider limits.high at range.0 h.0 (and_right (from_low limits.low at) (to_high limits.high at) e))

abbrev AreInOrder : Rectangle → Type 0
AreInOrder r = (r.west ≤ℤ r.east) × (r.south ≤ℤ r.north)

-- a box within another overlaps whatever the inner one does
overlap_wider : (inner outer box : Rectangle) → AreInOrder inner → ((p : Pt) → Holds inner p → Holds outer p) → overlap inner box ≡ true → overlap outer box ≡ true
overlap_wider inner outer box is within e =
    let h = (overlap_test inner box).0 e in
    let a = within (record { x = inner.west; y = inner.south }) (record { west = omega (arith, ints); east = is.0; south = omega (arith, ints); north = is.1 }) in
    let b = within (record { x = inner.east; y = inner.north }) (record { west = is.0; east = omega (arith, ints); south = is.1; north = omega (arith, ints) }) in
    let aw = a.west in let as' = a.south in let be = b.east in let bn = b.north in
    let hw = h.west in let he = h.east in let hs = h.south in let hn = h.north in
    (overlap_test outer box).1 (record {
      west = omega (arith, ints, aw, hw);
      east = omega (arith, ints, be, he);
      south = omega (arith, ints, as', hs);
      north = omega (arith, ints, bn, hn);
    })

any_wider : (inner outer : Rectangle) (boxes : List Rectangle) → AreInOrder inner → ((p : Pt) → Holds inner p → Holds outer p) → list_any (overlap inner) boxes ≡ true → list_any (overlap outer) boxes ≡ true
any_wider inner outer [] is within e = cc
any_wider inner outer (b ∷ boxes) is within e = go (overlap inner b) refl e (any_wider inner outer boxes is within)
  where
    or_right : (a c : Bool) → c ≡ true → (a || c) ≡ true
    or_right true c e = refl
    or_right false c e = e

    or_left : (a c : Bool) → a ≡ true → (a || c) ≡ true
    or_left true c e = refl
    or_left false c e = cc

    go : (t : Bool) → overlap inner b ≡ t → (t || list_any (overlap inner) boxes) ≡ true → (list_any (overlap inner) boxes ≡ true → list_any (overlap outer) boxes ≡ true) → (overlap outer b || list_any (overlap outer) boxes) ≡ true
    go true h e more = or_left (overlap outer b) (list_any (overlap outer) boxes) (overlap_wider inner outer b is within h)
    go false h e more = or_right (overlap outer b) (list_any (overlap outer) boxes) (more e)

abbrev IsInOrder : Option Rectangle → Type 0
IsInOrder None = Unit {0}
IsInOrder (Some r) = AreInOrder r

place_in_order : (geom : Option (Shapes Pt)) (place : Option Rectangle) → IsPlaceOf geom place → IsInOrder place
place_in_order None None p = tt
place_in_order None (Some r) p = absurd p
place_in_order (Some g) None p = absurd p
place_in_order (Some g) (Some r) p = in_order r (positions_of g) p

touch_wider : (inner outer : Option Rectangle) (boxes : List Rectangle) → IsInOrder inner → ArePointsOf inner outer → may_touch inner boxes ≡ true → may_touch outer boxes ≡ true
touch_wider None outer boxes is within e = cc
touch_wider (Some r) None boxes is within e =
    absurd (within (record { x = r.west; y = r.south }) (record { west = omega (arith, ints); east = is.0; south = omega (arith, ints); north = is.1 }))
touch_wider (Some r) (Some s) boxes is within e = any_wider r s boxes is within e

all_touch : (inner outer : Option Rectangle) (places : List (List Rectangle)) → IsInOrder inner → ArePointsOf inner outer → AllByRecursion (λ boxes. may_touch inner boxes ≡ true) places → list_all (may_touch outer) places ≡ true
all_touch inner outer [] is within all = refl
all_touch inner outer (boxes ∷ places) is within all =
    and_both (may_touch outer boxes) (list_all (may_touch outer) places) (touch_wider inner outer boxes is within all.0) (all_touch inner outer places is within all.1)

pub may_match_holds : (need : Need) (item : Feature) (bounds : Extent) (name : PartName) → Satisfies need item → IsPlaceOf item.geom item.place → item.collection ≡ name.collection
    → Covers bounds (record { start = item.start; end = item.end; place = item.place }) → may_match need bounds name ≡ true
unfolding may_match
may_match_holds need item bounds name m is here c =
    and_both (is_listed need.collections name.collection && (may_lie need.starts bounds.starts && may_lie need.ends bounds.ends)) (list_all (may_touch bounds.place) need.places)
    (and_both (is_listed need.collections name.collection) (may_lie need.starts bounds.starts && may_lie need.ends bounds.ends)
    (subst (λ n. is_listed need.collections n ≡ true) here m.listed)
    (and_both (may_lie need.starts bounds.starts) (may_lie need.ends bounds.ends) (lie_wider need.starts bounds.starts item.start c.start m.start) (lie_wider need.ends bounds.ends item.end c.end m.end)))
    (all_touch item.place bounds.place need.places (place_in_order item.geom item.place is) c.place m.place)

-- ---- bounds within others

lie_within : (limits : Limits) (a b : Option (ℤ × ℤ)) → AreMoments a → AreMomentsOf a b → may_lie limits a ≡ true → may_lie limits b ≡ true
lie_within limits None b is within e = cc
lie_within limits (Some r) None is within e = absurd (within r.0 (omega (arith, ints), is))
lie_within limits (Some r) (Some s) is within e =
    let first = within r.0 (omega (arith, ints), is) in
    let last = within r.1 (is, omega (arith, ints)) in
    and_both (from_low limits.low s.1) (to_high limits.high s.0)
    (low_wider limits.low r.1 s.1 last.1 (and_left (from_low limits.low r.1) (to_high limits.high r.0) e))
    (high_wider limits.high r.0 s.0 first.0 (and_right (from_low limits.low r.1) (to_high limits.high r.0) e))

box_in_order : (place : Option Rectangle) → IsPlace place → IsInOrder place
box_in_order None is = tt
box_in_order (Some r) is = (is.across, is.up)

all_within : (a b : Option Rectangle) (places : List (List Rectangle)) → IsInOrder a → ArePointsOf a b → list_all (may_touch a) places ≡ true → list_all (may_touch b) places ≡ true
all_within a b [] is within e = refl
all_within a b (boxes ∷ places) is within e =
    and_both (may_touch b boxes) (list_all (may_touch b) places) (touch_wider a b boxes is within (and_left (may_touch a boxes) (list_all (may_touch a) places) e))
    (all_within a b places is within (and_right (may_touch a boxes) (list_all (may_touch a) places) e))

pub may_match_within : (need : Need) (a b : Extent) (name : PartName) → AreBounds a → IsWithin a b → may_match need a name ≡ true → may_match need b name ≡ true
unfolding may_match
may_match_within need a b name is within e =
    let rest = and_left (is_listed need.collections name.collection && (may_lie need.starts a.starts && may_lie need.ends a.ends)) (list_all (may_touch a.place) need.places) e in
    let places = and_right (is_listed need.collections name.collection && (may_lie need.starts a.starts && may_lie need.ends a.ends)) (list_all (may_touch a.place) need.places) e in
    let times = and_right (is_listed need.collections name.collection) (may_lie need.starts a.starts && may_lie need.ends a.ends) rest in
    and_both (is_listed need.collections name.collection && (may_lie need.starts b.starts && may_lie need.ends b.ends)) (list_all (may_touch b.place) need.places)
    (and_both (is_listed need.collections name.collection) (may_lie need.starts b.starts && may_lie need.ends b.ends)
    (and_left (is_listed need.collections name.collection) (may_lie need.starts a.starts && may_lie need.ends a.ends) rest)
    (and_both (may_lie need.starts b.starts) (may_lie need.ends b.ends)
    (lie_within need.starts a.starts b.starts is.starts within.starts (and_left (may_lie need.starts a.starts) (may_lie need.ends a.ends) times))
    (lie_within need.ends a.ends b.ends is.ends within.ends (and_right (may_lie need.starts a.starts) (may_lie need.ends a.ends) times))))
    (all_within a.place b.place need.places (box_in_order a.place is.place) within.place places)
