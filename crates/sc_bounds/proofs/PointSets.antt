-- Sets of grid points: joins and meets, and that a set is known by its points.
use Rattle.std.proofs.Common.{rules, ◌≡◌, ◌↔◌, refl, sym, subst, ap, arith, ◌<ℤ◌, Bool, true, false, cond, ◌&&◌, ℤ, ◌≤ℤ◌, int_le, IsTrue, Option, Some, None}
use Rattle.std.specs.Int.{int_min, int_max}
use Rattle.std.proofs.lemmas.Int.{ints, clamps}
use Rattle.sc_geom.specs.declared.point.Pt.{Pt}
use Rattle.sc_geom.specs.Rectangle.{Rectangle, Holds, IsBox, IsWithin}
use Rattle.sc_bounds.specs.Places.{HasPoint, IsPlace, box_join, box_meet, has_points, place_join, place_meet}
use Rattle.sc_bounds.specs.Sets.{ArePointsOf}

-- a box is known by two of its corners
low_in : (r : Rectangle) → IsBox r → Holds r (record { x = r.west; y = r.south })
low_in r is = let across = is.across in let up = is.up in
    record { west = omega (arith, ints); east = across; south = omega (arith, ints); north = up }

high_in : (r : Rectangle) → IsBox r → Holds r (record { x = r.east; y = r.north })
high_in r is = let across = is.across in let up = is.up in
    record { west = across; east = omega (arith, ints); south = up; north = omega (arith, ints) }

pub within_points : (r s : Rectangle) → IsWithin r s → (point : Pt) → Holds r point → Holds s point
within_points r s w point h = record {
  west = omega (arith, ints, w.west, h.west);
  east = omega (arith, ints, w.east, h.east);
  south = omega (arith, ints, w.south, h.south);
  north = omega (arith, ints, w.north, h.north);
}

pub points_within : (r s : Rectangle) → IsBox r → ((point : Pt) → Holds r point → Holds s point) → IsWithin r s
points_within r s is all =
    let a = all (record { x = r.west; y = r.south }) (low_in r is) in
    let b = all (record { x = r.east; y = r.north }) (high_in r is) in
    record { west = a.west; east = b.east; south = a.south; north = b.north }

pub no_points : (r : Rectangle) → IsBox r → ((point : Pt) → Holds r point → ⊥) → ⊥
no_points r is none = none (record { x = r.west; y = r.south }) (low_in r is)

box_left : (a b : Rectangle) → IsWithin a (box_join a b)
box_left a b = record { west = omega (arith, ints, clamps); east = omega (arith, ints, clamps); south = omega (arith, ints, clamps); north = omega (arith, ints, clamps) }

box_right : (a b : Rectangle) → IsWithin b (box_join a b)
box_right a b = record { west = omega (arith, ints, clamps); east = omega (arith, ints, clamps); south = omega (arith, ints, clamps); north = omega (arith, ints, clamps) }

box_least : (a b d : Rectangle) → IsWithin a d → IsWithin b d → IsWithin (box_join a b) d
box_least a b d h k = record {
  west = omega (arith, ints, clamps, h.west, k.west);
  east = omega (arith, ints, clamps, h.east, k.east);
  south = omega (arith, ints, clamps, h.south, k.south);
  north = omega (arith, ints, clamps, h.north, k.north);
}

pub box_joined : (a b : Rectangle) → IsBox a → IsBox b → IsBox (box_join a b)
box_joined a b h k =
    let a_west = h.west_in in let a_east = h.east_in in let a_south = h.south_in in let a_north = h.north_in in
    let b_west = k.west_in in let b_east = k.east_in in let b_south = k.south_in in let b_north = k.north_in in
    record {
      west_in = (omega (arith, ints, clamps, a_west.0, b_west.0), omega (arith, ints, clamps, a_west.1, b_west.1));
      east_in = (omega (arith, ints, clamps, a_east.0, b_east.0), omega (arith, ints, clamps, a_east.1, b_east.1));
      south_in = (omega (arith, ints, clamps, a_south.0, b_south.0), omega (arith, ints, clamps, a_south.1, b_south.1));
      north_in = (omega (arith, ints, clamps, a_north.0, b_north.0), omega (arith, ints, clamps, a_north.1, b_north.1));
      across = omega (arith, ints, clamps, h.across, k.across);
      up = omega (arith, ints, clamps, h.up, k.up);
    }

pub join_left : (a b : Option Rectangle) → ArePointsOf a (place_join a b)
join_left None b point h = absurd h
join_left (Some a) None point h = h
join_left (Some a) (Some b) point h = within_points a (box_join a b) (box_left a b) point h

pub join_right : (a b : Option Rectangle) → ArePointsOf b (place_join a b)
join_right None b point h = h
join_right (Some a) None point h = absurd h
join_right (Some a) (Some b) point h = within_points b (box_join a b) (box_right a b) point h

pub join_least : (a b d : Option Rectangle) → IsPlace a → IsPlace b → ArePointsOf a d → ArePointsOf b d → ArePointsOf (place_join a b) d
join_least None b d ok ok' in_a in_b point h = in_b point h
join_least (Some a) None d ok ok' in_a in_b point h = in_a point h
join_least (Some a) (Some b) None ok ok' in_a in_b point h = absurd (no_points a ok in_a)
join_least (Some a) (Some b) (Some d) ok ok' in_a in_b point h =
    within_points (box_join a b) d (box_least a b d (points_within a d ok in_a) (points_within b d ok' in_b)) point h

pub join_place : (a b : Option Rectangle) → IsPlace a → IsPlace b → IsPlace (place_join a b)
join_place None b ok ok' = ok'
join_place (Some a) None ok ok' = ok
join_place (Some a) (Some b) ok ok' = box_joined a b ok ok'

pub both_tests : (a b d e : ℤ) → (int_le a b && int_le d e) ≡ true → (a ≤ℤ b) × (d ≤ℤ e)
both_tests a b d e test = search rules

pub both_tested : (a b d e : ℤ) → a ≤ℤ b → d ≤ℤ e → (int_le a b && int_le d e) ≡ true
both_tested a b d e le le' = search rules

box_in_both : (a b : Rectangle) (point : Pt) (t : Bool) → has_points (box_meet a b) ≡ t → HasPoint (cond t (Some (box_meet a b)) None) point ↔ (Holds a point × Holds b point)
box_in_both a b point true test = (
  λ h.
      let west = h.west in let east = h.east in let south = h.south in let north = h.north in (
        record { west = omega (arith, ints, clamps); east = omega (arith, ints, clamps); south = omega (arith, ints, clamps); north = omega (arith, ints, clamps) },
        record { west = omega (arith, ints, clamps); east = omega (arith, ints, clamps); south = omega (arith, ints, clamps); north = omega (arith, ints, clamps) },
      ),
  λ h. record {
    west = omega (arith, ints, clamps, h.0.west, h.1.west);
    east = omega (arith, ints, clamps, h.0.east, h.1.east);
    south = omega (arith, ints, clamps, h.0.south, h.1.south);
    north = omega (arith, ints, clamps, h.0.north, h.1.north);
  },
)
box_in_both a b point false test = (
  λ h. absurd h,
  λ h.
      let across : int_max a.west b.west ≤ℤ int_min a.east b.east = omega (arith, ints, clamps, h.0.west, h.1.west, h.0.east, h.1.east) in
      let up : int_max a.south b.south ≤ℤ int_min a.north b.north = omega (arith, ints, clamps, h.0.south, h.1.south, h.0.north, h.1.north) in
      let yes : has_points (box_meet a b) ≡ true = both_tested (int_max a.west b.west) (int_min a.east b.east) (int_max a.south b.south) (int_min a.north b.north) across up in
      cc,
)

pub meet_is : (a b : Option Rectangle) (point : Pt) → HasPoint (place_meet a b) point ↔ (HasPoint a point × HasPoint b point)
meet_is None b point = (λ h. absurd h, λ h. absurd h.0)
meet_is (Some a) None point = (λ h. absurd h, λ h. absurd h.1)
meet_is (Some a) (Some b) point = box_in_both a b point (has_points (box_meet a b)) refl

pub box_met : (a b : Rectangle) → IsBox a → IsBox b → has_points (box_meet a b) ≡ true → IsBox (box_meet a b)
box_met a b h k test =
    let order = both_tests (int_max a.west b.west) (int_min a.east b.east) (int_max a.south b.south) (int_min a.north b.north) test in
    let a_west = h.west_in in let a_east = h.east_in in let a_south = h.south_in in let a_north = h.north_in in
    let b_west = k.west_in in let b_east = k.east_in in let b_south = k.south_in in let b_north = k.north_in in
    record {
      west_in = (omega (arith, ints, clamps, a_west.0, b_west.0), omega (arith, ints, clamps, a_west.1, b_west.1));
      east_in = (omega (arith, ints, clamps, a_east.0, b_east.0), omega (arith, ints, clamps, a_east.1, b_east.1));
      south_in = (omega (arith, ints, clamps, a_south.0, b_south.0), omega (arith, ints, clamps, a_south.1, b_south.1));
      north_in = (omega (arith, ints, clamps, a_north.0, b_north.0), omega (arith, ints, clamps, a_north.1, b_north.1));
      across = order.0;
      up = order.1;
    }

place_cut : (a b : Rectangle) → IsBox a → IsBox b → (t : Bool) → has_points (box_meet a b) ≡ t → IsPlace (cond t (Some (box_meet a b)) None)
place_cut a b h k true test = box_met a b h k test
place_cut a b h k false test = tt

pub meet_place : (a b : Option Rectangle) → IsPlace a → IsPlace b → IsPlace (place_meet a b)
meet_place None b ok ok' = tt
meet_place (Some a) None ok ok' = tt
meet_place (Some a) (Some b) ok ok' = place_cut a b ok ok' (has_points (box_meet a b)) refl

sides : (w s e n w' s' e' n' : ℤ) → w ≡ w' → s ≡ s' → e ≡ e' → n ≡ n' →
    (let r : Rectangle = record { west = w; south = s; east = e; north = n } in let r' : Rectangle = record { west = w'; south = s'; east = e'; north = n' } in r ≡ r')
sides w s e n w' s' e' n' west south east north = rw (west, south, east, north) refl

pub same_sides : (a b : Rectangle) → a.west ≡ b.west → a.south ≡ b.south → a.east ≡ b.east → a.north ≡ b.north → a ≡ b
same_sides a b west south east north = sides a.west a.south a.east a.north b.west b.south b.east b.north west south east north

same_box : (a b : Rectangle) → IsWithin a b → IsWithin b a → a ≡ b
same_box a b h k =
    same_sides a b (omega (arith, ints, h.west, k.west)) (omega (arith, ints, h.south, k.south)) (omega (arith, ints, h.east, k.east)) (omega (arith, ints, h.north, k.north))

pub same_place : (a b : Option Rectangle) → IsPlace a → IsPlace b → ArePointsOf a b → ArePointsOf b a → a ≡ b
same_place None None ok ok' in_a in_b = refl
same_place None (Some b) ok ok' in_a in_b = absurd (no_points b ok' in_b)
same_place (Some a) None ok ok' in_a in_b = absurd (no_points a ok in_a)
same_place (Some a) (Some b) ok ok' in_a in_b = ap Some (same_box a b (points_within a b ok in_a) (points_within b a ok' in_b))

-- the box between sides, where they are in order
le_untested : (a b : ℤ) → b <ℤ a → int_le a b ≡ false
le_untested a b lt = search rules

le_tested : (a b : ℤ) → a ≤ℤ b → int_le a b ≡ true
le_tested a b le = search rules

pub no_box_across : (box : Rectangle) → box.east <ℤ box.west → None ≡ cond (has_points box) (Some box) None
no_box_across box lt = rw (le_untested box.west box.east lt) refl

pub no_box_up : (box : Rectangle) → box.west ≤ℤ box.east → box.north <ℤ box.south → None ≡ cond (has_points box) (Some box) None
no_box_up box le lt = rw (le_tested box.west box.east le, le_untested box.south box.north lt) refl

pub some_box : (box : Rectangle) → box.west ≤ℤ box.east → box.south ≤ℤ box.north → Some box ≡ cond (has_points box) (Some box) None
some_box box le le' = rw (le_tested box.west box.east le, le_tested box.south box.north le') refl

-- what lies within a box, as a test
pub all_points : (inner outer : Option Rectangle) (a b : Rectangle) (t : Bool) → inner ≡ Some a → outer ≡ Some b → IsBox a → IsTrue t ↔ IsWithin a b → IsTrue t ↔ ArePointsOf inner outer
all_points inner outer a b t is is' ok test =
    let P : Option Rectangle → Option Rectangle → Type 0 = λ i o. IsTrue t ↔ ArePointsOf i o in
    let here : P (Some a) (Some b) = (λ yes. within_points a b (test.0 yes), λ all. test.1 (points_within a b ok all)) in
    subst (λ i. P i outer) (sym is) (subst (P (Some a)) (sym is') here)

pub not_all_points : (inner outer : Option Rectangle) (a : Rectangle) → inner ≡ Some a → outer ≡ None → IsBox a → ArePointsOf inner outer → ⊥
not_all_points inner outer a is is' ok all =
    let P : Option Rectangle → Option Rectangle → Type 0 = λ i o. ArePointsOf i o in
    no_points a ok (subst (P (Some a)) is' (subst (λ i. P i outer) is all))

pub sides_within : (a b : Rectangle) (across up : Bool) (w e w' e' s n s' n' : ℤ) → IsTrue across ↔ ((w' ≤ℤ w) × (e ≤ℤ e')) → IsTrue up ↔ ((s' ≤ℤ s) × (n ≤ℤ n')) → IsTrue across →
    w ≡ a.west → e ≡ a.east → w' ≡ b.west → e' ≡ b.east → s ≡ a.south → n ≡ a.north → s' ≡ b.south → n' ≡ b.north → IsTrue up ↔ IsWithin a b
sides_within a b across up w e w' e' s n s' n' test test' holds aw ae bw be as' an bs bn = (
  λ yes'.
      let x = test.0 holds in
      let y = test'.0 yes' in
      record { west = rw (← aw, ← bw) x.0; east = rw (← ae, ← be) x.1; south = rw (← as', ← bs) y.0; north = rw (← an, ← bn) y.1 },
  λ h. test'.1 (rw (bs, as') h.south, rw (an, bn) h.north),
)

pub never : (t : Bool) → t ≡ false → IsTrue t → ⊥
never t never_is holds = cc
