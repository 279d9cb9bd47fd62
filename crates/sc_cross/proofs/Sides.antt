-- Sides of lines, and boxes of segments, as the code finds them.
use Rattle.std.proofs.Common.{◌≡◌, ◌↔◌, ◌∙◌, inl, inr, refl, sym, subst, arith, Bool, true, false, IsTrue, ℤ, pos, ◌-ℤ◌, ◌*ℤ◌, ◌<ℤ◌, ◌≤ℤ◌, ◌≤◌, ◌^◌, unsigned_abs, to_z, of_z}
use Rattle.std.specs.Int.{w128}
use Rattle.std.proofs.lemmas.Int.{ints}
use Rattle.sc_geom.specs.declared.point.Pt.{Pt}
use Rattle.sc_geom.specs.Rectangle.{Rectangle, AreOverlapping}
use Rattle.sc_cross.specs.declared.segment.Segment.{Segment}
use Rattle.sc_cross.specs.Segment.{side, AreOnOneSide}

pub difference_fits : (l r : ℤ) → unsigned_abs l ≤ 2 ^ 66 → unsigned_abs r ≤ 2 ^ 66 →
    to_z w128 (of_z w128 (to_z w128 (of_z w128 l) -ℤ to_z w128 (of_z w128 r))) ≡ l -ℤ r
difference_fits l r small small' = omega (arith, ints)

pub side_value : (s : Segment) (p : Pt) (left right east north east_at north_at : ℤ) →
    left ≡ east *ℤ north_at →
    right ≡ north *ℤ east_at →
    east ≡ s.to.x -ℤ s.from.x →
    north ≡ s.to.y -ℤ s.from.y →
    east_at ≡ p.x -ℤ s.from.x →
    north_at ≡ p.y -ℤ s.from.y →
    left -ℤ right ≡ side s p
side_value s p left right east north east_at north_at is_left is_right is_east is_north is_east_at is_north_at =
    rw (is_left, is_right, is_east, is_north, is_east_at, is_north_at) refl

pub on_left : (s t : Segment) (above : Bool) (from to : ℤ) → from ≡ side s t.from → to ≡ side s t.to →
    IsTrue above ↔ ((pos 0 <ℤ from) × (pos 0 <ℤ to)) → above ≡ true → IsTrue above ↔ AreOnOneSide s t
on_left s t above from to is_from is_to test holds =
    let both = test.0 holds in
    (λ yes. inl (subst (λ (z : ℤ). pos 0 <ℤ z) is_from both.0, subst (λ (z : ℤ). pos 0 <ℤ z) is_to both.1), λ side_is. holds)

pub on_right : (s t : Segment) (above below : Bool) (from to : ℤ) → from ≡ side s t.from → to ≡ side s t.to →
    IsTrue above ↔ ((pos 0 <ℤ from) × (pos 0 <ℤ to)) → above ≡ false →
    IsTrue below ↔ ((from <ℤ pos 0) × (to <ℤ pos 0)) → IsTrue below ↔ AreOnOneSide s t
on_right s t above below from to is_from is_to test none test' = (
  λ yes. let both = test'.0 yes in inr (subst (λ (z : ℤ). z <ℤ pos 0) is_from both.0, subst (λ (z : ℤ). z <ℤ pos 0) is_to both.1),
  λ side_is. elim side_is [
    | inl both ↦
        let yes : above ≡ true = test.1 (subst (λ (z : ℤ). pos 0 <ℤ z) (sym is_from) both.0, subst (λ (z : ℤ). pos 0 <ℤ z) (sym is_to) both.1) in
        cc
    | inr both ↦ test'.1 (subst (λ (z : ℤ). z <ℤ pos 0) (sym is_from) both.0, subst (λ (z : ℤ). z <ℤ pos 0) (sym is_to) both.1)
  ],
)

sides : (w s e n w' s' e' n' : ℤ) → w ≡ w' → s ≡ s' → e ≡ e' → n ≡ n' →
    (let r : Rectangle = record { west = w; south = s; east = e; north = n } in let r' : Rectangle = record { west = w'; south = s'; east = e'; north = n' } in r ≡ r')
sides w s e n w' s' e' n' west south east north = rw (west, south, east, north) refl

pub same_sides : (a b : Rectangle) → a.west ≡ b.west → a.south ≡ b.south → a.east ≡ b.east → a.north ≡ b.north → a ≡ b
same_sides a b west south east north = sides a.west a.south a.east a.north b.west b.south b.east b.north west south east north

-- the two tests of a segment's box and another
pub overlap_both : (r box : Rectangle) (across up : Bool) (w e w' e' s n s' n' : ℤ) →
    IsTrue across ↔ ((w ≤ℤ e') × (w' ≤ℤ e)) → IsTrue up ↔ ((s ≤ℤ n') × (s' ≤ℤ n)) → across ≡ true →
    w ≡ r.west → e ≡ r.east → w' ≡ box.west → e' ≡ box.east → s ≡ r.south → n ≡ r.north → s' ≡ box.south → n' ≡ box.north →
    IsTrue up ↔ AreOverlapping r box
overlap_both r box across up w e w' e' s n s' n' test test' holds rw_w rw_e bw be rs rn bs bn = (
  λ yes'.
      let x = test.0 holds in
      let y = test'.0 yes' in
      record { west = rw (← rw_w, ← be) x.0; east = rw (← bw, ← rw_e) x.1; south = rw (← rs, ← bn) y.0; north = rw (← bs, ← rn) y.1 },
  λ h. test'.1 (rw (rs, bn) h.south, rw (bs, rn) h.north),
)

pub overlap_not : (r box : Rectangle) (across : Bool) (w e w' e' : ℤ) →
    IsTrue across ↔ ((w ≤ℤ e') × (w' ≤ℤ e)) → across ≡ false →
    w ≡ r.west → e ≡ r.east → w' ≡ box.west → e' ≡ box.east →
    IsTrue across ↔ AreOverlapping r box
overlap_not r box across w e w' e' test none rw_w rw_e bw be = (
  λ yes. let both : true ≡ false = sym yes ∙ none in cc,
  λ h. test.1 (rw (rw_w, be) h.west, rw (bw, rw_e) h.east),
)
