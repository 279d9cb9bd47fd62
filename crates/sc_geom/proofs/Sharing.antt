-- Boxes that share positions, as the code finds it: first by meridians, then by parallels.
use Rattle.std.proofs.Common.{◌≡◌, ◌↔◌, ◌∙◌, sym, Bool, true, false, IsTrue, ℤ, ◌≤ℤ◌}
use Rattle.sc_geom.specs.declared.point.Pt.{Pt}
use Rattle.sc_geom.specs.Rectangle.{Rectangle, Holds, AreOverlapping, at_position}

-- the two tests of a box and another
pub overlap_both : (r box : Rectangle) (across up : Bool) (w e w' e' s n s' n' : ℤ) →
    IsTrue across ↔ ((w ≤ℤ e') × (w' ≤ℤ e)) → IsTrue up ↔ ((s ≤ℤ n') × (s' ≤ℤ n)) → across ≡ true →
    w ≡ r.west → e ≡ r.east → w' ≡ box.west → e' ≡ box.east → s ≡ r.south → n ≡ r.north → s' ≡ box.south → n' ≡ box.north →
    IsTrue up ↔ AreOverlapping r box
overlap_both r box across up w e w' e' s n s' n' test test' holds rw_w rw_e bw be rs rn bs bn = (
  λ yes'.
      let x = test.0 holds in
      let y = test'.0 yes' in
      record { west = rw (← rw_w, ← be) x.0; east = rw (← bw, ← rw_e) x.1; south = rw (← rs, ← bn) y.0; north = rw (← bs, ← rn) y.1 },
  λ h. test'.1 (rw (rs, bn) h.south, rw (bs, rn) h.north),
)

pub overlap_not : (r box : Rectangle) (across : Bool) (w e w' e' : ℤ) →
    IsTrue across ↔ ((w ≤ℤ e') × (w' ≤ℤ e)) → across ≡ false →
    w ≡ r.west → e ≡ r.east → w' ≡ box.west → e' ≡ box.east →
    IsTrue across ↔ AreOverlapping r box
overlap_not r box across w e w' e' test none rw_w rw_e bw be = (
  λ yes. let both : true ≡ false = sym yes ∙ none in cc,
  λ h. test.1 (rw (rw_w, be) h.west, rw (bw, rw_e) h.east),
)

-- a position is a box of its own

held_as : (r : Rectangle) (p : Pt) → AreOverlapping r (at_position p) ↔ Holds r p
held_as r p = (
  λ h. record { west = h.west; east = h.east; south = h.south; north = h.north },
  λ h. record { west = h.west; east = h.east; south = h.south; north = h.north },
)

pub held_both : (r : Rectangle) (p : Pt) (across up : Bool) (w e x x' s n y y' : ℤ) →
    IsTrue across ↔ ((w ≤ℤ x') × (x ≤ℤ e)) → IsTrue up ↔ ((s ≤ℤ y') × (y ≤ℤ n)) → across ≡ true →
    w ≡ r.west → e ≡ r.east → x ≡ p.x → x' ≡ p.x → s ≡ r.south → n ≡ r.north → y ≡ p.y → y' ≡ p.y →
    IsTrue up ↔ Holds r p
held_both r p across up w e x x' s n y y' test test' holds rw_w rw_e px px' rs rn py py' =
    let both = overlap_both r (at_position p) across up w e x x' s n y y' test test' holds rw_w rw_e px px' rs rn py py' in
    (λ yes. (held_as r p).0 (both.0 yes), λ h. both.1 ((held_as r p).1 h))

pub held_not : (r : Rectangle) (p : Pt) (across : Bool) (w e x x' : ℤ) →
    IsTrue across ↔ ((w ≤ℤ x') × (x ≤ℤ e)) → across ≡ false → w ≡ r.west → e ≡ r.east → x ≡ p.x → x' ≡ p.x → IsTrue across ↔ Holds r p
held_not r p across w e x x' test none rw_w rw_e px px' =
    let both = overlap_not r (at_position p) across w e x x' test none rw_w rw_e px px' in
    (λ yes. (held_as r p).0 (both.0 yes), λ h. both.1 ((held_as r p).1 h))
