-- The sides of a smallest box are in order.
use Rattle.std.proofs.Common.{◌≡◌, ℤ, pos, ◌+ℤ◌, ◌≤ℤ◌, List, [], ◌∷◌, refl, sym, ap, ap₂, ◌∙◌, arith, All}
use Rattle.std.proofs.lemmas.Int.{ints, clamps}
use Rattle.std.proofs.lemmas.List.Elements.{All-nil, All-head, All-tail}
use Rattle.sc_geom.specs.declared.point.Pt.{Pt}
use Rattle.sc_geom.specs.Rectangle.{Rectangle, Holds, IsWithin, IsSmallest}

-- no box is the smallest of none
none_smallest : (r : Rectangle) → IsSmallest r [] → ⊥
none_smallest r is =
    let far : Rectangle = record { west = r.west +ℤ pos 1; south = r.south; east = r.east; north = r.north } in
    let within = is.least far (All-nil (Holds far)) in
    let w = within.west in
    omega (arith, ints, w)

-- the sides of the smallest box are in order
pub in_order : (r : Rectangle) (ps : List Pt) → IsSmallest r ps → (r.west ≤ℤ r.east) × (r.south ≤ℤ r.north)
in_order r [] is = absurd (none_smallest r is)
in_order r (p ∷ ps) is =
    let h = All-head (Holds r) p ps is.holds in
    let w = h.west in let e = h.east in let s = h.south in let n = h.north in
    (omega (arith, ints, w, e), omega (arith, ints, s, n))
