-- The place of an item is a box of the world, so items have one hull.
use Rattle.std.proofs.Common.{◌≡◌, ℕ, ◌≤◌, List, length, map, arith, pos, negsuc, Option, Some, None}
use Rattle.std.specs.List.{All}
use Rattle.std.proofs.lemmas.Int.{ints}
use Rattle.std.proofs.lemmas.List.Elements.{All-map, All-weaker}
use Rattle.sc_geom.specs.declared.point.Pt.{Pt}
use Rattle.sc_geom.specs.Point.{IsInWorld}
use Rattle.sc_geom.specs.Shapes.{Shapes, positions_of}
use Rattle.sc_geom.specs.Rectangle.{Rectangle, Holds, IsBox, IsSmallest}
use Rattle.sc_item.specs.Feature.{Feature, IsPlaceOf, IsShaped, IsKept}
use Rattle.sc_bounds.specs.Places.{IsPlace}
use Rattle.sc_bounds.specs.declared.reach.Reach.{Reach}
use Rattle.sc_bounds.specs.Extent.{Extent, AreBounds}
use Rattle.sc_bounds.specs.Sets.{IsHull, IsReach, hull}
use Rattle.sc_bounds.proofs.Extents.{hull_bounds, hull_is, same_bounds}
use Rattle.sc_part.specs.Scan.{reach}

world : Rectangle
world = record { west = negsuc 3599999999; south = negsuc 899999999; east = pos 3600000000; north = pos 900000000 }

in_the_world : (ps : List Pt) → All IsInWorld ps → All (Holds world) ps
unfolding world
in_the_world ps all = All-weaker IsInWorld (Holds world) (λ p h. record { west = h.0.0; east = h.0.1; south = h.1.0; north = h.1.1 }) ps all

smallest_box : (ps : List Pt) (r : Rectangle) → All IsInWorld ps → 1 ≤ length ps → IsSmallest r ps → IsBox r
unfolding world
smallest_box ps r all some is =
    let least = is.least world (in_the_world ps all) in
    let origin : Pt = record { x = pos 0; y = pos 0 } in
    let here = is.holds 0 origin (omega arith) in
    let inside = all 0 origin (omega arith) in
    let a = here.west in let b = here.east in let c = here.south in let d = here.north in
    let w = least.west in let e = least.east in let s = least.south in let n = least.north in
    record {
      west_in = (w, omega (arith, ints, inside.0.1));
      east_in = (omega (arith, ints, inside.0.0), e);
      south_in = (s, omega (arith, ints, inside.1.1));
      north_in = (omega (arith, ints, inside.1.0), n);
      across = omega (arith, ints);
      up = omega (arith, ints);
    }

pub shaped_box : (geom : Option (Shapes Pt)) (place : Option Rectangle) → IsShaped geom → IsPlaceOf geom place → IsPlace place
shaped_box None None s p = tt
shaped_box None (Some r) s p = absurd p
shaped_box (Some g) None s p = absurd p
shaped_box (Some g) (Some r) s p = smallest_box (positions_of g) r s.in_world s.some p

pub kept_box : (item : Feature) → IsKept item → IsPlace item.place
kept_box item is = shaped_box item.geom item.place is.shaped is.place

-- the hull of items is theirs as a function
pub one_hull : (h : Extent) (items : List Feature) → AreBounds h → All IsKept items → IsHull h (map reach items) → h ≡ hull (map reach items)
one_hull h items ok kept is =
    let boxed : All IsReach (map reach items) = All-map IsReach reach items (All-weaker IsKept (λ i. IsPlace i.place) kept_box items kept) in
    let own = hull_is (map reach items) boxed in
    same_bounds h (hull (map reach items)) ok (hull_bounds (map reach items) boxed) (is.least (hull (map reach items)) own.covers) (own.least h is.covers)
