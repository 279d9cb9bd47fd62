-- The geometry of a box's rectangles is one.
use Rattle.std.proofs.Common.{rules, ℤ, List, [], ◌∷◌, ◌++◌, Bool, true, false, ◌&&◌, cond, Option, Some, None, refl, arith, int_le, int_lt}
use Rattle.std.specs.Option.{IfSome}
use Rattle.std.proofs.lemmas.List.Elements.{All-nil, All-from_recursion}
use Rattle.sc_decimal.specs.Number.{Number}
use Rattle.sc_geom.specs.declared.rects.Rects.{Rects}
use Rattle.sc_geom.specs.Point.{IsLongitude, IsLatitude, IsInWorld}
use Rattle.sc_geom.specs.Place.{longitude_of, latitude_of}
use Rattle.sc_geom.specs.Rectangle.{Rectangle}
use Rattle.sc_geom.specs.Geometry.{IsGeometry, IsRing}
use Rattle.sc_geom.specs.Rects.{geometry_of, east_end, west_end, ring_of}
use Rattle.sc_cqlvalue.specs.Boxes.{one_of, two_of, rects_spanned, rects_between, rects_of}
use Rattle.sc_forms.proofs.Settled.{IsLong, IsFilled}
use Rattle.sc_forms.proofs.Placing.{longitude_within, latitude_within}

record AreIn (r : Rectangle) : Type 0 where
  west : IsLongitude r.west
  south : IsLatitude r.south
  east : IsLongitude r.east
  north : IsLatitude r.north

abbrev BothIn : Rects → Type 0
BothIn rects = AreIn rects.first × IfSome rects.second AreIn

east_in : IsLongitude east_end
east_in = (search rules, search rules)

west_in : IsLongitude west_end
west_in = (search rules, search rules)

spanned_in : (w s e n : ℤ) → IsLongitude w → IsLatitude s → IsLongitude e → IsLatitude n → IfSome (rects_spanned w s e n) BothIn
spanned_in w s e n wi si ei ni = by_tests (int_lt n s) (int_le w e) (int_le w east_end && int_le west_end e)
  where
    by_tests : (a b c : Bool) → IfSome (cond a None (cond b (Some (one_of w s e n)) (cond c (Some (two_of w s e n)) None))) BothIn
    by_tests true b c = tt
    by_tests false true c = (record { west = wi; south = si; east = ei; north = ni }, tt)
    by_tests false false true = (record { west = wi; south = si; east = east_in; north = ni }, record { west = west_in; south = si; east = ei; north = ni })
    by_tests false false false = tt

between_in : (w s e n : Option ℤ) → IfSome w IsLongitude → IfSome s IsLatitude → IfSome e IsLongitude → IfSome n IsLatitude → IfSome (rects_between w s e n) BothIn
between_in None s e n wi si ei ni = tt
between_in (Some w) None e n wi si ei ni = tt
between_in (Some w) (Some s) None n wi si ei ni = tt
between_in (Some w) (Some s) (Some e) None wi si ei ni = tt
between_in (Some w) (Some s) (Some e) (Some n) wi si ei ni = spanned_in w s e n wi si ei ni

four_in : (w s e n : Number) → IfSome (rects_between (longitude_of w) (latitude_of s) (longitude_of e) (latitude_of n)) BothIn
four_in w s e n = between_in (longitude_of w) (latitude_of s) (longitude_of e) (latitude_of n) (longitude_within (Some w)) (latitude_within (Some s)) (longitude_within (Some e)) (latitude_within (Some n))

rects_in : (numbers : List Number) → IfSome (rects_of numbers) BothIn
unfolding rects_of
rects_in [] = tt
rects_in (a ∷ []) = tt
rects_in (a ∷ b ∷ []) = tt
rects_in (a ∷ b ∷ c ∷ []) = tt
rects_in (a ∷ b ∷ c ∷ d ∷ []) = four_in a b c d
rects_in (a ∷ b ∷ c ∷ d ∷ e ∷ []) = tt
rects_in (a ∷ b ∷ c ∷ d ∷ e ∷ f ∷ []) = four_in a b d e
rects_in (a ∷ b ∷ c ∷ d ∷ e ∷ f ∷ g ∷ numbers) = tt

ring_is : (r : Rectangle) → IsRing (ring_of r)
ring_is r = record { long = omega arith; closed = refl }

from_rects : (first : Rectangle) (second : Option Rectangle) → AreIn first → IfSome second AreIn → IsGeometry (geometry_of (record { first = first; second = second }))
from_rects r None i j = record {
  in_world = All-from_recursion IsInWorld (ring_of r) ((i.west, i.south), ((i.east, i.south), ((i.east, i.north), ((i.west, i.north), ((i.west, i.south), tt)))));
  lines = All-nil IsLong;
  areas = All-from_recursion IsFilled ((ring_of r ∷ []) ∷ []) (omega arith, tt);
  rings = All-from_recursion IsRing (ring_of r ∷ []) (ring_is r, tt);
  some = omega arith;
}
from_rects r (Some q) i j = record {
  in_world = All-from_recursion IsInWorld (ring_of r ++ ring_of q)
      ((i.west, i.south), ((i.east, i.south), ((i.east, i.north), ((i.west, i.north), ((i.west, i.south), ((j.west, j.south), ((j.east, j.south), ((j.east, j.north), ((j.west, j.north), ((j.west, j.south), tt))))))))));
  lines = All-nil IsLong;
  areas = All-from_recursion IsFilled ((ring_of r ∷ []) ∷ (ring_of q ∷ []) ∷ []) (omega arith, (omega arith, tt));
  rings = All-from_recursion IsRing (ring_of r ∷ ring_of q ∷ []) (ring_is r, (ring_is q, tt));
  some = omega arith;
}

of_rects : (rects : Option Rects) → IfSome rects BothIn → IfSome rects (λ r. IsGeometry (geometry_of r))
of_rects None i = tt
of_rects (Some rects) i = from_rects rects.first rects.second i.0 i.1

pub box_geometry : (numbers : List Number) → IfSome (rects_of numbers) (λ r. IsGeometry (geometry_of r))
box_geometry numbers = of_rects (rects_of numbers) (rects_in numbers)
