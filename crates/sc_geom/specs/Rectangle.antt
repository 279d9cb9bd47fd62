-- Rectangles between meridians and parallels.
use Rattle.std.specs.Prelude.{◌≡◌, ℤ, pos, ◌≤ℤ◌, int_le, Bool, ◌&&◌, List, [], ◌∷◌, All, Option, Some, None}
use Rattle.std.specs.Int.{int_min, int_max}
use Rattle.sc_geom.specs.declared.point.Pt.{Pt}
use Rattle.sc_geom.specs.Point.{IsLongitude, IsLatitude}
use Rattle.sc_geom.specs.Shapes.{Shapes, positions_of}

pub record Rectangle : Type 0 where
  pub west : ℤ
  pub south : ℤ
  pub east : ℤ
  pub north : ℤ

-- what every box is: its sides are in the world and in order
pub record IsBox (r : Rectangle) : Type 0 where
  pub west_in : IsLongitude r.west
  pub east_in : IsLongitude r.east
  pub south_in : IsLatitude r.south
  pub north_in : IsLatitude r.north
  pub across : r.west ≤ℤ r.east
  pub up : r.south ≤ℤ r.north

-- the rectangle holds the position, on its sides too
pub record Holds (r : Rectangle) (p : Pt) : Type 0 where
  pub west : r.west ≤ℤ p.x
  pub east : p.x ≤ℤ r.east
  pub south : r.south ≤ℤ p.y
  pub north : p.y ≤ℤ r.north

-- no side of the first lies outside the second
pub record IsWithin (r s : Rectangle) : Type 0 where
  pub west : s.west ≤ℤ r.west
  pub east : r.east ≤ℤ s.east
  pub south : s.south ≤ℤ r.south
  pub north : r.north ≤ℤ s.north

-- the rectangles have a position in common, on their sides too
pub record AreOverlapping (r s : Rectangle) : Type 0 where
  pub west : r.west ≤ℤ s.east
  pub east : s.west ≤ℤ r.east
  pub south : r.south ≤ℤ s.north
  pub north : s.south ≤ℤ r.north

-- the same two as tests
abbrev pub has_position : Rectangle → Pt → Bool
has_position r p = (int_le r.west p.x && int_le p.x r.east) && (int_le r.south p.y && int_le p.y r.north)

abbrev pub overlap : Rectangle → Rectangle → Bool
overlap r s = (int_le r.west s.east && int_le s.west r.east) && (int_le r.south s.north && int_le s.south r.north)

-- the smallest rectangle that holds every one of the positions
pub record IsSmallest (r : Rectangle) (positions : List Pt) : Type 0 where
  pub holds : All (Holds r) positions
  pub least : (s : Rectangle) → All (Holds s) positions → IsWithin r s

-- the smallest of some positions, or none of none
abbrev pub Encloses : Option Rectangle → List Pt → Type 0
Encloses None positions = positions ≡ []
Encloses (Some r) positions = IsSmallest r positions

-- ---- the smallest rectangle, made position by position

abbrev pub at_position : Pt → Rectangle
at_position p = record { west = p.x; south = p.y; east = p.x; north = p.y }

abbrev pub with_position : Rectangle → Pt → Rectangle
with_position r p = record {
  west = int_min r.west p.x;
  south = int_min r.south p.y;
  east = int_max r.east p.x;
  north = int_max r.north p.y;
}

abbrev pub with_positions : Rectangle → List Pt → Rectangle
with_positions r [] = r
with_positions r (p ∷ ps) = with_positions (with_position r p) ps

-- of no position it is the point where both coordinates are 0
abbrev pub smallest_of : List Pt → Rectangle
smallest_of [] = record { west = pos 0; south = pos 0; east = pos 0; north = pos 0 }
smallest_of (p ∷ ps) = with_positions (at_position p) ps

-- of a geometry
unfoldable pub smallest : Shapes Pt → Rectangle
smallest g = smallest_of (positions_of g)
