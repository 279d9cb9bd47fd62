-- The rectangles that the numbers of a bounding box span (RFC 7946 §5).
use Rattle.std.specs.Prelude.{◌≡◌, ℤ, pos, negsuc, ◌≤ℤ◌, ◌<ℤ◌, List, [], ◌∷◌, ◌⊎◌, map, Option, Some, None}
use Rattle.sc_decimal.specs.Number.{Number}
use Rattle.sc_geom.specs.declared.rects.Rects.{Rects}
use Rattle.sc_geom.specs.declared.rects.Sides.{Sides}
use Rattle.sc_geom.specs.Point.{IsLongitude, IsLatitude}
use Rattle.sc_geom.specs.Rectangle.{Rectangle}
use Rattle.sc_geom.specs.declared.point.Pt.{Pt}
use Rattle.sc_geom.specs.Shapes.{Shapes}
use Rattle.sc_geom.specs.Place.{longitude_of, latitude_of}

pub record AreInRange (s : Sides) : Type 0 where
  pub west : IsLongitude s.west
  pub south : IsLatitude s.south
  pub east : IsLongitude s.east
  pub north : IsLatitude s.north

abbrev pub sides_from : Option ℤ → Option ℤ → Option ℤ → Option ℤ → Option Sides
sides_from (Some west) (Some south) (Some east) (Some north) = Some (record { west = west; south = south; east = east; north = north })
sides_from _ _ _ _ = None

abbrev pub sides_between : Number → Number → Number → Number → Option Sides
sides_between west south east north = sides_from (longitude_of west) (latitude_of south) (longitude_of east) (latitude_of north)

-- west, south, east and north, or with a height behind each corner; none where a coordinate is out of range
unfoldable pub sides_of : List Number → Option Sides
sides_of (west ∷ south ∷ east ∷ north ∷ []) = sides_between west south east north
sides_of (west ∷ south ∷ low ∷ east ∷ north ∷ high ∷ []) = sides_between west south east north
sides_of _ = None

abbrev pub east_end : ℤ
east_end = pos 1800000000

abbrev pub west_end : ℤ
west_end = negsuc 1799999999

-- from west to east, all in one
pub record IsOne (s : Sides) (rects : Rects) : Type 0 where
  pub across : s.west ≤ℤ s.east
  pub up : s.south ≤ℤ s.north
  pub same : rects ≡ record { first = record { west = s.west; south = s.south; east = s.east; north = s.north }; second = None }

-- across the antimeridian: from west to 180 degrees, and from -180 degrees to east
pub record IsTwo (s : Sides) (rects : Rects) : Type 0 where
  pub crosses : s.east <ℤ s.west
  pub up : s.south ≤ℤ s.north
  pub west_in : s.west ≤ℤ east_end
  pub east_in : west_end ≤ℤ s.east
  pub same : rects ≡ record {
    first = record { west = s.west; south = s.south; east = east_end; north = s.north };
    second = Some (record { west = west_end; south = s.south; east = s.east; north = s.north });
  }

abbrev pub Spans : Sides → Rects → Type 0
Spans s rects = IsOne s rects ⊎ IsTwo s rects

-- the numbers are those of the rectangles
abbrev pub AreRects : List Number → Rects → Type 0
AreRects numbers rects = (s : Sides) × (sides_of numbers ≡ Some s) × Spans s rects

-- what the sides or the numbers give: their rectangles, or none where there are none
abbrev pub SpannedBy : Sides → Option Rects → Type 0
SpannedBy s None = (rects : Rects) → Spans s rects → ⊥
SpannedBy s (Some rects) = Spans s rects

abbrev pub Answers : List Number → Option Rects → Type 0
Answers numbers None = (rects : Rects) → AreRects numbers rects → ⊥
Answers numbers (Some rects) = AreRects numbers rects

abbrev pub rectangles_from : Rectangle → Option Rectangle → List Rectangle
rectangles_from first None = first ∷ []
rectangles_from first (Some second) = first ∷ second ∷ []

-- the first and the second, if there is one
abbrev pub rectangles_in : Rects → List Rectangle
rectangles_in rects = rectangles_from rects.first rects.second

-- south side first, and back to where it began
abbrev pub ring_of : Rectangle → List Pt
ring_of r =
    record { x = r.west; y = r.south } ∷ record { x = r.east; y = r.south } ∷ record { x = r.east; y = r.north } ∷
    record { x = r.west; y = r.north } ∷ record { x = r.west; y = r.south } ∷ []

-- one area of one ring for each rectangle
abbrev pub geometry_of : Rects → Shapes Pt
geometry_of rects = record { points = []; lines = []; areas = map (λ r. ring_of r ∷ []) (rectangles_in rects) }
