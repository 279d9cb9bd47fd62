-- The rectangles of a box by its numbers (RFC 7946 §5), or none where the box is refused.
use Rattle.std.specs.Prelude.{◌&&◌, ℤ, int_le, int_lt, if◌then◌else◌, List, [], ◌∷◌, Option, Some, None}
use Rattle.sc_decimal.specs.Number.{Number}
use Rattle.sc_geom.specs.declared.rects.Rects.{Rects}
use Rattle.sc_geom.specs.Place.{longitude_of, latitude_of}
use Rattle.sc_geom.specs.Rects.{east_end, west_end}

abbrev pub one_of : ℤ → ℤ → ℤ → ℤ → Rects
one_of west south east north = record {
  first = record { west = west; south = south; east = east; north = north };
  second = None;
}

-- from west to 180 degrees, and from -180 degrees to east
abbrev pub two_of : ℤ → ℤ → ℤ → ℤ → Rects
two_of west south east north = record {
  first = record { west = west; south = south; east = east_end; north = north };
  second = Some (record { west = west_end; south = south; east = east; north = north });
}

-- one where east isn't less than west, and else two across the antimeridian
abbrev pub rects_spanned : ℤ → ℤ → ℤ → ℤ → Option Rects
rects_spanned west south east north =
    if int_lt north south then None else
    (if int_le west east then Some (one_of west south east north) else
    (if int_le west east_end && int_le west_end east then Some (two_of west south east north) else None))

-- none where a coordinate is out of range
abbrev pub rects_between : Option ℤ → Option ℤ → Option ℤ → Option ℤ → Option Rects
rects_between (Some west) (Some south) (Some east) (Some north) = rects_spanned west south east north
rects_between _ _ _ _ = None

-- west, south, east and north, or with a height behind each corner
unfoldable pub rects_of : List Number → Option Rects
rects_of (west ∷ south ∷ east ∷ north ∷ []) = rects_between (longitude_of west) (latitude_of south) (longitude_of east) (latitude_of north)
rects_of (west ∷ south ∷ low ∷ east ∷ north ∷ high ∷ []) = rects_between (longitude_of west) (latitude_of south) (longitude_of east) (latitude_of north)
rects_of _ = None
