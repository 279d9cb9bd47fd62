-- Sets of grid points: none, or all in a box, its sides too. The grid's steps are 10^-7 degree.
use Rattle.std.specs.Prelude.{Bool, ◌&&◌, int_le, Option, Some, None, if◌then◌else◌}
use Rattle.std.specs.Int.{int_min, int_max}
use Rattle.sc_geom.specs.declared.point.Pt.{Pt}
use Rattle.sc_geom.specs.Rectangle.{Rectangle, Holds, IsBox}

-- the point is in the set
abbrev pub HasPoint : Option Rectangle → Pt → Type 0
HasPoint None point = ⊥
HasPoint (Some box) point = Holds box point

-- the box is one
abbrev pub IsPlace : Option Rectangle → Type 0
IsPlace None = Unit {0}
IsPlace (Some box) = IsBox box

-- the least box that has all points of both
abbrev pub box_join : Rectangle → Rectangle → Rectangle
box_join a b = record {
  west = int_min a.west b.west;
  south = int_min a.south b.south;
  east = int_max a.east b.east;
  north = int_max a.north b.north;
}

abbrev pub place_join : Option Rectangle → Option Rectangle → Option Rectangle
place_join None b = b
place_join (Some a) None = Some a
place_join (Some a) (Some b) = Some (box_join a b)

-- the box of the points that are in both, if there are any
abbrev pub box_meet : Rectangle → Rectangle → Rectangle
box_meet a b = record {
  west = int_max a.west b.west;
  south = int_max a.south b.south;
  east = int_min a.east b.east;
  north = int_min a.north b.north;
}

abbrev pub has_points : Rectangle → Bool
has_points box = int_le box.west box.east && int_le box.south box.north

abbrev pub place_meet : Option Rectangle → Option Rectangle → Option Rectangle
place_meet None b = None
place_meet (Some a) None = None
place_meet (Some a) (Some b) = if has_points (box_meet a b) then Some (box_meet a b) else None
