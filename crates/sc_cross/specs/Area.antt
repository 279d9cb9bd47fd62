-- Which positions lie in an area, by the odd number of edges that lie between them and the far east. A hole is a further ring, so that what lies in it is outside.
use Rattle.std.specs.Prelude.{◌≡◌, pos, ◌%◌, Bool, ◌&&◌, ◌||◌, int_le, int_lt, List}
use Rattle.std.specs.List.{flat_map, count_by}
use Rattle.sc_geom.specs.declared.point.Pt.{Pt}
use Rattle.sc_cross.specs.declared.segment.Segment.{Segment}
use Rattle.sc_cross.specs.Segment.{segments_of, side, turned}

-- the edge comes from the position's height or south of it, ends north of it, and lies strictly east of the position at that height
abbrev pub rises_east : Pt → Segment → Bool
rises_east p e = int_le e.from.y p.y && (int_lt p.y e.to.y && int_lt (pos 0) (side e p))

-- exactly one end lies north of the position, and the edge lies strictly east of it at its height
abbrev pub is_crossed : Pt → Segment → Bool
is_crossed p e = rises_east p e || rises_east p (turned e)

-- the edges of all rings of an area
abbrev pub edges_of : List (List Pt) → List Segment
edges_of rings = flat_map segments_of rings

-- the position lies in the area of the rings
abbrev pub IsInside : Pt → List (List Pt) → Type 0
IsInside p rings = count_by (is_crossed p) (edges_of rings) % 2 ≡ 1
