-- What the code follows on its way, and what it knows of lines and rings.
use Rattle.std.specs.Prelude.{Bool, not, List, [], ◌∷◌, All, Any, if◌then◌else◌}
use Rattle.sc_geom.specs.declared.point.Pt.{Pt}
use Rattle.sc_geom.specs.Point.{IsInWorld}
use Rattle.sc_geom.specs.Rectangle.{Rectangle, Holds}
use Rattle.sc_geom.specs.Geometry.{IsRing}
use Rattle.sc_cross.specs.declared.segment.Segment.{Segment}
use Rattle.sc_geom.specs.Shapes.{Shapes}
use Rattle.sc_cross.specs.Segment.{segments_of, IsOn, Touches}
use Rattle.sc_cross.specs.Area.{is_crossed, IsInside}
use Rattle.sc_cross.specs.Meets.{segments_in, SomePair}

-- the answer, turned over for each edge that is crossed
abbrev pub turned_over : Pt → Bool → List Segment → Bool
turned_over p odd [] = odd
turned_over p odd (e ∷ es) = turned_over p (if is_crossed p e then not odd else odd) es

-- the positions are in the world and in the box
pub record IsPathIn (box : Rectangle) (path : List Pt) : Type 0 where
  pub in_world : All IsInWorld path
  pub in_box : All (Holds box) path

-- a ring of such positions
pub record IsRingIn (box : Rectangle) (ring : List Pt) : Type 0 where
  pub is_ring : IsRing ring
  pub path : IsPathIn box ring

-- the segment touches one of the path
unfoldable pub TouchesPath : Segment → List Pt → Type 0
TouchesPath s path = Any (Touches s) (segments_of path)

-- a segment of the path touches one of the geometry
unfoldable pub PathTouches : Shapes Pt → List Pt → Type 0
PathTouches g path = SomePair Touches (segments_of path) (segments_in g)

-- the position is on a segment of the geometry
unfoldable pub IsOnOneOf : Shapes Pt → Pt → Type 0
IsOnOneOf g p = Any (IsOn p) (segments_in g)

-- the position lies in the area of the ring
unfoldable pub IsInRing : List Pt → Pt → Type 0
IsInRing ring p = IsInside p (ring ∷ [])

-- the position is on the ring
unfoldable pub IsOnRing : List Pt → Pt → Type 0
IsOnRing ring p = Any (IsOn p) (segments_of ring)

-- the area of one ring
abbrev pub area_of : List Pt → Shapes Pt
area_of ring = record { points = []; lines = []; areas = (ring ∷ []) ∷ [] }
