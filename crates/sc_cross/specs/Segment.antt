-- Segments between two grid positions: on which side of their line a position lies, and where two of them touch. All in whole numbers.
use Rattle.std.specs.Prelude.{◌≡◌, ℤ, pos, ◌-ℤ◌, ◌*ℤ◌, ◌<ℤ◌, ◌⊎◌, List, [], ◌∷◌}
use Rattle.std.specs.Int.{int_min, int_max}
use Rattle.sc_geom.specs.declared.point.Pt.{Pt}
use Rattle.sc_geom.specs.Point.{IsInWorld}
use Rattle.sc_geom.specs.Rectangle.{Rectangle, Holds, AreOverlapping}
use Rattle.sc_cross.specs.declared.segment.Segment.{Segment}

-- both ends are in the world
abbrev pub IsSegmentInWorld : Segment → Type 0
IsSegmentInWorld s = IsInWorld s.from × IsInWorld s.to

-- the segments from a position over others, in order
abbrev pub segments_from : Pt → List Pt → List Segment
segments_from p [] = []
segments_from p (q ∷ qs) = record { from = p; to = q } ∷ segments_from q qs

-- the segments of a line or a ring, each between two positions that follow one another
abbrev pub segments_of : List Pt → List Segment
segments_of [] = []
segments_of (p ∷ ps) = segments_from p ps

abbrev pub turned : Segment → Segment
turned s = record { from = s.to; to = s.from }

-- the cross product of the segment's direction and the way from its start to the position: greater than 0 where the position lies strictly to the left of the segment's line, less than 0 strictly to its right, and 0 on it
abbrev pub side : Segment → Pt → ℤ
side s p = ((s.to.x -ℤ s.from.x) *ℤ (p.y -ℤ s.from.y)) -ℤ ((s.to.y -ℤ s.from.y) *ℤ (p.x -ℤ s.from.x))

-- the smallest box that holds both ends
abbrev pub sides_of : Segment → Rectangle
sides_of s = record {
  west = int_min s.from.x s.to.x;
  south = int_min s.from.y s.to.y;
  east = int_max s.from.x s.to.x;
  north = int_max s.from.y s.to.y;
}

-- the position lies on the segment, at an end too
pub record IsOn (p : Pt) (s : Segment) : Type 0 where
  pub in_box : Holds (sides_of s) p
  pub in_line : side s p ≡ pos 0

-- both ends of the second lie strictly on the left of the first's line, or both strictly on its right
abbrev pub AreOnOneSide : Segment → Segment → Type 0
AreOnOneSide s t =
    ((pos 0 <ℤ side s t.from) × (pos 0 <ℤ side s t.to)) ⊎ ((side s t.from <ℤ pos 0) × (side s t.to <ℤ pos 0))

-- the boxes of both overlap, and neither lies strictly on one side of the other's line
pub record Touches (s t : Segment) : Type 0 where
  pub boxes : AreOverlapping (sides_of s) (sides_of t)
  pub first : ¬ AreOnOneSide s t
  pub second : ¬ AreOnOneSide t s
