-- When two geometries on the grid meet: in two points, a point and a segment, two segments, or a position and an area. Touching counts.
use Rattle.std.specs.Prelude.{◌≡◌, List, ◌++◌, Any}
use Rattle.std.specs.List.{flat_map}
use Rattle.sc_geom.specs.declared.point.Pt.{Pt}
use Rattle.sc_geom.specs.Shapes.{Shapes, rings_of, positions_of}
use Rattle.sc_cross.specs.declared.segment.Segment.{Segment}
use Rattle.sc_cross.specs.Segment.{segments_of, IsOn, Touches}
use Rattle.sc_cross.specs.Area.{IsInside}

-- some element of the first list is related to some element of the second
abbrev pub SomePair : {A B : Type 0} → (A → B → Type 0) → List A → List B → Type 0
SomePair R xs ys = Any (λ x. Any (R x) ys) xs

-- the segments of all lines and rings
abbrev pub segments_in : Shapes Pt → List Segment
segments_in g = flat_map segments_of (g.lines ++ rings_of g)

pub data Meets (a b : Shapes Pt) : Type 0 where
  at_points : SomePair (λ p q. p ≡ q) a.points b.points → Meets a b
  point_on_segment : SomePair IsOn a.points (segments_in b) → Meets a b
  segment_under_point : SomePair IsOn b.points (segments_in a) → Meets a b
  at_segments : SomePair Touches (segments_in a) (segments_in b) → Meets a b
  position_inside : SomePair IsInside (positions_of a) b.areas → Meets a b
  position_around : SomePair IsInside (positions_of b) a.areas → Meets a b
