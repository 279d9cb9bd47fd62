-- What bounds cover, and hulls, joins and meets, as sets of starts, ends and grid points.
use Rattle.std.specs.Prelude.{◌↔◌, ℤ, Option, Some, List, All}
use Rattle.std.specs.List.{fold}
use Rattle.sc_geom.specs.declared.point.Pt.{Pt}
use Rattle.sc_geom.specs.Rectangle.{Rectangle}
use Rattle.sc_bounds.specs.declared.reach.Reach.{Reach}
use Rattle.sc_bounds.specs.Moments.{HasMoment, moments_join, moments_meet}
use Rattle.sc_bounds.specs.Places.{HasPoint, IsPlace, place_join, place_meet}
use Rattle.sc_bounds.specs.Extent.{Extent, empty}

-- every moment of the first set is in the second
abbrev pub AreMomentsOf : Option (ℤ × ℤ) → Option (ℤ × ℤ) → Type 0
AreMomentsOf a b = (at : ℤ) → HasMoment a at → HasMoment b at

-- every point of the first set is in the second
abbrev pub ArePointsOf : Option Rectangle → Option Rectangle → Type 0
ArePointsOf a b = (point : Pt) → HasPoint a point → HasPoint b point

-- the bounds cover the reach of an item: its start, its end and, where it has a place, all points of its box
pub record Covers (b : Extent) (reach : Reach) : Type 0 where
  pub start : HasMoment b.starts reach.start
  pub end : HasMoment b.ends reach.end
  pub place : ArePointsOf reach.place b.place

-- the first bounds lie within the second
pub record IsWithin (a b : Extent) : Type 0 where
  pub starts : AreMomentsOf a.starts b.starts
  pub ends : AreMomentsOf a.ends b.ends
  pub place : ArePointsOf a.place b.place

-- the smallest bounds that cover all reaches
pub record IsHull (hull : Extent) (reaches : List Reach) : Type 0 where
  pub covers : All (Covers hull) reaches
  pub least : (b : Extent) → All (Covers b) reaches → IsWithin hull b

-- the smallest bounds that hold these and cover a reach
pub record IsWidened (wide b : Extent) (reach : Reach) : Type 0 where
  pub holds : IsWithin b wide
  pub covers : Covers wide reach
  pub least : (other : Extent) → IsWithin b other → Covers other reach → IsWithin wide other

-- the smallest bounds that hold both
pub record IsJoin (join a b : Extent) : Type 0 where
  pub left : IsWithin a join
  pub right : IsWithin b join
  pub least : (other : Extent) → IsWithin a other → IsWithin b other → IsWithin join other

-- the starts, ends and points that both have
pub record IsMeet (meet a b : Extent) : Type 0 where
  pub starts : (at : ℤ) → HasMoment meet.starts at ↔ (HasMoment a.starts at × HasMoment b.starts at)
  pub ends : (at : ℤ) → HasMoment meet.ends at ↔ (HasMoment a.ends at × HasMoment b.ends at)
  pub place : (point : Pt) → HasPoint meet.place point ↔ (HasPoint a.place point × HasPoint b.place point)

-- the same as functions
unfoldable pub join_of : Extent → Extent → Extent
join_of a b = record {
  starts = moments_join a.starts b.starts;
  ends = moments_join a.ends b.ends;
  place = place_join a.place b.place;
}

unfoldable pub meet_of : Extent → Extent → Extent
meet_of a b = record {
  starts = moments_meet a.starts b.starts;
  ends = moments_meet a.ends b.ends;
  place = place_meet a.place b.place;
}

-- the bounds of one reach
abbrev pub only : Reach → Extent
only reach = record { starts = Some (reach.start, reach.start); ends = Some (reach.end, reach.end); place = reach.place }

abbrev pub hull : List Reach → Extent
hull reaches = fold (λ b reach. join_of b (only reach)) empty reaches

-- the box of a reach is one, where there is one
abbrev pub IsReach : Reach → Type 0
IsReach reach = IsPlace reach.place
