-- What contracts see of bounds: the moments at which items may start, those at which they may end, and the points at which they may lie.
use Rattle.std.specs.Prelude.{ℤ, Option, None}
use Rattle.sc_geom.specs.Rectangle.{Rectangle}
use Rattle.sc_bounds.specs.Moments.{AreMoments}
use Rattle.sc_bounds.specs.Places.{IsPlace}

pub record Extent : Type 0 where
  pub starts : Option (ℤ × ℤ)
  pub ends : Option (ℤ × ℤ)
  pub place : Option Rectangle

-- what all bounds are: their ranges are in order, and their place is a box
pub record AreBounds (b : Extent) : Type 0 where
  pub starts : AreMoments b.starts
  pub ends : AreMoments b.ends
  pub place : IsPlace b.place

-- the bounds of no items
abbrev pub empty : Extent
empty = record { starts = None; ends = None; place = None }
