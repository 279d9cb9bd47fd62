-- Which items meet a need, and which parts may have one.
use Rattle.std.specs.Prelude.{◌≡◌, ℤ, Bool, true, false, ◌&&◌, int_le, List, Option, Some, None}
use Rattle.std.specs.List.{list_any, list_all, AllByRecursion}
use Rattle.sc_geom.specs.Rectangle.{Rectangle, IsBox, overlap}
use Rattle.sc_geom.specs.declared.rects.Rects.{Rects}
use Rattle.sc_cut.specs.declared.name.PartName.{PartName}
use Rattle.sc_bounds.specs.Extent.{Extent}
use Rattle.sc_bounds.specs.Places.{IsPlace}
use Rattle.sc_item.specs.Feature.{Feature, IsShaped}
use Rattle.sc_expr.specs.declared.expr.Expr.{Expr}
use Rattle.sc_expr.specs.declared.select.Select.{Select}
use Rattle.sc_expr.specs.Kept.{IsKept}
use Rattle.sc_eval.specs.Selection.{is_listed}
use Rattle.sc_need.specs.declared.need.Need.{Need}
use Rattle.sc_need.specs.declared.need.Limits.{Limits}

-- from a first to a last moment something is within limits
abbrev pub from_low : Option ℤ → ℤ → Bool
from_low None last = true
from_low (Some low) last = int_le low last

abbrev pub to_high : Option ℤ → ℤ → Bool
to_high None first = true
to_high (Some high) first = int_le first high

abbrev pub may_lie : Limits → Option (ℤ × ℤ) → Bool
may_lie limits None = false
may_lie limits (Some range) = from_low limits.low range.1 && to_high limits.high range.0

abbrev pub may_touch : Option Rectangle → List Rectangle → Bool
may_touch None boxes = false
may_touch (Some place) boxes = list_any (overlap place) boxes

-- a part may have an item that meets the need
unfoldable pub may_match : Need → Extent → PartName → Bool
may_match need bounds name =
    (is_listed need.collections name.collection && (may_lie need.starts bounds.starts && may_lie need.ends bounds.ends))
    && list_all (may_touch bounds.place) need.places

-- an item has what the need says
pub record Satisfies (need : Need) (item : Feature) : Type 0 where
  pub listed : is_listed need.collections item.collection ≡ true
  pub start : may_lie need.starts (Some (item.start, item.start)) ≡ true
  pub end : may_lie need.ends (Some (item.end, item.end)) ≡ true
  pub place : AllByRecursion (λ boxes. may_touch item.place boxes ≡ true) need.places

abbrev pub IsKeptFilter : Option Expr → Type 0
IsKeptFilter None = Unit {0}
IsKeptFilter (Some filter) = IsKept filter

abbrev pub AreBoxes : Option Rects → Type 0
AreBoxes None = Unit {0}
AreBoxes (Some rects) = IsBox rects.first × IsPlace rects.second

-- what every select keeps: its boxes are boxes, its shape is a geometry, and its filter a filter
pub record IsKeptSelect (select : Select) : Type 0 where
  pub rects : AreBoxes select.rects
  pub shape : IsShaped select.shape
  pub filter : IsKeptFilter select.filter
