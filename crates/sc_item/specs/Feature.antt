-- An item as contracts see it: a GeoJSON Feature (RFC 7946 §3.2) of a collection, with an id and a time.
use Rattle.std.specs.Prelude.{◌≡◌, ℕ, ℤ, List, Option, Some, None}
use Rattle.sc_json.specs.declared.tree.Json.{Json}
use Rattle.sc_json.specs.Compact.{compact}
use Rattle.sc_json.specs.Good.{Good}
use Rattle.sc_geom.specs.declared.point.Pt.{Pt}
use Rattle.sc_geom.specs.Shapes.{Shapes, positions_of}
use Rattle.sc_geom.specs.Geometry.{IsGeometry}
use Rattle.sc_geom.specs.Rectangle.{Rectangle, IsSmallest}

-- `start` and `end` are nanoseconds from 1970-01-01T00:00:00Z
pub record Feature : Type 0 where
  pub collection : List ℕ
  pub id : List ℕ
  pub start : ℤ
  pub end : ℤ
  pub geom : Option (Shapes Pt)
  pub place : Option Rectangle
  pub tree : Json
  pub doc : List ℕ

-- the place is the smallest box of the geometry; without a geometry there is none
abbrev pub IsPlaceOf : Option (Shapes Pt) → Option Rectangle → Type 0
IsPlaceOf None None = Unit {0}
IsPlaceOf None (Some r) = ⊥
IsPlaceOf (Some g) None = ⊥
IsPlaceOf (Some g) (Some r) = IsSmallest r (positions_of g)

-- what stands as a geometry is one
abbrev pub IsShaped : Option (Shapes Pt) → Type 0
IsShaped None = Unit {0}
IsShaped (Some g) = IsGeometry g

-- what every item keeps: its geometry is one and its place is the box of it, its tree is good, and its document is the tree's compact text
pub record IsKept (item : Feature) : Type 0 where
  pub shaped : IsShaped item.geom
  pub place : IsPlaceOf item.geom item.place
  pub good : Good item.tree
  pub doc : item.doc ≡ compact item.tree
