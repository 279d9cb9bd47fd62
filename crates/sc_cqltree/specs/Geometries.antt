-- The tree of a geometry and of a shape (OGC 21-065r2, Annex B: spatialInstance; RFC 7946 §3.1): one point, line or area as
-- what it is, any other geometry as the collection of its points, lines and areas in this order.
use Rattle.std.specs.Prelude.{ℤ, List, [], ◌∷◌, ◌++◌, map, codes}
use Rattle.sc_json.specs.declared.tree.Json.{Json}
use Rattle.sc_json.specs.declared.tree.Json.TheVariants as trees
use Rattle.sc_geom.specs.declared.point.Pt.{Pt}
use Rattle.sc_geom.specs.Shapes.{Shapes}
use Rattle.sc_geom.specs.Kinds.{coordinates_name, geometries_name}
use Rattle.sc_expr.specs.declared.scalar.Shape.{Shape}
use Rattle.sc_expr.specs.declared.scalar.Shape.TheVariants.{Prop, Geom}
use Rattle.sc_cqlwrite.specs.Coordinate.{coordinate_text}
use Rattle.sc_cqljson.specs.Words.{property_name}
use Rattle.sc_cqltree.specs.Objects.{only, shaped, numeral}

-- in degrees
abbrev pub coordinate_tree : ℤ → Json
coordinate_tree steps = numeral (coordinate_text steps)

abbrev pub position_tree : Pt → Json
position_tree p = trees.List (coordinate_tree p.x ∷ coordinate_tree p.y ∷ [])

-- the positions of a line or of a ring
abbrev pub line_tree : List Pt → Json
line_tree line = trees.List (map position_tree line)

abbrev pub area_tree : List (List Pt) → Json
area_tree rings = trees.List (map line_tree rings)

-- ---- the parts of a geometry, each as a geometry of its kind

abbrev pub point_part : Pt → Json
point_part point = shaped (codes "Point") coordinates_name (position_tree point)

abbrev pub line_part : List Pt → Json
line_part line = shaped (codes "LineString") coordinates_name (line_tree line)

abbrev pub area_part : List (List Pt) → Json
area_part area = shaped (codes "Polygon") coordinates_name (area_tree area)

abbrev pub parts_of : Shapes Pt → List Json
parts_of g = map point_part g.points ++ map line_part g.lines ++ map area_part g.areas

-- one part alone, any other number of them as a collection
abbrev pub collected : List Json → Json
collected [] = shaped (codes "GeometryCollection") geometries_name (trees.List [])
collected (part ∷ []) = part
collected (part ∷ next ∷ parts) = shaped (codes "GeometryCollection") geometries_name (trees.List (part ∷ next ∷ parts))

abbrev pub geometry_tree : Shapes Pt → Json
geometry_tree g = collected (parts_of g)

abbrev pub shape_tree : Shape → Json
shape_tree (Prop name) = only property_name (trees.Text name)
shape_tree (Geom geometry) = geometry_tree geometry
