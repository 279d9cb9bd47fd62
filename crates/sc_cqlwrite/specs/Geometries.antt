-- The tokens of a geometry and of a shape (OGC 21-065r2, Annex B: spatialInstance): one point, line or area as what it
-- is, any other geometry as the collection of its points, lines and areas in this order.
use Rattle.std.specs.Prelude.{List, [], ◌∷◌, ◌++◌, map, codes}
use Rattle.sc_geom.specs.declared.point.Pt.{Pt}
use Rattle.sc_geom.specs.Shapes.{Shapes}
use Rattle.sc_expr.specs.declared.scalar.Shape.{Shape}
use Rattle.sc_expr.specs.declared.scalar.Shape.TheVariants.{Prop, Geom}
use Rattle.sc_cqlwrite.specs.Tokens as tokens
use Rattle.sc_cqlwrite.specs.Tokens.{Token, enclosed, listed}
use Rattle.sc_cqlwrite.specs.Coordinate.{coordinate_text}

abbrev pub position_tokens : Pt → List Token
position_tokens p = tokens.number (coordinate_text p.x) ∷ tokens.number (coordinate_text p.y) ∷ []

-- the positions of a line or of a ring
abbrev pub line_tokens : List Pt → List Token
line_tokens line = listed (map position_tokens line)

abbrev pub area_tokens : List (List Pt) → List Token
area_tokens rings = listed (map line_tokens rings)

-- ---- the parts of a geometry, each behind what it is

abbrev pub point_part : Pt → List Token
point_part point = tokens.function (codes "POINT") ∷ enclosed (position_tokens point)

abbrev pub line_part : List Pt → List Token
line_part line = tokens.function (codes "LINESTRING") ∷ line_tokens line

abbrev pub area_part : List (List Pt) → List Token
area_part area = tokens.function (codes "POLYGON") ∷ area_tokens area

abbrev pub parts_of : Shapes Pt → List (List Token)
parts_of g = map point_part g.points ++ map line_part g.lines ++ map area_part g.areas

-- one part alone, any other number of them as a collection
abbrev pub collected : List (List Token) → List Token
collected [] = tokens.function (codes "GEOMETRYCOLLECTION") ∷ listed []
collected (part ∷ []) = part
collected (part ∷ next ∷ parts) = tokens.function (codes "GEOMETRYCOLLECTION") ∷ listed (part ∷ next ∷ parts)

abbrev pub geometry_tokens : Shapes Pt → List Token
geometry_tokens g = collected (parts_of g)

abbrev pub shape_tokens : Shape → List Token
shape_tokens (Prop name) = tokens.name name ∷ []
shape_tokens (Geom geometry) = geometry_tokens geometry
