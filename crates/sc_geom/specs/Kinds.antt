-- The names of the kinds of geometries and of the members that are read (RFC 7946 §1.4, §3.1).
use Rattle.std.specs.Prelude.{ℕ, List, nat_eq, if◌then◌else◌, Option, Some, None, codes}
use Rattle.std.specs.Cmp.Lexicographic.{pointwise}
use Rattle.sc_geom.specs.declared.kind.Kind.{Kind}
use Rattle.sc_geom.specs.declared.kind.Kind.TheVariants.{Point, MultiPoint, LineString, MultiLineString, Polygon, MultiPolygon, GeometryCollection}

unfoldable pub kind_named : List ℕ → Option Kind
kind_named name =
    if pointwise nat_eq name (codes "Point") then Some Point else
    (if pointwise nat_eq name (codes "MultiPoint") then Some MultiPoint else
    (if pointwise nat_eq name (codes "LineString") then Some LineString else
    (if pointwise nat_eq name (codes "MultiLineString") then Some MultiLineString else
    (if pointwise nat_eq name (codes "Polygon") then Some Polygon else
    (if pointwise nat_eq name (codes "MultiPolygon") then Some MultiPolygon else
    (if pointwise nat_eq name (codes "GeometryCollection") then Some GeometryCollection else None))))))

unfoldable pub type_name : List ℕ
type_name = codes "type"

unfoldable pub coordinates_name : List ℕ
coordinates_name = codes "coordinates"

unfoldable pub geometries_name : List ℕ
geometries_name = codes "geometries"
