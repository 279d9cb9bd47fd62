-- The tokens of a shape are whole and in order.
use Rattle.std.proofs.Common.{◌<◌, ◌^◌, List, [], ◌∷◌, ◌++◌, map, ℤ, unsigned_abs, codes, arith}
use Rattle.std.specs.List.{AllByRecursion}
use Rattle.std.proofs.lemmas.List.Elements.{recursion_from_All}
use Rattle.std.proofs.lemmas.Int.{ints}
use Rattle.sc_geom.specs.declared.point.Pt.{Pt}
use Rattle.sc_geom.specs.Point.{IsLongitude, IsLatitude, IsInWorld}
use Rattle.sc_geom.specs.Shapes.{Shapes, joined, rings_of, positions_of}
use Rattle.sc_geom.specs.Geometry.{IsGeometry}
use Rattle.sc_expr.specs.declared.scalar.Shape.{Shape}
use Rattle.sc_expr.specs.declared.scalar.Shape.TheVariants.{Prop, Geom}
use Rattle.sc_expr.specs.Form.{IsFormedShape}
use Rattle.sc_expr.specs.Kept.{IsKeptShape}
use Rattle.sc_cqlwrite.specs.Tokens as tokens
use Rattle.sc_cqlwrite.specs.Tokens.{Token, spelled, between, listed}
use Rattle.sc_cqlwrite.specs.Coordinate.{coordinate_text}
use Rattle.sc_cqlwrite.specs.Geometries.{position_tokens, line_tokens, point_part, line_part, area_part, parts_of, collected, shape_tokens}
use Rattle.sc_cqlback.proofs.Wholes.{coordinate_whole}
use Rattle.sc_cqlback.proofs.Words.{point_whole, linestring_whole, polygon_whole, geometrycollection_whole}
use Rattle.sc_cqlback.proofs.Lexical.{IsWhole, IsLexical, lexical_between, lexical_comma, lexical_enclosed, lexical_call}
use Rattle.sc_cqlback.proofs.Scalars.{name_lexical}

-- ---- lists

module _ {A : Type 0} (P : A → Type 0) where
  pub all_first : (xs ys : List A) → AllByRecursion P (xs ++ ys) → AllByRecursion P xs
  all_first [] ys all = tt
  all_first (x ∷ xs) ys all = (all.0, all_first xs ys all.1)

  pub all_second : (xs ys : List A) → AllByRecursion P (xs ++ ys) → AllByRecursion P ys
  all_second [] ys all = all
  all_second (x ∷ xs) ys all = all_second xs ys all.1

  pub all_both : (xs ys : List A) → AllByRecursion P xs → AllByRecursion P ys → AllByRecursion P (xs ++ ys)
  all_both [] ys h k = k
  all_both (x ∷ xs) ys h k = (h.0, all_both xs ys h.1 k)

  pub all_parts : (xss : List (List A)) → AllByRecursion P (joined xss) → AllByRecursion (AllByRecursion P) xss
  all_parts [] all = tt
  all_parts (xs ∷ xss) all = (all_first xs (joined xss) all, all_parts xss (all_second xs (joined xss) all))

  pub all_lexical : (f : A → List Token) → ((x : A) → P x → IsLexical (f x)) → (xs : List A) → AllByRecursion P xs → AllByRecursion IsLexical (map f xs)
  all_lexical f h [] all = tt
  all_lexical f h (x ∷ xs) all = (h x all.0, all_lexical f h xs all.1)

pub listed_lexical : (parts : List (List Token)) → AllByRecursion IsLexical parts → IsLexical (listed parts)
listed_lexical parts all = lexical_enclosed (between tokens.comma parts) (lexical_between tokens.comma lexical_comma parts all)

-- ---- positions, lines and areas

longitude_small : (x : ℤ) → IsLongitude x → unsigned_abs x < 2 ^ 64
longitude_small x (low, high) = omega (arith, ints)

latitude_small : (y : ℤ) → IsLatitude y → unsigned_abs y < 2 ^ 64
latitude_small y (low, high) = omega (arith, ints)

coordinate_is : (steps : ℤ) → unsigned_abs steps < 2 ^ 64 → IsWhole (tokens.number (coordinate_text steps))
unfolding spelled
coordinate_is steps small = record { whole = coordinate_whole steps small; meant = tt }

position_lexical : (p : Pt) → IsInWorld p → IsLexical (position_tokens p)
position_lexical p h = (coordinate_is p.x (longitude_small p.x h.0), tt, (coordinate_is p.y (latitude_small p.y h.1), tt, tt))

abbrev AreInWorld : List Pt → Type 0
AreInWorld = AllByRecursion IsInWorld

line_lexical : (line : List Pt) → AreInWorld line → IsLexical (line_tokens line)
line_lexical line all = listed_lexical (map position_tokens line) (all_lexical IsInWorld position_tokens position_lexical line all)

abbrev RingsAreInWorld : List (List Pt) → Type 0
RingsAreInWorld = AllByRecursion AreInWorld

point_lexical : (p : Pt) → IsInWorld p → IsLexical (point_part p)
point_lexical p h = lexical_call (codes "POINT") (position_tokens p) point_whole (position_lexical p h)

line_part_lexical : (line : List Pt) → AreInWorld line → IsLexical (line_part line)
line_part_lexical line all =
    lexical_call (codes "LINESTRING") (between tokens.comma (map position_tokens line)) linestring_whole
    (lexical_between tokens.comma lexical_comma (map position_tokens line) (all_lexical IsInWorld position_tokens position_lexical line all))

area_part_lexical : (rings : List (List Pt)) → RingsAreInWorld rings → IsLexical (area_part rings)
area_part_lexical rings all =
    lexical_call (codes "POLYGON") (between tokens.comma (map line_tokens rings)) polygon_whole
    (lexical_between tokens.comma lexical_comma (map line_tokens rings) (all_lexical AreInWorld line_tokens line_lexical rings all))

parts_lexical : (g : Shapes Pt) → IsGeometry g → AllByRecursion IsLexical (parts_of g)
parts_lexical g is =
    let all = recursion_from_All IsInWorld (positions_of g) is.in_world in
    let front = all_first IsInWorld (g.points ++ joined g.lines) (joined (rings_of g)) all in
    let points = all_first IsInWorld g.points (joined g.lines) front in
    let lines = all_parts IsInWorld g.lines (all_second IsInWorld g.points (joined g.lines) front) in
    let rings = all_parts IsInWorld (rings_of g) (all_second IsInWorld (g.points ++ joined g.lines) (joined (rings_of g)) all) in
    let areas = all_parts AreInWorld g.areas rings in
    all_both IsLexical (map point_part g.points ++ map line_part g.lines) (map area_part g.areas)
    (all_both IsLexical (map point_part g.points) (map line_part g.lines)
    (all_lexical IsInWorld point_part point_lexical g.points points)
    (all_lexical AreInWorld line_part line_part_lexical g.lines lines))
    (all_lexical RingsAreInWorld area_part area_part_lexical g.areas areas)

collection_lexical : (parts : List (List Token)) → AllByRecursion IsLexical parts → IsLexical (tokens.function (codes "GEOMETRYCOLLECTION") ∷ listed parts)
collection_lexical parts all =
    lexical_call (codes "GEOMETRYCOLLECTION") (between tokens.comma parts) geometrycollection_whole (lexical_between tokens.comma lexical_comma parts all)

collected_lexical : (parts : List (List Token)) → AllByRecursion IsLexical parts → IsLexical (collected parts)
collected_lexical [] all = collection_lexical [] all
collected_lexical (p ∷ []) all = all.0
collected_lexical (p ∷ q ∷ ps) all = collection_lexical (p ∷ q ∷ ps) all

pub shape_lexical : (shape : Shape) → IsFormedShape shape → IsKeptShape shape → IsLexical (shape_tokens shape)
shape_lexical (Prop name) formed kept = name_lexical name formed
shape_lexical (Geom g) formed kept = collected_lexical (parts_of g) (parts_lexical g kept)
