-- What is written of a geometry depicts it.
use Rattle.std.proofs.Common.{◌≡◌, ℕ, ◌≤◌, List, [], ◌∷◌, ◌++◌, length, map, codes, true, ◌&&◌, Option, Some, None, int_le, ◌≤ℤ◌, refl, sym, ap, subst, ◌∙◌, arith, ℤ, pos, negsuc}
use Rattle.std.specs.List.{All, AllByRecursion}
use Rattle.std.specs.Option.{option_and_then, option_map}
use Rattle.std.proofs.lemmas.Bool.{le-leb}
use Rattle.std.proofs.lemmas.Int.{ints}
use Rattle.std.proofs.lemmas.List.{length-map}
use Rattle.std.proofs.lemmas.List.Elements.{recursion_from_All, All-from_recursion}
use Rattle.sc_decimal.specs.Value.{number_of}
use Rattle.sc_json.specs.declared.tree.Json.{Json}
use Rattle.sc_json.specs.declared.tree.Json.TheVariants as trees
use Rattle.sc_json.specs.declared.tree.Member.{Member}
use Rattle.sc_geom.specs.declared.point.Pt.{Pt}
use Rattle.sc_geom.specs.Point.{IsLongitude, IsLatitude, IsInWorld}
use Rattle.sc_geom.specs.Shapes.{Shapes, joined, rings_of, positions_of, map_shapes, nothing}
use Rattle.sc_geom.specs.Geometry.{IsRing, IsGeometry}
use Rattle.sc_geom.specs.Tree as geoms
use Rattle.sc_geom.specs.Place.{kept_between, step_between, longitude_of, latitude_of, place_from, place_of}
use Rattle.sc_geom.specs.Sketch.{Sketch}
use Rattle.sc_geom.specs.Kinds.{kind_named, type_name, coordinates_name, geometries_name}
use Rattle.sc_geom.specs.Drawn.{both_read, all_read, filled, elements_of, each, place_in, position_of, positions, long_line, line_of, area_of, points_only, lines_only, areas_only, drawn}
use Rattle.sc_geom.specs.Depicts.{kind_in, Depicts, by_coordinates, by_geometries, AllDepict, none_left, one_more}
use Rattle.sc_expr.specs.declared.scalar.Shape.{Shape}
use Rattle.sc_expr.specs.declared.scalar.Shape.TheVariants.{Prop, Geom}
use Rattle.sc_expr.specs.Form.{IsFormedShape}
use Rattle.sc_expr.specs.Kept.{IsKeptShape}
use Rattle.sc_cqlwrite.specs.Coordinate.{coordinate_text}
use Rattle.sc_cqlback.proofs.Coordinates.{coordinate_read}
use Rattle.sc_cqlback.proofs.Geometries.{all_first, all_second, all_parts}
use Rattle.sc_cqljson.specs.Words.{property_name}
use Rattle.sc_cqljson.specs.Heads as heads
use Rattle.sc_cqljson.specs.Heads.{Head, head_of}
use Rattle.sc_cqljson.specs.Drawn.{PlainOf, DrawsBy, Draws}
use Rattle.sc_cqljson.specs.Spells.{SpellsShape, of_property, drawn as draws}
use Rattle.sc_cqltree.specs.Objects.{member, only, shaped, numeral}
use Rattle.sc_cqltree.specs.Geometries.{position_tree, line_tree, area_tree, point_part, line_part, area_part, parts_of, collected, geometry_tree, shape_tree}
use Rattle.sc_cqltree.proofs.Reading.{text_there, number_there, list_there, members_there, named, property_head, coordinates_head, geometries_head, type_named, coordinates_named, geometries_named}

-- ---- coordinates

between_true : (low high z : ℤ) → low ≤ℤ z → z ≤ℤ high → kept_between low high z ≡ Some z
between_true low high z l h = let k : (int_le low z && int_le z high) ≡ true = grind (arith, ints) in rw k refl

longitude_is : (x : ℤ) → IsLongitude x → longitude_of (number_of (coordinate_text x)) ≡ Some x
unfolding step_between
longitude_is x (l, h) = let e = (coordinate_read x l h).1 in rw e (between_true (negsuc 3599999999) (pos 3600000000) x l h)

latitude_is : (y : ℤ) → IsLatitude y → latitude_of (number_of (coordinate_text y)) ≡ Some y
unfolding step_between
latitude_is y (l, h) =
    let low : negsuc 3599999999 ≤ℤ y = omega (arith, ints) in
    let high : y ≤ℤ pos 3600000000 = omega (arith, ints) in
    let e = (coordinate_read y low high).1 in rw e (between_true (negsuc 899999999) (pos 900000000) y l h)

both_placed : {a b : Option ℤ} {x y : ℤ} → a ≡ Some x → b ≡ Some y → place_from a b ≡ Some (record { x = x; y = y })
both_placed e f = rw (e, f) refl

place_is : (p : Pt) → IsInWorld p → place_of (number_of (coordinate_text p.x)) (number_of (coordinate_text p.y)) ≡ Some p
unfolding place_of
place_is p is = both_placed (longitude_is p.x is.0) (latitude_is p.y is.1)

-- ---- lists that are read element by element

elements_some : (x : Json) (xs : List Json) → elements_of (trees.List (x ∷ xs)) ≡ Some (x ∷ xs)
unfolding elements_of
elements_some x xs = ap (option_and_then filled) (list_there (x ∷ xs))

each_of : {B : Type 0} (read : Json → Option B) (x : Json) (xs : List Json) → each read (trees.List (x ∷ xs)) ≡ all_read read (x ∷ xs)
each_of read x xs = ap (option_and_then (all_read read)) (elements_some x xs)

read_both : {B : Type 0} {a : Option B} {r : Option (List B)} {x : B} {xs : List B} → a ≡ Some x → r ≡ Some xs → both_read a r ≡ Some (x ∷ xs)
read_both e f = rw (e, f) refl

module _ {A B : Type 0} (P : A → Type 0) (f : A → Json) (read : Json → Option B) (g : A → B) (one : (x : A) → P x → read (f x) ≡ Some (g x)) where
  all_again : (xs : List A) → AllByRecursion P xs → all_read read (map f xs) ≡ Some (map g xs)
  all_again [] all = refl
  all_again (x ∷ xs) all = read_both (one x all.0) (all_again xs all.1)

  each_again : (xs : List A) → 1 ≤ length xs → AllByRecursion P xs → each read (trees.List (map f xs)) ≡ Some (map g xs)
  each_again [] some all = absurd (omega arith)
  each_again (x ∷ xs) some all = each_of read (f x) (map f xs) ∙ all_again (x ∷ xs) all

-- ---- what is drawn

numbers_again : (m n : List ℕ) → each geoms.number_of (trees.List (numeral m ∷ numeral n ∷ [])) ≡ Some (number_of m ∷ number_of n ∷ [])
numbers_again m n =
    each_of geoms.number_of (numeral m) (numeral n ∷ [])
    ∙ read_both (number_there (record { literal = m; dec = number_of m })) (read_both (number_there (record { literal = n; dec = number_of n })) refl)

position_again : (p : Pt) → IsInWorld p → position_of (position_tree p) ≡ Some (Some p)
unfolding position_of
position_again p is =
    ap (option_and_then place_in) (numbers_again (coordinate_text p.x) (coordinate_text p.y)) ∙ ap (λ (q : Option Pt). Some q) (place_is p is)

abbrev somes : List Pt → List (Option Pt)
somes = map (λ p. Some p)

abbrev AreInWorld : List Pt → Type 0
AreInWorld = AllByRecursion IsInWorld

positions_again : (ps : List Pt) → 1 ≤ length ps → AreInWorld ps → positions (line_tree ps) ≡ Some (somes ps)
positions_again = each_again IsInWorld position_tree position_of (λ p. Some p) position_again

line_again : (ps : List Pt) → 2 ≤ length ps → AreInWorld ps → line_of (line_tree ps) ≡ Some (somes ps)
unfolding line_of
line_again ps long all =
    let size : 2 ≤ length (somes ps) = rw (length-map ps (λ (p : Pt). Some p)) long in
    ap (option_and_then long_line) (positions_again ps (omega arith) all) ∙ rw (le-leb 2 (length (somes ps)) size) refl

-- a ring has a position
record IsSpread (ring : List Pt) : Type 0 where
  some : 1 ≤ length ring
  all : AreInWorld ring

ring_again : (ring : List Pt) → IsSpread ring → positions (line_tree ring) ≡ Some (somes ring)
ring_again ring is = positions_again ring is.some is.all

area_again : (area : List (List Pt)) → 1 ≤ length area → AllByRecursion IsSpread area → area_of (area_tree area) ≡ Some (map somes area)
unfolding area_of
area_again = each_again IsSpread line_tree positions somes ring_again

-- ---- what is depicted

some_found : {K B : Type 0} (o : Option K) (f : K → Option B) (b : B) → option_and_then f o ≡ Some b → (k : K) × (o ≡ Some k) × (f k ≡ Some b)
some_found None f b e = absurd cc
some_found (Some k) f b e = (k, refl, e)

type_is : (kind name : List ℕ) (value : Json) → kind_in (member type_name (trees.Text kind) ∷ member name value ∷ []) ≡ kind_named kind
unfolding kind_in
type_is kind name value =
    ap (λ (t : Option Json). option_and_then kind_named (option_and_then geoms.text_of t)) (type_named kind name value)
    ∙ ap (option_and_then kind_named) (text_there kind)

depicted : (name : List ℕ) (value : Json) (s : Sketch) → option_and_then (λ k. drawn k value) (kind_named name) ≡ Some s → Depicts (shaped name coordinates_name value) s
depicted name value s e =
    let members : List Member = member type_name (trees.Text name) ∷ member coordinates_name value ∷ [] in
    let found = some_found (kind_named name) (λ k. drawn k value) s e in
    by_coordinates (shaped name coordinates_name value) members found.0 value s (members_there members) (type_is name coordinates_name value ∙ found.1) (coordinates_named name value) found.2

-- what is written of a part is read as a geometry, which depicts it
record IsPart (tree : Json) (s : Sketch) : Type 0 where
  head : head_of tree ≡ heads.geometry
  depicts : Depicts tree s

point_depicted : (p : Pt) → IsInWorld p → IsPart (point_part p) (points_only (Some p ∷ []))
unfolding kind_named
point_depicted p is = record {
  head = coordinates_head (codes "Point") (position_tree p);
  depicts = depicted (codes "Point") (position_tree p) (points_only (Some p ∷ [])) (ap (option_map (λ place. points_only (place ∷ []))) (position_again p is));
}

record IsPath (line : List Pt) : Type 0 where
  long : 2 ≤ length line
  all : AreInWorld line

line_depicted : (line : List Pt) → IsPath line → IsPart (line_part line) (lines_only (somes line ∷ []))
unfolding kind_named
line_depicted line is = record {
  head = coordinates_head (codes "LineString") (line_tree line);
  depicts = depicted (codes "LineString") (line_tree line) (lines_only (somes line ∷ [])) (ap (option_map (λ l. lines_only (l ∷ []))) (line_again line is.long is.all));
}

record IsRinged (area : List (List Pt)) : Type 0 where
  some : 1 ≤ length area
  all : AllByRecursion IsSpread area

area_depicted : (area : List (List Pt)) → IsRinged area → IsPart (area_part area) (areas_only (map somes area ∷ []))
unfolding kind_named
area_depicted area is = record {
  head = coordinates_head (codes "Polygon") (area_tree area);
  depicts = depicted (codes "Polygon") (area_tree area) (areas_only (map somes area ∷ [])) (ap (option_map (λ a. areas_only (a ∷ []))) (area_again area is.some is.all));
}

-- ---- all parts

abbrev sketch_of : Shapes Pt → Sketch
sketch_of = map_shapes (λ p. Some p)

record IsSound (g : Shapes Pt) : Type 0 where
  points : AllByRecursion IsInWorld g.points
  lines : AllByRecursion IsPath g.lines
  areas : AllByRecursion IsRinged g.areas

areas_depicted : (areas : List (List (List Pt))) → AllByRecursion IsRinged areas → AllDepict (map area_part areas) (sketch_of (record { points = []; lines = []; areas = areas }))
areas_depicted [] all = none_left
areas_depicted (a ∷ areas) all =
    one_more (area_part a) (map area_part areas) (areas_only (map somes a ∷ [])) (sketch_of (record { points = []; lines = []; areas = areas })) (area_depicted a all.0).depicts (areas_depicted areas all.1)

lines_depicted : (lines : List (List Pt)) (areas : List (List (List Pt))) → AllByRecursion IsPath lines → AllByRecursion IsRinged areas
    → AllDepict (map line_part lines ++ map area_part areas) (sketch_of (record { points = []; lines = lines; areas = areas }))
lines_depicted [] areas all more = areas_depicted areas more
lines_depicted (l ∷ lines) areas all more =
    one_more (line_part l) (map line_part lines ++ map area_part areas) (lines_only (somes l ∷ [])) (sketch_of (record { points = []; lines = lines; areas = areas }))
    (line_depicted l all.0).depicts (lines_depicted lines areas all.1 more)

points_depicted : (points : List Pt) (lines : List (List Pt)) (areas : List (List (List Pt))) → AllByRecursion IsInWorld points → AllByRecursion IsPath lines → AllByRecursion IsRinged areas
    → AllDepict (map point_part points ++ map line_part lines ++ map area_part areas) (sketch_of (record { points = points; lines = lines; areas = areas }))
points_depicted [] lines areas all paths more = lines_depicted lines areas paths more
points_depicted (p ∷ points) lines areas all paths more =
    one_more (point_part p) (map point_part points ++ map line_part lines ++ map area_part areas) (points_only (Some p ∷ [])) (sketch_of (record { points = points; lines = lines; areas = areas }))
    (point_depicted p all.0).depicts (points_depicted points lines areas all.1 paths more)

-- ---- a geometry, of one part or as a collection

collection_depicted : (parts : List Json) (s : Sketch) → AllDepict parts s → IsPart (shaped (codes "GeometryCollection") geometries_name (trees.List parts)) s
unfolding kind_named
collection_depicted parts s all =
    let kind : List ℕ = codes "GeometryCollection" in
    let members : List Member = member type_name (trees.Text kind) ∷ member geometries_name (trees.List parts) ∷ [] in record {
      head = geometries_head kind (trees.List parts);
      depicts = by_geometries (shaped kind geometries_name (trees.List parts)) members (trees.List parts) parts s (members_there members) (type_is kind geometries_name (trees.List parts))
          (geometries_named kind (trees.List parts)) (list_there parts) all;
    }

collected_depicted : (points : List Pt) (lines : List (List Pt)) (areas : List (List (List Pt))) → AllByRecursion IsInWorld points → AllByRecursion IsPath lines → AllByRecursion IsRinged areas
    → IsPart (collected (map point_part points ++ map line_part lines ++ map area_part areas)) (sketch_of (record { points = points; lines = lines; areas = areas }))
collected_depicted [] [] [] all paths rings = collection_depicted [] nothing none_left
collected_depicted [] [] (a ∷ []) all paths rings = area_depicted a rings.0
collected_depicted [] [] (a ∷ b ∷ areas) all paths rings = collection_depicted _ _ (areas_depicted (a ∷ b ∷ areas) rings)
collected_depicted [] (l ∷ []) [] all paths rings = line_depicted l paths.0
collected_depicted [] (l ∷ []) (a ∷ areas) all paths rings = collection_depicted _ _ (lines_depicted (l ∷ []) (a ∷ areas) paths rings)
collected_depicted [] (l ∷ m ∷ lines) areas all paths rings = collection_depicted _ _ (lines_depicted (l ∷ m ∷ lines) areas paths rings)
collected_depicted (p ∷ []) [] [] all paths rings = point_depicted p all.0
collected_depicted (p ∷ []) [] (a ∷ areas) all paths rings = collection_depicted _ _ (points_depicted (p ∷ []) [] (a ∷ areas) all paths rings)
collected_depicted (p ∷ []) (l ∷ lines) areas all paths rings = collection_depicted _ _ (points_depicted (p ∷ []) (l ∷ lines) areas all paths rings)
collected_depicted (p ∷ q ∷ points) lines areas all paths rings = collection_depicted _ _ (points_depicted (p ∷ q ∷ points) lines areas all paths rings)

-- ---- what every geometry keeps, part by part

paths_are : (lines : List (List Pt)) → AllByRecursion (λ line. 2 ≤ length line) lines → AllByRecursion AreInWorld lines → AllByRecursion IsPath lines
paths_are [] long all = tt
paths_are (l ∷ lines) long all = (record { long = long.0; all = all.0 }, paths_are lines long.1 all.1)

spread_are : (rings : List (List Pt)) → AllByRecursion IsRing rings → AllByRecursion AreInWorld rings → AllByRecursion IsSpread rings
spread_are [] closed all = tt
spread_are (r ∷ rings) closed all = (record { some = (let long = closed.0.long in omega arith); all = all.0 }, spread_are rings closed.1 all.1)

ringed_are : (areas : List (List (List Pt))) → AllByRecursion (λ area. 1 ≤ length area) areas → AllByRecursion (AllByRecursion IsRing) areas → AllByRecursion (AllByRecursion AreInWorld) areas → AllByRecursion IsRinged areas
ringed_are [] some closed all = tt
ringed_are (a ∷ areas) some closed all = (record { some = some.0; all = spread_are a closed.0 all.0 }, ringed_are areas some.1 closed.1 all.1)

sound_is : (g : Shapes Pt) → IsGeometry g → IsSound g
sound_is g is =
    let all = recursion_from_All IsInWorld (positions_of g) is.in_world in
    let front = all_first IsInWorld (g.points ++ joined g.lines) (joined (rings_of g)) all in
    let lines = all_parts IsInWorld g.lines (all_second IsInWorld g.points (joined g.lines) front) in
    let rings = all_parts IsInWorld (rings_of g) (all_second IsInWorld (g.points ++ joined g.lines) (joined (rings_of g)) all) in record {
      points = all_first IsInWorld g.points (joined g.lines) front;
      lines = paths_are g.lines (recursion_from_All (λ line. 2 ≤ length line) g.lines is.lines) lines;
      areas = ringed_are g.areas (recursion_from_All (λ area. 1 ≤ length area) g.areas is.areas)
          (all_parts IsRing g.areas (recursion_from_All IsRing (rings_of g) is.rings)) (all_parts AreInWorld g.areas rings);
    }

-- ---- shapes

geometry_drawn : (g : Shapes Pt) → IsGeometry g → length (positions_of g) ≤ 1000 → Draws (geometry_tree g) g
geometry_drawn g is few =
    let sound = sound_is g is in
    let part = collected_depicted g.points g.lines g.areas sound.points sound.lines sound.areas in
    let plain : PlainOf (geometry_tree g) g = record { is = record { depicted = part.depicts; sound = is }; few = few } in
    subst (λ (h : Head). DrawsBy h (geometry_tree g) g) (sym part.head) plain

pub shape_spelled : (shape : Shape) → IsFormedShape shape → IsKeptShape shape → SpellsShape (shape_tree shape) shape
shape_spelled (Prop name) formed kept =
    of_property (only property_name (trees.Text name)) (trees.Text name) name (property_head (trees.Text name)) (named name formed)
shape_spelled (Geom g) formed kept = draws (geometry_tree g) g (geometry_drawn g kept formed)

-- ---- the code's

all_of_all : {A : Type 0} (P : A → Type 0) (xss : List (List A)) → AllByRecursion (AllByRecursion P) xss → AllByRecursion (All P) xss
all_of_all P [] all = tt
all_of_all P (xs ∷ xss) all = (All-from_recursion P xs all.0, all_of_all P xss all.1)

all_of_each : {A : Type 0} (P : A → Type 0) (xsss : List (List (List A))) → AllByRecursion (AllByRecursion (AllByRecursion P)) xsss → AllByRecursion (All (All P)) xsss
all_of_each P [] all = tt
all_of_each P (xss ∷ xsss) all = (All-from_recursion (All P) xss (all_of_all P xss all.0), all_of_each P xsss all.1)

pub lines_in_world : (g : Shapes Pt) → IsGeometry g → All (All IsInWorld) g.lines
lines_in_world g is =
    let all = recursion_from_All IsInWorld (positions_of g) is.in_world in
    let front = all_first IsInWorld (g.points ++ joined g.lines) (joined (rings_of g)) all in
    let lines = all_parts IsInWorld g.lines (all_second IsInWorld g.points (joined g.lines) front) in
    All-from_recursion (All IsInWorld) g.lines (all_of_all IsInWorld g.lines lines)

pub areas_in_world : (g : Shapes Pt) → IsGeometry g → All (All (All IsInWorld)) g.areas
areas_in_world g is =
    let all = recursion_from_All IsInWorld (positions_of g) is.in_world in
    let rings = all_parts IsInWorld (rings_of g) (all_second IsInWorld (g.points ++ joined g.lines) (joined (rings_of g)) all) in
    All-from_recursion (All (All IsInWorld)) g.areas (all_of_each IsInWorld g.areas (all_parts AreInWorld g.areas rings))

not_alone : (parts : List Json) → (length parts ≡ 1 → ⊥) → collected parts ≡ shaped (codes "GeometryCollection") geometries_name (trees.List parts)
not_alone [] is = refl
not_alone (p ∷ []) is = absurd (is refl)
not_alone (p ∷ q ∷ ps) is = refl

pub other_geometry : (g : Shapes Pt) (parts : List Json) (tree : Json) → parts ≡ parts_of g → (length parts ≡ 1 → ⊥) → tree ≡ shaped (codes "GeometryCollection") geometries_name (trees.List parts) → tree ≡ geometry_tree g
other_geometry g parts tree are some is = is ∙ sym (not_alone parts some) ∙ ap collected are
