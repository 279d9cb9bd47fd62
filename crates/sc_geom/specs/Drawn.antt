-- What coordinates draw (RFC 7946 §3.1.1 to §3.1.7).
use Rattle.std.specs.Prelude.{nat_le, if◌then◌else◌, List, [], ◌∷◌, length, Option, Some, None}
use Rattle.std.specs.Option.{option_map, option_and_then}
use Rattle.sc_decimal.specs.Number.{Number}
use Rattle.sc_json.specs.declared.tree.Json.{Json}
use Rattle.sc_geom.specs.declared.point.Pt.{Pt}
use Rattle.sc_geom.specs.declared.kind.Kind.{Kind}
use Rattle.sc_geom.specs.declared.kind.Kind.TheVariants.{Point, MultiPoint, LineString, MultiLineString, Polygon, MultiPolygon, GeometryCollection}
use Rattle.sc_geom.specs.Sketch.{Sketch}
use Rattle.sc_geom.specs.Place.{place_of}
use Rattle.sc_geom.specs.Tree.{list_of, number_of}

abbrev pub both_read : {A : Type 0} → Option A → Option (List A) → Option (List A)
both_read (Some x) (Some xs) = Some (x ∷ xs)
both_read _ _ = None

-- each one read; none where one of them can't be
abbrev pub all_read : {A B : Type 0} → (A → Option B) → List A → Option (List B)
all_read read [] = Some []
all_read read (x ∷ xs) = both_read (read x) (all_read read xs)

abbrev pub filled : {A : Type 0} → List A → Option (List A)
filled [] = None
filled (x ∷ xs) = Some (x ∷ xs)

-- the elements of a list that isn't empty
unfoldable pub elements_of : Json → Option (List Json)
elements_of tree = option_and_then filled (list_of tree)

-- each element of a list that isn't empty
abbrev pub each : {A : Type 0} → (Json → Option A) → Json → Option (List A)
each read tree = option_and_then (all_read read) (elements_of tree)

-- the first two numbers
abbrev pub place_in : List Number → Option (Option Pt)
place_in [] = None
place_in (longitude ∷ []) = None
place_in (longitude ∷ latitude ∷ more) = Some (place_of longitude latitude)

-- §3.1.1: a list of numbers, longitude and latitude first; what comes behind them isn't kept
unfoldable pub position_of : Json → Option (Option Pt)
position_of tree = option_and_then place_in (each number_of tree)

abbrev pub positions : Json → Option (List (Option Pt))
positions = each position_of

abbrev pub long_line : List (Option Pt) → Option (List (Option Pt))
long_line places = if nat_le 2 (length places) then Some places else None

-- §3.1.4: two positions or more
unfoldable pub line_of : Json → Option (List (Option Pt))
line_of tree = option_and_then long_line (positions tree)

-- §3.1.6: the rings of a polygon
unfoldable pub area_of : Json → Option (List (List (Option Pt)))
area_of = each positions

abbrev pub points_only : List (Option Pt) → Sketch
points_only points = record { points = points; lines = []; areas = [] }

abbrev pub lines_only : List (List (Option Pt)) → Sketch
lines_only lines = record { points = []; lines = lines; areas = [] }

abbrev pub areas_only : List (List (List (Option Pt))) → Sketch
areas_only areas = record { points = []; lines = []; areas = areas }

-- what the coordinates of a kind draw
abbrev pub drawn : Kind → Json → Option Sketch
drawn Point tree = option_map (λ place. points_only (place ∷ [])) (position_of tree)
drawn MultiPoint tree = option_map points_only (positions tree)
drawn LineString tree = option_map (λ line. lines_only (line ∷ [])) (line_of tree)
drawn MultiLineString tree = option_map lines_only (each line_of tree)
drawn Polygon tree = option_map (λ area. areas_only (area ∷ [])) (area_of tree)
drawn MultiPolygon tree = option_map areas_only (each area_of tree)
drawn GeometryCollection tree = None
