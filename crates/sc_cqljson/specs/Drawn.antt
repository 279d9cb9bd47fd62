-- The moments and geometries that an object of CQL2 JSON is (OGC 21-065r2, Annex B).
use Rattle.std.specs.Prelude.{◌≡◌, ◌≤◌, ℤ, List, Option, Some, None, Result, Ok, Err}
use Rattle.std.specs.Option.{option_and_then}
use Rattle.sc_decimal.specs.Number.{Number}
use Rattle.sc_json.specs.declared.tree.Json.{Json}
use Rattle.sc_json.specs.Views as views
use Rattle.sc_json.specs.Views.{text_of, list_of}
use Rattle.sc_time.specs.declared.fault.TimeFault.{TimeFault}
use Rattle.sc_time.specs.Reading.{instant_reading, date_reading}
use Rattle.sc_geom.specs.declared.point.Pt.{Pt}
use Rattle.sc_geom.specs.declared.rects.Rects.{Rects}
use Rattle.sc_geom.specs.Shapes.{Shapes}
use Rattle.sc_geom.specs.Drawn.{all_read}
use Rattle.sc_geom.specs.Rects.{AreRects, geometry_of}
use Rattle.sc_geom.specs.Answers.{GeomOf, count_of}
use Rattle.sc_cqljson.specs.Heads.{Head, bbox, geometry, head_of}

abbrev pub moment_by : Result ℤ TimeFault → Option ℤ
moment_by (Ok at) = Some at
moment_by (Err fault) = None

-- the moment of a value under `timestamp`, which is a text
unfoldable pub instant_in : Json → Option ℤ
instant_in value = option_and_then (λ text. moment_by (instant_reading text)) (text_of value)

-- the moment of a value under `date`
unfoldable pub date_in : Json → Option ℤ
date_in value = option_and_then (λ text. moment_by (date_reading text)) (text_of value)

-- the numbers that a list is
unfoldable pub numbers_in : Json → Option (List Number)
numbers_in value = option_and_then (all_read views.number_of) (list_of value)

-- the geometry of the rectangles that the numbers of a box are
pub record BoxOf (value : Json) (drawn : Shapes Pt) : Type 0 where
  pub numbers : List Number
  pub rects : Rects
  pub are : numbers_in value ≡ Some numbers
  pub span : AreRects numbers rects
  pub same : drawn ≡ geometry_of rects

-- a geometry of at most 1,000 positions
pub record PlainOf (tree : Json) (drawn : Shapes Pt) : Type 0 where
  pub is : GeomOf tree drawn
  pub few : count_of drawn ≤ 1000

abbrev pub DrawsBy : Head → Json → Shapes Pt → Type 0
DrawsBy (bbox value) tree drawn = BoxOf value drawn
DrawsBy geometry tree drawn = PlainOf tree drawn
DrawsBy _ tree drawn = ⊥

-- the geometry that an object is, as a box or as GeoJSON
abbrev pub Draws : Json → Shapes Pt → Type 0
Draws tree drawn = DrawsBy (head_of tree) tree drawn
