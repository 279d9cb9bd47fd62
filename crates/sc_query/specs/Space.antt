-- Where and when the items of a search are (STAC API, Item Search, `bbox`, `intersects` and `datetime`).
use Rattle.std.specs.Prelude.{◌≡◌, ◌≢◌, ℕ, ◌&&◌, not, if◌then◌else◌, List, Option, Some, None, is_some, Result, Ok, Err}
use Rattle.std.specs.Option.{option_and_then}
use Rattle.sc_base.specs.Parts.{parts_between}
use Rattle.sc_decimal.specs.Number.{Number}
use Rattle.sc_decimal.specs.Value as numbers
use Rattle.sc_json.specs.declared.tree.Json.{Json}
use Rattle.sc_json.specs.Views.{number_of, list_of}
use Rattle.sc_time.specs.declared.fault.TimeFault.{TimeFault}
use Rattle.sc_time.specs.declared.fault.TimeFault.TheVariants.{BadForm}
use Rattle.sc_time.specs.Ends.{Ends}
use Rattle.sc_time.specs.Reading.{range_reading}
use Rattle.sc_geom.specs.declared.point.Pt.{Pt}
use Rattle.sc_geom.specs.declared.rects.Rects.{Rects}
use Rattle.sc_geom.specs.declared.fault.GeomFault.{GeomFault}
use Rattle.sc_geom.specs.declared.fault.GeomFault.TheVariants as geometries
use Rattle.sc_geom.specs.Shapes.{Shapes}
use Rattle.sc_geom.specs.Drawn.{all_read}
use Rattle.sc_geom.specs.Rects.{AreRects}
use Rattle.sc_geom.specs.Answers as geometry
use Rattle.sc_query.specs.declared.fault.QueryFault.{QueryFault}
use Rattle.sc_query.specs.declared.fault.QueryFault.TheVariants.{BadBbox, BadDatetime, BadIntersects, BboxAndIntersects}
use Rattle.sc_query.specs.Given.{Parameter, in_text, in_tree, text_given, IsTree, IsNoTree}

-- ---- a bounding box

-- the number that a text is, where it isn't too wide
abbrev pub number_in_text : List ℕ → Option Number
number_in_text text = if numbers.is_number text && not (numbers.is_wide text) then Some (numbers.number_of text) else None

-- numbers between commas, or a list of numbers
abbrev pub numbers_given : Parameter → Option (List Number)
numbers_given (in_text text) = all_read number_in_text (parts_between 44 text)
numbers_given (in_tree tree) = option_and_then (all_read number_of) (list_of tree)

-- the boxes of a bounding box (RFC 7946 §5)
pub record IsBbox (given : Parameter) (rects : Rects) : Type 0 where
  pub numbers : List Number
  pub are : numbers_given given ≡ Some numbers
  pub spanned : AreRects numbers rects

abbrev pub BboxReads : Parameter → Result Rects QueryFault → Type 0
BboxReads given (Ok rects) = IsBbox given rects
BboxReads given (Err fault) = (fault ≡ BadBbox) × ((rects : Rects) → IsBbox given rects → ⊥)

-- ---- a range of time

abbrev pub range_of : Result Ends TimeFault → Result Ends QueryFault
range_of (Ok ends) = Ok ends
range_of (Err fault) = Err (BadDatetime fault)

abbrev pub time_of_text : Option (List ℕ) → Result Ends QueryFault
time_of_text None = Err (BadDatetime BadForm)
time_of_text (Some text) = range_of (range_reading text)

abbrev pub DatetimeReads : Parameter → Result Ends QueryFault → Type 0
DatetimeReads given result = result ≡ time_of_text (text_given given)

-- ---- a geometry

-- the geometry that a JSON value is (RFC 7946 §3.1), of at most 1,000 positions; the fault tells why it is none, but for
-- a text that spells no JSON value
pub data IntersectsReads (given : Parameter) : Result (Shapes Pt) QueryFault → Type 0 where
  depicted : (tree : Json) (g : Shapes Pt) → IsTree given tree → geometry.Answers tree 1000 (Ok g) → IntersectsReads given (Ok g)
  not_depicted : (tree : Json) (fault : GeomFault) → IsTree given tree → geometry.Answers tree 1000 (Err fault) → fault ≢ geometries.OutOfMemory → IntersectsReads given (Err (BadIntersects (Some fault)))
  no_tree : IsNoTree given → IntersectsReads given (Err (BadIntersects None))

-- ---- both

-- a box and a geometry may not both be given
abbrev pub only_one : Option Rects → Option (Shapes Pt) → Result (Unit {0}) QueryFault
only_one rects shape = if is_some rects && is_some shape then Err BboxAndIntersects else Ok tt
