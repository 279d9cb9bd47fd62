-- The geometry of an item (RFC 7946 §3.2): null, or a geometry of at most 10,000 positions.
use Rattle.std.specs.Prelude.{◌≡◌, ◌≤◌, true, false, Option, Some, None, Result, Ok, Err}
use Rattle.sc_json.specs.declared.tree.Json.{Json}
use Rattle.sc_geom.specs.declared.point.Pt.{Pt}
use Rattle.sc_geom.specs.declared.fault.GeomFault.{GeomFault}
use Rattle.sc_geom.specs.declared.fault.GeomFault.TheVariants as geometry
use Rattle.sc_geom.specs.Shapes.{Shapes}
use Rattle.sc_geom.specs.Answers.{GeomOf, count_of, IsFault}
use Rattle.sc_item.specs.declared.fault.ItemFault.{ItemFault}
use Rattle.sc_item.specs.declared.fault.ItemFault.TheVariants.{NotAFeature, BadId, WrongCollection, BadTime, BadGeometry, OutOfMemory}
use Rattle.sc_item.specs.Trees.{is_null}

-- the value of the member `geometry`, and the geometry that it is
abbrev pub IsShape : Option Json → Option (Shapes Pt) → Type 0
IsShape None geom = ⊥
IsShape (Some value) None = is_null value ≡ true
IsShape (Some value) (Some g) = (is_null value ≡ false) × GeomOf value g × (count_of g ≤ 10000)

-- the fault of a geometry that may have 10,000 positions, but for want of memory
abbrev pub IsGeometryFault : Json → GeomFault → Type 0
IsGeometryFault value geometry.BadShape = IsFault value 10000 geometry.BadShape
IsGeometryFault value geometry.OpenRing = IsFault value 10000 geometry.OpenRing
IsGeometryFault value geometry.OutOfWorld = IsFault value 10000 geometry.OutOfWorld
IsGeometryFault value (geometry.TooManyPositions count) = IsFault value 10000 (geometry.TooManyPositions count)
IsGeometryFault value geometry.OutOfMemory = ⊥

-- the member is missing, which is told without a fault, or it is neither null nor such a geometry
abbrev pub IsShapeFault : Option Json → Option GeomFault → Type 0
IsShapeFault None None = Unit {0}
IsShapeFault None (Some fault) = ⊥
IsShapeFault (Some value) None = ⊥
IsShapeFault (Some value) (Some fault) = (is_null value ≡ false) × IsGeometryFault value fault

-- what reading the member gives; want of memory says nothing
abbrev pub Shaped : Option Json → Result (Option (Shapes Pt)) ItemFault → Type 0
Shaped value (Ok geom) = IsShape value geom
Shaped value (Err NotAFeature) = ⊥
Shaped value (Err BadId) = ⊥
Shaped value (Err WrongCollection) = ⊥
Shaped value (Err BadTime) = ⊥
Shaped value (Err (BadGeometry fault)) = IsShapeFault value fault
Shaped value (Err OutOfMemory) = Unit {0}
