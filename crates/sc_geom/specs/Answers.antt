-- The geometry that a tree is, and why a tree is none: the first fault that holds of the whole tree.
use Rattle.std.specs.Prelude.{◌≡◌, ℕ, ◌≤◌, ◌<◌, true, false, length, Some, Result, Ok, Err}
use Rattle.sc_json.specs.declared.tree.Json.{Json}
use Rattle.sc_geom.specs.declared.point.Pt.{Pt}
use Rattle.sc_geom.specs.declared.fault.GeomFault.{GeomFault}
use Rattle.sc_geom.specs.declared.fault.GeomFault.TheVariants.{BadShape, OpenRing, OutOfWorld, TooManyPositions, OutOfMemory}
use Rattle.sc_geom.specs.Geometry.{IsGeometry}
use Rattle.sc_geom.specs.Shapes.{Shapes, positions_of, map_shapes}
use Rattle.sc_geom.specs.Sketch.{Sketch, has_open_ring, leaves_world}
use Rattle.sc_geom.specs.Depicts.{Depicts}

-- every position, those that close rings too
abbrev pub count_of : {A : Type 0} → Shapes A → ℕ
count_of s = length (positions_of s)

-- what the tree depicts lies in the world whole, and is a geometry
pub record GeomOf (tree : Json) (g : Shapes Pt) : Type 0 where
  pub depicted : Depicts tree (map_shapes Some g)
  pub sound : IsGeometry g

-- the tree depicts nothing, or nothing with a position
abbrev pub IsBadShape : Json → Type 0
IsBadShape tree = (s : Sketch) → Depicts tree s → count_of s ≡ 0

pub record HasOpenRing (tree : Json) (s : Sketch) : Type 0 where
  pub depicted : Depicts tree s
  pub some : 1 ≤ count_of s
  pub ring : has_open_ring s ≡ true

pub record LeavesWorld (tree : Json) (s : Sketch) : Type 0 where
  pub depicted : Depicts tree s
  pub some : 1 ≤ count_of s
  pub closed : has_open_ring s ≡ false
  pub leaves : leaves_world s ≡ true

pub record HasTooMany (tree : Json) (most count : ℕ) (g : Shapes Pt) : Type 0 where
  pub geometry : GeomOf tree g
  pub counted : count ≡ count_of g
  pub above : most < count

abbrev pub IsFault : Json → ℕ → GeomFault → Type 0
IsFault tree most BadShape = IsBadShape tree
IsFault tree most OpenRing = (s : Sketch) × HasOpenRing tree s
IsFault tree most OutOfWorld = (s : Sketch) × LeavesWorld tree s
IsFault tree most (TooManyPositions count) = (g : Shapes Pt) × HasTooMany tree most count g
IsFault tree most OutOfMemory = Unit {0}

-- what reading a tree answers
abbrev pub Answers : Json → ℕ → Result (Shapes Pt) GeomFault → Type 0
Answers tree most (Ok g) = GeomOf tree g × (count_of g ≤ most)
Answers tree most (Err fault) = IsFault tree most fault
