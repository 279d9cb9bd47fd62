-- What is kept of places, rings and sketches while a geometry is read, and what reading a part gives.
use Rattle.std.specs.Prelude.{◌≡◌, ℕ, ◌+◌, ◌≤◌, ◌<◌, pos, Bool, true, false, ◌||◌, is_none, List, length, map, All, Option, Some, None, Result, Ok, Err}
use Rattle.std.specs.List.{list_any}
use Rattle.sc_json.specs.declared.tree.Json.{Json}
use Rattle.sc_geom.specs.declared.point.Pt.{Pt}
use Rattle.sc_geom.specs.declared.path.Path.{Path}
use Rattle.sc_geom.specs.declared.area.Area.{Area}
use Rattle.sc_geom.specs.declared.draft.Draft.{Draft}
use Rattle.sc_geom.specs.declared.fault.GeomFault.{GeomFault}
use Rattle.sc_geom.specs.declared.fault.GeomFault.TheVariants.{BadShape, OpenRing, OutOfWorld, TooManyPositions, OutOfMemory}
use Rattle.sc_geom.specs.Point.{IsInWorld}
use Rattle.sc_geom.specs.Geometry.{IsGeometry}
use Rattle.sc_geom.specs.Shapes.{Shapes, joined, rings_of, map_shapes, beside, first_of, last_of}
use Rattle.sc_geom.specs.Sketch.{Sketch, place_at, is_open, has_open_ring, leaves_world}
use Rattle.sc_geom.specs.Depicts.{Depicts, AllDepict}
use Rattle.sc_geom.specs.Answers.{count_of}

-- the position, or the origin in place of one outside the world
abbrev pub settled : Option Pt → Pt
settled (Some p) = p
settled None = record { x = pos 0; y = pos 0 }

pub record IsPath (path : Path) (places : List (Option Pt)) : Type 0 where
  pub points_are : path.points.items ≡ map settled places
  pub first_is : path.first ≡ place_at (first_of places)
  pub last_is : path.last ≡ place_at (last_of places)
  pub outside_is : path.outside ≡ list_any is_none places
  pub in_world : All IsInWorld path.points.items

pub record IsArea (area : Area) (rings : List (List (Option Pt))) : Type 0 where
  pub rings_are : area.rings.items ≡ map (map settled) rings
  pub count_is : area.count ≡ length (joined rings)
  pub outside_is : area.outside ≡ list_any is_none (joined rings)
  pub open_is : area.has_open_ring ≡ list_any is_open rings
  pub in_world : All IsInWorld (joined area.rings.items)

abbrev pub any_outside : Sketch → Bool
any_outside s = (list_any is_none s.points || list_any is_none (joined s.lines)) || list_any is_none (joined (rings_of s))

pub record IsDraft (draft : Draft) (s : Sketch) : Type 0 where
  pub points_are : draft.points.items ≡ map settled s.points
  pub lines_are : draft.lines.items ≡ map (map settled) s.lines
  pub areas_are : draft.areas.items ≡ map (map (map settled)) s.areas
  pub count_is : draft.count ≡ length s.points + length (joined s.lines) + length (joined (rings_of s))
  pub outside_is : draft.outside ≡ any_outside s
  pub open_is : draft.has_open_ring ≡ has_open_ring s
  pub points_in_world : All IsInWorld draft.points.items
  pub lines_in_world : All IsInWorld (joined draft.lines.items)
  pub rings_in_world : All IsInWorld (joined (joined draft.areas.items))
  pub long_lines : All (λ line. 2 ≤ length line) draft.lines.items
  pub filled_areas : All (λ area. 1 ≤ length area) draft.areas.items

-- what is read is what is there; the shape is bad exactly where nothing is; memory is free
abbrev pub Reads : {A B : Type 0} → (A → B → Type 0) → Result A GeomFault → Option B → Type 0
Reads R (Ok x) (Some y) = R x y
Reads R (Ok x) None = ⊥
Reads R (Err BadShape) (Some y) = ⊥
Reads R (Err BadShape) None = Unit {0}
Reads R (Err OutOfMemory) y = Unit {0}
Reads R (Err OpenRing) y = ⊥
Reads R (Err OutOfWorld) y = ⊥
Reads R (Err (TooManyPositions count)) y = ⊥

-- what is drawn is added to the sketch; the shape is bad exactly where nothing is; memory is free
abbrev pub Adds : Result (Unit {0}) GeomFault → Option Sketch → Sketch → Draft → Type 0
Adds (Ok x) (Some t) s draft = IsDraft draft (beside s t)
Adds (Ok x) None s draft = ⊥
Adds (Err BadShape) (Some t) s draft = ⊥
Adds (Err BadShape) None s draft = Unit {0}
Adds (Err OutOfMemory) t s draft = Unit {0}
Adds (Err OpenRing) t s draft = ⊥
Adds (Err OutOfWorld) t s draft = ⊥
Adds (Err (TooManyPositions count)) t s draft = ⊥

-- what the tree depicts is added to the sketch; the shape is bad exactly where it depicts nothing; memory is free
abbrev pub Depicted : Result (Unit {0}) GeomFault → Json → Sketch → Draft → Type 0
Depicted (Ok x) tree s draft = (t : Sketch) × Depicts tree t × IsDraft draft (beside s t)
Depicted (Err BadShape) tree s draft = (t : Sketch) → Depicts tree t → ⊥
Depicted (Err OutOfMemory) tree s draft = Unit {0}
Depicted (Err OpenRing) tree s draft = ⊥
Depicted (Err OutOfWorld) tree s draft = ⊥
Depicted (Err (TooManyPositions count)) tree s draft = ⊥

abbrev pub AllDepicted : Result (Unit {0}) GeomFault → List Json → Sketch → Draft → Type 0
AllDepicted (Ok x) trees s draft = (t : Sketch) × AllDepict trees t × IsDraft draft (beside s t)
AllDepicted (Err BadShape) trees s draft = (t : Sketch) → AllDepict trees t → ⊥
AllDepicted (Err OutOfMemory) trees s draft = Unit {0}
AllDepicted (Err OpenRing) trees s draft = ⊥
AllDepicted (Err OutOfWorld) trees s draft = ⊥
AllDepicted (Err (TooManyPositions count)) trees s draft = ⊥

-- the whole sketch is a geometry
pub record Completes (s : Sketch) (g : Shapes Pt) : Type 0 where
  pub same : s ≡ map_shapes Some g
  pub sound : IsGeometry g

-- what the end of a sketch gives
abbrev pub Finishes : Result (Shapes Pt) GeomFault → Sketch → ℕ → Type 0
Finishes (Ok g) s most = Completes s g × (count_of g ≤ most)
Finishes (Err BadShape) s most = count_of s ≡ 0
Finishes (Err OpenRing) s most = (1 ≤ count_of s) × (has_open_ring s ≡ true)
Finishes (Err OutOfWorld) s most = (1 ≤ count_of s) × (has_open_ring s ≡ false) × (leaves_world s ≡ true)
Finishes (Err (TooManyPositions count)) s most = (g : Shapes Pt) × Completes s g × (count ≡ count_of g) × (most < count)
Finishes (Err OutOfMemory) s most = Unit {0}
