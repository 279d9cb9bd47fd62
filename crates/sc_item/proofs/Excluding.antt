-- A tree that is an item has no fault.
use Rattle.std.proofs.Common.{◌≡◌, ℕ, ◌≤◌, Bool, true, false, ◌||◌, ◌&&◌, not, List, [], ◌∷◌, ◌++◌, length, map, Option, Some, None, Err, refl, ap, sym, subst, ◌∙◌, arith, nat_lt}
use Rattle.std.specs.Prelude.{All, is_none}
use Rattle.std.specs.List.{list_any}
use Rattle.std.proofs.lemmas.Bool.Decides.{nat_tests, Decides-int_eq}
use Rattle.std.proofs.lemmas.List.{map-append, length-map}
use Rattle.std.proofs.lemmas.List.Elements.{All-head, All-tail}
use Rattle.sc_json.specs.declared.tree.Json.{Json}
use Rattle.sc_json.specs.declared.fault.JsonFault.{JsonFault}
use Rattle.sc_json.specs.declared.fault.JsonFault.TheVariants as json
use Rattle.sc_json.specs.Faults as texts
use Rattle.sc_json.specs.Member.{member_value}
use Rattle.sc_json.proofs.Answered.{fault_excludes}
use Rattle.sc_geom.specs.declared.point.Pt.{Pt}
use Rattle.sc_geom.specs.declared.fault.GeomFault.{GeomFault}
use Rattle.sc_geom.specs.declared.fault.GeomFault.TheVariants as geometry
use Rattle.sc_geom.specs.Shapes.{Shapes, joined, positions_of, map_shapes, last_behind}
use Rattle.sc_geom.specs.Sketch.{differ, is_open, has_open_ring, leaves_world}
use Rattle.sc_geom.specs.Geometry.{IsGeometry, IsRing}
use Rattle.sc_geom.specs.Answers.{GeomOf, count_of}
use Rattle.sc_geom.proofs.Depicting.{one_sketch}
use Rattle.sc_geom.proofs.Finished.{map_joined}
use Rattle.sc_item.specs.declared.fault.ItemFault.{ItemFault}
use Rattle.sc_item.specs.declared.fault.ItemFault.TheVariants.{NotAFeature, BadId, WrongCollection, BadTime, BadGeometry, OutOfMemory}
use Rattle.sc_item.specs.declared.times.Times.{Times}
use Rattle.sc_item.specs.Words.{geometry_name}
use Rattle.sc_item.specs.Trees.{is_null}
use Rattle.sc_item.specs.Times.{times_in}
use Rattle.sc_item.specs.Shape.{IsShape, IsShapeFault, IsGeometryFault, Shaped}
use Rattle.sc_item.specs.Feature.{Feature}
use Rattle.sc_item.specs.Reading.{IsFeature, IsId, Belongs, IsItem, IsFault}
use Rattle.sc_item.specs.Line.{IsLine}
use Rattle.sc_item.specs.Memory.{is_memory, is_text_memory}
use Rattle.sc_item.proofs.Lines.{one_shapes, one_value}

-- ---- geometries

none_is_out : (ps : List Pt) → list_any is_none (map Some ps) ≡ false
none_is_out [] = refl
none_is_out (p ∷ ps) = none_is_out ps

positions_are : (g : Shapes Pt) → positions_of (map_shapes Some g) ≡ map Some (positions_of g)
positions_are g =
    (λ k. (map Some g.points ++ map_joined Some g.lines k) ++ (ap joined (map_joined (map Some) g.areas) ∙ map_joined Some (joined g.areas)) k)
    ∙ ap (λ (x : List (Option Pt)). x ++ map Some (joined (joined g.areas))) (sym (map-append Some g.points (joined g.lines)))
    ∙ sym (map-append Some (g.points ++ joined g.lines) (joined (joined g.areas)))

stays_in : (g : Shapes Pt) → leaves_world (map_shapes Some g) ≡ false
stays_in g = ap (list_any is_none) (positions_are g) ∙ none_is_out (positions_of g)

last_some : (p : Pt) (ps : List Pt) → last_behind (Some p) (map Some ps) ≡ Some (last_behind p ps)
last_some p [] = refl
last_some p (q ∷ ps) = last_some q ps

not_apart : (p q : Pt) → Some p ≡ Some q → differ (Some p) (Some q) ≡ false
not_apart p q e =
    let same : p ≡ q = cc in
    subst (λ (x : Pt). differ (Some p) (Some x) ≡ false) same
    (ap not ((λ k. (Decides-int_eq p.x p.x).1 refl k && (Decides-int_eq p.y p.y).1 refl k)))

ring_shut : (ring : List Pt) → IsRing ring → is_open (map Some ring) ≡ false
ring_shut [] r = absurd (omega (arith, r.long))
ring_shut (p ∷ ps) r =
    let many : length (map Some (p ∷ ps)) ≡ length (p ∷ ps) = length-map (p ∷ ps) Some in
    let few : nat_lt (length (map Some (p ∷ ps))) 4 ≡ false = grind (arith, nat_tests, r.long) in
    let ends : differ (Some p) (last_behind (Some p) (map Some ps)) ≡ false =
    subst (λ (x : Option Pt). differ (Some p) x ≡ false) (sym (last_some p ps)) (not_apart p (last_behind p ps) r.closed) in
    λ k. (few k || ends k)

rings_shut : (rings : List (List Pt)) → All IsRing rings → list_any is_open (map (map Some) rings) ≡ false
rings_shut [] all = refl
rings_shut (r ∷ rs) all = λ k. (ring_shut r (All-head IsRing r rs all) k || rings_shut rs (All-tail IsRing r rs all) k)

is_shut : (g : Shapes Pt) → IsGeometry g → has_open_ring (map_shapes Some g) ≡ false
is_shut g s = ap (list_any is_open) (map_joined (map Some) g.areas) ∙ rings_shut (joined g.areas) s.rings

true_false : (b : Bool) → b ≡ true → b ≡ false → ⊥
true_false b p q = absurd cc

no_geometry_fault : (value : Json) (g : Shapes Pt) (f : GeomFault) → GeomOf value g → count_of g ≤ 10000 → IsGeometryFault value f → ⊥
no_geometry_fault value g geometry.BadShape is few h =
    let none : count_of (map_shapes Some g) ≡ 0 = h (map_shapes Some g) is.depicted in
    let count : count_of (map_shapes Some g) ≡ count_of g = ap length (positions_are g) ∙ length-map (positions_of g) Some in
    let some : 1 ≤ count_of g = is.sound.some in
    absurd (omega (arith, none, count, some))
no_geometry_fault value g geometry.OpenRing is few (s, h) =
    let same : s ≡ map_shapes Some g = one_sketch value s (map_shapes Some g) h.depicted is.depicted in
    true_false (has_open_ring s) h.ring (ap has_open_ring same ∙ is_shut g is.sound)
no_geometry_fault value g geometry.OutOfWorld is few (s, h) =
    let same : s ≡ map_shapes Some g = one_sketch value s (map_shapes Some g) h.depicted is.depicted in
    true_false (leaves_world s) h.leaves (ap leaves_world same ∙ stays_in g)
no_geometry_fault value g (geometry.TooManyPositions count) is few (g', h) =
    let same : g' ≡ g = one_shapes g' g (one_sketch value (map_shapes Some g') (map_shapes Some g) h.geometry.depicted is.depicted) in
    let counts : count_of g' ≡ count_of g = ap count_of same in
    absurd (omega (arith, h.counted, h.above, counts, few))
no_geometry_fault value g geometry.OutOfMemory is few h = h

no_shape_fault : (value : Option Json) (geom : Option (Shapes Pt)) (f : Option GeomFault) → IsShape value geom → IsShapeFault value f → ⊥
no_shape_fault None geom f is h = absurd is
no_shape_fault (Some v) geom None is h = absurd h
no_shape_fault (Some v) None (Some f) is h = true_false (is_null v) is h.0
no_shape_fault (Some v) (Some g) (Some f) is h = no_geometry_fault v g f is.1 is.2 h.1

-- ---- items

two_times : (o : Option Times) (t : Times) → o ≡ None → o ≡ Some t → ⊥
two_times o t p q = absurd cc

pub no_fault : (collection : List ℕ) (tree : Json) (f : ItemFault) → is_memory f ≡ false → IsFault collection tree f → (item : Feature) → IsItem collection tree item → ⊥
no_fault collection tree NotAFeature m h item i = h i.parts.properties i.parts.feature
no_fault collection tree BadId m h item i = h.none item.id i.parts.id_is
no_fault collection tree WrongCollection m h item i = h.other i.parts.belongs
no_fault collection tree BadTime m h item i =
    let same : h.properties ≡ i.parts.properties = one_value h.properties i.parts.properties (sym h.feature.there ∙ i.parts.feature.there) in
    two_times (times_in h.properties) _ h.none (ap times_in same ∙ i.parts.times)
no_fault collection tree (BadGeometry f) m h item i = no_shape_fault (member_value tree geometry_name) item.geom f i.parts.shape h.none
no_fault collection tree OutOfMemory m h item i = absurd cc

-- what is read up to the geometry, and its fault
pub shape_fault : (collection : List ℕ) (tree properties : Json) (id : List ℕ) (times : Times) (f : ItemFault) → IsFeature tree properties → IsId tree id → Belongs collection tree →
    times_in properties ≡ Some times → Shaped (member_value tree geometry_name) (Err f) → IsFault collection tree f
shape_fault collection tree properties id times NotAFeature a b c d s = absurd s
shape_fault collection tree properties id times BadId a b c d s = absurd s
shape_fault collection tree properties id times WrongCollection a b c d s = absurd s
shape_fault collection tree properties id times BadTime a b c d s = absurd s
shape_fault collection tree properties id times (BadGeometry f) a b c d s =
    record { properties = properties; parts = record { id = id; times = times; geom = None }; feature = a; id_is = b; belongs = c; times = d; none = s }
shape_fault collection tree properties id times OutOfMemory a b c d s = tt

-- ---- lines

-- a text with a fault spells no item
pub refused_line : (line : List ℕ) (f : JsonFault) → is_text_memory f ≡ false → texts.Answers line (Err f) → (item : Feature) → IsLine line item → ⊥
refused_line line (json.Syntax at) m a item i = fault_excludes line (json.Syntax at) i.tree a i.spelled
refused_line line (json.Duplicate at) m a item i = fault_excludes line (json.Duplicate at) i.tree a i.spelled
refused_line line (json.TooDeep at) m a item i = fault_excludes line (json.TooDeep at) i.tree a i.spelled
refused_line line (json.NumberTooWide at) m a item i = fault_excludes line (json.NumberTooWide at) i.tree a i.spelled
refused_line line (json.NotUtf8 at) m a item i = fault_excludes line (json.NotUtf8 at) i.tree a i.spelled
refused_line line json.OutOfMemory m a item i = absurd cc
