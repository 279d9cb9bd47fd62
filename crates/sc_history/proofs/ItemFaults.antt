-- A tree that is no item has one first fault, and so has an item that can't be patched.
use Rattle.std.proofs.Common.{◌≡◌, ℕ, ◌≤◌, false, ◌||◌, ◌&&◌, not, List, [], ◌∷◌, ◌++◌, length, map, Option, Some, None, refl, ap, sym, subst, ◌∙◌, arith, nat_lt}
use Rattle.std.specs.Prelude.{All, is_none}
use Rattle.std.specs.List.{list_any}
use Rattle.std.proofs.lemmas.Bool.Decides.{nat_tests, Decides-int_eq}
use Rattle.std.proofs.lemmas.List.{map-append, length-map}
use Rattle.std.proofs.lemmas.List.Elements.{All-head, All-tail}
use Rattle.sc_json.specs.declared.tree.Json.{Json}
use Rattle.sc_json.specs.Member.{member_value}
use Rattle.sc_geom.specs.declared.point.Pt.{Pt}
use Rattle.sc_geom.specs.declared.fault.GeomFault.{GeomFault}
use Rattle.sc_geom.specs.declared.fault.GeomFault.TheVariants as geometry
use Rattle.sc_geom.specs.Shapes.{Shapes, joined, positions_of, map_shapes, last_behind}
use Rattle.sc_geom.specs.Sketch.{differ, is_open, has_open_ring, leaves_world}
use Rattle.sc_geom.specs.Geometry.{IsGeometry, IsRing}
use Rattle.sc_geom.specs.Answers.{GeomOf, count_of}
use Rattle.sc_geom.proofs.Depicting.{one_sketch}
use Rattle.sc_geom.proofs.Finished.{map_joined}
use Rattle.sc_item.specs.declared.fault.ItemFault.{ItemFault}
use Rattle.sc_item.specs.declared.fault.ItemFault.TheVariants.{NotAFeature, BadId, WrongCollection, BadTime, BadGeometry, OutOfMemory}
use Rattle.sc_item.specs.Words.{geometry_name}
use Rattle.sc_item.specs.Times.{times_in}
use Rattle.sc_item.specs.Shape.{IsShapeFault, IsGeometryFault}
use Rattle.sc_item.specs.Feature.{Feature}
use Rattle.sc_item.specs.Reading.{IsFault}
use Rattle.sc_item.specs.Memory.{is_memory}
use Rattle.sc_item.proofs.Lines.{one_shapes, one_value}
use Rattle.sc_item.proofs.Excluding.{no_fault}
use Rattle.sc_load.specs.Items.{CannotReplace, unread, renamed}
use Rattle.sc_load.specs.Patches.{IsBadPatch}
use Rattle.sc_history.proofs.Patching.{patched_once}
use Rattle.sc_history.proofs.Texts.{never}

-- ---- a whole geometry has no open ring, and lies in the world

none_is_out : (ps : List Pt) → list_any is_none (map Some ps) ≡ false
none_is_out [] = refl
none_is_out (p ∷ ps) = none_is_out ps

positions_are : (g : Shapes Pt) → positions_of (map_shapes Some g) ≡ map Some (positions_of g)
positions_are g =
    (λ k. (map Some g.points ++ map_joined Some g.lines k) ++ (ap joined (map_joined (map Some) g.areas) ∙ map_joined Some (joined g.areas)) k)
    ∙ ap (λ (x : List (Option Pt)). x ++ map Some (joined (joined g.areas))) (sym (map-append Some g.points (joined g.lines)))
    ∙ sym (map-append Some (g.points ++ joined g.lines) (joined (joined g.areas)))

stays_in : (g : Shapes Pt) → leaves_world (map_shapes Some g) ≡ false
stays_in g = ap (list_any is_none) (positions_are g) ∙ none_is_out (positions_of g)

last_some : (p : Pt) (ps : List Pt) → last_behind (Some p) (map Some ps) ≡ Some (last_behind p ps)
last_some p [] = refl
last_some p (q ∷ ps) = last_some q ps

not_apart : (p q : Pt) → Some p ≡ Some q → differ (Some p) (Some q) ≡ false
not_apart p q e =
    let same : p ≡ q = cc in
    subst (λ (x : Pt). differ (Some p) (Some x) ≡ false) same
    (ap not ((λ k. (Decides-int_eq p.x p.x).1 refl k && (Decides-int_eq p.y p.y).1 refl k)))

ring_shut : (ring : List Pt) → IsRing ring → is_open (map Some ring) ≡ false
ring_shut [] r = absurd (omega (arith, r.long))
ring_shut (p ∷ ps) r =
    let many : length (map Some (p ∷ ps)) ≡ length (p ∷ ps) = length-map (p ∷ ps) Some in
    let few : nat_lt (length (map Some (p ∷ ps))) 4 ≡ false = grind (arith, nat_tests, r.long) in
    let ends : differ (Some p) (last_behind (Some p) (map Some ps)) ≡ false =
    subst (λ (x : Option Pt). differ (Some p) x ≡ false) (sym (last_some p ps)) (not_apart p (last_behind p ps) r.closed) in
    λ k. (few k || ends k)

rings_shut : (rings : List (List Pt)) → All IsRing rings → list_any is_open (map (map Some) rings) ≡ false
rings_shut [] all = refl
rings_shut (r ∷ rs) all = λ k. (ring_shut r (All-head IsRing r rs all) k || rings_shut rs (All-tail IsRing r rs all) k)

is_shut : (g : Shapes Pt) → IsGeometry g → has_open_ring (map_shapes Some g) ≡ false
is_shut g s = ap (list_any is_open) (map_joined (map Some) g.areas) ∙ rings_shut (joined g.areas) s.rings

some_there : {R : Type 0} (value : Json) (g : Shapes Pt) → GeomOf value g → count_of (map_shapes Some g) ≡ 0 → R
some_there value g is none =
    let count : count_of (map_shapes Some g) ≡ count_of g = ap length (positions_are g) ∙ length-map (positions_of g) Some in
    let some : 1 ≤ count_of g = is.sound.some in
    absurd (omega (arith, none, count, some))

-- ---- the fault of a geometry

one_geometry_fault : (value : Json) (f g : GeomFault) → IsGeometryFault value f → IsGeometryFault value g → f ≡ g
one_geometry_fault value geometry.OutOfMemory g h k = absurd h
one_geometry_fault value geometry.BadShape geometry.OutOfMemory h k = absurd k
one_geometry_fault value geometry.OpenRing geometry.OutOfMemory h k = absurd k
one_geometry_fault value geometry.OutOfWorld geometry.OutOfMemory h k = absurd k
one_geometry_fault value (geometry.TooManyPositions n) geometry.OutOfMemory h k = absurd k
one_geometry_fault value geometry.BadShape geometry.BadShape h k = refl
one_geometry_fault value geometry.BadShape geometry.OpenRing h (s, o) = let none = h s o.depicted in let some = o.some in absurd (omega (arith, none, some))
one_geometry_fault value geometry.BadShape geometry.OutOfWorld h (s, o) = let none = h s o.depicted in let some = o.some in absurd (omega (arith, none, some))
one_geometry_fault value geometry.BadShape (geometry.TooManyPositions n) h (g, m) = some_there value g m.geometry (h (map_shapes Some g) m.geometry.depicted)
one_geometry_fault value geometry.OpenRing geometry.BadShape (s, o) k = let none = k s o.depicted in let some = o.some in absurd (omega (arith, none, some))
one_geometry_fault value geometry.OutOfWorld geometry.BadShape (s, o) k = let none = k s o.depicted in let some = o.some in absurd (omega (arith, none, some))
one_geometry_fault value (geometry.TooManyPositions n) geometry.BadShape (g, m) k = some_there value g m.geometry (k (map_shapes Some g) m.geometry.depicted)
one_geometry_fault value geometry.OpenRing geometry.OpenRing h k = refl
one_geometry_fault value geometry.OpenRing geometry.OutOfWorld (s, o) (t, w) =
    never (has_open_ring s) o.ring (ap has_open_ring (one_sketch value s t o.depicted w.depicted) ∙ w.closed)
one_geometry_fault value geometry.OutOfWorld geometry.OpenRing (t, w) (s, o) =
    never (has_open_ring s) o.ring (ap has_open_ring (one_sketch value s t o.depicted w.depicted) ∙ w.closed)
one_geometry_fault value geometry.OpenRing (geometry.TooManyPositions n) (s, o) (g, m) =
    never (has_open_ring s) o.ring (ap has_open_ring (one_sketch value s (map_shapes Some g) o.depicted m.geometry.depicted) ∙ is_shut g m.geometry.sound)
one_geometry_fault value (geometry.TooManyPositions n) geometry.OpenRing (g, m) (s, o) =
    never (has_open_ring s) o.ring (ap has_open_ring (one_sketch value s (map_shapes Some g) o.depicted m.geometry.depicted) ∙ is_shut g m.geometry.sound)
one_geometry_fault value geometry.OutOfWorld geometry.OutOfWorld h k = refl
one_geometry_fault value geometry.OutOfWorld (geometry.TooManyPositions n) (s, w) (g, m) =
    never (leaves_world s) w.leaves (ap leaves_world (one_sketch value s (map_shapes Some g) w.depicted m.geometry.depicted) ∙ stays_in g)
one_geometry_fault value (geometry.TooManyPositions n) geometry.OutOfWorld (g, m) (s, w) =
    never (leaves_world s) w.leaves (ap leaves_world (one_sketch value s (map_shapes Some g) w.depicted m.geometry.depicted) ∙ stays_in g)
one_geometry_fault value (geometry.TooManyPositions n) (geometry.TooManyPositions n') (g, m) (g', m') =
    let same : g ≡ g' = one_shapes g g' (one_sketch value (map_shapes Some g) (map_shapes Some g') m.geometry.depicted m'.geometry.depicted) in
    let count : n ≡ n' = m.counted ∙ ap count_of same ∙ sym m'.counted in
    λ i. geometry.TooManyPositions (count i)

one_shape_fault : (value : Option Json) (f g : Option GeomFault) → IsShapeFault value f → IsShapeFault value g → f ≡ g
one_shape_fault None None None h k = refl
one_shape_fault None None (Some g) h k = absurd k
one_shape_fault None (Some f) g h k = absurd h
one_shape_fault (Some value) None g h k = absurd h
one_shape_fault (Some value) (Some f) None h k = absurd k
one_shape_fault (Some value) (Some f) (Some g) h k = ap (λ x. Some x) (one_geometry_fault value f g h.1 k.1)

-- ---- the fault of a tree

two_times : {A R : Type 0} (o : Option A) (t : A) → o ≡ None → o ≡ Some t → R
two_times o t p q = absurd cc

one_item_fault : (collection : List ℕ) (tree : Json) (f g : ItemFault) → is_memory f ≡ false → is_memory g ≡ false → IsFault collection tree f → IsFault collection tree g → f ≡ g
one_item_fault collection tree OutOfMemory g m n h k = absurd cc
one_item_fault collection tree NotAFeature OutOfMemory m n h k = absurd cc
one_item_fault collection tree BadId OutOfMemory m n h k = absurd cc
one_item_fault collection tree WrongCollection OutOfMemory m n h k = absurd cc
one_item_fault collection tree BadTime OutOfMemory m n h k = absurd cc
one_item_fault collection tree (BadGeometry f) OutOfMemory m n h k = absurd cc
one_item_fault collection tree NotAFeature NotAFeature m n h k = refl
one_item_fault collection tree NotAFeature BadId m n h k = absurd (h k.properties k.feature)
one_item_fault collection tree NotAFeature WrongCollection m n h k = absurd (h k.properties k.feature)
one_item_fault collection tree NotAFeature BadTime m n h k = absurd (h k.properties k.feature)
one_item_fault collection tree NotAFeature (BadGeometry g) m n h k = absurd (h k.properties k.feature)
one_item_fault collection tree BadId NotAFeature m n h k = absurd (k h.properties h.feature)
one_item_fault collection tree WrongCollection NotAFeature m n h k = absurd (k h.properties h.feature)
one_item_fault collection tree BadTime NotAFeature m n h k = absurd (k h.properties h.feature)
one_item_fault collection tree (BadGeometry f) NotAFeature m n h k = absurd (k h.properties h.feature)
one_item_fault collection tree BadId BadId m n h k = refl
one_item_fault collection tree BadId WrongCollection m n h k = absurd (h.none k.id k.id_is)
one_item_fault collection tree BadId BadTime m n h k = absurd (h.none k.id k.id_is)
one_item_fault collection tree BadId (BadGeometry g) m n h k = absurd (h.none k.parts.id k.id_is)
one_item_fault collection tree WrongCollection BadId m n h k = absurd (k.none h.id h.id_is)
one_item_fault collection tree BadTime BadId m n h k = absurd (k.none h.id h.id_is)
one_item_fault collection tree (BadGeometry f) BadId m n h k = absurd (k.none h.parts.id h.id_is)
one_item_fault collection tree WrongCollection WrongCollection m n h k = refl
one_item_fault collection tree WrongCollection BadTime m n h k = absurd (h.other k.belongs)
one_item_fault collection tree WrongCollection (BadGeometry g) m n h k = absurd (h.other k.belongs)
one_item_fault collection tree BadTime WrongCollection m n h k = absurd (k.other h.belongs)
one_item_fault collection tree (BadGeometry f) WrongCollection m n h k = absurd (k.other h.belongs)
one_item_fault collection tree BadTime BadTime m n h k = refl
one_item_fault collection tree BadTime (BadGeometry g) m n h k =
    let same : h.properties ≡ k.properties = one_value h.properties k.properties (sym h.feature.there ∙ k.feature.there) in
    two_times (times_in h.properties) _ h.none (ap times_in same ∙ k.times)
one_item_fault collection tree (BadGeometry f) BadTime m n h k =
    let same : k.properties ≡ h.properties = one_value k.properties h.properties (sym k.feature.there ∙ h.feature.there) in
    two_times (times_in k.properties) _ k.none (ap times_in same ∙ h.times)
one_item_fault collection tree (BadGeometry f) (BadGeometry g) m n h k = ap (λ x. BadGeometry x) (one_shape_fault (member_value tree geometry_name) f g h.none k.none)

-- ---- the fault of a patch

one_replacement_fault : (collection id : List ℕ) (tree : Json) (f g : ItemFault) → CannotReplace collection id tree f → CannotReplace collection id tree g → f ≡ g
one_replacement_fault collection id tree _ _ (unread f bad) (unread g bad') = one_item_fault collection tree f g bad.told bad'.told bad.fault_is bad'.fault_is
one_replacement_fault collection id tree _ _ (unread f bad) (renamed item is other) = absurd (no_fault collection tree f bad.told bad.fault_is item is)
one_replacement_fault collection id tree _ _ (renamed item is other) (unread g bad') = absurd (no_fault collection tree g bad'.told bad'.fault_is item is)
one_replacement_fault collection id tree _ _ (renamed item is other) (renamed item' is' other') = refl

pub one_patch_fault : (old : Feature) (patch : Json) (f g : ItemFault) → IsBadPatch old patch f → IsBadPatch old patch g → f ≡ g
one_patch_fault old patch f g b c =
    let tree = patched_once old.tree patch b.merged c.merged b.merged_is c.merged_is in
    one_replacement_fault old.collection old.id c.merged f g (subst (λ t. CannotReplace old.collection old.id t f) tree b.cannot) c.cannot
