-- What is known of a part says what is answered of the whole.
use Rattle.std.proofs.Common.{◌≡◌, ℕ, ◌<◌, List, length, get_or, Option, Some, None, Result, Ok, Err, refl, ap, sym, subst, ◌∙◌}
use Rattle.std.specs.Prelude.{nat_eq}
use Rattle.std.specs.Option.{option_map}
use Rattle.std.specs.Cmp.Lexicographic.{pointwise}
use Rattle.sc_json.specs.declared.tree.Json.{Json}
use Rattle.sc_json.specs.declared.tree.Json.TheVariants.{List as ListJson, Object, rolls-List, rolls-Object}
use Rattle.sc_json.specs.declared.tree.Json.TheViews.{out-Json, out-roll-Json}
use Rattle.sc_json.specs.declared.tree.Json.TheOpen as layer
use Rattle.sc_json.specs.declared.tree.Member.{Member, out-Member}
use Rattle.sc_geom.specs.declared.point.Pt.{Pt}
use Rattle.sc_geom.specs.declared.draft.Draft.{Draft}
use Rattle.sc_geom.specs.declared.kind.Kind.{Kind}
use Rattle.sc_geom.specs.declared.kind.Kind.TheVariants.{GeometryCollection}
use Rattle.sc_geom.specs.declared.fault.GeomFault.{GeomFault}
use Rattle.sc_geom.specs.declared.fault.GeomFault.TheVariants.{BadShape, OpenRing, OutOfWorld, TooManyPositions, OutOfMemory}
use Rattle.sc_geom.specs.Shapes.{Shapes}
use Rattle.sc_geom.specs.Sketch.{Sketch}
use Rattle.sc_geom.specs.Tree.{list_in, members_in, list_of, members_of, member_named, index_named}
use Rattle.sc_geom.specs.Kinds.{coordinates_name, geometries_name}
use Rattle.sc_geom.specs.Drawn.{drawn}
use Rattle.sc_geom.specs.Depicts.{Depicts, AllDepict, by_coordinates, by_geometries, kind_in}
use Rattle.sc_geom.specs.Building.{Adds, Depicted, AllDepicted, Finishes}
use Rattle.sc_geom.specs.Answers.{Answers, IsFault, count_of}
use Rattle.sc_geom.proofs.Members.{found_at, found_nowhere}
use Rattle.sc_geom.proofs.Depicting.{one_sketch, none_drawn, collected, AllDepict-at}

pub members_of-object : (members : List Member) → members_of (Object members) ≡ Some members
unfolding members_of
members_of-object members = ap (λ (t : Json). members_in (out-Json t)) (sym (rolls-Object members)) ∙ ap members_in (out-roll-Json (layer.Object members))

pub list_of-list : (elements : List Json) → list_of (ListJson elements) ≡ Some elements
unfolding list_of
list_of-list elements = ap (λ (t : Json). list_in (out-Json t)) (sym (rolls-List elements)) ∙ ap list_in (out-roll-Json (layer.List elements))

pub named_at : (name : List ℕ) (members : List Member) (i : ℕ) (x : Member) → index_named name members ≡ Some i → x ≡ get_or members i x → member_named name members ≡ Some (out-Member x).value
named_at name members i x e is = ap (option_map (λ (m : Member). (out-Member m).value)) (found_at (λ (m : Member). pointwise nat_eq (out-Member m).name name) members i x e is)

pub named_nowhere : (name : List ℕ) (members : List Member) → index_named name members ≡ None → member_named name members ≡ None
named_nowhere name members e = ap (option_map (λ (m : Member). (out-Member m).value)) (found_nowhere (λ (m : Member). pointwise nat_eq (out-Member m).name name) members e)

drawn_as : (o : Option Sketch) (r : Result (Unit {0}) GeomFault) (tree : Json) (members : List Member) (kind : Kind) (value : Json) (s : Sketch) (draft : Draft) →
    members_of tree ≡ Some members → kind_in members ≡ Some kind → (kind ≡ GeometryCollection → ⊥) → member_named coordinates_name members ≡ Some value →
    drawn kind value ≡ o → Adds r o s draft → Depicted r tree s draft
drawn_as (Some t) (Ok x) tree members kind value s draft m k not v d a = (t, by_coordinates tree members kind value t m k v d, a)
drawn_as None (Ok x) tree members kind value s draft m k not v d a = absurd a
drawn_as (Some t) (Err BadShape) tree members kind value s draft m k not v d a = absurd a
drawn_as None (Err BadShape) tree members kind value s draft m k not v d a = λ t. none_drawn tree members kind value t m k not v d
drawn_as o (Err OutOfMemory) tree members kind value s draft m k not v d a = tt
drawn_as o (Err OpenRing) tree members kind value s draft m k not v d a = absurd a
drawn_as o (Err OutOfWorld) tree members kind value s draft m k not v d a = absurd a
drawn_as o (Err (TooManyPositions count)) tree members kind value s draft m k not v d a = absurd a

pub drawn_result : (r : Result (Unit {0}) GeomFault) (tree : Json) (members : List Member) (kind : Kind) (value : Json) (s : Sketch) (draft : Draft) →
    members_of tree ≡ Some members → kind_in members ≡ Some kind → (kind ≡ GeometryCollection → ⊥) → member_named coordinates_name members ≡ Some value →
    Adds r (drawn kind value) s draft → Depicted r tree s draft
drawn_result r tree members kind value s draft m k not v a = drawn_as (drawn kind value) r tree members kind value s draft m k not v refl a

pub collected_result : (r : Result (Unit {0}) GeomFault) (tree : Json) (members : List Member) (value : Json) (trees : List Json) (s : Sketch) (draft : Draft) →
    members_of tree ≡ Some members → kind_in members ≡ Some GeometryCollection → member_named geometries_name members ≡ Some value → list_of value ≡ Some trees →
    AllDepicted r trees s draft → Depicted r tree s draft
collected_result (Ok x) tree members value trees s draft m k v l a = (a.0, by_geometries tree members value trees a.0 m k v l a.1, a.2)
collected_result (Err BadShape) tree members value trees s draft m k v l a = λ t d.
    let c = collected tree members t m k d in
    let same : c.0 ≡ value = cc in
    let same_trees : c.1 ≡ trees = cc in
    a t (subst (λ (l : List Json). AllDepict l t) same_trees c.4)
collected_result (Err OutOfMemory) tree members value trees s draft m k v l a = tt
collected_result (Err OpenRing) tree members value trees s draft m k v l a = absurd a
collected_result (Err OutOfWorld) tree members value trees s draft m k v l a = absurd a
collected_result (Err (TooManyPositions count)) tree members value trees s draft m k v l a = absurd a

pub none_listed : (tree : Json) (members : List Member) (value : Json) → members_of tree ≡ Some members → kind_in members ≡ Some GeometryCollection →
    member_named geometries_name members ≡ Some value → list_of value ≡ None → (t : Sketch) → Depicts tree t → ⊥
none_listed tree members value m k v n t d =
    let c = collected tree members t m k d in
    let same : c.0 ≡ value = cc in
    let listed : list_of value ≡ Some c.1 = ap list_of (sym same) ∙ c.3 in
    cc

pub nowhere_collected : (tree : Json) (members : List Member) → members_of tree ≡ Some members → kind_in members ≡ Some GeometryCollection →
    member_named geometries_name members ≡ None → (t : Sketch) → Depicts tree t → ⊥
nowhere_collected tree members m k n t d = let c = collected tree members t m k d in let named : member_named geometries_name members ≡ Some c.0 = c.2 in cc

pub stopped_depicting : (e : GeomFault) (trees : List Json) (i : ℕ) (tree : Json) (s u : Sketch) (draft draft' : Draft) → i < length trees → tree ≡ get_or trees i tree →
    Depicted (Err e) tree u draft → AllDepicted (Err e) trees s draft'
stopped_depicting BadShape trees i tree s u draft draft' h is d = λ t all. let at = AllDepict-at trees t i tree h is all in d at.0 at.1
stopped_depicting OutOfMemory trees i tree s u draft draft' h is d = tt
stopped_depicting OpenRing trees i tree s u draft draft' h is d = absurd d
stopped_depicting OutOfWorld trees i tree s u draft draft' h is d = absurd d
stopped_depicting (TooManyPositions count) trees i tree s u draft draft' h is d = absurd d

pub fault_result : (e : GeomFault) (tree : Json) (most : ℕ) (s : Sketch) (draft : Draft) → Depicted (Err e) tree s draft → IsFault tree most e
fault_result BadShape tree most s draft d = λ t is. absurd (d t is)
fault_result OutOfMemory tree most s draft d = tt
fault_result OpenRing tree most s draft d = absurd d
fault_result OutOfWorld tree most s draft d = absurd d
fault_result (TooManyPositions count) tree most s draft d = absurd d

pub finished_result : (r : Result (Shapes Pt) GeomFault) (tree : Json) (s : Sketch) (most : ℕ) → Depicts tree s → Finishes r s most → Answers tree most r
finished_result (Ok g) tree s most d f = (record { depicted = subst (Depicts tree) f.0.same d; sound = f.0.sound }, f.1)
finished_result (Err BadShape) tree s most d f = λ t is. ap count_of (one_sketch tree t s is d) ∙ f
finished_result (Err OpenRing) tree s most d f = (s, record { depicted = d; some = f.0; ring = f.1 })
finished_result (Err OutOfWorld) tree s most d f = (s, record { depicted = d; some = f.0; closed = f.1; leaves = f.2 })
finished_result (Err (TooManyPositions count)) tree s most d f = (f.0, record { geometry = record { depicted = subst (Depicts tree) f.1.same d; sound = f.1.sound }; counted = f.2; above = f.3 })
finished_result (Err OutOfMemory) tree s most d f = tt
