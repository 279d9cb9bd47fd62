-- A tree that is refused as a geometry is none of at most 1,000 positions.
use Rattle.std.proofs.Common.{◌≡◌, ℕ, ◌≤◌, Bool, true, false, ◌||◌, not, List, [], ◌∷◌, ◌++◌, length, map, Option, Some, refl, sym, ap, ◌∙◌, arith, nat_lt}
use Rattle.std.specs.Prelude.{is_none}
use Rattle.std.specs.List.{list_any}
use Rattle.std.specs.Ordering.{int_eq}
use Rattle.std.proofs.lemmas.Bool.Decides.{nat_tests, Decides-int_eq}
use Rattle.std.proofs.lemmas.List.{map-append, length-map}
use Rattle.std.proofs.lemmas.List.Elements.{recursion_from_All}
use Rattle.std.specs.List.{AllByRecursion}
use Rattle.sc_json.specs.declared.tree.Json.{Json}
use Rattle.sc_geom.specs.declared.point.Pt.{Pt}
use Rattle.sc_geom.specs.declared.fault.GeomFault.{GeomFault}
use Rattle.sc_geom.specs.declared.fault.GeomFault.TheVariants.{BadShape, OpenRing, OutOfWorld, TooManyPositions, OutOfMemory}
use Rattle.sc_geom.specs.Shapes.{Shapes, positions_of, joined, rings_of, map_shapes, last_behind}
use Rattle.sc_geom.specs.Geometry.{IsRing}
use Rattle.sc_geom.specs.Sketch.{is_same, differ, is_open, has_open_ring, leaves_world}
use Rattle.sc_geom.specs.Answers.{GeomOf, IsFault, count_of}
use Rattle.sc_geom.proofs.Depicting.{one_sketch}
use Rattle.sc_geom.proofs.Finished.{map_joined}
use Rattle.sc_cqljson.specs.Drawn.{PlainOf}
use Rattle.sc_cqljson.specs.Told.{CantBeDrawn, fault_by}
use Rattle.sc_cqljson.proofs.Unique.{one_geometry}

rings_kept : (g : Shapes Pt) → rings_of (map_shapes Some g) ≡ map (map Some) (rings_of g)
rings_kept g = map_joined (map Some) g.areas

positions_kept : (g : Shapes Pt) → positions_of (map_shapes Some g) ≡ map Some (positions_of g)
positions_kept g =
    ap (λ (r : List (Option Pt)). map Some g.points ++ r ++ joined (rings_of (map_shapes Some g))) (map_joined Some g.lines)
    ∙ ap (λ (r : List (List (Option Pt))). map Some g.points ++ map Some (joined g.lines) ++ joined r) (rings_kept g)
    ∙ ap (λ (r : List (Option Pt)). map Some g.points ++ map Some (joined g.lines) ++ r) (map_joined Some (rings_of g))
    ∙ ap (λ (r : List (Option Pt)). r ++ map Some (joined (rings_of g))) (sym (map-append Some g.points (joined g.lines)))
    ∙ sym (map-append Some (g.points ++ joined g.lines) (joined (rings_of g)))

count_kept : (g : Shapes Pt) → count_of (map_shapes Some g) ≡ count_of g
count_kept g = ap length (positions_kept g) ∙ length-map (positions_of g) Some

none_outside : (ps : List Pt) → list_any is_none (map Some ps) ≡ false
none_outside [] = refl
none_outside (p ∷ ps) = none_outside ps

stays : (g : Shapes Pt) → leaves_world (map_shapes Some g) ≡ false
stays g = ap (list_any is_none) (positions_kept g) ∙ none_outside (positions_of g)

last_kept : (p : Pt) (ps : List Pt) → last_behind (Some p) (map Some ps) ≡ Some (last_behind p ps)
last_kept p [] = refl
last_kept p (q ∷ qs) = last_kept q qs

same_self : (p : Pt) → is_same p p ≡ true
same_self p =
    let x : int_eq p.x p.x ≡ true = (Decides-int_eq p.x p.x).1 refl in
    let y : int_eq p.y p.y ≡ true = (Decides-int_eq p.y p.y).1 refl in
    cc

differs_not : (p q : Pt) → p ≡ q → differ (Some p) (Some q) ≡ false
differs_not p q e = ap (λ (r : Pt). not (is_same p r)) (sym e) ∙ ap not (same_self p)

long_enough : (n : ℕ) → 4 ≤ n → nat_lt n 4 ≡ false
long_enough n le = grind (arith, nat_tests)

ring_closed : (ring : List Pt) → IsRing ring → is_open (map Some ring) ≡ false
ring_closed [] is = absurd (omega (arith, is.long))
ring_closed (p ∷ ps) is =
    let closed : Some p ≡ Some (last_behind p ps) = is.closed in
    let ends : p ≡ last_behind p ps = cc in
    let few : nat_lt (length (map Some (p ∷ ps))) 4 ≡ false = ap (λ n. nat_lt n 4) (length-map (p ∷ ps) Some) ∙ long_enough (length (p ∷ ps)) is.long in
    let apart : differ (Some p) (last_behind (Some p) (map Some ps)) ≡ false = ap (differ (Some p)) (last_kept p ps) ∙ differs_not p (last_behind p ps) ends in
    ap (λ (b : Bool). b || differ (Some p) (last_behind (Some p) (map Some ps))) few ∙ apart

rings_closed : (rings : List (List Pt)) → AllByRecursion IsRing rings → list_any is_open (map (map Some) rings) ≡ false
rings_closed [] all = refl
rings_closed (r ∷ rs) all = ap (λ (b : Bool). b || list_any is_open (map (map Some) rs)) (ring_closed r all.0) ∙ rings_closed rs all.1

closed : (tree : Json) (g : Shapes Pt) → GeomOf tree g → has_open_ring (map_shapes Some g) ≡ false
closed tree g is = ap (list_any is_open) (rings_kept g) ∙ rings_closed (rings_of g) (recursion_from_All IsRing (rings_of g) is.sound.rings)

pub refused : (tree : Json) (fault : GeomFault) → IsFault tree 1000 fault → CantBeDrawn (PlainOf tree) (fault_by fault)
refused tree BadShape f = (refl, λ g is. omega (arith, f (map_shapes Some g) is.is.depicted, count_kept g, is.is.sound.some))
refused tree OpenRing f = (
  refl,
  λ g is.
      let e : f.0 ≡ map_shapes Some g = one_sketch tree f.0 (map_shapes Some g) f.1.depicted is.is.depicted in
      let t : true ≡ false = sym f.1.ring ∙ ap has_open_ring e ∙ closed tree g is.is in
      cc,
)
refused tree OutOfWorld f = (
  refl,
  λ g is.
      let e : f.0 ≡ map_shapes Some g = one_sketch tree f.0 (map_shapes Some g) f.1.depicted is.is.depicted in
      let t : true ≡ false = sym f.1.leaves ∙ ap leaves_world e ∙ stays g in
      cc,
)
refused tree (TooManyPositions count) f = (
  refl,
  λ g is.
      let e : count_of f.0 ≡ count_of g = ap count_of (one_geometry tree f.0 g f.1.geometry is.is) in
      omega (arith, e, f.1.counted, f.1.above, is.few),
)
refused tree OutOfMemory f = tt
