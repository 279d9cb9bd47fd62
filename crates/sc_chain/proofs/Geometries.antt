-- A tree that is a geometry is no other, and has no fault.
use Rattle.std.proofs.Common.{◌≡◌, ◌≤◌, ◌≢◌, ℕ, ℤ, pos, true, false, not, ◌&&◌, nat_lt, true≢false, is_none, unwrap_or, List, [], ◌∷◌, ◌++◌, map, length, Option, Some, refl, sym, ap, ◌∙◌, arith}
use Rattle.std.specs.List.{list_any}
use Rattle.std.specs.Ordering.{int_eq}
use Rattle.std.proofs.lemmas.Bool.Decides.{nat_tests}
use Rattle.std.proofs.lemmas.List.{length-map, map-append}
use Rattle.std.proofs.lemmas.List.Elements.{recursion_from_All}
use Rattle.sqlite_keyed.proofs.ListLemmas.{all_map, all_of, all_weaker, any_from_none, flat_map-map, map-flat_map, map_back}
use Rattle.sc_json.specs.declared.tree.Json.{Json}
use Rattle.sc_geom.specs.declared.point.Pt.{Pt}
use Rattle.sc_geom.specs.declared.fault.GeomFault.{GeomFault}
use Rattle.sc_geom.specs.declared.fault.GeomFault.TheVariants.{BadShape, OpenRing, OutOfWorld, TooManyPositions, OutOfMemory}
use Rattle.sc_geom.specs.Geometry.{IsGeometry, IsRing}
use Rattle.sc_geom.specs.Shapes.{Shapes, positions_of, rings_of, joined, map_shapes, last_behind}
use Rattle.sc_geom.specs.Sketch.{is_open, is_same, differ, has_open_ring, leaves_world}
use Rattle.sc_geom.specs.Answers.{GeomOf, IsFault, count_of}
use Rattle.sc_geom.proofs.Depicting.{one_sketch, shapes_equal}

module _ {A B : Type 0} (f : A → B) where
  joined_map : (xs : List (List A)) → joined (map (map f) xs) ≡ map f (joined xs)
  joined_map xs = flat_map-map (λ part. part) (map f) xs ∙ sym (map-flat_map f (λ part. part) xs)

positions_map : (g : Shapes Pt) → positions_of (map_shapes Some g) ≡ map Some (positions_of g)
positions_map g =
    ap (λ t. (map Some g.points ++ t) ++ joined (joined (map (map (map Some)) g.areas))) (joined_map Some g.lines)
    ∙ ap (λ t. (map Some g.points ++ map Some (joined g.lines)) ++ joined t) (joined_map (map Some) g.areas)
    ∙ ap (λ t. (map Some g.points ++ map Some (joined g.lines)) ++ t) (joined_map Some (rings_of g))
    ∙ ap (λ t. t ++ map Some (joined (rings_of g))) (sym (map-append Some g.points (joined g.lines)))
    ∙ sym (map-append Some (g.points ++ joined g.lines) (joined (rings_of g)))

-- ---- one geometry

abbrev place_of : Option Pt → Pt
place_of place = unwrap_or place (record { x = pos 0; y = pos 0 })

back : (g : Shapes Pt) → map_shapes place_of (map_shapes Some g) ≡ g
back g = shapes_equal _ _ (map_back Some place_of (λ p. refl) g.points) (map_back (map Some) (map place_of) (map_back Some place_of (λ p. refl)) g.lines)
    (map_back (map (map Some)) (map (map place_of)) (map_back (map Some) (map place_of) (map_back Some place_of (λ p. refl))) g.areas)

pub one_geometry : (tree : Json) (g h : Shapes Pt) → GeomOf tree g → GeomOf tree h → g ≡ h
one_geometry tree g h a b = sym (back g) ∙ ap (map_shapes place_of) (one_sketch tree (map_shapes Some g) (map_shapes Some h) a.depicted b.depicted) ∙ back h

-- ---- no fault

no_empty : (g : Shapes Pt) → IsGeometry g → count_of (map_shapes Some g) ≡ 0 → ⊥
no_empty g sound e =
    let l : length (positions_of (map_shapes Some g)) ≡ length (positions_of g) = ap length (positions_map g) ∙ length-map (positions_of g) Some in
    absurd (omega (arith, l, e, sound.some))

all_inside : (g : Shapes Pt) → leaves_world (map_shapes Some g) ≡ false
all_inside g = ap (list_any is_none) (positions_map g) ∙ any_from_none is_none (map Some (positions_of g)) (all_map _ Some (positions_of g) (all_of (λ p. is_none (Some p) ≡ false) (λ p. refl) (positions_of g)))

last_some : (p : Pt) (ps : List Pt) → last_behind (Some p) (map Some ps) ≡ Some (last_behind p ps)
last_some p [] = refl
last_some p (q ∷ ps) = last_some q ps

int_same : (a : ℤ) → int_eq a a ≡ true
int_same a = grind arith

closed_is : (ring : List Pt) → IsRing ring → is_open (map Some ring) ≡ false
closed_is [] r = absurd (omega (arith, r.long))
closed_is (p ∷ ps) r =
    let e : p ≡ last_behind p ps = let c = r.closed in cc in
    let long : nat_lt (length (map Some (p ∷ ps))) 4 ≡ false = let l = length-map (p ∷ ps) Some in let m = r.long in grind (arith, nat_tests) in
    let ends : differ (Some p) (last_behind (Some p) (map Some ps)) ≡ false =
    ap (differ (Some p)) (last_some p ps) ∙ ap (λ q. not (is_same p q)) (sym e) ∙ ap (λ b. not (b && int_eq p.y p.y)) (int_same p.x) ∙ ap not (int_same p.y) in
    rw (long, ends) refl

all_closed : (g : Shapes Pt) → IsGeometry g → has_open_ring (map_shapes Some g) ≡ false
all_closed g sound =
    ap (list_any is_open) (joined_map (map Some) g.areas)
    ∙ any_from_none is_open (map (map Some) (rings_of g)) (all_map _ (map Some) (rings_of g) (all_weaker IsRing _ closed_is (rings_of g) (recursion_from_All IsRing (rings_of g) sound.rings)))

pub no_fault : (tree : Json) (most : ℕ) (g : Shapes Pt) (fault : GeomFault) → GeomOf tree g → count_of g ≤ most → IsFault tree most fault → fault ≢ OutOfMemory → ⊥
no_fault tree most g BadShape a le f ne = no_empty g a.sound (f (map_shapes Some g) a.depicted)
no_fault tree most g OpenRing a le f ne =
    let e : f.0 ≡ map_shapes Some g = one_sketch tree f.0 (map_shapes Some g) f.1.depicted a.depicted in
    true≢false (sym f.1.ring ∙ ap has_open_ring e ∙ all_closed g a.sound)
no_fault tree most g OutOfWorld a le f ne =
    let e : f.0 ≡ map_shapes Some g = one_sketch tree f.0 (map_shapes Some g) f.1.depicted a.depicted in
    true≢false (sym f.1.leaves ∙ ap leaves_world e ∙ all_inside g)
no_fault tree most g (TooManyPositions count) a le f ne =
    let e : count ≡ count_of g = f.1.counted ∙ ap count_of (one_geometry tree f.0 g f.1.geometry a) in
    absurd (omega (arith, e, le, f.1.above))
no_fault tree most g OutOfMemory a le f ne = ne refl
