-- What is drawn of a geometry is no bad one, and is settled as the geometry.
use Rattle.std.proofs.Common.{◌≡◌, ◌≤◌, ◌+◌, List, [], ◌∷◌, ◌++◌, length, map, true, false, ◌||◌, Option, Some, None, refl, sym, ap, subst, ◌∙◌, arith, ℤ}
use Rattle.std.specs.List.{AllByRecursion, list_any}
use Rattle.std.specs.Prelude.{nat_lt}
use Rattle.std.proofs.lemmas.Bool.{le-ltb, or_from}
use Rattle.std.proofs.lemmas.List.Folds.{list_any-append}
use Rattle.std.proofs.lemmas.Int.{ints}
use Rattle.std.proofs.lemmas.List.{length-map, map-append}
use Rattle.std.proofs.lemmas.List.Elements.{recursion_from_All}
use Rattle.sc_decimal.specs.Number.{Number}
use Rattle.sc_geom.specs.declared.point.Pt.{Pt}
use Rattle.sc_geom.specs.Shapes.{Shapes, joined, rings_of, positions_of, map_shapes, last_behind}
use Rattle.sc_geom.specs.Sketch.{Sketch, has_open_ring, is_open, is_same, differ}
use Rattle.sc_geom.specs.Answers.{count_of}
use Rattle.sc_geom.specs.Building.{settled}
use Rattle.sc_geom.specs.Geometry.{IsRing, IsGeometry}
use Rattle.sc_wkt.specs.Drawing.{Drawing, is_bad}
use Rattle.sc_cqlback.proofs.Geometries.{all_first, all_second}

-- ---- sheets: what is drawn so far

pub record Sheet : Type 0 where
  pub path : List (Option Pt)
  pub rings : List (List (Option Pt))
  pub sketch : Sketch

abbrev pub drawing_of : Sheet → Option Number → Option ℤ → Drawing
drawing_of d n l = record { number = n; longitude = l; path = d.path; rings = d.rings; sketch = d.sketch; is_outside = false; is_short = false }

abbrev pub sheet : List (List (Option Pt)) → Sketch → Sheet
sheet rings sketch = record { path = []; rings = rings; sketch = sketch }

-- ---- what is drawn of a geometry

abbrev pub somes : List Pt → List (Option Pt)
somes = map (λ p. Some p)

abbrev pub sketch_of : Shapes Pt → Sketch
sketch_of = map_shapes (λ p. Some p)

-- ---- it is no bad geometry

last_some : (p : Pt) (ps : List Pt) → last_behind (Some p) (somes ps) ≡ Some (last_behind p ps)
last_some p [] = refl
last_some p (q ∷ ps) = last_some q ps

same_itself : (p : Pt) → is_same p p ≡ true
same_itself p = grind (arith, ints)

abbrev some_pt : Pt → Option Pt
some_pt p = Some p

abbrev got : Pt → Option Pt → Pt
got p None = p
got p (Some q) = q

same_ends : (p q : Pt) → some_pt p ≡ some_pt q → differ (Some p) (Some q) ≡ false
same_ends p q e = let same : p ≡ q = ap (got p) e in subst (λ (r : Pt). differ (Some p) (Some r) ≡ false) same (rw (same_itself p) refl)

ring_closed : (ring : List Pt) → IsRing ring → is_open (somes ring) ≡ false
ring_closed [] is = let long = is.long in absurd (omega arith)
ring_closed (p ∷ ps) is =
    let long = is.long in
    let size : 4 ≤ length (somes (p ∷ ps)) = rw (length-map (p ∷ ps) (λ (q : Pt). Some q)) long in
    rw (le-ltb (length (somes (p ∷ ps))) 4 size)
    (ap (λ (o : Option Pt). differ (Some p) o) (last_some p ps) ∙ same_ends p (last_behind p ps) is.closed)

rings_closed : (rings : List (List Pt)) → AllByRecursion IsRing rings → list_any is_open (map somes rings) ≡ false
rings_closed [] all = refl
rings_closed (r ∷ rings) all = or_from (is_open (somes r)) (list_any is_open (map somes rings)) (ring_closed r all.0) (rings_closed rings all.1)

areas_closed : (areas : List (List (List Pt))) → AllByRecursion IsRing (joined areas) → list_any is_open (joined (map (map somes) areas)) ≡ false
areas_closed [] all = refl
areas_closed (a ∷ areas) all =
    list_any-append is_open (map somes a) (joined (map (map somes) areas))
    ∙ or_from (list_any is_open (map somes a)) (list_any is_open (joined (map (map somes) areas))) (rings_closed a (all_first IsRing a (joined areas) all)) (areas_closed areas (all_second IsRing a (joined areas) all))

joined_map : {A B : Type 0} (f : A → B) (xss : List (List A)) → joined (map (map f) xss) ≡ map f (joined xss)
joined_map f [] = refl
joined_map {A} {B} f (xs ∷ xss) = ap (λ (l : List B). map f xs ++ l) (joined_map f xss) ∙ sym (map-append f xs (joined xss))

positions_same : (g : Shapes Pt) → positions_of (sketch_of g) ≡ somes (positions_of g)
positions_same g =
    let rings : joined (rings_of (sketch_of g)) ≡ somes (joined (rings_of g)) =
    ap joined (joined_map somes g.areas) ∙ joined_map (λ (p : Pt). Some p) (joined g.areas) in
    let lines : joined (map somes g.lines) ≡ somes (joined g.lines) = joined_map (λ (p : Pt). Some p) g.lines in
    three lines rings ∙ sym (map-append (λ (p : Pt). Some p) (g.points ++ joined g.lines) (joined (rings_of g)) ∙ ap (λ (l : List (Option Pt)). l ++ somes (joined (rings_of g))) (map-append (λ (p : Pt). Some p) g.points (joined g.lines)))
  where
    three : {b c e f : List (Option Pt)} → b ≡ e → c ≡ f → (somes g.points ++ b) ++ c ≡ (somes g.points ++ e) ++ f
    three q r = cc

count_same : (g : Shapes Pt) → count_of (sketch_of g) ≡ length (positions_of g)
count_same g = ap length (positions_same g) ∙ length-map (positions_of g) (λ (p : Pt). Some p)

pub sound : (g : Shapes Pt) → IsGeometry g → length (positions_of g) ≤ 1000 → (n : Option Number) (l : Option ℤ) → is_bad 1000 (drawing_of (sheet [] (sketch_of g)) n l) ≡ false
sound g is few n l =
    let closed : has_open_ring (sketch_of g) ≡ false = areas_closed g.areas (recursion_from_All IsRing (rings_of g) is.rings) in
    let size : count_of (sketch_of g) ≤ 1000 = rw (count_same g) few in
    or_from (has_open_ring (sketch_of g) || false) (nat_lt 1000 (count_of (sketch_of g))) (or_from (has_open_ring (sketch_of g)) false closed refl) (le-ltb 1000 (count_of (sketch_of g)) size)

settled_map : (ps : List Pt) → map settled (somes ps) ≡ ps
settled_map [] = refl
settled_map (p ∷ ps) = ap (λ (l : List Pt). p ∷ l) (settled_map ps)

settled_lines : (ls : List (List Pt)) → map (map settled) (map somes ls) ≡ ls
settled_lines [] = refl
settled_lines (l ∷ ls) = ap (λ (k : List (List Pt)). map settled (somes l) ∷ k) (settled_lines ls) ∙ ap (λ (k : List Pt). k ∷ ls) (settled_map l)

settled_areas : (qs : List (List (List Pt))) → map (map (map settled)) (map (map somes) qs) ≡ qs
settled_areas [] = refl
settled_areas (a ∷ qs) = ap (λ (k : List (List (List Pt))). map (map settled) (map somes a) ∷ k) (settled_areas qs) ∙ ap (λ (k : List (List Pt)). k ∷ qs) (settled_lines a)

pub settled_again : (g : Shapes Pt) → map_shapes settled (sketch_of g) ≡ g
settled_again g = λ i. record { points = settled_map g.points i; lines = settled_lines g.lines i; areas = settled_areas g.areas i }

-- what has a position has a part
pub some_part : (points : List Pt) (lines : List (List Pt)) (areas : List (List (List Pt))) → 1 ≤ length (points ++ joined lines ++ joined (joined areas)) → 1 ≤ length points + length lines + length areas
some_part [] [] [] some = absurd (omega arith)
some_part [] [] (a ∷ areas) some = omega arith
some_part [] (l ∷ lines) areas some = omega arith
some_part (p ∷ points) lines areas some = omega arith
