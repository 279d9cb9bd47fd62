-- A draft with no open ring and no position outside the world is a geometry.
use Rattle.std.proofs.Common.{◌≡◌, ℕ, ◌+◌, ◌≤◌, Bool, true, false, ◌||◌, not, List, [], ◌∷◌, ◌++◌, length, map, Option, Some, None, refl, ap, sym, subst, ◌∙◌, arith, length-append, nat_lt}
use Rattle.std.specs.Prelude.{All, is_none}
use Rattle.std.specs.List.{list_any}
use Rattle.std.specs.Ordering.{int_eq}
use Rattle.std.proofs.lemmas.Bool.{or_parts, and_parts}
use Rattle.std.proofs.lemmas.Bool.Decides.{nat_tests, Decides-int_eq}
use Rattle.std.proofs.lemmas.List.{map-append, length-map}
use Rattle.std.proofs.lemmas.List.Folds.{list_any-append}
use Rattle.std.proofs.lemmas.List.Elements.{All-nil, All-cons, All-append}
use Rattle.sc_geom.specs.declared.point.Pt.{Pt}
use Rattle.sc_geom.specs.declared.draft.Draft.{Draft}
use Rattle.sc_geom.specs.Point.{IsInWorld}
use Rattle.sc_geom.specs.Shapes.{Shapes, joined, rings_of, last_behind}
use Rattle.sc_geom.specs.Geometry.{IsRing}
use Rattle.sc_geom.specs.Sketch.{Sketch, differ, is_same, is_open, leaves_world}
use Rattle.sc_geom.specs.Building.{settled, IsDraft, any_outside, Completes}
use Rattle.sc_geom.specs.Answers.{count_of}
use Rattle.sc_geom.proofs.Lists.{joined-append}
use Rattle.sc_geom.proofs.Depicting.{shapes_equal}

pub map_joined : {A B : Type 0} (f : A → B) (xs : List (List A)) → joined (map (map f) xs) ≡ map f (joined xs)
map_joined f [] = refl
map_joined f (x ∷ xs) = ap (λ r. map f x ++ r) (map_joined f xs) ∙ sym (map-append f x (joined xs))

-- places that all lie in the world
all_inside : (places : List (Option Pt)) → list_any is_none places ≡ false → map Some (map settled places) ≡ places
all_inside [] h = refl
all_inside (None ∷ ps) h = absurd cc
all_inside (Some p ∷ ps) h = ap (λ r. Some p ∷ r) (all_inside ps h)

all_lines_inside : (lines : List (List (Option Pt))) → list_any is_none (joined lines) ≡ false → map (map Some) (map (map settled) lines) ≡ lines
all_lines_inside [] h = refl
all_lines_inside (l ∷ ls) h =
    let parts = or_parts (list_any is_none l) (list_any is_none (joined ls)) (sym (list_any-append is_none l (joined ls)) ∙ h) in
    ap (λ (r : List (Option Pt)). r ∷ map (map Some) (map (map settled) ls)) (all_inside l parts.0) ∙ ap (λ r. l ∷ r) (all_lines_inside ls parts.1)

all_areas_inside : (areas : List (List (List (Option Pt)))) → list_any is_none (joined (joined areas)) ≡ false → map (map (map Some)) (map (map (map settled)) areas) ≡ areas
all_areas_inside [] h = refl
all_areas_inside (a ∷ as') h =
    let apart = ap (list_any is_none) (joined-append a (joined as')) ∙ list_any-append is_none (joined a) (joined (joined as')) in
    let parts = or_parts (list_any is_none (joined a)) (list_any is_none (joined (joined as'))) (sym apart ∙ h) in
    ap (λ (r : List (List (Option Pt))). r ∷ map (map (map Some)) (map (map (map settled)) as')) (all_lines_inside a parts.0) ∙ ap (λ r. a ∷ r) (all_areas_inside as' parts.1)

last_behind-map : {A B : Type 0} (f : A → B) (x : A) (xs : List A) → last_behind (f x) (map f xs) ≡ f (last_behind x xs)
last_behind-map f x [] = refl
last_behind-map f x (y ∷ ys) = last_behind-map f y ys

last_inside : (p : Option Pt) (ps : List (Option Pt)) → list_any is_none (p ∷ ps) ≡ false → is_none (last_behind p ps) ≡ false
last_inside p [] h = (or_parts (is_none p) false h).0
last_inside p (q ∷ qs) h = last_inside q qs (or_parts (is_none p) (list_any is_none (q ∷ qs)) h).1

points_equal : (p q : Pt) → p.x ≡ q.x → p.y ≡ q.y → p ≡ q
points_equal p q x y = λ k. record { x = x k; y = y k }

not_false : (b : Bool) → not b ≡ false → b ≡ true
not_false true h = refl
not_false false h = absurd cc

not_apart : (p q : Pt) → not (is_same p q) ≡ false → p ≡ q
not_apart p q h =
    let same : is_same p q ≡ true = not_false (is_same p q) h in
    let both = and_parts (int_eq p.x q.x) (int_eq p.y q.y) same in
    points_equal p q ((Decides-int_eq p.x q.x).0 both.0) ((Decides-int_eq p.y q.y).0 both.1)

same_places : (a b : Option Pt) → is_none a ≡ false → is_none b ≡ false → differ a b ≡ false → settled a ≡ settled b
same_places None b h k d = absurd cc
same_places (Some p) None h k d = absurd cc
same_places (Some p) (Some q) h k d = not_apart p q d

ring_closed : (ring : List (Option Pt)) → is_open ring ≡ false → list_any is_none ring ≡ false → IsRing (map settled ring)
ring_closed [] o h = absurd cc
ring_closed (p ∷ ps) o h =
    let parts = or_parts (nat_lt (length (p ∷ ps)) 4) (differ p (last_behind p ps)) o in
    let first_inside : is_none p ≡ false = (or_parts (is_none p) (list_any is_none ps) h).0 in
    let ends : settled p ≡ settled (last_behind p ps) = same_places p (last_behind p ps) first_inside (last_inside p ps h) parts.1 in
    let few : nat_lt (length (p ∷ ps)) 4 ≡ false = parts.0 in
    let long : 4 ≤ length (p ∷ ps) = grind (arith, nat_tests) in
    record {
      long = subst (λ (n : ℕ). 4 ≤ n) (sym (length-map (p ∷ ps) settled)) long;
      closed = ap Some (ends ∙ sym (last_behind-map settled p ps));
    }

rings_closed : (rings : List (List (Option Pt))) → list_any is_open rings ≡ false → list_any is_none (joined rings) ≡ false → All IsRing (map (map settled) rings)
rings_closed [] o h = All-nil IsRing
rings_closed (r ∷ rs) o h =
    let parts = or_parts (list_any is_none r) (list_any is_none (joined rs)) (sym (list_any-append is_none r (joined rs)) ∙ h) in
    let opens = or_parts (is_open r) (list_any is_open rs) o in
    All-cons IsRing (map settled r) (map (map settled) rs) (ring_closed r opens.0 parts.0) (rings_closed rs opens.1 parts.1)

pub count_is : {A : Type 0} (s : Shapes A) → count_of s ≡ length s.points + length (joined s.lines) + length (joined (rings_of s))
count_is s = length-append (s.points ++ joined s.lines) (joined (rings_of s)) ∙ ap (λ (n : ℕ). n + length (joined (rings_of s))) (length-append s.points (joined s.lines))

pub leaves_is : (s : Sketch) → leaves_world s ≡ any_outside s
leaves_is s = list_any-append is_none (s.points ++ joined s.lines) (joined (rings_of s)) ∙ ap (λ (b : Bool). b || list_any is_none (joined (rings_of s))) (list_any-append is_none s.points (joined s.lines))

abbrev pub shapes_in : Draft → Shapes Pt
shapes_in draft = record { points = draft.points.items; lines = draft.lines.items; areas = draft.areas.items }

drafted_rings : (draft : Draft) (s : Sketch) → IsDraft draft s → rings_of (shapes_in draft) ≡ map (map settled) (rings_of s)
drafted_rings draft s is = ap joined is.areas_are ∙ map_joined (map settled) s.areas

pub count_drafted : (draft : Draft) (s : Sketch) → IsDraft draft s → count_of (shapes_in draft) ≡ draft.count
count_drafted draft s is =
    let points : length draft.points.items ≡ length s.points = ap length is.points_are ∙ length-map s.points settled in
    let lines : length (joined draft.lines.items) ≡ length (joined s.lines) = ap (λ (l : List (List Pt)). length (joined l)) is.lines_are ∙ ap length (map_joined settled s.lines) ∙ length-map (joined s.lines) settled in
    let rings : length (joined (joined draft.areas.items)) ≡ length (joined (rings_of s)) = ap (λ (l : List (List Pt)). length (joined l)) (drafted_rings draft s is) ∙ ap length (map_joined settled (rings_of s)) ∙ length-map (joined (rings_of s)) settled in
    omega (arith, count_is (shapes_in draft), is.count_is, points, lines, rings)

pub completed : (draft : Draft) (s : Sketch) → IsDraft draft s → draft.outside ≡ false → draft.has_open_ring ≡ false → 1 ≤ draft.count → Completes s (shapes_in draft)
completed draft s is inside closed some =
    let all = or_parts (list_any is_none s.points || list_any is_none (joined s.lines)) (list_any is_none (joined (rings_of s))) (sym is.outside_is ∙ inside) in
    let front = or_parts (list_any is_none s.points) (list_any is_none (joined s.lines)) all.0 in
    record {
      same = sym (shapes_equal _ _
          (ap (map Some) is.points_are ∙ all_inside s.points front.0)
          (ap (map (map Some)) is.lines_are ∙ all_lines_inside s.lines front.1)
          (ap (map (map (map Some))) is.areas_are ∙ all_areas_inside s.areas all.1));
      sound = record {
        in_world = All-append IsInWorld (draft.points.items ++ joined draft.lines.items) (joined (joined draft.areas.items))
            (All-append IsInWorld draft.points.items (joined draft.lines.items) is.points_in_world is.lines_in_world) is.rings_in_world;
        lines = is.long_lines;
        areas = is.filled_areas;
        rings = subst (All IsRing) (sym (drafted_rings draft s is)) (rings_closed (rings_of s) (sym is.open_is ∙ closed) all.1);
        some = subst (λ (n : ℕ). 1 ≤ n) (sym (count_drafted draft s is)) some;
      };
    }
