-- A sketch that lies in the world, has no open ring and has a position is the geometry of its positions.
use Rattle.std.proofs.Common.{◌≡◌, ℕ, ◌≤◌, List, [], ◌∷◌, ◌++◌, length, map, Bool, true, false, ◌||◌, not, Option, Some, None, refl, sym, ap, subst, ◌∙◌, arith, nat_lt}
use Rattle.std.specs.Prelude.{All, is_none}
use Rattle.std.specs.List.{AllByRecursion, list_any}
use Rattle.std.specs.Ordering.{int_eq}
use Rattle.std.proofs.lemmas.Bool.{or_parts, and_parts}
use Rattle.std.proofs.lemmas.Bool.Decides.{nat_tests, Decides-int_eq}
use Rattle.std.proofs.lemmas.List.{length-map}
use Rattle.std.proofs.lemmas.List.Folds.{list_any-append}
use Rattle.std.proofs.lemmas.List.Elements.{All-nil, All-cons, All-append}
use Rattle.sc_geom.specs.declared.point.Pt.{Pt}
use Rattle.sc_geom.specs.Point.{IsInWorld}
use Rattle.sc_geom.specs.Shapes.{joined, rings_of, map_shapes, last_behind}
use Rattle.sc_geom.specs.Geometry.{IsRing}
use Rattle.sc_geom.specs.Sketch.{Sketch, differ, is_same, is_open, has_open_ring, leaves_world}
use Rattle.sc_geom.specs.Building.{settled, Completes}
use Rattle.sc_geom.specs.Answers.{count_of}
use Rattle.sc_geom.proofs.Lists.{joined-append}
use Rattle.sc_geom.proofs.Finished.{map_joined, leaves_is}
use Rattle.sc_wkt.proofs.Finishing.{count-map}

-- ---- what is known of a sketch beside that

-- a position that is known lies in the world
abbrev pub IsPlaced : Option Pt → Type 0
IsPlaced None = Unit {0}
IsPlaced (Some p) = IsInWorld p

abbrev pub ArePlaced : List (Option Pt) → Type 0
ArePlaced = AllByRecursion IsPlaced

abbrev pub IsLong : {A : Type 0} → List A → Type 0
IsLong line = 2 ≤ length line

abbrev pub IsFilled : {A : Type 0} → List A → Type 0
IsFilled area = 1 ≤ length area

pub record IsKept (s : Sketch) : Type 0 where
  pub points : ArePlaced s.points
  pub lines : ArePlaced (joined s.lines)
  pub areas : ArePlaced (joined (rings_of s))
  pub long : AllByRecursion IsLong s.lines
  pub filled : AllByRecursion IsFilled s.areas

-- ---- known positions, settled

some_settled : (places : List (Option Pt)) → list_any is_none places ≡ false → map Some (map settled places) ≡ places
some_settled [] h = refl
some_settled (None ∷ ps) h = absurd cc
some_settled (Some p ∷ ps) h = ap (λ r. Some p ∷ r) (some_settled ps h)

lines_settled : (lines : List (List (Option Pt))) → list_any is_none (joined lines) ≡ false → map (map Some) (map (map settled) lines) ≡ lines
lines_settled [] h = refl
lines_settled (l ∷ ls) h =
    let parts = or_parts (list_any is_none l) (list_any is_none (joined ls)) (sym (list_any-append is_none l (joined ls)) ∙ h) in
    ap (λ (r : List (Option Pt)). r ∷ map (map Some) (map (map settled) ls)) (some_settled l parts.0) ∙ ap (λ r. l ∷ r) (lines_settled ls parts.1)

areas_settled : (areas : List (List (List (Option Pt)))) → list_any is_none (joined (joined areas)) ≡ false → map (map (map Some)) (map (map (map settled)) areas) ≡ areas
areas_settled [] h = refl
areas_settled (a ∷ rest) h =
    let apart = ap (list_any is_none) (joined-append a (joined rest)) ∙ list_any-append is_none (joined a) (joined (joined rest)) in
    let parts = or_parts (list_any is_none (joined a)) (list_any is_none (joined (joined rest))) (sym apart ∙ h) in
    ap (λ (r : List (List (Option Pt))). r ∷ map (map (map Some)) (map (map (map settled)) rest)) (lines_settled a parts.0) ∙ ap (λ r. a ∷ r) (areas_settled rest parts.1)

placed_settled : (places : List (Option Pt)) → list_any is_none places ≡ false → ArePlaced places → All IsInWorld (map settled places)
placed_settled [] h are = All-nil IsInWorld
placed_settled (None ∷ ps) h are = absurd cc
placed_settled (Some p ∷ ps) h are = All-cons IsInWorld p (map settled ps) are.0 (placed_settled ps h are.1)

long_settled : (lines : List (List (Option Pt))) → AllByRecursion IsLong lines → All IsLong (map (map settled) lines)
long_settled [] are = All-nil IsLong
long_settled (l ∷ ls) are = All-cons IsLong (map settled l) (map (map settled) ls) (subst (λ (n : ℕ). 2 ≤ n) (sym (length-map l settled)) are.0) (long_settled ls are.1)

filled_settled : (areas : List (List (List (Option Pt)))) → AllByRecursion IsFilled areas → All IsFilled (map (map (map settled)) areas)
filled_settled [] are = All-nil IsFilled
filled_settled (a ∷ rest) are = All-cons IsFilled (map (map settled) a) (map (map (map settled)) rest) (subst (λ (n : ℕ). 1 ≤ n) (sym (length-map a (map settled))) are.0) (filled_settled rest are.1)

-- ---- closed rings

last_map : (p : Option Pt) (ps : List (Option Pt)) → last_behind (settled p) (map settled ps) ≡ settled (last_behind p ps)
last_map p [] = refl
last_map p (q ∷ qs) = last_map q qs

last_known : (p : Option Pt) (ps : List (Option Pt)) → list_any is_none (p ∷ ps) ≡ false → is_none (last_behind p ps) ≡ false
last_known p [] h = (or_parts (is_none p) false h).0
last_known p (q ∷ qs) h = last_known q qs (or_parts (is_none p) (list_any is_none (q ∷ qs)) h).1

points_equal : (p q : Pt) → p.x ≡ q.x → p.y ≡ q.y → p ≡ q
points_equal p q x y = λ k. record { x = x k; y = y k }

not_false : (b : Bool) → not b ≡ false → b ≡ true
not_false true h = refl
not_false false h = absurd cc

not_apart : (p q : Pt) → not (is_same p q) ≡ false → p ≡ q
not_apart p q h =
    let same : is_same p q ≡ true = not_false (is_same p q) h in
    let both = and_parts (int_eq p.x q.x) (int_eq p.y q.y) same in
    points_equal p q ((Decides-int_eq p.x q.x).0 both.0) ((Decides-int_eq p.y q.y).0 both.1)

same_places : (a b : Option Pt) → is_none a ≡ false → is_none b ≡ false → differ a b ≡ false → settled a ≡ settled b
same_places None b h k d = absurd cc
same_places (Some p) None h k d = absurd cc
same_places (Some p) (Some q) h k d = not_apart p q d

ring_closed : (ring : List (Option Pt)) → is_open ring ≡ false → list_any is_none ring ≡ false → IsRing (map settled ring)
ring_closed [] o h = absurd cc
ring_closed (p ∷ ps) o h =
    let parts = or_parts (nat_lt (length (p ∷ ps)) 4) (differ p (last_behind p ps)) o in
    let first_known : is_none p ≡ false = (or_parts (is_none p) (list_any is_none ps) h).0 in
    let ends : settled p ≡ settled (last_behind p ps) = same_places p (last_behind p ps) first_known (last_known p ps h) parts.1 in
    let few : nat_lt (length (p ∷ ps)) 4 ≡ false = parts.0 in
    let long : 4 ≤ length (p ∷ ps) = grind (arith, nat_tests) in
    record {
      long = subst (λ (n : ℕ). 4 ≤ n) (sym (length-map (p ∷ ps) settled)) long;
      closed = ap Some (ends ∙ sym (last_map p ps));
    }

rings_closed : (rings : List (List (Option Pt))) → list_any is_open rings ≡ false → list_any is_none (joined rings) ≡ false → All IsRing (map (map settled) rings)
rings_closed [] o h = All-nil IsRing
rings_closed (r ∷ rs) o h =
    let parts = or_parts (list_any is_none r) (list_any is_none (joined rs)) (sym (list_any-append is_none r (joined rs)) ∙ h) in
    let opens = or_parts (is_open r) (list_any is_open rs) o in
    All-cons IsRing (map settled r) (map (map settled) rs) (ring_closed r opens.0 parts.0) (rings_closed rs opens.1 parts.1)

-- ---- the whole sketch

module _ (s : Sketch) (kept : IsKept s) (closed : has_open_ring s ≡ false) (inside : leaves_world s ≡ false) (some : 1 ≤ count_of s) where
  all_known : (list_any is_none s.points ≡ false) × (list_any is_none (joined s.lines) ≡ false) × (list_any is_none (joined (rings_of s)) ≡ false)
  all_known =
      let all = or_parts (list_any is_none s.points || list_any is_none (joined s.lines)) (list_any is_none (joined (rings_of s))) (sym (leaves_is s) ∙ inside) in
      let front = or_parts (list_any is_none s.points) (list_any is_none (joined s.lines)) all.0 in
      (front.0, front.1, all.1)

  same_shapes : map_shapes Some (map_shapes settled s) ≡ s
  same_shapes = λ i. record {
    points = some_settled s.points all_known.0 i;
    lines = lines_settled s.lines all_known.1 i;
    areas = areas_settled s.areas all_known.2 i;
  }

  lines_in : All IsInWorld (joined (map (map settled) s.lines))
  lines_in = subst (All IsInWorld) (sym (map_joined settled s.lines)) (placed_settled (joined s.lines) all_known.1 kept.lines)

  rings_are : rings_of (map_shapes settled s) ≡ map (map settled) (rings_of s)
  rings_are = map_joined (map settled) s.areas

  rings_in : All IsInWorld (joined (rings_of (map_shapes settled s)))
  rings_in = subst (All IsInWorld) (sym (ap joined rings_are ∙ map_joined settled (rings_of s))) (placed_settled (joined (rings_of s)) all_known.2 kept.areas)

  pub settles : Completes s (map_shapes settled s)
  settles = record {
    same = sym same_shapes;
    sound = record {
      in_world = All-append IsInWorld (map settled s.points ++ joined (map (map settled) s.lines)) (joined (rings_of (map_shapes settled s)))
          (All-append IsInWorld (map settled s.points) (joined (map (map settled) s.lines)) (placed_settled s.points all_known.0 kept.points) lines_in) rings_in;
      lines = long_settled s.lines kept.long;
      areas = filled_settled s.areas kept.filled;
      rings = subst (All IsRing) (sym rings_are) (rings_closed (rings_of s) closed all_known.2);
      some = subst (λ (n : ℕ). 1 ≤ n) (sym (count-map settled s)) some;
    };
  }
