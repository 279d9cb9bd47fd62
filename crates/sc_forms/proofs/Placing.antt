-- What is drawn keeps its known positions in the world, its lines long and its areas filled, token by token and mark by mark.
use Rattle.std.proofs.Common.{rules, ◌≡◌, ℕ, ℤ, negsuc, pos, ◌≤ℤ◌, List, [], ◌∷◌, ◌++◌, length, Bool, true, false, ◌&&◌, Option, Some, None, refl, sym, subst, arith, nat_le, int_le}
use Rattle.std.specs.Prelude.{if◌then◌else◌}
use Rattle.std.specs.Option.{IfSome, option_and_then}
use Rattle.std.specs.List.{AllByRecursion}
use Rattle.std.proofs.lemmas.Bool.{leb-true}
use Rattle.sc_decimal.specs.Number.{Number}
use Rattle.sc_decimal.specs.Grid.{grid_of}
use Rattle.sc_geom.specs.declared.point.Pt.{Pt}
use Rattle.sc_geom.specs.Point.{IsLongitude, IsLatitude}
use Rattle.sc_geom.specs.Place.{kept_between, step_between, longitude_of, latitude_of, place_from}
use Rattle.sc_geom.specs.Shapes.{joined, beside}
use Rattle.sc_geom.specs.Sketch.{Sketch}
use Rattle.sc_geom.specs.Drawn.{points_only, lines_only, areas_only}
use Rattle.sc_geom.proofs.Lists.{joined-append}
use Rattle.sc_grammar.specs.declared.token.Class.{Class}
use Rattle.sc_grammar.specs.declared.token.Class.TheVariants as classes
use Rattle.sc_cqlgrammar.specs.declared.mark.Mark.{Mark}
use Rattle.sc_cqlgrammar.specs.declared.mark.Mark.TheVariants as marks
use Rattle.sc_wkt.specs.Drawing.{Drawing, blank, reads_class, draws, with_line, with_area}
use Rattle.sc_forms.proofs.Settled.{IsPlaced, ArePlaced, IsLong, IsFilled, IsKept}

pub record IsKeptDrawing (d : Drawing) : Type 0 where
  pub longitude : IfSome d.longitude IsLongitude
  pub path : ArePlaced d.path
  pub rings : ArePlaced (joined d.rings)
  pub sketch : IsKept d.sketch

pub blank_kept : IsKeptDrawing blank
blank_kept = record {
  longitude = (by_rules, by_rules_too);
  path = tt;
  rings = tt;
  sketch = record { points = tt; lines = tt; areas = tt; long = tt; filled = tt };
}
  where
    by_rules : negsuc 3599999999 ≤ℤ pos 0
    by_rules = search rules

    by_rules_too : pos 0 ≤ℤ pos 3600000000
    by_rules_too = search rules

-- ---- coordinates on the grid

tested_le : (a b : ℤ) → int_le a b ≡ true → a ≤ℤ b
tested_le a b e = search rules

kept_within : (low high step : ℤ) → IfSome (kept_between low high step) (λ x. (low ≤ℤ x) × (x ≤ℤ high))
kept_within low high step = by_tests (int_le low step) (int_le step high) refl refl
  where
    by_tests : (a b : Bool) → int_le low step ≡ a → int_le step high ≡ b → IfSome (if a && b then Some step else None) (λ x. (low ≤ℤ x) × (x ≤ℤ high))
    by_tests true true e f = (tested_le low step e, tested_le step high f)
    by_tests true false e f = tt
    by_tests false b e f = tt

step_within : (low high : ℤ) (number : Number) → IfSome (step_between low high number) (λ x. (low ≤ℤ x) × (x ≤ℤ high))
unfolding step_between
step_within low high number = by_grid (grid_of number)
  where
    by_grid : (grid : Option ℤ) → IfSome (option_and_then (kept_between low high) grid) (λ x. (low ≤ℤ x) × (x ≤ℤ high))
    by_grid None = tt
    by_grid (Some step) = kept_within low high step

pub longitude_within : (number : Option Number) → IfSome (option_and_then longitude_of number) IsLongitude
longitude_within None = tt
longitude_within (Some number) = step_within (negsuc 3599999999) (pos 3600000000) number

pub latitude_within : (number : Option Number) → IfSome (option_and_then latitude_of number) IsLatitude
latitude_within None = tt
latitude_within (Some number) = step_within (negsuc 899999999) (pos 900000000) number

place_within : (x y : Option ℤ) → IfSome x IsLongitude → IfSome y IsLatitude → IsPlaced (place_from x y)
place_within None y h k = tt
place_within (Some x) None h k = tt
place_within (Some x) (Some y) h k = (h, k)

-- ---- lists one behind the other

pub both_all : {A : Type 0} (P : A → Type 0) (xs ys : List A) → AllByRecursion P xs → AllByRecursion P ys → AllByRecursion P (xs ++ ys)
both_all P [] ys h k = k
both_all P (x ∷ xs) ys h k = (h.0, both_all P xs ys h.1 k)

both_joined : (xs ys : List (List (Option Pt))) → ArePlaced (joined xs) → ArePlaced (joined ys) → ArePlaced (joined (xs ++ ys))
both_joined xs ys h k = subst ArePlaced (sym (joined-append xs ys)) (both_all IsPlaced (joined xs) (joined ys) h k)

both_areas : (xs ys : List (List (List (Option Pt)))) → ArePlaced (joined (joined xs)) → ArePlaced (joined (joined ys)) → ArePlaced (joined (joined (xs ++ ys)))
both_areas xs ys h k = subst (λ (rings : List (List (Option Pt))). ArePlaced (joined rings)) (sym (joined-append xs ys)) (both_joined (joined xs) (joined ys) h k)

one_joined : (xs : List (Option Pt)) → ArePlaced xs → ArePlaced (joined (xs ∷ []))
one_joined xs h = both_all IsPlaced xs [] h tt

one_area : (rings : List (List (Option Pt))) → ArePlaced (joined rings) → ArePlaced (joined (joined (rings ∷ [])))
one_area rings h = both_joined rings [] h tt

both_kept : (s t : Sketch) → IsKept s → IsKept t → IsKept (beside s t)
both_kept s t h k = record {
  points = both_all IsPlaced s.points t.points h.points k.points;
  lines = both_joined s.lines t.lines h.lines k.lines;
  areas = both_areas s.areas t.areas h.areas k.areas;
  long = both_all IsLong s.lines t.lines h.long k.long;
  filled = both_all IsFilled s.areas t.areas h.filled k.filled;
}

-- ---- marks and tokens

line_kept : (many : Bool) (d : Drawing) → nat_le 2 (length d.path) ≡ many → IsKeptDrawing d → IsKeptDrawing (with_line many d)
line_kept true d e h = record {
  longitude = h.longitude;
  path = tt;
  rings = h.rings;
  sketch = both_kept d.sketch (lines_only (d.path ∷ [])) h.sketch (record { points = tt; lines = one_joined d.path h.path; areas = tt; long = (leb-true 2 (length d.path) e, tt); filled = tt });
}
line_kept false d e h = record { longitude = h.longitude; path = tt; rings = h.rings; sketch = h.sketch }

area_kept : (rings : List (List (Option Pt))) (d : Drawing) → ArePlaced (joined rings) → IsKeptDrawing d → IsKeptDrawing (with_area rings d)
area_kept [] d k h = h
area_kept (ring ∷ rings) d k h = record {
  longitude = h.longitude;
  path = h.path;
  rings = tt;
  sketch = both_kept d.sketch (areas_only ((ring ∷ rings) ∷ [])) h.sketch (record { points = tt; lines = tt; areas = one_area (ring ∷ rings) k; long = tt; filled = (omega arith, tt) });
}

pub mark_kept : (k : Mark) (d : Drawing) → IsKeptDrawing d → IsKeptDrawing (draws k d)
mark_kept marks.Longitude d h = record { longitude = longitude_within d.number; path = h.path; rings = h.rings; sketch = h.sketch }
mark_kept marks.Latitude d h = record {
  longitude = h.longitude;
  path = both_all IsPlaced d.path (place_from d.longitude (option_and_then latitude_of d.number) ∷ []) h.path (place_within d.longitude (option_and_then latitude_of d.number) h.longitude (latitude_within d.number), tt);
  rings = h.rings;
  sketch = h.sketch;
}
mark_kept marks.Points d h = record {
  longitude = h.longitude;
  path = tt;
  rings = h.rings;
  sketch = both_kept d.sketch (points_only d.path) h.sketch (record { points = h.path; lines = tt; areas = tt; long = tt; filled = tt });
}
mark_kept marks.Line d h = line_kept (nat_le 2 (length d.path)) d refl h
mark_kept marks.Ring d h = record { longitude = h.longitude; path = tt; rings = both_joined d.rings (d.path ∷ []) h.rings (one_joined d.path h.path); sketch = h.sketch }
mark_kept marks.Area d h = area_kept d.rings d h.rings h
mark_kept _ d h = h

pub class_kept : (c : Class) (bytes : List ℕ) (d : Drawing) → IsKeptDrawing d → IsKeptDrawing (reads_class c bytes d)
class_kept classes.Number bytes d h = record { longitude = h.longitude; path = h.path; rings = h.rings; sketch = h.sketch }
class_kept _ bytes d h = h
