-- Where no coordinate is out of range and no number is too wide, every position that is drawn lies in the world.
use Rattle.std.proofs.Common.{◌≡◌, ℕ, ℤ, List, [], ◌∷◌, ◌++◌, length, Bool, true, false, ◌||◌, Option, Some, None, refl, sym, ap, ◌∙◌, nat_le}
use Rattle.std.specs.Prelude.{is_none, if◌then◌else◌}
use Rattle.std.specs.Option.{option_and_then, option_or}
use Rattle.std.specs.List.{list_any}
use Rattle.std.proofs.lemmas.Bool.{or_parts}
use Rattle.std.proofs.lemmas.List.Folds.{list_any-append}
use Rattle.sc_decimal.specs.Number.{Number}
use Rattle.sc_geom.specs.declared.point.Pt.{Pt}
use Rattle.sc_geom.specs.Place.{longitude_of, latitude_of, place_from}
use Rattle.sc_geom.specs.Shapes.{joined, rings_of}
use Rattle.sc_geom.specs.Sketch.{leaves_world}
use Rattle.sc_geom.proofs.Lists.{joined-append}
use Rattle.sc_geom.proofs.Finished.{leaves_is}
use Rattle.sc_grammar.specs.Grammar.{done, token, mark, rule}
use Rattle.sc_grammar.specs.Words.{bytes_of}
use Rattle.sc_grammar.specs.declared.token.Class.{Class}
use Rattle.sc_grammar.specs.declared.token.Class.TheVariants as classes
use Rattle.sc_grammar.specs.declared.token.Token.{Token}
use Rattle.sc_cqlgrammar.specs.declared.mark.Mark.{Mark}
use Rattle.sc_cqlgrammar.specs.declared.mark.Mark.TheVariants as marks
use Rattle.sc_cqlgrammar.specs.Rules.{Items}
use Rattle.sc_cqlgrammar.proofs.Readings.{Left}
use Rattle.sc_wkt.specs.Drawing.{Drawing, blank, reads, reads_class, draws, leaves, with_line, with_area, number_in, wide_of, wide_at, first_wide}

abbrev Known : {A : Type 0} → Option A → Type 0
Known x = is_none x ≡ false

abbrev AllKnown : List (Option Pt) → Type 0
AllKnown places = list_any is_none places ≡ false

pub record IsInside (d : Drawing) : Type 0 where
  pub number : Known d.number
  pub longitude : Known d.longitude
  pub path : AllKnown d.path
  pub rings : AllKnown (joined d.rings)
  pub points : AllKnown d.sketch.points
  pub lines : AllKnown (joined d.sketch.lines)
  pub areas : AllKnown (joined (rings_of d.sketch))

pub blank_inside : IsInside blank
blank_inside = record { number = refl; longitude = refl; path = refl; rings = refl; points = refl; lines = refl; areas = refl }

both_known : (xs ys : List (Option Pt)) → AllKnown xs → AllKnown ys → AllKnown (xs ++ ys)
both_known xs ys e f = list_any-append is_none xs ys ∙ ap (λ b. b || list_any is_none ys) e ∙ f

one_known : (place : Option Pt) → Known place → AllKnown (place ∷ [])
one_known None e = absurd cc
one_known (Some p) e = refl

coordinate_known : (coordinate : Number → Option ℤ) (number : Option Number) → Known number → leaves coordinate number ≡ false → Known (option_and_then coordinate number)
coordinate_known coordinate None e f = absurd cc
coordinate_known coordinate (Some n) e f = f

place_known : (x y : Option ℤ) → Known x → Known y → Known (place_from x y)
place_known None y e f = absurd cc
place_known (Some x) None e f = absurd cc
place_known (Some x) (Some y) e f = refl

joined_known : (xs ys : List (List (Option Pt))) → AllKnown (joined xs) → AllKnown (joined ys) → AllKnown (joined (xs ++ ys))
joined_known xs ys e f = ap (list_any is_none) (joined-append xs ys) ∙ both_known (joined xs) (joined ys) e f

one_joined : (xs : List (Option Pt)) → AllKnown xs → AllKnown (joined (xs ∷ []))
one_joined xs e = both_known xs [] e refl

areas_known : (xs ys : List (List (List (Option Pt)))) → AllKnown (joined (joined xs)) → AllKnown (joined (joined ys)) → AllKnown (joined (joined (xs ++ ys)))
areas_known xs ys e f = ap (λ (rs : List (List (Option Pt))). list_any is_none (joined rs)) (joined-append xs ys) ∙ joined_known (joined xs) (joined ys) e f

one_area : (rings : List (List (Option Pt))) → AllKnown (joined rings) → AllKnown (joined (joined (rings ∷ [])))
one_area rings e = joined_known rings [] e refl

-- ---- marks

line_outside : (b : Bool) (d : Drawing) → (with_line b d).is_outside ≡ d.is_outside
line_outside true d = refl
line_outside false d = refl

area_outside : (rings : List (List (Option Pt))) (d : Drawing) → (with_area rings d).is_outside ≡ d.is_outside
area_outside [] d = refl
area_outside (ring ∷ rings) d = refl

pub mark_outside : (k : Mark) (d : Drawing) → (draws k d).is_outside ≡ false → d.is_outside ≡ false
mark_outside marks.Longitude d e = (or_parts d.is_outside (leaves longitude_of d.number) e).0
mark_outside marks.Latitude d e = (or_parts d.is_outside (leaves latitude_of d.number) e).0
mark_outside marks.Line d e = sym (line_outside (nat_le 2 (length d.path)) d) ∙ e
mark_outside marks.Area d e = sym (area_outside d.rings d) ∙ e
mark_outside _ d e = e

line_inside : (b : Bool) (d : Drawing) → IsInside d → IsInside (with_line b d)
line_inside true d is = record {
  number = is.number;
  longitude = is.longitude;
  path = refl;
  rings = is.rings;
  points = both_known d.sketch.points [] is.points refl;
  lines = joined_known d.sketch.lines (d.path ∷ []) is.lines (one_joined d.path is.path);
  areas = areas_known d.sketch.areas [] is.areas refl;
}
line_inside false d is = record { number = is.number; longitude = is.longitude; path = refl; rings = is.rings; points = is.points; lines = is.lines; areas = is.areas }

area_inside : (rings : List (List (Option Pt))) (d : Drawing) → AllKnown (joined rings) → IsInside d → IsInside (with_area rings d)
area_inside [] d e is = is
area_inside (ring ∷ rings) d e is = record {
  number = is.number;
  longitude = is.longitude;
  path = is.path;
  rings = refl;
  points = both_known d.sketch.points [] is.points refl;
  lines = joined_known d.sketch.lines [] is.lines refl;
  areas = areas_known d.sketch.areas ((ring ∷ rings) ∷ []) is.areas (one_area (ring ∷ rings) e);
}

pub mark_inside : (k : Mark) (d : Drawing) → (draws k d).is_outside ≡ false → IsInside d → IsInside (draws k d)
mark_inside marks.Longitude d e is = record {
  number = is.number;
  longitude = coordinate_known longitude_of d.number is.number (or_parts d.is_outside (leaves longitude_of d.number) e).1;
  path = is.path;
  rings = is.rings;
  points = is.points;
  lines = is.lines;
  areas = is.areas;
}
mark_inside marks.Latitude d e is =
    let y = coordinate_known latitude_of d.number is.number (or_parts d.is_outside (leaves latitude_of d.number) e).1 in
    let place = place_known d.longitude (option_and_then latitude_of d.number) is.longitude y in
    record {
      number = is.number;
      longitude = is.longitude;
      path = both_known d.path (place_from d.longitude (option_and_then latitude_of d.number) ∷ []) is.path (one_known (place_from d.longitude (option_and_then latitude_of d.number)) place);
      rings = is.rings;
      points = is.points;
      lines = is.lines;
      areas = is.areas;
    }
mark_inside marks.Points d e is = record {
  number = is.number;
  longitude = is.longitude;
  path = refl;
  rings = is.rings;
  points = both_known d.sketch.points d.path is.points is.path;
  lines = joined_known d.sketch.lines [] is.lines refl;
  areas = areas_known d.sketch.areas [] is.areas refl;
}
mark_inside marks.Line d e is = line_inside (nat_le 2 (length d.path)) d is
mark_inside marks.Ring d e is = record {
  number = is.number;
  longitude = is.longitude;
  path = refl;
  rings = joined_known d.rings (d.path ∷ []) is.rings (one_joined d.path is.path);
  points = is.points;
  lines = is.lines;
  areas = is.areas;
}
mark_inside marks.Area d e is = area_inside d.rings d is.rings is
mark_inside _ d e is = is

-- ---- tokens

pub class_outside : (c : Class) (bytes : List ℕ) (d : Drawing) → (reads_class c bytes d).is_outside ≡ d.is_outside
class_outside classes.Number bytes d = refl
class_outside _ bytes d = refl

pub class_inside : (c : Class) (bytes : List ℕ) (at : ℕ) (d : Drawing) → wide_of c bytes at ≡ None → IsInside d → IsInside (reads_class c bytes d)
class_inside classes.Number bytes at d e is = record { number = by_test (is_none (number_in bytes)) e; longitude = is.longitude; path = is.path; rings = is.rings; points = is.points; lines = is.lines; areas = is.areas }
  where
    by_test : (b : Bool) → (if b then Some at else None) ≡ None → b ≡ false
    by_test true f = absurd cc
    by_test false f = refl
class_inside _ bytes at d e is = is

pub neither : (a b : Option ℕ) → option_or a b ≡ None → (a ≡ None) × (b ≡ None)
neither None b e = (refl, e)
neither (Some x) b e = absurd cc

-- ---- the whole sketch

all_false : (a b c : Bool) → a ≡ false → b ≡ false → c ≡ false → ((a || b) || c) ≡ false
all_false true b c e f g = absurd cc
all_false false true c e f g = absurd cc
all_false false false c e f g = g

pub stays_inside : (d : Drawing) → IsInside d → leaves_world d.sketch ≡ false
stays_inside d inside =
    leaves_is d.sketch ∙ all_false (list_any is_none d.sketch.points) (list_any is_none (joined d.sketch.lines)) (list_any is_none (joined (rings_of d.sketch))) inside.points inside.lines inside.areas

-- ---- whole derivations

module _ (text : List ℕ) where
  derives_outside : (is : Items) (d : Drawing) (ts : List Token) (e : Drawing) → Left Drawing (reads text) draws is d ts e → e.is_outside ≡ false → d.is_outside ≡ false
  derives_outside _ _ _ _ (done d) h = h
  derives_outside _ _ _ _ (token t is d ts e l) h = sym (class_outside t.class (bytes_of text t.from t.to) d) ∙ derives_outside is (reads text t d) ts e l h
  derives_outside _ _ _ _ (mark k is d ts e l) h = mark_outside k d (derives_outside is (draws k d) ts e l h)
  derives_outside _ _ _ _ (rule n a is d ts e r l) h = derives_outside (a ++ is) d ts e l h

  derives_inside : (is : Items) (d : Drawing) (ts : List Token) (e : Drawing) → Left Drawing (reads text) draws is d ts e → first_wide text ts ≡ None → e.is_outside ≡ false → IsInside d → IsInside e
  derives_inside _ _ _ _ (done d) w h inside = inside
  derives_inside _ _ _ _ (token t is d ts e l) w h inside =
      let p = neither (wide_at text t) (first_wide text ts) w in
      derives_inside is (reads text t d) ts e l p.1 h (class_inside t.class (bytes_of text t.from t.to) t.from d p.0 inside)
  derives_inside _ _ _ _ (mark k is d ts e l) w h inside = derives_inside is (draws k d) ts e l w h (mark_inside k d (derives_outside is (draws k d) ts e l h) inside)
  derives_inside _ _ _ _ (rule n a is d ts e r l) w h inside = derives_inside (a ++ is) d ts e l w h inside

  pub drawn_inside : (is : Items) (ts : List Token) (e : Drawing) → Left Drawing (reads text) draws is blank ts e → first_wide text ts ≡ None → e.is_outside ≡ false → leaves_world e.sketch ≡ false
  drawn_inside is ts e l w h = stays_inside e (derives_inside is blank ts e l w h blank_inside)
