-- The tokens of a shape make the shape.
use Rattle.std.proofs.Common.{◌≡◌, inl, inr, ℕ, ◌≤◌, ◌<◌, ◌^◌, List, [], ◌∷◌, ◌++◌, length, map, true, false, ◌||◌, ◌&&◌, Option, Some, None, Ok, Result, refl, sym, ap, subst, ◌∙◌, append-nil, append_assoc, codes, arith, ℤ, pos, negsuc, ◌≤ℤ◌, unsigned_abs}
use Rattle.std.specs.List.{AllByRecursion}
use Rattle.std.specs.Prelude.{int_le, is_none}
use Rattle.std.proofs.lemmas.Bool.{le-leb}
use Rattle.std.specs.Option.{option_map}
use Rattle.std.proofs.lemmas.Int.{ints}
use Rattle.std.proofs.lemmas.List.{length-map, map-append}
use Rattle.std.proofs.lemmas.Simd.{map-map}
use Rattle.std.proofs.lemmas.List.Elements.{recursion_from_All}
use Rattle.sc_grammar.specs.Grammar.{tok, non, act}
use Rattle.sc_grammar.specs.Words.{bytes_of, word_of, keyword_of, function_of, geometry_of, is_z}
use Rattle.sc_grammar.specs.declared.token.Class.{Class}
use Rattle.sc_grammar.specs.declared.token.Class.TheVariants as classes
use Rattle.sc_grammar.specs.declared.token.Token.{Token as Told}
use Rattle.sc_cqlgrammar.specs.declared.rule.Rule.{Rule}
use Rattle.sc_cqlgrammar.specs.declared.rule.Rule.TheVariants as rules
use Rattle.sc_cqlgrammar.specs.declared.mark.Mark.{Mark}
use Rattle.sc_cqlgrammar.specs.declared.mark.Mark.TheVariants as marks
use Rattle.sc_cqlgrammar.specs.Rules.{Items, IsAlternative}
use Rattle.sc_decimal.specs.Number.{Number}
use Rattle.sc_decimal.specs.Grid.{grid_of}
use Rattle.sc_decimal.specs.Value.{number_of}
use Rattle.sc_geom.specs.declared.point.Pt.{Pt}
use Rattle.sc_geom.specs.Point.{IsLongitude, IsLatitude, IsInWorld}
use Rattle.sc_geom.specs.Place.{kept_between, step_between, longitude_of, latitude_of, place_from}
use Rattle.sc_geom.specs.Shapes.{Shapes, joined, rings_of, positions_of, nothing, beside, map_shapes}
use Rattle.sc_geom.specs.Sketch.{Sketch}
use Rattle.sc_geom.specs.Drawn.{points_only, lines_only, areas_only}
use Rattle.sc_geom.specs.Building.{settled}
use Rattle.sc_geom.specs.Geometry.{IsRing, IsGeometry}
use Rattle.sc_wkt.specs.Drawing.{Drawing, reads_class, draws, is_bad}
use Rattle.sc_expr.specs.declared.scalar.Shape.{Shape}
use Rattle.sc_expr.specs.declared.scalar.Shape.TheVariants as shapes
use Rattle.sc_expr.specs.Form.{IsFormedShape}
use Rattle.sc_expr.specs.Kept.{IsKeptShape}
use Rattle.sc_cqlvalue.specs.Values as values
use Rattle.sc_cqlvalue.specs.Literals.{dec_of}
use Rattle.sc_cqlread.specs.Reading.{Reading, eats, does, drawn}
use Rattle.sc_cqlwrite.specs.Tokens as tokens
use Rattle.sc_cqlwrite.specs.Tokens.{Token, before_each, enclosed, listed}
use Rattle.sc_cqlwrite.specs.Coordinate.{coordinate_text}
use Rattle.sc_cqlwrite.specs.Geometries.{position_tokens, line_tokens, area_tokens, point_part, line_part, area_part, parts_of, collected, geometry_tokens, shape_tokens}
use Rattle.sc_cqlback.specs.Read.{class_of}
use Rattle.sc_cqlback.proofs.Wholes.{coordinate_whole}
use Rattle.sc_cqlback.proofs.Coordinates.{coordinate_read}
use Rattle.sc_cqlback.proofs.Geometries.{all_first, all_second, all_parts, all_both}
use Rattle.sc_cqlwrite.proofs.Parts.{parts_length}
use Rattle.sc_cqltext.proofs.Gives.{Ready, state_of, IsTold, At, On, forget, Gives, Rules, gives_none, gives_rule, gives_then, gives_mark, gives_marked, gives_both, gives_token, IsPlain, eaten, IsValued, done_on}
use Rattle.sc_cqltext.proofs.Scalars.{number_bytes, number_plain, name_gives, name_is}
use Rattle.sc_cqltext.proofs.Sketches.{Sheet, drawing_of, sheet, somes, sketch_of, some_part, sound, settled_again}

abbrev pub with_shape : Shape → Ready → Ready
with_shape s x = record x { shapes = s ∷ x.shapes }

-- ---- coordinates

-- a number that is told of these steps
record IsStepped (steps : ℤ) : Type 0 where
  number : Number
  told : dec_of (coordinate_text steps) ≡ Some number
  grid : grid_of number ≡ Some steps

stepped : (steps : ℤ) → negsuc 3599999999 ≤ℤ steps → steps ≤ℤ pos 3_600_000_000 → IsStepped steps
stepped steps low high =
    let read = coordinate_read steps low high in
    let small : unsigned_abs steps < 2 ^ 64 = omega (arith, ints) in
    record {
      number = number_of (coordinate_text steps);
      told = rw (coordinate_whole steps small, read.0) refl;
      grid = read.1;
    }

between_true : (low high z : ℤ) → low ≤ℤ z → z ≤ℤ high → kept_between low high z ≡ Some z
between_true low high z l h = let k : (int_le low z && int_le z high) ≡ true = grind (arith, ints) in rw k refl

longitude_is : (n : Number) (x : ℤ) → grid_of n ≡ Some x → IsLongitude x → longitude_of n ≡ Some x
unfolding step_between
longitude_is n x e (l, h) = rw e (between_true (negsuc 3599999999) (pos 3600000000) x l h)

latitude_is : (n : Number) (y : ℤ) → grid_of n ≡ Some y → IsLatitude y → latitude_of n ≡ Some y
unfolding step_between
latitude_is n y e (l, h) = rw e (between_true (negsuc 899999999) (pos 900000000) y l h)

-- ---- what is drawn

module _ (chars : List ℕ) where
  record Drawn (x : Ready) (d : Sheet) (r : Reading) : Type 0 where
    at : At chars x r
    number : Option Number
    longitude : Option ℤ
    drawing : r.drawing ≡ drawing_of d number longitude

  record Numbered (x : Ready) (d : Sheet) (n : Number) (r : Reading) : Type 0 where
    at : At chars x r
    longitude : Option ℤ
    drawing : r.drawing ≡ drawing_of d (Some n) longitude

  record Half (x : Ready) (d : Sheet) (z : ℤ) (r : Reading) : Type 0 where
    at : At chars x r
    number : Option Number
    drawing : r.drawing ≡ drawing_of d number (Some z)

  record Halved (x : Ready) (d : Sheet) (z : ℤ) (n : Number) (r : Reading) : Type 0 where
    at : At chars x r
    drawing : r.drawing ≡ drawing_of d (Some n) (Some z)

  -- ---- tokens

  still_drawing : (t : Token) → ((bytes : List ℕ) (d : Drawing) → reads_class (class_of t) bytes d ≡ d) → (k : Told) → IsTold chars k t → (r : Reading) → (eats chars k r).drawing ≡ r.drawing
  unfolding eats
  still_drawing t still k told r = ap (λ (c : Class). reads_class c (bytes_of chars k.from k.to) r.drawing) told.class ∙ still (bytes_of chars k.from k.to) r.drawing

  gives_still : (t : Token) (is : Items) (x : Ready) (d : Sheet) (R : Reading → Type 0) (ts : List Token) → IsPlain chars t → ((bytes : List ℕ) (d : Drawing) → reads_class (class_of t) bytes d ≡ d) → Gives chars is (Drawn x d) R ts → Gives chars (tok (class_of t) ∷ is) (Drawn x d) R (t ∷ ts)
  gives_still t is x d R ts plain still h =
      gives_token chars t is (Drawn x d) (Drawn x d) R ts
      (λ k told r p. record { at = forget chars x t (eats chars k r) (eaten chars x t plain k told r p.at); number = p.number; longitude = p.longitude; drawing = still_drawing t still k told r ∙ p.drawing }) h

  number_drawing : (bytes : List ℕ) (n : Number) → dec_of bytes ≡ Some n → (k : Told) → IsTold chars k (tokens.number bytes) → (r : Reading) → (eats chars k r).drawing ≡ record r.drawing { number = Some n }
  unfolding eats
  number_drawing bytes n is k told r =
      ap (λ (c : Class). reads_class c (bytes_of chars k.from k.to) r.drawing) told.class
      ∙ ap (λ (o : Option Number). record r.drawing { number = o }) (ap dec_of (number_bytes chars bytes k told) ∙ is)

  number_first : (x : Ready) (d : Sheet) (bytes : List ℕ) (n : Number) → dec_of bytes ≡ Some n → (k : Told) → IsTold chars k (tokens.number bytes) → (r : Reading) → Drawn x d r → Numbered x d n (eats chars k r)
  number_first x d bytes n is k told r p = record {
    at = forget chars x (tokens.number bytes) (eats chars k r) (eaten chars x (tokens.number bytes) (number_plain chars bytes n is) k told r p.at);
    longitude = p.longitude;
    drawing = number_drawing bytes n is k told r ∙ ap (λ (e : Drawing). record e { number = Some n }) p.drawing;
  }

  number_second : (x : Ready) (d : Sheet) (z : ℤ) (bytes : List ℕ) (n : Number) → dec_of bytes ≡ Some n → (k : Told) → IsTold chars k (tokens.number bytes) → (r : Reading) → Half x d z r → Halved x d z n (eats chars k r)
  number_second x d z bytes n is k told r p = record {
    at = forget chars x (tokens.number bytes) (eats chars k r) (eaten chars x (tokens.number bytes) (number_plain chars bytes n is) k told r p.at);
    drawing = number_drawing bytes n is k told r ∙ ap (λ (e : Drawing). record e { number = Some n }) p.drawing;
  }

  -- ---- marks

  record IsDrawing (m : Mark) : Type 0 where
    values_stay : (r : Reading) → (does chars m r).values ≡ r.values
    wide_stays : (r : Reading) → (does chars m r).wide ≡ r.wide
    drawing_is : (r : Reading) → (does chars m r).drawing ≡ draws m r.drawing

  stays_at : (m : Mark) → IsDrawing m → (x : Ready) (r : Reading) → At chars x r → At chars x (does chars m r)
  stays_at m is x r at = record { last = at.last; bbox = at.bbox; values = is.values_stay r ∙ at.values; wide = is.wide_stays r ∙ at.wide }

  longitude_draws : IsDrawing marks.Longitude
  unfolding does
  longitude_draws = record { values_stay = λ r. refl; wide_stays = λ r. refl; drawing_is = λ r. refl }

  latitude_draws : IsDrawing marks.Latitude
  unfolding does
  latitude_draws = record { values_stay = λ r. refl; wide_stays = λ r. refl; drawing_is = λ r. refl }

  points_draws : IsDrawing marks.Points
  unfolding does
  points_draws = record { values_stay = λ r. refl; wide_stays = λ r. refl; drawing_is = λ r. refl }

  line_draws : IsDrawing marks.Line
  unfolding does
  line_draws = record { values_stay = λ r. refl; wide_stays = λ r. refl; drawing_is = λ r. refl }

  ring_draws : IsDrawing marks.Ring
  unfolding does
  ring_draws = record { values_stay = λ r. refl; wide_stays = λ r. refl; drawing_is = λ r. refl }

  area_draws : IsDrawing marks.Area
  unfolding does
  area_draws = record { values_stay = λ r. refl; wide_stays = λ r. refl; drawing_is = λ r. refl }

  abbrev with_path : List (Option Pt) → Sheet → Sheet
  with_path path d = record d { path = path }

  longitude_done : (x : Ready) (d : Sheet) (n : Number) (z : ℤ) → longitude_of n ≡ Some z → (r : Reading) → Numbered x d n r → Half x d z (does chars marks.Longitude r)
  longitude_done x d n z is r p = record {
    at = stays_at marks.Longitude longitude_draws x r p.at;
    number = Some n;
    drawing = longitude_draws.drawing_is r ∙ ap (draws marks.Longitude) p.drawing ∙ ap (λ (o : Option ℤ). record (drawing_of d (Some n) None) { longitude = o; is_outside = false || is_none o }) is;
  }

  latitude_done : (x : Ready) (d : Sheet) (n : Number) (p : Pt) → latitude_of n ≡ Some p.y → (r : Reading) → Halved x d p.x n r → Drawn x (with_path (d.path ++ Some p ∷ []) d) (does chars marks.Latitude r)
  latitude_done x d n p is r h = record {
    at = stays_at marks.Latitude latitude_draws x r h.at;
    number = Some n;
    longitude = Some p.x;
    drawing = latitude_draws.drawing_is r ∙ ap (draws marks.Latitude) h.drawing ∙ ap (λ (o : Option ℤ). record (drawing_of d (Some n) (Some p.x)) { path = d.path ++ place_from (Some p.x) o ∷ []; is_outside = false || is_none o }) is;
  }

  no_more : (n : Rule) → IsAlternative n [] → (P : Reading → Type 0) → Rules chars n P P []
  no_more n is P = gives_rule chars n [] P P [] is (gives_none chars P)

  -- ---- positions

  position_gives : (p : Pt) → IsInWorld p → (x : Ready) (d : Sheet) → Rules chars rules.Position (Drawn x d) (Drawn x (with_path (d.path ++ Some p ∷ []) d)) (position_tokens p)
  position_gives p is x d =
      let a = stepped p.x is.0.0 is.0.1 in
      let b = stepped p.y (lower p.y is.1.0) (higher p.y is.1.1) in
      let end = with_path (d.path ++ Some p ∷ []) d in
      let tx : Token = tokens.number (coordinate_text p.x) in let ty : Token = tokens.number (coordinate_text p.y) in
      gives_rule chars rules.Position (tok classes.Number ∷ act marks.Longitude ∷ tok classes.Number ∷ act marks.Latitude ∷ non rules.Height ∷ []) (Drawn x d) (Drawn x end) (position_tokens p) (inl refl)
      (gives_token chars tx (act marks.Longitude ∷ tok classes.Number ∷ act marks.Latitude ∷ non rules.Height ∷ []) (Drawn x d) (Numbered x d a.number) (Drawn x end) (ty ∷ []) (number_first x d (coordinate_text p.x) a.number a.told)
      (gives_mark chars marks.Longitude (tok classes.Number ∷ act marks.Latitude ∷ non rules.Height ∷ []) (Numbered x d a.number) (Half x d p.x) (Drawn x end) (ty ∷ []) (longitude_done x d a.number p.x (longitude_is a.number p.x a.grid is.0))
      (gives_token chars ty (act marks.Latitude ∷ non rules.Height ∷ []) (Half x d p.x) (Halved x d p.x b.number) (Drawn x end) [] (number_second x d p.x (coordinate_text p.y) b.number b.told)
      (gives_mark chars marks.Latitude (non rules.Height ∷ []) (Halved x d p.x b.number) (Drawn x end) (Drawn x end) [] (latitude_done x d b.number p (latitude_is b.number p.y b.grid is.1)) (no_more rules.Height (inr (inl refl)) (Drawn x end))))))
    where
      lower : (y : ℤ) → negsuc 899999999 ≤ℤ y → negsuc 3599999999 ≤ℤ y
      lower y h = omega (arith, ints)

      higher : (y : ℤ) → y ≤ℤ pos 900000000 → y ≤ℤ pos 3_600_000_000
      higher y h = omega (arith, ints)

  abbrev AreInWorld : List Pt → Type 0
  AreInWorld = AllByRecursion IsInWorld

  comma_gives : (is : Items) (x : Ready) (d : Sheet) (R : Reading → Type 0) (ts : List Token) → Gives chars is (Drawn x d) R ts → Gives chars (tok classes.Comma ∷ is) (Drawn x d) R (tokens.comma ∷ ts)
  comma_gives is x d R ts h = gives_still tokens.comma is x d R ts (λ place. refl) (λ bytes e. refl) h

  opening_gives : (is : Items) (x : Ready) (d : Sheet) (R : Reading → Type 0) (ts : List Token) → Gives chars is (Drawn x d) R ts → Gives chars (tok classes.Opening ∷ is) (Drawn x d) R (tokens.opening ∷ ts)
  opening_gives is x d R ts h = gives_still tokens.opening is x d R ts (λ place. refl) (λ bytes e. refl) h

  closing_gives : (x : Ready) (d : Sheet) → Gives chars (tok classes.Closing ∷ []) (Drawn x d) (Drawn x d) (tokens.closing ∷ [])
  closing_gives x d = gives_still tokens.closing [] x d (Drawn x d) [] (λ place. refl) (λ bytes e. refl) (gives_none chars (Drawn x d))

  position_rest : (ps : List Pt) → AreInWorld ps → (x : Ready) (d : Sheet) → Rules chars rules.PositionRest (Drawn x d) (Drawn x (with_path (d.path ++ somes ps) d)) (before_each tokens.comma (map position_tokens ps))
  position_rest [] all x d =
      subst (λ (l : List (Option Pt)). Rules chars rules.PositionRest (Drawn x d) (Drawn x (with_path l d)) []) (sym (append-nil d.path)) (no_more rules.PositionRest (inr (inl refl)) (Drawn x d))
  position_rest (p ∷ ps) all x d =
      let ts : List Token = position_tokens p in let us : List Token = before_each tokens.comma (map position_tokens ps) in
      let e = with_path (d.path ++ Some p ∷ []) d in let f = with_path (d.path ++ somes (p ∷ ps)) d in
      let rest : Rules chars rules.PositionRest (Drawn x e) (Drawn x f) us =
      subst (λ (l : List (Option Pt)). Rules chars rules.PositionRest (Drawn x e) (Drawn x (with_path l d)) us) (append_assoc d.path (Some p ∷ []) (somes ps)) (position_rest ps all.1 x e) in
      gives_rule chars rules.PositionRest (tok classes.Comma ∷ non rules.Position ∷ non rules.PositionRest ∷ []) (Drawn x d) (Drawn x f) (tokens.comma ∷ (ts ++ us)) (inl refl)
      (comma_gives (non rules.Position ∷ non rules.PositionRest ∷ []) x d (Drawn x f) (ts ++ us)
      (gives_then chars rules.Position (non rules.PositionRest ∷ []) (Drawn x d) (Drawn x e) (Drawn x f) ts us (position_gives p all.0 x d) rest))

  -- ---- lines, rings and areas, on a sheet with no path

  abbrev add_line : List Pt → Sketch → Sketch
  add_line line s = record { points = s.points; lines = s.lines ++ somes line ∷ []; areas = s.areas }

  abbrev add_area : List (List Pt) → Sketch → Sketch
  add_area area s = record { points = s.points; lines = s.lines; areas = s.areas ++ map somes area ∷ [] }

  abbrev add_point : Pt → Sketch → Sketch
  add_point p s = record { points = s.points ++ Some p ∷ []; lines = s.lines; areas = s.areas }

  -- what is added beside shapes leaves the other two lists
  beside_line : (s : Sketch) (line : List (Option Pt)) → beside s (lines_only (line ∷ [])) ≡ record { points = s.points; lines = s.lines ++ line ∷ []; areas = s.areas }
  beside_line s line = λ i. record { points = append-nil s.points i; lines = s.lines ++ line ∷ []; areas = append-nil s.areas i }

  beside_area : (s : Sketch) (area : List (List (Option Pt))) → beside s (areas_only (area ∷ [])) ≡ record { points = s.points; lines = s.lines; areas = s.areas ++ area ∷ [] }
  beside_area s area = λ i. record { points = append-nil s.points i; lines = append-nil s.lines i; areas = s.areas ++ area ∷ [] }

  beside_points : (s : Sketch) (points : List (Option Pt)) → beside s (points_only points) ≡ record { points = s.points ++ points; lines = s.lines; areas = s.areas }
  beside_points s points = λ i. record { points = s.points ++ points; lines = append-nil s.lines i; areas = append-nil s.areas i }

  drawn_by : (m : Mark) → IsDrawing m → (x : Ready) (d e : Sheet) → ((n : Option Number) (l : Option ℤ) → draws m (drawing_of d n l) ≡ drawing_of e n l) → (r : Reading) → Drawn x d r → Drawn x e (does chars m r)
  drawn_by m is x d e same r p = record {
    at = stays_at m is x r p.at;
    number = p.number;
    longitude = p.longitude;
    drawing = is.drawing_is r ∙ ap (draws m) p.drawing ∙ same p.number p.longitude;
  }

  line_done : (x : Ready) (k : List (List (Option Pt))) (s : Sketch) (line : List Pt) → 2 ≤ length line → (r : Reading) → Drawn x (with_path (somes line) (sheet k s)) r → Drawn x (sheet k (add_line line s)) (does chars marks.Line r)
  line_done x k s line two =
      drawn_by marks.Line line_draws x (with_path (somes line) (sheet k s)) (sheet k (add_line line s))
      (λ n l. let long : 2 ≤ length (somes line) = rw (length-map line (λ (p : Pt). Some p)) two in
      rw (le-leb 2 (length (somes line)) long) (ap (λ (t : Sketch). drawing_of (sheet k t) n l) (beside_line s (somes line))))

  line_gives : (line : List Pt) → 2 ≤ length line → AreInWorld line → (x : Ready) (k : List (List (Option Pt))) (s : Sketch) → Rules chars rules.Line (Drawn x (sheet k s)) (Drawn x (sheet k (add_line line s))) (line_tokens line)
  line_gives [] two all x k s = absurd (omega arith)
  line_gives (p ∷ ps) two all x k s =
      let d = sheet k s in let e = with_path (Some p ∷ []) d in let f = with_path (somes (p ∷ ps)) d in let z = sheet k (add_line (p ∷ ps) s) in
      gives_rule chars rules.Line (tok classes.Opening ∷ non rules.Position ∷ non rules.PositionRest ∷ act marks.Line ∷ tok classes.Closing ∷ []) (Drawn x d) (Drawn x z) (line_tokens (p ∷ ps)) (inl refl)
      (opening_gives (non rules.Position ∷ non rules.PositionRest ∷ act marks.Line ∷ tok classes.Closing ∷ []) x d (Drawn x z) ((position_tokens p ++ before_each tokens.comma (map position_tokens ps)) ++ tokens.closing ∷ [])
      (gives_both chars rules.Position rules.PositionRest (act marks.Line ∷ tok classes.Closing ∷ []) (Drawn x d) (Drawn x e) (Drawn x f) (Drawn x z) (position_tokens p) (before_each tokens.comma (map position_tokens ps)) (tokens.closing ∷ []) (position_gives p all.0 x d) (position_rest ps all.1 x e)
      (gives_mark chars marks.Line (tok classes.Closing ∷ []) (Drawn x f) (Drawn x z) (Drawn x z) (tokens.closing ∷ []) (line_done x k s (p ∷ ps) two) (closing_gives x z))))

  ring_gives : (ring : List Pt) → 1 ≤ length ring → AreInWorld ring → (x : Ready) (k : List (List (Option Pt))) (s : Sketch) → Rules chars rules.Ring (Drawn x (sheet k s)) (Drawn x (sheet (k ++ somes ring ∷ []) s)) (line_tokens ring)
  ring_gives [] some all x k s = absurd (omega arith)
  ring_gives (p ∷ ps) some all x k s =
      let d = sheet k s in let e = with_path (Some p ∷ []) d in let f = with_path (somes (p ∷ ps)) d in let z = sheet (k ++ somes (p ∷ ps) ∷ []) s in
      gives_rule chars rules.Ring (tok classes.Opening ∷ non rules.Position ∷ non rules.PositionRest ∷ act marks.Ring ∷ tok classes.Closing ∷ []) (Drawn x d) (Drawn x z) (line_tokens (p ∷ ps)) (inl refl)
      (opening_gives (non rules.Position ∷ non rules.PositionRest ∷ act marks.Ring ∷ tok classes.Closing ∷ []) x d (Drawn x z) ((position_tokens p ++ before_each tokens.comma (map position_tokens ps)) ++ tokens.closing ∷ [])
      (gives_both chars rules.Position rules.PositionRest (act marks.Ring ∷ tok classes.Closing ∷ []) (Drawn x d) (Drawn x e) (Drawn x f) (Drawn x z) (position_tokens p) (before_each tokens.comma (map position_tokens ps)) (tokens.closing ∷ []) (position_gives p all.0 x d) (position_rest ps all.1 x e)
      (gives_mark chars marks.Ring (tok classes.Closing ∷ []) (Drawn x f) (Drawn x z) (Drawn x z) (tokens.closing ∷ []) (drawn_by marks.Ring ring_draws x f z (λ n l. refl)) (closing_gives x z))))

  ring_rest : (rings : List (List Pt)) → AllByRecursion (λ ring. 1 ≤ length ring) rings → AllByRecursion AreInWorld rings → (x : Ready) (k : List (List (Option Pt))) (s : Sketch) → Rules chars rules.RingRest (Drawn x (sheet k s)) (Drawn x (sheet (k ++ map somes rings) s)) (before_each tokens.comma (map line_tokens rings))
  ring_rest [] long all x k s =
      subst (λ (l : List (List (Option Pt))). Rules chars rules.RingRest (Drawn x (sheet k s)) (Drawn x (sheet l s)) []) (sym (append-nil k)) (no_more rules.RingRest (inr (inl refl)) (Drawn x (sheet k s)))
  ring_rest (ring ∷ rings) long all x k s =
      let ts : List Token = line_tokens ring in let us : List Token = before_each tokens.comma (map line_tokens rings) in
      let d = sheet k s in let e = sheet (k ++ somes ring ∷ []) s in let f = sheet (k ++ map somes (ring ∷ rings)) s in
      let rest : Rules chars rules.RingRest (Drawn x e) (Drawn x f) us =
      subst (λ (l : List (List (Option Pt))). Rules chars rules.RingRest (Drawn x e) (Drawn x (sheet l s)) us) (append_assoc k (somes ring ∷ []) (map somes rings)) (ring_rest rings long.1 all.1 x (k ++ somes ring ∷ []) s) in
      gives_rule chars rules.RingRest (tok classes.Comma ∷ non rules.Ring ∷ non rules.RingRest ∷ []) (Drawn x d) (Drawn x f) (tokens.comma ∷ (ts ++ us)) (inl refl)
      (comma_gives (non rules.Ring ∷ non rules.RingRest ∷ []) x d (Drawn x f) (ts ++ us)
      (gives_then chars rules.Ring (non rules.RingRest ∷ []) (Drawn x d) (Drawn x e) (Drawn x f) ts us (ring_gives ring long.0 all.0 x k s) rest))

  area_gives : (rings : List (List Pt)) → 1 ≤ length rings → AllByRecursion (λ ring. 1 ≤ length ring) rings → AllByRecursion AreInWorld rings → (x : Ready) (s : Sketch) → Rules chars rules.Area (Drawn x (sheet [] s)) (Drawn x (sheet [] (add_area rings s))) (area_tokens rings)
  area_gives [] some long all x s = absurd (omega arith)
  area_gives (r ∷ rings) some long all x s =
      let d = sheet [] s in let e = sheet (somes r ∷ []) s in let f = sheet (map somes (r ∷ rings)) s in let z = sheet [] (add_area (r ∷ rings) s) in
      gives_rule chars rules.Area (tok classes.Opening ∷ non rules.Ring ∷ non rules.RingRest ∷ act marks.Area ∷ tok classes.Closing ∷ []) (Drawn x d) (Drawn x z) (area_tokens (r ∷ rings)) (inl refl)
      (opening_gives (non rules.Ring ∷ non rules.RingRest ∷ act marks.Area ∷ tok classes.Closing ∷ []) x d (Drawn x z) ((line_tokens r ++ before_each tokens.comma (map line_tokens rings)) ++ tokens.closing ∷ [])
      (gives_both chars rules.Ring rules.RingRest (act marks.Area ∷ tok classes.Closing ∷ []) (Drawn x d) (Drawn x e) (Drawn x f) (Drawn x z) (line_tokens r) (before_each tokens.comma (map line_tokens rings)) (tokens.closing ∷ []) (ring_gives r long.0 all.0 x [] s) (ring_rest rings long.1 all.1 x (somes r ∷ []) s)
      (gives_mark chars marks.Area (tok classes.Closing ∷ []) (Drawn x f) (Drawn x z) (Drawn x z) (tokens.closing ∷ [])
      (drawn_by marks.Area area_draws x f z (λ n l. ap (λ (t : Sketch). drawing_of (sheet [] t) n l) (beside_area s (map somes (r ∷ rings))))) (closing_gives x z))))

  -- ---- the parts of a geometry

  no_z : (x : Ready) (d : Sheet) → Rules chars rules.ZWord (Drawn x d) (Drawn x d) []
  no_z x d = no_more rules.ZWord (inr (inl refl)) (Drawn x d)

  gives_point : (is : Items) (x : Ready) (d : Sheet) (R : Reading → Type 0) (ts : List Token) → Gives chars is (Drawn x d) R ts → Gives chars (tok classes.Point ∷ is) (Drawn x d) R (tokens.function (codes "POINT") ∷ ts)
  unfolding word_of keyword_of function_of geometry_of is_z
  gives_point is x d R ts h = gives_still (tokens.function (codes "POINT")) is x d R ts (λ place. refl) (λ bytes e. refl) h

  gives_linestring : (is : Items) (x : Ready) (d : Sheet) (R : Reading → Type 0) (ts : List Token) → Gives chars is (Drawn x d) R ts → Gives chars (tok classes.LineString ∷ is) (Drawn x d) R (tokens.function (codes "LINESTRING") ∷ ts)
  unfolding word_of keyword_of function_of geometry_of is_z
  gives_linestring is x d R ts h = gives_still (tokens.function (codes "LINESTRING")) is x d R ts (λ place. refl) (λ bytes e. refl) h

  gives_polygon : (is : Items) (x : Ready) (d : Sheet) (R : Reading → Type 0) (ts : List Token) → Gives chars is (Drawn x d) R ts → Gives chars (tok classes.Polygon ∷ is) (Drawn x d) R (tokens.function (codes "POLYGON") ∷ ts)
  unfolding word_of keyword_of function_of geometry_of is_z
  gives_polygon is x d R ts h = gives_still (tokens.function (codes "POLYGON")) is x d R ts (λ place. refl) (λ bytes e. refl) h

  gives_geometrycollection : (is : Items) (x : Ready) (d : Sheet) (R : Reading → Type 0) (ts : List Token) → Gives chars is (Drawn x d) R ts → Gives chars (tok classes.GeometryCollection ∷ is) (Drawn x d) R (tokens.function (codes "GEOMETRYCOLLECTION") ∷ ts)
  unfolding word_of keyword_of function_of geometry_of is_z
  gives_geometrycollection is x d R ts h = gives_still (tokens.function (codes "GEOMETRYCOLLECTION")) is x d R ts (λ place. refl) (λ bytes e. refl) h

  -- a part, its tokens, and what it adds
  data Part : Type 0 where
    point : Pt → Part
    line : List Pt → Part
    area : List (List Pt) → Part

  part_tokens : Part → List Token
  part_tokens (point p) = point_part p
  part_tokens (line l) = line_part l
  part_tokens (area a) = area_part a

  added : Part → Sketch → Sketch
  added (point p) s = add_point p s
  added (line l) s = add_line l s
  added (area a) s = add_area a s

  IsPart : Part → Type 0
  IsPart (point p) = IsInWorld p
  IsPart (line l) = (2 ≤ length l) × AreInWorld l
  IsPart (area a) = (1 ≤ length a) × AllByRecursion (λ ring. 1 ≤ length ring) a × AllByRecursion AreInWorld a

  Geometries : Part → Type 0
  Geometries p = (x : Ready) (s : Sketch) → Rules chars rules.Geometry (Drawn x (sheet [] s)) (Drawn x (sheet [] (added p s))) (part_tokens p)

  point_gives : (p : Pt) → IsInWorld p → Geometries (point p)
  unfolding Geometries part_tokens added
  point_gives p is x s =
      let d = sheet [] s in let e = with_path (Some p ∷ []) d in let z = sheet [] (add_point p s) in
      gives_rule chars rules.Geometry (tok classes.Point ∷ non rules.ZWord ∷ tok classes.Opening ∷ non rules.Position ∷ act marks.Points ∷ tok classes.Closing ∷ []) (Drawn x d) (Drawn x z) (point_part p) (inl refl)
      (gives_point (non rules.ZWord ∷ tok classes.Opening ∷ non rules.Position ∷ act marks.Points ∷ tok classes.Closing ∷ []) x d (Drawn x z) (enclosed (position_tokens p))
      (gives_then chars rules.ZWord (tok classes.Opening ∷ non rules.Position ∷ act marks.Points ∷ tok classes.Closing ∷ []) (Drawn x d) (Drawn x d) (Drawn x z) [] (enclosed (position_tokens p)) (no_z x d)
      (opening_gives (non rules.Position ∷ act marks.Points ∷ tok classes.Closing ∷ []) x d (Drawn x z) (position_tokens p ++ tokens.closing ∷ [])
      (gives_then chars rules.Position (act marks.Points ∷ tok classes.Closing ∷ []) (Drawn x d) (Drawn x e) (Drawn x z) (position_tokens p) (tokens.closing ∷ []) (position_gives p is x d)
      (gives_mark chars marks.Points (tok classes.Closing ∷ []) (Drawn x e) (Drawn x z) (Drawn x z) (tokens.closing ∷ [])
      (drawn_by marks.Points points_draws x e z (λ n l. ap (λ (t : Sketch). drawing_of (sheet [] t) n l) (beside_points s (Some p ∷ [])))) (closing_gives x z))))))

  line_part_gives : (l : List Pt) → 2 ≤ length l → AreInWorld l → Geometries (line l)
  unfolding Geometries part_tokens added
  line_part_gives l two all x s =
      let d = sheet [] s in let z = sheet [] (add_line l s) in
      gives_rule chars rules.Geometry (tok classes.LineString ∷ non rules.ZWord ∷ non rules.Line ∷ []) (Drawn x d) (Drawn x z) (line_part l) (inr (inl refl))
      (gives_linestring (non rules.ZWord ∷ non rules.Line ∷ []) x d (Drawn x z) (line_tokens l)
      (gives_then chars rules.ZWord (non rules.Line ∷ []) (Drawn x d) (Drawn x d) (Drawn x z) [] (line_tokens l) (no_z x d) (line_gives l two all x [] s)))

  area_part_gives : (a : List (List Pt)) → 1 ≤ length a → AllByRecursion (λ ring. 1 ≤ length ring) a → AllByRecursion AreInWorld a → Geometries (area a)
  unfolding Geometries part_tokens added
  area_part_gives a some long all x s =
      let d = sheet [] s in let z = sheet [] (add_area a s) in
      gives_rule chars rules.Geometry (tok classes.Polygon ∷ non rules.ZWord ∷ non rules.Area ∷ []) (Drawn x d) (Drawn x z) (area_part a) (inr (inr (inl refl)))
      (gives_polygon (non rules.ZWord ∷ non rules.Area ∷ []) x d (Drawn x z) (area_tokens a)
      (gives_then chars rules.ZWord (non rules.Area ∷ []) (Drawn x d) (Drawn x d) (Drawn x z) [] (area_tokens a) (no_z x d) (area_gives a some long all x s)))

  part_gives : (p : Part) → IsPart p → Geometries p
  unfolding IsPart
  part_gives (point p) is = point_gives p is
  part_gives (line l) is = line_part_gives l is.0 is.1
  part_gives (area a) is = area_part_gives a is.0 is.1 is.2

  -- ---- collections

  all_added : List Part → Sketch → Sketch
  all_added [] s = s
  all_added (p ∷ ps) s = all_added ps (added p s)

  geometry_rest : (ps : List Part) → AllByRecursion IsPart ps → (x : Ready) (s : Sketch) → Rules chars rules.GeometryRest (Drawn x (sheet [] s)) (Drawn x (sheet [] (all_added ps s))) (before_each tokens.comma (map part_tokens ps))
  unfolding all_added Geometries
  geometry_rest [] all x s = no_more rules.GeometryRest (inr (inl refl)) (Drawn x (sheet [] s))
  geometry_rest (p ∷ ps) all x s =
      let ts : List Token = part_tokens p in let us : List Token = before_each tokens.comma (map part_tokens ps) in
      let d = sheet [] s in let e = sheet [] (added p s) in let f = sheet [] (all_added ps (added p s)) in
      gives_rule chars rules.GeometryRest (tok classes.Comma ∷ non rules.Geometry ∷ non rules.GeometryRest ∷ []) (Drawn x d) (Drawn x f) (tokens.comma ∷ (ts ++ us)) (inl refl)
      (comma_gives (non rules.Geometry ∷ non rules.GeometryRest ∷ []) x d (Drawn x f) (ts ++ us)
      (gives_then chars rules.Geometry (non rules.GeometryRest ∷ []) (Drawn x d) (Drawn x e) (Drawn x f) ts us (part_gives p all.0 x s) (geometry_rest ps all.1 x (added p s))))

  collected_gives : (ps : List Part) → 1 ≤ length ps → AllByRecursion IsPart ps → (x : Ready) (s : Sketch) → Rules chars rules.Geometry (Drawn x (sheet [] s)) (Drawn x (sheet [] (all_added ps s))) (collected (map part_tokens ps))
  unfolding all_added Geometries
  collected_gives [] some all x s = absurd (omega arith)
  collected_gives (p ∷ []) some all x s = part_gives p all.0 x s
  collected_gives (p ∷ q ∷ ps) some all x s =
      let part : List Token = part_tokens p in let rest : List Token = before_each tokens.comma (map part_tokens (q ∷ ps)) in
      let parts : List (List Token) = map part_tokens (p ∷ q ∷ ps) in
      let d = sheet [] s in let e = sheet [] (added p s) in let z = sheet [] (all_added (q ∷ ps) (added p s)) in
      gives_rule chars rules.Geometry (tok classes.GeometryCollection ∷ non rules.ZWord ∷ tok classes.Opening ∷ non rules.Geometry ∷ non rules.GeometryRest ∷ tok classes.Closing ∷ []) (Drawn x d) (Drawn x z) (tokens.function (codes "GEOMETRYCOLLECTION") ∷ listed parts) (inr (inr (inr (inr (inr (inr (inl refl)))))))
      (gives_geometrycollection (non rules.ZWord ∷ tok classes.Opening ∷ non rules.Geometry ∷ non rules.GeometryRest ∷ tok classes.Closing ∷ []) x d (Drawn x z) (listed parts)
      (gives_then chars rules.ZWord (tok classes.Opening ∷ non rules.Geometry ∷ non rules.GeometryRest ∷ tok classes.Closing ∷ []) (Drawn x d) (Drawn x d) (Drawn x z) [] (listed parts) (no_z x d)
      (opening_gives (non rules.Geometry ∷ non rules.GeometryRest ∷ tok classes.Closing ∷ []) x d (Drawn x z) ((part ++ rest) ++ tokens.closing ∷ [])
      (gives_both chars rules.Geometry rules.GeometryRest (tok classes.Closing ∷ []) (Drawn x d) (Drawn x e) (Drawn x z) (Drawn x z) part rest (tokens.closing ∷ []) (part_gives p all.0 x s) (geometry_rest (q ∷ ps) all.1 x (added p s)) (closing_gives x z)))))

  -- ---- what is drawn of a geometry

  parts_list : Shapes Pt → List Part
  parts_list g = map (λ p. point p) g.points ++ map (λ l. line l) g.lines ++ map (λ a. area a) g.areas

  parts_same : (g : Shapes Pt) → map part_tokens (parts_list g) ≡ parts_of g
  unfolding parts_list part_tokens
  parts_same g =
      map-append part_tokens (map (λ p. point p) g.points ++ map (λ l. line l) g.lines) (map (λ a. area a) g.areas)
      ∙ ap (λ (ts : List (List Token)). ts ++ map part_tokens (map (λ a. area a) g.areas)) (map-append part_tokens (map (λ p. point p) g.points) (map (λ l. line l) g.lines))
      ∙ three (map-map part_tokens (λ p. point p) g.points) (map-map part_tokens (λ l. line l) g.lines) (map-map part_tokens (λ a. area a) g.areas)
    where
      three : {a b c d e f : List (List Token)} → a ≡ d → b ≡ e → c ≡ f → (a ++ b) ++ c ≡ (d ++ e) ++ f
      three p q r = cc

  added_append : (ps qs : List Part) (s : Sketch) → all_added (ps ++ qs) s ≡ all_added qs (all_added ps s)
  unfolding all_added
  added_append [] qs s = refl
  added_append (p ∷ ps) qs s = added_append ps qs (added p s)

  points_added : (ps : List Pt) (s : Sketch) → all_added (map (λ p. point p) ps) s ≡ record { points = s.points ++ somes ps; lines = s.lines; areas = s.areas }
  unfolding all_added added
  points_added [] s = λ i. record { points = sym (append-nil s.points) i; lines = s.lines; areas = s.areas }
  points_added (p ∷ ps) s = points_added ps (add_point p s) ∙ ap (λ (l : List (Option Pt)). record { points = l; lines = s.lines; areas = s.areas }) (append_assoc s.points (Some p ∷ []) (somes ps))

  lines_added : (ls : List (List Pt)) (s : Sketch) → all_added (map (λ l. line l) ls) s ≡ record { points = s.points; lines = s.lines ++ map somes ls; areas = s.areas }
  unfolding all_added added
  lines_added [] s = λ i. record { points = s.points; lines = sym (append-nil s.lines) i; areas = s.areas }
  lines_added (l ∷ ls) s = lines_added ls (add_line l s) ∙ ap (λ (k : List (List (Option Pt))). record { points = s.points; lines = k; areas = s.areas }) (append_assoc s.lines (somes l ∷ []) (map somes ls))

  areas_added : (qs : List (List (List Pt))) (s : Sketch) → all_added (map (λ a. area a) qs) s ≡ record { points = s.points; lines = s.lines; areas = s.areas ++ map (map somes) qs }
  unfolding all_added added
  areas_added [] s = λ i. record { points = s.points; lines = s.lines; areas = sym (append-nil s.areas) i }
  areas_added (a ∷ qs) s = areas_added qs (add_area a s) ∙ ap (λ (k : List (List (List (Option Pt)))). record { points = s.points; lines = s.lines; areas = k }) (append_assoc s.areas (map somes a ∷ []) (map (map somes) qs))

  drawn_whole : (g : Shapes Pt) → all_added (parts_list g) nothing ≡ sketch_of g
  unfolding parts_list
  drawn_whole g =
      added_append (map (λ p. point p) g.points ++ map (λ l. line l) g.lines) (map (λ a. area a) g.areas) nothing
      ∙ ap (all_added (map (λ a. area a) g.areas)) (added_append (map (λ p. point p) g.points) (map (λ l. line l) g.lines) nothing ∙ ap (all_added (map (λ l. line l) g.lines)) (points_added g.points nothing) ∙ lines_added g.lines (record { points = somes g.points; lines = []; areas = [] }))
      ∙ areas_added g.areas (record { points = somes g.points; lines = map somes g.lines; areas = [] })

  -- ---- a geometry as a shape

  begins : (x : Ready) (r : Reading) → At chars x r → Drawn x (sheet [] nothing) (does chars marks.Outermost r)
  unfolding does
  begins x r at = record {
    at = record { last = at.last; bbox = at.bbox; values = at.values; wide = at.wide };
    number = Some (record { neg = false; m = 0; e = pos 0 });
    longitude = Some (pos 0);
    drawing = refl;
  }

  drawn_is : (x : Ready) (g : Shapes Pt) → IsGeometry g → length (positions_of g) ≤ 1000 → (r : Reading) → Drawn x (sheet [] (sketch_of g)) r → drawn r ≡ Ok g
  drawn_is x g is few r p =
      let fine : is_bad 1000 r.drawing ≡ false = ap (is_bad 1000) p.drawing ∙ sound g is few p.number p.longitude in
      rw (fine, p.at.wide) (ap (λ (e : Drawing). ok (map_shapes settled e.sketch)) p.drawing ∙ ap ok (settled_again g))
    where
      ok : Shapes Pt → Result (Shapes Pt) ℕ
      ok h = Ok h

  ends : (x : Ready) (g : Shapes Pt) → IsGeometry g → length (positions_of g) ≤ 1000 → (r : Reading) → Drawn x (sheet [] (sketch_of g)) r → At chars (with_shape (shapes.Geom g) x) (does chars marks.Geometry r)
  unfolding does
  ends x g is few r p = record {
    last = p.at.last;
    bbox = p.at.bbox;
    values = ap (λ (o : Result (Shapes Pt) ℕ). values.with_geometry o r.values) (drawn_is x g is few r p) ∙ ap (values.with_geometry (Ok g)) p.at.values;
    wide = p.at.wide;
  }

  are_parts : (g : Shapes Pt) → IsGeometry g → AllByRecursion IsPart (parts_list g)
  unfolding parts_list IsPart
  are_parts g is =
      let all = recursion_from_All IsInWorld (positions_of g) is.in_world in
      let front = all_first IsInWorld (g.points ++ joined g.lines) (joined (rings_of g)) all in
      let points = all_first IsInWorld g.points (joined g.lines) front in
      let lines = all_parts IsInWorld g.lines (all_second IsInWorld g.points (joined g.lines) front) in
      let rings = all_parts IsInWorld (rings_of g) (all_second IsInWorld (g.points ++ joined g.lines) (joined (rings_of g)) all) in
      let areas = all_parts AreInWorld g.areas rings in
      all_both IsPart (map (λ p. point p) g.points ++ map (λ l. line l) g.lines) (map (λ a. area a) g.areas)
      (all_both IsPart (map (λ p. point p) g.points) (map (λ l. line l) g.lines) (each_point g.points points) (each_line g.lines (recursion_from_All (λ line. 2 ≤ length line) g.lines is.lines) lines))
      (each_area g.areas (recursion_from_All (λ area. 1 ≤ length area) g.areas is.areas) (all_parts IsRing g.areas (recursion_from_All IsRing (rings_of g) is.rings)) areas)
    where
      each_point : (ps : List Pt) → AreInWorld ps → AllByRecursion IsPart (map (λ p. point p) ps)
      each_point [] all = tt
      each_point (p ∷ ps) all = (all.0, each_point ps all.1)

      each_line : (ls : List (List Pt)) → AllByRecursion (λ l. 2 ≤ length l) ls → AllByRecursion AreInWorld ls → AllByRecursion IsPart (map (λ l. line l) ls)
      each_line [] two all = tt
      each_line (l ∷ ls) two all = ((two.0, all.0), each_line ls two.1 all.1)

      long_rings : (rings : List (List Pt)) → AllByRecursion IsRing rings → AllByRecursion (λ ring. 1 ≤ length ring) rings
      long_rings [] all = tt
      long_rings (r ∷ rings) all = let long = all.0.long in (omega arith, long_rings rings all.1)

      each_area : (qs : List (List (List Pt))) → AllByRecursion (λ a. 1 ≤ length a) qs → AllByRecursion (AllByRecursion IsRing) qs → AllByRecursion (AllByRecursion AreInWorld) qs → AllByRecursion IsPart (map (λ a. area a) qs)
      each_area [] some rings all = tt
      each_area (a ∷ qs) some rings all = ((some.0, long_rings a rings.0, all.0), each_area qs some.1 rings.1 all.1)

  some_parts : (g : Shapes Pt) → IsGeometry g → 1 ≤ length (parts_list g)
  some_parts g is =
      let some = some_part g.points g.lines g.areas is.some in
      let same : length (parts_list g) ≡ length (parts_of g) = sym (length-map (parts_list g) part_tokens) ∙ ap length (parts_same g) in
      omega (arith, same, parts_length g)

  geometry_gives : (g : Shapes Pt) → IsGeometry g → (x : Ready) → Rules chars rules.Geometry (Drawn x (sheet [] nothing)) (Drawn x (sheet [] (sketch_of g))) (geometry_tokens g)
  geometry_gives g is x =
      subst (λ (k : Sketch). Rules chars rules.Geometry (Drawn x (sheet [] nothing)) (Drawn x (sheet [] k)) (geometry_tokens g)) (drawn_whole g)
      (subst (λ (ps : List (List Token)). Rules chars rules.Geometry (Drawn x (sheet [] nothing)) (Drawn x (sheet [] (all_added (parts_list g) nothing))) (collected ps)) (parts_same g)
      (collected_gives (parts_list g) (some_parts g is) (are_parts g is) x nothing))

  named_valued : IsValued chars marks.NamedShape
  unfolding does
  named_valued = record { values_are = λ r. refl; wide_is = λ r. refl }

  pub shape_gives : (shape : Shape) → IsFormedShape shape → IsKeptShape shape → (x : Ready) → Rules chars rules.Shape (At chars x) (At chars (with_shape shape x)) (shape_tokens shape)
  shape_gives (shapes.Prop name) formed kept x =
      let y = with_shape (shapes.Prop name) x in
      gives_rule chars rules.Shape (non rules.Name ∷ act marks.NamedShape ∷ []) (At chars x) (At chars y) (tokens.name name ∷ []) (inl refl)
      (gives_marked chars rules.Name marks.NamedShape (At chars x) (On chars x (tokens.name name)) (At chars y) (tokens.name name ∷ []) (name_gives chars name x)
      (done_on chars marks.NamedShape x y (tokens.name name) named_valued
      (λ k b told. ap (λ (n : Option (List ℕ)). values.with_shape_at k.from (option_map (λ name. shapes.Prop name) n) (state_of x k b)) (name_is chars name formed kept k told))))
  shape_gives (shapes.Geom g) formed kept x =
      let y = with_shape (shapes.Geom g) x in
      gives_rule chars rules.Shape (act marks.Outermost ∷ non rules.Geometry ∷ act marks.Geometry ∷ []) (At chars x) (At chars y) (geometry_tokens g) (inr (inl refl))
      (gives_mark chars marks.Outermost (non rules.Geometry ∷ act marks.Geometry ∷ []) (At chars x) (Drawn x (sheet [] nothing)) (At chars y) (geometry_tokens g) (begins x)
      (gives_marked chars rules.Geometry marks.Geometry (Drawn x (sheet [] nothing)) (Drawn x (sheet [] (sketch_of g))) (At chars y) (geometry_tokens g) (geometry_gives g kept x) (ends x g kept formed)))
