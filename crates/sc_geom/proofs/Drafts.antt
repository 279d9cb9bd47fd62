-- What a draft is after more points and one more line.
use Rattle.std.proofs.Common.{◌≡◌, ◌+◌, ◌≤◌, Bool, true, false, ◌||◌, List, [], ◌∷◌, ◌++◌, length, map, Option, refl, ap, sym, subst, ◌∙◌, arith, length-append}
use Rattle.std.specs.Prelude.{All, is_none}
use Rattle.std.specs.List.{list_any}
use Rattle.std.proofs.lemmas.List.{map-append, append-nil, length-map}
use Rattle.std.proofs.lemmas.List.Folds.{list_any-append}
use Rattle.std.proofs.lemmas.List.Elements.{All-push, All-append}
use Rattle.sc_geom.specs.declared.point.Pt.{Pt}
use Rattle.sc_geom.specs.declared.path.Path.{Path}
use Rattle.sc_geom.specs.declared.draft.Draft.{Draft}
use Rattle.sc_geom.specs.Point.{IsInWorld}
use Rattle.sc_geom.specs.Shapes.{joined, rings_of, beside}
use Rattle.sc_geom.specs.Sketch.{Sketch}
use Rattle.sc_geom.specs.Drawn.{points_only, lines_only}
use Rattle.sc_geom.specs.Building.{settled, IsPath, IsDraft, any_outside}
use Rattle.sc_geom.proofs.Lists.{joined-push}
use Rattle.sc_geom.proofs.Paths.{any_joined-push, length_joined-push}
use Rattle.sc_geom.proofs.Depicting.{shapes_equal}

or_first : (a b c x : Bool) → (((a || b) || c) || x) ≡ (((a || x) || b) || c)
or_first true b c x = refl
or_first false true c true = refl
or_first false true c false = refl
or_first false false true true = refl
or_first false false true false = refl
or_first false false false true = refl
or_first false false false false = refl

or_second : (a b c x : Bool) → (((a || b) || c) || x) ≡ ((a || (b || x)) || c)
or_second true b c x = refl
or_second false true c x = refl
or_second false false true true = refl
or_second false false true false = refl
or_second false false false true = refl
or_second false false false false = refl

points_beside : (s : Sketch) (places : List (Option Pt)) → record { points = s.points ++ places; lines = s.lines; areas = s.areas } ≡ beside s (points_only places)
points_beside s places = shapes_equal _ _ refl (sym (append-nil s.lines)) (sym (append-nil s.areas))

line_beside : (s : Sketch) (line : List (Option Pt)) → record { points = s.points; lines = s.lines ++ line ∷ []; areas = s.areas } ≡ beside s (lines_only (line ∷ []))
line_beside s line = shapes_equal _ _ (sym (append-nil s.points)) refl (sym (append-nil s.areas))

pub points_added : (draft draft' : Draft) (path : Path) (s : Sketch) (places : List (Option Pt)) → IsDraft draft s → IsPath path places →
    draft'.points.items ≡ draft.points.items ++ path.points.items → draft'.lines.items ≡ draft.lines.items → draft'.areas.items ≡ draft.areas.items →
    draft'.count ≡ draft.count + length places → draft'.outside ≡ (draft.outside || path.outside) → draft'.has_open_ring ≡ draft.has_open_ring →
    IsDraft draft' (beside s (points_only places))
points_added draft draft' path s places is along points lines areas count outside opened =
    let lengths : length (s.points ++ places) ≡ length s.points + length places = length-append s.points places in
    let fact : IsDraft draft' (record { points = s.points ++ places; lines = s.lines; areas = s.areas }) = record {
      points_are = points ∙ ap (λ (l : List Pt). l ++ path.points.items) is.points_are ∙ ap (λ (l : List Pt). map settled s.points ++ l) along.points_are ∙ sym (map-append settled s.points places);
      lines_are = lines ∙ is.lines_are;
      areas_are = areas ∙ is.areas_are;
      count_is = omega (arith, count, is.count_is, lengths);
      outside_is = outside ∙ ap (λ (b : Bool). b || path.outside) is.outside_is ∙ ap (λ (b : Bool). any_outside s || b) along.outside_is
          ∙ or_first (list_any is_none s.points) (list_any is_none (joined s.lines)) (list_any is_none (joined (rings_of s))) (list_any is_none places)
          ∙ ap (λ (b : Bool). (b || list_any is_none (joined s.lines)) || list_any is_none (joined (rings_of s))) (sym (list_any-append is_none s.points places));
      open_is = opened ∙ is.open_is;
      points_in_world = subst (All IsInWorld) (sym points) (All-append IsInWorld draft.points.items path.points.items is.points_in_world along.in_world);
      lines_in_world = subst (λ (l : List (List Pt)). All IsInWorld (joined l)) (sym lines) is.lines_in_world;
      rings_in_world = subst (λ (l : List (List (List Pt))). All IsInWorld (joined (joined l))) (sym areas) is.rings_in_world;
      long_lines = subst (All (λ (line : List Pt). 2 ≤ length line)) (sym lines) is.long_lines;
      filled_areas = subst (All (λ (area : List (List Pt)). 1 ≤ length area)) (sym areas) is.filled_areas;
    } in
    subst (IsDraft draft') (points_beside s places) fact

pub line_added : (draft draft' : Draft) (path : Path) (s : Sketch) (places : List (Option Pt)) → IsDraft draft s → IsPath path places → 2 ≤ length places →
    draft'.points.items ≡ draft.points.items → draft'.lines.items ≡ draft.lines.items ++ path.points.items ∷ [] → draft'.areas.items ≡ draft.areas.items →
    draft'.count ≡ draft.count + length places → draft'.outside ≡ (draft.outside || path.outside) → draft'.has_open_ring ≡ draft.has_open_ring →
    IsDraft draft' (beside s (lines_only (places ∷ [])))
line_added draft draft' path s places is along long points lines areas count outside opened =
    let lengths : length (joined (s.lines ++ places ∷ [])) ≡ length (joined s.lines) + length places = length_joined-push s.lines places in
    let same_length : length path.points.items ≡ length places = ap length along.points_are ∙ length-map places settled in
    let fact : IsDraft draft' (record { points = s.points; lines = s.lines ++ places ∷ []; areas = s.areas }) = record {
      points_are = points ∙ is.points_are;
      lines_are = lines ∙ ap (λ (l : List (List Pt)). l ++ path.points.items ∷ []) is.lines_are ∙ ap (λ (l : List Pt). map (map settled) s.lines ++ l ∷ []) along.points_are ∙ sym (map-append (map settled) s.lines (places ∷ []));
      areas_are = areas ∙ is.areas_are;
      count_is = omega (arith, count, is.count_is, lengths);
      outside_is = outside ∙ ap (λ (b : Bool). b || path.outside) is.outside_is ∙ ap (λ (b : Bool). any_outside s || b) along.outside_is
          ∙ or_second (list_any is_none s.points) (list_any is_none (joined s.lines)) (list_any is_none (joined (rings_of s))) (list_any is_none places)
          ∙ ap (λ (b : Bool). (list_any is_none s.points || b) || list_any is_none (joined (rings_of s))) (sym (any_joined-push is_none s.lines places));
      open_is = opened ∙ is.open_is;
      points_in_world = subst (All IsInWorld) (sym points) is.points_in_world;
      lines_in_world = subst (λ (l : List (List Pt)). All IsInWorld (joined l)) (sym lines) (subst (All IsInWorld) (sym (joined-push draft.lines.items path.points.items)) (All-append IsInWorld (joined draft.lines.items) path.points.items is.lines_in_world along.in_world));
      rings_in_world = subst (λ (l : List (List (List Pt))). All IsInWorld (joined (joined l))) (sym areas) is.rings_in_world;
      long_lines = subst (All (λ (line : List Pt). 2 ≤ length line)) (sym lines) (All-push (λ (line : List Pt). 2 ≤ length line) draft.lines.items path.points.items is.long_lines (omega (arith, long, same_length)));
      filled_areas = subst (All (λ (area : List (List Pt)). 1 ≤ length area)) (sym areas) is.filled_areas;
    } in
    subst (IsDraft draft') (line_beside s places) fact
