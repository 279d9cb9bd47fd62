-- What is answered, by what the tokens come to.
use Rattle.std.proofs.Common.{◌≡◌, inl, inr, ℕ, List, [], ◌∷◌, map, Bool, true, false, Option, Some, None, Result, Ok, Err, refl, sym, ap, ◌∙◌}
use Rattle.std.specs.Prelude.{MatchResult, OnOk, if◌then◌else◌}
use Rattle.sc_geom.specs.declared.point.Pt.{Pt}
use Rattle.sc_geom.specs.Building.{settled}
use Rattle.sc_geom.specs.Shapes.{Shapes, map_shapes}
use Rattle.sc_geom.specs.Sketch.{Sketch}
use Rattle.sc_cqlgrammar.specs.declared.mark.Mark.{Mark}
use Rattle.sc_cqlgrammar.specs.declared.mark.Mark.TheVariants as marks
use Rattle.sc_wkt.specs.Drawing.{draws, is_bad}
use Rattle.sc_cqlvalue.specs.Values as values
use Rattle.sc_expr.specs.declared.expr.Expr.{Expr}
use Rattle.sc_expr.specs.declared.fault.CqlFault.{CqlFault}
use Rattle.sc_expr.specs.declared.fault.CqlFault.TheVariants.{Syntax, TooDeep, TooManyNodes, BadLiteral, OutOfMemory}
use Rattle.sc_cqlread.specs.declared.taking.End.TheVariants as ends
use Rattle.sc_cqlread.specs.Tokens.{readable, is_readable}
use Rattle.sc_cqlread.specs.Reading.{Reading, does, bad_of, place_of, unless_wide, drawn}
use Rattle.sc_cqlread.specs.Filters.{IsExpr, IsCqlText}
use Rattle.sc_cqlread.specs.Ends.{Ends}
use Rattle.sc_cqlread.specs.Judged.{IsAlone, Judged, first_fault}
use Rattle.sc_cqlread.specs.Faults.{IsFault}

-- ---- marks

pub does_other : (chars : List ℕ) (mark : Mark) (r : Reading) → (mark ≡ marks.Outermost → ⊥) → (mark ≡ marks.Geometry → ⊥) →
    does chars mark r ≡ record r { values = values.does chars mark r.values; drawing = draws mark r.drawing }
unfolding does
does_other chars marks.Outermost r h k = absurd (h refl)
does_other chars marks.Geometry r h k = absurd (k refl)
does_other chars _ r h k = refl

pub on_ok : {A E P Q : Type 0} (r : Result A E) → (P → Q) → OnOk r P → OnOk r Q
on_ok (Ok x) f h = f h
on_ok (Err e) f h = h

-- ---- geometries

settled_points : (ps : List Pt) → map settled (map Some ps) ≡ ps
settled_points [] = refl
settled_points (p ∷ ps) = ap (λ (x : List Pt). p ∷ x) (settled_points ps)

settled_lines : (ls : List (List Pt)) → map (map settled) (map (map Some) ls) ≡ ls
settled_lines [] = refl
settled_lines (l ∷ ls) =
    ap (λ (x : List Pt). x ∷ map (map settled) (map (map Some) ls)) (settled_points l) ∙ ap (λ (x : List (List Pt)). l ∷ x) (settled_lines ls)

settled_areas : (gs : List (List (List Pt))) → map (map (map settled)) (map (map (map Some)) gs) ≡ gs
settled_areas [] = refl
settled_areas (g ∷ gs) =
    ap (λ (x : List (List Pt)). x ∷ map (map (map settled)) (map (map (map Some)) gs)) (settled_lines g) ∙ ap (λ (x : List (List (List Pt))). g ∷ x) (settled_areas gs)

settled_all : (g : Shapes Pt) → map_shapes settled (map_shapes Some g) ≡ g
settled_all g =
    let p = settled_points g.points in
    let l = settled_lines g.lines in
    let a = settled_areas g.areas in
    (ap (λ (x : List Pt). shapes x (map (map settled) (map (map Some) g.lines)) (map (map (map settled)) (map (map (map Some)) g.areas))) p
    ∙ ap (λ (x : List (List Pt)). shapes g.points x (map (map (map settled)) (map (map (map Some)) g.areas))) l)
    ∙ ap (λ (x : List (List (List Pt))). shapes g.points g.lines x) a
  where
    shapes : List Pt → List (List Pt) → List (List (List Pt)) → Shapes Pt
    shapes points lines areas = record { points = points; lines = lines; areas = areas }

some_drawn : (b : Bool) (wide : Option ℕ) (place : ℕ) (sketch : Sketch) (g : Shapes Pt) → false ≡ b → wide ≡ None → sketch ≡ map_shapes Some g →
    (let geometry : Result (Shapes Pt) ℕ = Ok g in geometry) ≡ (if b then Err place else unless_wide wide sketch)
some_drawn true wide place sketch g e f h = absurd cc
some_drawn false None place sketch g e f h = ap (λ (x : Shapes Pt). (let geometry : Result (Shapes Pt) ℕ = Ok x in geometry)) (sym (ap (λ (x : Sketch). map_shapes settled x) h ∙ settled_all g))
some_drawn false (Some p) place sketch g e f h = absurd cc

pub drawn_is : (r : Reading) (g : Shapes Pt) → false ≡ is_bad 1000 r.drawing → r.wide ≡ None → r.drawing.sketch ≡ map_shapes Some g → (let geometry : Result (Shapes Pt) ℕ = Ok g in geometry) ≡ drawn r
drawn_is r g e f h = some_drawn (is_bad 1000 r.drawing) r.wide (place_of r.word) r.drawing.sketch g e f h

-- ---- faults and filters

pub broken_off : (text : List ℕ) (place : ℕ) (made : Reading) → Ends (readable text) (is_readable text) (ends.Broken place) made → IsFault text (first_fault (bad_of made) place)
broken_off text place made e = by_bad (bad_of made) refl
  where
    by_bad : (bad : Option ℕ) → bad_of made ≡ bad → IsFault text (first_fault bad place)
    by_bad None h = record { tokens = e.0; made = made; are = e.1; shallow = e.2; breaks = e.3; sound = h }
    by_bad (Some other) h = record { tokens = e.0; made = made; are = e.1; shallow = e.2; comes = inr (place, e.3); bad = h }

pub too_deep : (text : List ℕ) (made : Reading) → Ends (readable text) (is_readable text) ends.TooDeep made → IsFault text TooDeep
too_deep text made e = inl (record { tokens = e.0; are = e.1; deep = e.2 })

the_expr : (text : List ℕ) (made : Reading) (expr : Expr) → Ends (readable text) (is_readable text) ends.Whole made → IsAlone made expr → IsExpr text expr
the_expr text made expr e a = record { tokens = e.0; made = made; are = e.1; shallow = e.2; makes = e.3; sound = a.sound; alone = a.alone }

pub judged_is : (text : List ℕ) (made : Reading) (answer : Result Expr CqlFault) → Ends (readable text) (is_readable text) ends.Whole made → Judged made answer → MatchResult answer (IsCqlText text) (IsFault text)
judged_is text made (Ok filter) e j = record { expr = the_expr text made filter e j.0; checked = j.1 }
judged_is text made (Err TooDeep) e j = inr (record { expr = j.0; is = the_expr text made j.0 e j.1; deep = j.2 })
judged_is text made (Err TooManyNodes) e j = record { expr = j.0; is = the_expr text made j.0 e j.1; shallow = j.2; many = j.3 }
judged_is text made (Err (BadLiteral place)) e j = record { tokens = e.0; made = made; are = e.1; shallow = e.2; comes = inl e.3; bad = j }
judged_is text made (Err (Syntax place)) e j = absurd j
judged_is text made (Err OutOfMemory) e j = tt
