-- The tokens of a geometry within a filter draw what they draw alone, and are read as that geometry.
use Rattle.std.proofs.Common.{◌≡◌, inl, inr, ℕ, List, [], ◌∷◌, ◌++◌, map, Bool, true, false, ◌&&◌, ◌||◌, not, Some, None, Ok, refl, ap, ◌∙◌}
use Rattle.std.specs.List.{list_all}
use Rattle.sc_geom.specs.declared.point.Pt.{Pt}
use Rattle.sc_geom.specs.Shapes.{Shapes, map_shapes}
use Rattle.sc_geom.specs.Building.{settled}
use Rattle.sc_grammar.specs.Grammar.{tok, non, act, done, token, mark, rule}
use Rattle.sc_grammar.proofs.Sets.{both_true, true_both, unless_true}
use Rattle.sc_grammar.specs.declared.token.Token.{Token}
use Rattle.sc_cqlgrammar.specs.declared.rule.Rule.{Rule}
use Rattle.sc_cqlgrammar.specs.declared.rule.Rule.TheVariants as rules
use Rattle.sc_cqlgrammar.specs.declared.mark.Mark.{Mark}
use Rattle.sc_cqlgrammar.specs.declared.mark.Mark.TheVariants as marks
use Rattle.sc_cqlgrammar.specs.Rules.{Items, alternatives, IsAlternative}
use Rattle.sc_cqlgrammar.proofs.Fitting.{all_is}
use Rattle.sc_cqlgrammar.proofs.Readings.{Left}
use Rattle.sc_wkt.specs.Drawing.{Drawing, blank, reads, draws, wide_at, first_wide}
use Rattle.sc_wkt.proofs.Inside.{neither}
use Rattle.sc_expr.specs.declared.scalar.Shape.TheVariants as shapes
use Rattle.sc_cqlvalue.specs.declared.state.State.{State}
use Rattle.sc_cqlvalue.specs.Values as values
use Rattle.sc_cqlread.specs.Reading.{Reading, eats, does, drawn}
use Rattle.sc_forms.specs.Forms.{IsGeometry}
use Rattle.sc_forms.proofs.Giving.{Ready, At, Gives, gives_rule, gives_mark, gives_marked}

-- ---- the marks and the rules of geometries

abbrev is_drawn : Mark → Bool
is_drawn marks.Points = true
is_drawn marks.Line = true
is_drawn marks.Ring = true
is_drawn marks.Area = true
is_drawn marks.Longitude = true
is_drawn marks.Latitude = true
is_drawn marks.Height = true
is_drawn _ = false

abbrev is_part : Rule → Bool
is_part rules.Geometry = true
is_part rules.GeometryRest = true
is_part rules.ZWord = true
is_part rules.Member = true
is_part rules.MemberRest = true
is_part rules.Line = true
is_part rules.LineRest = true
is_part rules.Ring = true
is_part rules.RingRest = true
is_part rules.Area = true
is_part rules.AreaRest = true
is_part rules.Position = true
is_part rules.PositionRest = true
is_part rules.Height = true
is_part _ = false

abbrev are_drawn : Items → Bool
are_drawn [] = true
are_drawn (tok c ∷ is) = are_drawn is
are_drawn (act k ∷ is) = is_drawn k && are_drawn is
are_drawn (non n ∷ is) = is_part n && are_drawn is

all_drawn : (n : Rule) → list_all (λ (a : Items). not (is_part n) || are_drawn a) (alternatives n) ≡ true
all_drawn rules.Whole = refl
all_drawn _ = refl

drawn_in : (n : Rule) (a : Items) → IsAlternative n a → is_part n ≡ true → are_drawn a ≡ true
drawn_in n a i e = unless_true (is_part n) (are_drawn a) (all_is (λ (x : Items). not (is_part n) || are_drawn x) (alternatives n) (all_drawn n) a i) e

drawn-append : (a is : Items) → are_drawn a ≡ true → are_drawn is ≡ true → are_drawn (a ++ is) ≡ true
drawn-append [] is e f = f
drawn-append (tok c ∷ a) is e f = drawn-append a is e f
drawn-append (act k ∷ a) is e f = let p = both_true (is_drawn k) (are_drawn a) e in true_both (is_drawn k) (are_drawn (a ++ is)) p.0 (drawn-append a is p.1 f)
drawn-append (non n ∷ a) is e f = let p = both_true (is_part n) (are_drawn a) e in true_both (is_part n) (are_drawn (a ++ is)) p.0 (drawn-append a is p.1 f)

module _ (chars : List ℕ) where
  -- what is drawn so far, and what stands ready
  record Draws (x : Ready) (d : Drawing) (r : Reading) : Type 0 where
    drawing : r.drawing ≡ d
    at : At x r

  token_drawn : (x : Ready) (d : Drawing) (t : Token) (r : Reading) → wide_at chars t ≡ None → Draws x d r → Draws x (reads chars t d) (eats chars t r)
  unfolding eats
  token_drawn x d t r narrow h = record {
    drawing = ap (reads chars t) h.drawing;
    at = record { last = t; bbox = h.at.bbox; known = tt; values = ap (λ (s : State). values.eats t s) h.at.values; wide = rw (h.at.wide) narrow };
  }

  record Keeps (k : Mark) (r : Reading) : Type 0 where
    drawing : (does chars k r).drawing ≡ draws k r.drawing
    values : (does chars k r).values ≡ r.values
    wide : (does chars k r).wide ≡ r.wide

  drawn_keeps : (k : Mark) (r : Reading) → is_drawn k ≡ true → Keeps k r
  unfolding does
  drawn_keeps marks.Points r e = record { drawing = refl; values = refl; wide = refl }
  drawn_keeps marks.Line r e = record { drawing = refl; values = refl; wide = refl }
  drawn_keeps marks.Ring r e = record { drawing = refl; values = refl; wide = refl }
  drawn_keeps marks.Area r e = record { drawing = refl; values = refl; wide = refl }
  drawn_keeps marks.Longitude r e = record { drawing = refl; values = refl; wide = refl }
  drawn_keeps marks.Latitude r e = record { drawing = refl; values = refl; wide = refl }
  drawn_keeps marks.Height r e = record { drawing = refl; values = refl; wide = refl }
  drawn_keeps _ r e = absurd cc

  mark_drawn : (x : Ready) (d : Drawing) (k : Mark) (r : Reading) → is_drawn k ≡ true → Draws x d r → Draws x (draws k d) (does chars k r)
  mark_drawn x d k r e h =
      let keeps = drawn_keeps k r e in
      record {
        drawing = keeps.drawing ∙ ap (draws k) h.drawing;
        at = record { last = h.at.last; bbox = h.at.bbox; known = tt; values = keeps.values ∙ h.at.values; wide = keeps.wide ∙ h.at.wide };
      }

  drawn_along : (is : Items) (d : Drawing) (ts : List Token) (e : Drawing) → Left Drawing (reads chars) draws is d ts e → are_drawn is ≡ true → first_wide chars ts ≡ None → (x : Ready) → Gives chars is (Draws x d) (Draws x e) ts
  drawn_along _ _ _ _ (done d) a w x r h = (r, done r, h)
  drawn_along _ _ _ _ (token t is d ts e l) a w x r h =
      let p = neither (wide_at chars t) (first_wide chars ts) w in
      let one = drawn_along is (reads chars t d) ts e l a p.1 x (eats chars t r) (token_drawn x d t r p.0 h) in
      (one.0, token t is r ts one.0 one.1, one.2)
  drawn_along _ _ _ _ (mark k is d ts e l) a w x r h =
      let p = both_true (is_drawn k) (are_drawn is) a in
      let one = drawn_along is (draws k d) ts e l p.1 w x (does chars k r) (mark_drawn x d k r p.0 h) in
      (one.0, mark k is r ts one.0 one.1, one.2)
  drawn_along _ _ _ _ (rule n alternative is d ts e i l) a w x r h =
      let p = both_true (is_part n) (are_drawn is) a in
      let one = drawn_along (alternative ++ is) d ts e l (drawn-append alternative is (drawn_in n alternative i p.0) p.1) w x r h in
      (one.0, rule n alternative is r ts one.0 i one.1, one.2)

  -- ---- an outermost geometry

  begins : (x : Ready) (r : Reading) → At x r → Draws x blank (does chars marks.Outermost r)
  unfolding does
  begins x r at = record { drawing = refl; at = record { last = at.last; bbox = at.bbox; known = tt; values = at.values; wide = at.wide } }

  points_again : (ps : List Pt) → map settled (map Some ps) ≡ ps
  points_again [] = refl
  points_again (p ∷ ps) = ap (λ (l : List Pt). p ∷ l) (points_again ps)

  lines_again : (ls : List (List Pt)) → map (map settled) (map (map Some) ls) ≡ ls
  lines_again [] = refl
  lines_again (l ∷ ls) = ap (λ (k : List (List Pt)). map settled (map Some l) ∷ k) (lines_again ls) ∙ ap (λ (k : List Pt). k ∷ ls) (points_again l)

  areas_again : (qs : List (List (List Pt))) → map (map (map settled)) (map (map (map Some)) qs) ≡ qs
  areas_again [] = refl
  areas_again (a ∷ qs) = ap (λ (k : List (List (List Pt))). map (map settled) (map (map Some) a) ∷ k) (areas_again qs) ∙ ap (λ (k : List (List Pt)). k ∷ qs) (lines_again a)

  settled_again : (g : Shapes Pt) → map_shapes settled (map_shapes Some g) ≡ g
  settled_again g = λ i. record { points = points_again g.points i; lines = lines_again g.lines i; areas = areas_again g.areas i }

  drawn_is : (x : Ready) (ts : List Token) (g : Shapes Pt) (is : IsGeometry chars ts g) (r : Reading) → Draws x is.drawing r → drawn r ≡ Ok g
  drawn_is x ts g is r h = rw (h.drawing, is.good, h.at.wide) (ap (λ (s : Shapes Pt). Ok s) (ap (map_shapes settled) is.drawn.same ∙ settled_again g))

  ends : (x : Ready) (ts : List Token) (g : Shapes Pt) (is : IsGeometry chars ts g) (r : Reading) → Draws x is.drawing r → At (record x { shapes = shapes.Geom g ∷ x.shapes }) (does chars marks.Geometry r)
  unfolding does
  ends x ts g is r h = record {
    last = h.at.last;
    bbox = h.at.bbox;
    known = tt;
    values = rw (h.at.values, drawn_is x ts g is r h) refl;
    wide = h.at.wide;
  }

  pub drawn_read : (ts : List Token) (g : Shapes Pt) → IsGeometry chars ts g → (x : Ready) → Gives chars (non rules.Shape ∷ []) (At x) (At (record x { shapes = shapes.Geom g ∷ x.shapes })) ts
  drawn_read ts g is x =
      let y = record x { shapes = shapes.Geom g ∷ x.shapes } in
      gives_rule chars rules.Shape (act marks.Outermost ∷ non rules.Geometry ∷ act marks.Geometry ∷ []) (At x) (At y) ts (inr (inl refl))
      (gives_mark chars marks.Outermost (non rules.Geometry ∷ act marks.Geometry ∷ []) (At x) (Draws x blank) (At y) ts (begins x)
      (gives_marked chars rules.Geometry marks.Geometry (Draws x blank) (Draws x is.drawing) (At y) ts (drawn_along (non rules.Geometry ∷ []) blank ts is.drawing is.derived refl is.narrow x) (ends x ts g is)))
