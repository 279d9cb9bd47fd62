-- What is read of a filter is formed, step by step.
use Rattle.std.proofs.Common.{◌≡◌, ℕ, ◌≤◌, List, [], ◌∷◌, ◌++◌, length, Bool, true, false, Option, Some, None, Err, refl, subst, arith}
use Rattle.std.specs.Prelude.{All, IfOk, if◌then◌else◌}
use Rattle.std.proofs.lemmas.Bool.{ltb-false}
use Rattle.std.proofs.lemmas.List.Elements.{All-head}
use Rattle.sc_geom.specs.declared.point.Pt.{Pt}
use Rattle.sc_geom.specs.Shapes.{Shapes, positions_of}
use Rattle.sc_geom.specs.Building.{settled}
use Rattle.sc_geom.specs.Answers.{count_of}
use Rattle.sc_grammar.specs.Grammar.{done, token, mark, rule}
use Rattle.sc_grammar.specs.declared.token.Token.{Token}
use Rattle.sc_cqlgrammar.specs.declared.mark.Mark.{Mark}
use Rattle.sc_cqlgrammar.specs.declared.mark.Mark.TheVariants as kinds
use Rattle.sc_cqlgrammar.specs.Rules.{Items}
use Rattle.sc_cqlgrammar.proofs.Readings.{Left}
use Rattle.sc_expr.specs.declared.expr.Expr.{Expr}
use Rattle.sc_expr.specs.Form.{IsFormed}
use Rattle.sc_wkt.specs.Drawing.{is_bad}
use Rattle.sc_wkt.proofs.Finishing.{good_is, count-map}
use Rattle.sc_cqlvalue.specs.Formed.{AreFormed}
use Rattle.sc_cqlvalue.proofs.Forming.{start_formed, does_keeps, geometry_keeps}
use Rattle.sc_cqlread.specs.Reading.{Reading, start, eats, does, drawn, place_of, unless_wide}
use Rattle.sc_cqlread.specs.Filters.{whole, Makes}

-- a geometry that isn't bad has 1,000 positions at most
drawn_few : (r : Reading) → IfOk (drawn r) (λ (g : Shapes Pt). length (positions_of g) ≤ 1000)
drawn_few r = by_test (is_bad 1000 r.drawing) refl r.wide
  where
    by_test : (b : Bool) → is_bad 1000 r.drawing ≡ b → (wide : Option ℕ) → IfOk (if b then Err (place_of r.word) else unless_wide wide r.drawing.sketch) (λ (g : Shapes Pt). length (positions_of g) ≤ 1000)
    by_test true e wide = tt
    by_test false e (Some place) = tt
    by_test false e None =
        let good = good_is 1000 r.drawing e in
        let few : count_of r.drawing.sketch ≤ 1000 = ltb-false 1000 (count_of r.drawing.sketch) good.few in
        let same = count-map settled r.drawing.sketch in
        omega (arith, few, same)

token_formed : (chars : List ℕ) (t : Token) (r : Reading) → AreFormed r.values → AreFormed (eats chars t r).values
unfolding eats
token_formed chars t r f = record { scalars = f.scalars; listed = f.listed; exprs = f.exprs; shapes = f.shapes }

mark_formed : (chars : List ℕ) (k : Mark) (r : Reading) → AreFormed r.values → AreFormed (does chars k r).values
unfolding does
mark_formed chars kinds.Outermost r f = f
mark_formed chars kinds.Geometry r f = geometry_keeps (drawn r) r.values (drawn_few r) f
mark_formed chars k r f = does_keeps chars k r.values f

left_formed : (chars : List ℕ) (is : Items) (r : Reading) (ts : List Token) (made : Reading) → Left Reading (eats chars) (does chars) is r ts made → AreFormed r.values → AreFormed made.values
left_formed chars _ _ _ _ (done r) f = f
left_formed chars _ _ _ _ (token t is r ts made l) f = left_formed chars is (eats chars t r) ts made l (token_formed chars t r f)
left_formed chars _ _ _ _ (mark k is r ts made l) f = left_formed chars is (does chars k r) ts made l (mark_formed chars k r f)
left_formed chars _ _ _ _ (rule n a is r ts made i l) f = left_formed chars (a ++ is) r ts made l f

-- the one expression that a whole text makes is formed
pub makes_formed : (chars : List ℕ) (ts : List Token) (made : Reading) (expr : Expr) → Makes chars ts made → made.values.exprs ≡ expr ∷ [] → IsFormed expr
makes_formed chars ts made expr makes alone =
    let formed = left_formed chars whole start ts made makes start_formed in
    All-head IsFormed expr [] (subst (λ (es : List Expr). All IsFormed es) alone formed.exprs)
