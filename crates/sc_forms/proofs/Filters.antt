-- A whole text whose literals can all be read is kept as the types of a filter's parts keep it: along what the rules derive,
-- each outermost geometry that ends has a position, and each of its positions is known.
use Rattle.std.proofs.Common.{◌≡◌, ◌≢◌, ◌⊎◌, inl, inr, ℕ, ◌≤◌, List, [], ◌∷◌, ◌++◌, length, arith, Bool, true, false, ◌&&◌, cond, Option, Some, None, Err, refl, sym, subst, ◌∙◌}
use Rattle.std.specs.Prelude.{All, IfOk}
use Rattle.std.specs.List.{list_all}
use Rattle.std.proofs.lemmas.Bool.{ltb-false}
use Rattle.std.proofs.lemmas.List.Elements.{All-head}
use Rattle.sc_geom.specs.declared.point.Pt.{Pt}
use Rattle.sc_geom.specs.Shapes.{Shapes, positions_of}
use Rattle.sc_geom.specs.Building.{settled}
use Rattle.sc_geom.specs.Answers.{count_of}
use Rattle.sc_geom.specs.Geometry.{IsGeometry}
use Rattle.sc_grammar.specs.Grammar.{tok, non, act, done, token, mark, rule}
use Rattle.sc_grammar.specs.Words.{bytes_of}
use Rattle.sc_grammar.proofs.Sets.{both_true, true_both}
use Rattle.sc_grammar.specs.declared.token.Token.{Token}
use Rattle.sc_cqlgrammar.specs.declared.rule.Rule.{Rule}
use Rattle.sc_cqlgrammar.specs.declared.rule.Rule.TheVariants as rules
use Rattle.sc_cqlgrammar.specs.declared.mark.Mark.{Mark}
use Rattle.sc_cqlgrammar.specs.declared.mark.Mark.TheVariants as kinds
use Rattle.sc_cqlgrammar.specs.Rules.{Items, alternatives, IsAlternative}
use Rattle.sc_cqlgrammar.specs.Reading.{class_of}
use Rattle.sc_cqlgrammar.proofs.Fitting.{all_is}
use Rattle.sc_cqlgrammar.proofs.Readings.{Left}
use Rattle.sc_wkt.specs.Drawing.{wide_at, is_bad}
use Rattle.sc_wkt.proofs.Filled.{Facts, facts, Holds, after_mark, effect, IsLess, mark_less, effect_less, is_less, less_is, mark_holds, mark_short, class_short, class_holds, blank_holds}
use Rattle.sc_wkt.proofs.Inside.{IsInside, blank_inside, mark_outside, mark_inside, class_outside, class_inside, neither, stays_inside}
use Rattle.sc_wkt.proofs.Finishing.{good_is, count-map}
use Rattle.sc_expr.specs.declared.expr.Expr.{Expr}
use Rattle.sc_expr.specs.declared.fault.CqlFault.{CqlFault}
use Rattle.sc_expr.specs.declared.fault.CqlFault.TheVariants as faults
use Rattle.sc_expr.specs.Form.{IsFormed}
use Rattle.sc_expr.specs.Kept.{IsKept}
use Rattle.sc_expr.specs.Measure.{depth, nodes}
use Rattle.sc_cqlvalue.specs.Formed.{AreFormed}
use Rattle.sc_cqlvalue.proofs.Forming.{start_formed}
use Rattle.sc_cqlvalue.proofs.Forming as forming
use Rattle.sc_cqlread.specs.Reading.{Reading, start, eats, does, drawn, place_of, unless_wide}
use Rattle.sc_cqlread.specs.Filters.{whole, Makes, IsExpr, IsCqlText}
use Rattle.sc_cqlread.specs.Tokens.{readable}
use Rattle.sc_cqlread.specs.Faults.{IsFault}
use Rattle.sc_cqlread.proofs.Total.{answered}
use Rattle.sc_forms.proofs.Settled.{settles}
use Rattle.sc_forms.proofs.Placing.{IsKeptDrawing, blank_kept, mark_kept, class_kept}
use Rattle.sc_forms.proofs.Keeping.{AreKept, start_kept, eats_keeps, does_keeps, geometry_keeps}

-- ---- where an outermost geometry ends, it has a position

abbrev nothing : Facts
nothing = facts false false false

-- a drawing begins anew where an outermost geometry begins and where it ends
abbrev behind_mark : Mark → Facts → Facts
behind_mark kinds.Outermost f = nothing
behind_mark kinds.Geometry f = nothing
behind_mark k f = after_mark k f

abbrev asks : Mark → Facts → Bool
asks kinds.Geometry f = f.sketch
asks _ f = true

abbrev behind : Items → Facts → Facts
behind [] f = f
behind (tok c ∷ is) f = behind is f
behind (act k ∷ is) f = behind is (behind_mark k f)
behind (non n ∷ is) f = behind is (effect n f)

abbrev are_filled : Items → Facts → Bool
are_filled [] f = true
are_filled (tok c ∷ is) f = are_filled is f
are_filled (act k ∷ is) f = asks k f && are_filled is (behind_mark k f)
are_filled (non n ∷ is) f = are_filled is (effect n f)

behind_less : (k : Mark) (f g : Facts) → IsLess f g → IsLess (behind_mark k f) (behind_mark k g)
behind_less kinds.Outermost f g less = record { path = λ e. e; rings = λ e. e; sketch = λ e. e }
behind_less kinds.Geometry f g less = record { path = λ e. e; rings = λ e. e; sketch = λ e. e }
behind_less k f g less = mark_less k f g less

asks_less : (k : Mark) (f g : Facts) → IsLess f g → asks k f ≡ true → asks k g ≡ true
asks_less kinds.Geometry f g less e = less.sketch e
asks_less _ f g less e = e

filled_less : (is : Items) (f g : Facts) → IsLess f g → are_filled is f ≡ true → are_filled is g ≡ true
filled_less [] f g less e = e
filled_less (tok c ∷ is) f g less e = filled_less is f g less e
filled_less (act k ∷ is) f g less e =
    let p = both_true (asks k f) (are_filled is (behind_mark k f)) e in
    true_both (asks k g) (are_filled is (behind_mark k g)) (asks_less k f g less p.0) (filled_less is (behind_mark k f) (behind_mark k g) (behind_less k f g less) p.1)
filled_less (non n ∷ is) f g less e = filled_less is (effect n f) (effect n g) (effect_less n f g less) e

filled-append : (a is : Items) (f : Facts) → are_filled a f ≡ true → are_filled is (behind a f) ≡ true → are_filled (a ++ is) f ≡ true
filled-append [] is f e h = h
filled-append (tok c ∷ a) is f e h = filled-append a is f e h
filled-append (act k ∷ a) is f e h =
    let p = both_true (asks k f) (are_filled a (behind_mark k f)) e in
    true_both (asks k f) (are_filled (a ++ is) (behind_mark k f)) p.0 (filled-append a is (behind_mark k f) p.1 h)
filled-append (non n ∷ a) is f e h = filled-append a is (effect n f) e h

abbrev keeps : Bool → Bool → Bool → Rule → Items → Bool
keeps p q s n a = are_filled a (facts p q s) && is_less (effect n (facts p q s)) (behind a (facts p q s))

all_keep : (p q s : Bool) (n : Rule) → list_all (keeps p q s n) (alternatives n) ≡ true
all_keep true true true rules.Whole = refl
all_keep true true true _ = refl
all_keep true true false rules.Whole = refl
all_keep true true false _ = refl
all_keep true false true rules.Whole = refl
all_keep true false true _ = refl
all_keep true false false rules.Whole = refl
all_keep true false false _ = refl
all_keep false true true rules.Whole = refl
all_keep false true true _ = refl
all_keep false true false rules.Whole = refl
all_keep false true false _ = refl
all_keep false false true rules.Whole = refl
all_keep false false true _ = refl
all_keep false false false rules.Whole = refl
all_keep false false false _ = refl

opened_filled : (n : Rule) (a is : Items) (f : Facts) → IsAlternative n a → are_filled (non n ∷ is) f ≡ true → are_filled (a ++ is) f ≡ true
opened_filled n a is f i e =
    let kept = all_is (keeps f.path f.rings f.sketch n) (alternatives n) (all_keep f.path f.rings f.sketch n) a i in
    let p = both_true (are_filled a f) (is_less (effect n f) (behind a f)) kept in
    filled-append a is f p.0 (filled_less is (effect n f) (behind a f) (less_is (effect n f) (behind a f) p.1) e)

-- ---- what is known of what was read, and of what is to come

record IsReady (items : Items) (r : Reading) : Type 0 where
  pub known : Facts
  pub holds : r.drawing.is_short ≡ false → Holds known r.drawing
  pub filled : are_filled items known ≡ true
  pub inside : r.wide ≡ None → r.drawing.is_outside ≡ false → IsInside r.drawing
  pub placed : IsKeptDrawing r.drawing
  pub values : AreKept r.values
  pub formed : AreFormed r.values

start_ready : IsReady whole start
start_ready = record { known = nothing; holds = λ e. blank_holds; filled = refl; inside = λ w e. blank_inside; placed = blank_kept; values = start_kept; formed = start_formed }

token_ready : (chars : List ℕ) (t : Token) (is : Items) (r : Reading) → IsReady (tok (class_of t) ∷ is) r → IsReady is (eats chars t r)
unfolding eats
token_ready chars t is r ready = record {
  known = ready.known;
  holds = λ e. class_holds t.class (bytes_of chars t.from t.to) ready.known r.drawing (ready.holds (sym (class_short t.class (bytes_of chars t.from t.to) r.drawing) ∙ e));
  filled = ready.filled;
  inside = λ w e.
      let narrow = neither r.wide (wide_at chars t) w in
      class_inside t.class (bytes_of chars t.from t.to) t.from r.drawing narrow.1 (ready.inside narrow.0 (sym (class_outside t.class (bytes_of chars t.from t.to) r.drawing) ∙ e));
  placed = class_kept t.class (bytes_of chars t.from t.to) r.drawing ready.placed;
  values = eats_keeps t r.values ready.values;
  formed = forming.eats_keeps t r.values ready.formed;
}

-- what was drawn where an outermost geometry ends
drawn_geometry : (is : Items) (r : Reading) → IsReady (act kinds.Geometry ∷ is) r → IfOk (drawn r) IsGeometry
drawn_geometry is r ready = by_test (is_bad 1000 r.drawing) refl r.wide refl
  where
    by_test : (b : Bool) → is_bad 1000 r.drawing ≡ b → (wide : Option ℕ) → r.wide ≡ wide → IfOk (cond b (Err (place_of r.word)) (unless_wide wide r.drawing.sketch)) IsGeometry
    by_test true e wide narrow = tt
    by_test false e (Some place) narrow = tt
    by_test false e None narrow =
        let good = good_is 1000 r.drawing e in
        let filled = (both_true ready.known.sketch (are_filled is nothing) ready.filled).0 in
        (settles r.drawing.sketch ready.placed.sketch good.closed (stays_inside r.drawing (ready.inside narrow good.within)) ((ready.holds good.long).sketch filled)).sound

-- it has 1,000 positions at most
drawn_few : (r : Reading) → IfOk (drawn r) (λ (g : Shapes Pt). length (positions_of g) ≤ 1000)
drawn_few r = by_test (is_bad 1000 r.drawing) refl r.wide
  where
    by_test : (b : Bool) → is_bad 1000 r.drawing ≡ b → (wide : Option ℕ) → IfOk (cond b (Err (place_of r.word)) (unless_wide wide r.drawing.sketch)) (λ (g : Shapes Pt). length (positions_of g) ≤ 1000)
    by_test true e wide = tt
    by_test false e (Some place) = tt
    by_test false e None =
        let few = ltb-false 1000 (count_of r.drawing.sketch) (good_is 1000 r.drawing e).few in
        let same = count-map settled r.drawing.sketch in
        omega (arith, few, same)

mark_ready : (chars : List ℕ) (k : Mark) (is : Items) (r : Reading) → IsReady (act k ∷ is) r → IsReady is (does chars k r)
unfolding does
mark_ready chars kinds.Outermost is r ready = record {
  known = nothing;
  holds = λ e. blank_holds;
  filled = (both_true true _ ready.filled).1;
  inside = λ w e. blank_inside;
  placed = blank_kept;
  values = ready.values;
  formed = ready.formed;
}
mark_ready chars kinds.Geometry is r ready = record {
  known = nothing;
  holds = λ e. blank_holds;
  filled = (both_true ready.known.sketch _ ready.filled).1;
  inside = λ w e. blank_inside;
  placed = blank_kept;
  values = geometry_keeps (drawn r) r.values (drawn_geometry is r ready) ready.values;
  formed = forming.geometry_keeps (drawn r) r.values (drawn_few r) ready.formed;
}
mark_ready chars k is r ready = record {
  known = after_mark k ready.known;
  holds = λ e. mark_holds k ready.known r.drawing e (ready.holds (mark_short k r.drawing e));
  filled = (both_true (asks k ready.known) (are_filled is (behind_mark k ready.known)) ready.filled).1;
  inside = λ w e. mark_inside k r.drawing e (ready.inside w (mark_outside k r.drawing e));
  placed = mark_kept k r.drawing ready.placed;
  values = does_keeps chars k r.values ready.values;
  formed = forming.does_keeps chars k r.values ready.formed;
}

rule_ready : (n : Rule) (a is : Items) (r : Reading) → IsAlternative n a → IsReady (non n ∷ is) r → IsReady (a ++ is) r
rule_ready n a is r i ready = record {
  known = ready.known;
  holds = ready.holds;
  filled = opened_filled n a is ready.known i ready.filled;
  inside = ready.inside;
  placed = ready.placed;
  values = ready.values;
  formed = ready.formed;
}

left_ready : (chars : List ℕ) (is : Items) (r : Reading) (ts : List Token) (made : Reading) → Left Reading (eats chars) (does chars) is r ts made → IsReady is r → IsReady [] made
left_ready chars _ _ _ _ (done r) ready = ready
left_ready chars _ _ _ _ (token t is r ts made l) ready = left_ready chars is (eats chars t r) ts made l (token_ready chars t is r ready)
left_ready chars _ _ _ _ (mark k is r ts made l) ready = left_ready chars is (does chars k r) ts made l (mark_ready chars k is r ready)
left_ready chars _ _ _ _ (rule n a is r ts made i l) ready = left_ready chars (a ++ is) r ts made l (rule_ready n a is r i ready)

-- the one expression that a whole text makes is kept
pub makes_kept : (chars : List ℕ) (ts : List Token) (made : Reading) (expr : Expr) → Makes chars ts made → made.values.exprs ≡ expr ∷ [] → IsKept expr
makes_kept chars ts made expr makes alone =
    let ready = left_ready chars whole start ts made makes start_ready in
    All-head IsKept expr [] (subst (λ (es : List Expr). All IsKept es) alone ready.values.exprs)

-- and it is formed
pub makes_formed : (chars : List ℕ) (ts : List Token) (made : Reading) (expr : Expr) → Makes chars ts made → made.values.exprs ≡ expr ∷ [] → IsFormed expr
makes_formed chars ts made expr makes alone =
    let ready = left_ready chars whole start ts made makes start_ready in
    All-head IsFormed expr [] (subst (λ (es : List Expr). All IsFormed es) alone ready.formed.exprs)

-- an expression within the limits is a filter
pub expr_is_filter : (text : List ℕ) (expr : Expr) → IsExpr text expr → depth expr ≤ 24 → nodes expr ≤ 1024 → IsCqlText text expr
expr_is_filter text expr is shallow few = record {
  expr = is;
  checked = record {
    formed = makes_formed (readable text) is.tokens is.made expr is.makes is.alone;
    kept = makes_kept (readable text) is.tokens is.made expr is.makes is.alone;
    shallow = shallow;
    few = few;
  };
}

-- ---- each text is a filter, or has a fault

abbrev pub IsAnswered : List ℕ → Type 0
IsAnswered text = ((filter : Expr) × IsCqlText text filter) ⊎ ((fault : CqlFault) × (fault ≢ faults.OutOfMemory) × IsFault text fault)

pub filter_answered : (text : List ℕ) → IsAnswered text
filter_answered text =
    elim (answered text) [
      | inl f ↦ inl (f.0, expr_is_filter text f.0 f.1 f.3 f.4)
      | inr f ↦ inr f
    ]
