-- An outermost geometry that is whole, isn't bad and has no number that is too wide is finished, unless memory runs out: by
-- what the rules leave, each has a position, and by what was read, each of its positions is known.
use Rattle.std.proofs.Common.{◌≡◌, ℕ, List, [], ◌∷◌, ◌++◌, Bool, true, false, ◌&&◌, None, refl, sym, subst, ◌∙◌}
use Rattle.std.specs.List.{list_all}
use Rattle.sc_grammar.specs.Grammar.{tok, non, act, takes, marks, opens, stays, steps}
use Rattle.sc_grammar.specs.Words.{bytes_of}
use Rattle.sc_grammar.proofs.Sets.{both_true, true_both}
use Rattle.sc_grammar.specs.declared.token.Class.{Class}
use Rattle.sc_grammar.specs.declared.token.Token.{Token}
use Rattle.sc_cqlgrammar.specs.declared.rule.Rule.{Rule}
use Rattle.sc_cqlgrammar.specs.declared.rule.Rule.TheVariants as rules
use Rattle.sc_cqlgrammar.specs.declared.mark.Mark.{Mark}
use Rattle.sc_cqlgrammar.specs.declared.mark.Mark.TheVariants as kinds
use Rattle.sc_cqlgrammar.specs.Rules.{Items, alternatives, IsAlternative}
use Rattle.sc_cqlgrammar.specs.Reading.{class_of}
use Rattle.sc_cqlgrammar.specs.Machine.{Opens, as_is, opened as opened_rule}
use Rattle.sc_cqlgrammar.proofs.Fitting.{all_is, is_rule}
use Rattle.sc_cqlgrammar.proofs.Readings.{Goes, Run}
use Rattle.sc_wkt.specs.Drawing.{wide_at}
use Rattle.sc_wkt.proofs.Filled.{Facts, facts, Holds, after_mark, effect, IsLess, mark_less, effect_less, is_less, less_is, mark_holds, mark_short, class_short, class_holds, blank_holds}
use Rattle.sc_wkt.proofs.Inside.{IsInside, blank_inside, mark_outside, mark_inside, class_outside, class_inside, neither, stays_inside}
use Rattle.sc_wkt.proofs.Finishing.{good_is, finished_but_memory}
use Rattle.sc_cqlread.specs.Passing.{Passes, stands, marked, opened, Reads}
use Rattle.sc_cqlread.specs.Reading.{Reading, start, eats, does, CanEnd}
use Rattle.sc_cqlread.specs.Filters.{whole}

-- ---- where an outermost geometry ends, it has a position

abbrev nothing : Facts
nothing = facts false false false

-- a drawing begins anew where an outermost geometry begins and where it ends
abbrev behind_mark : Mark → Facts → Facts
behind_mark kinds.Outermost f = nothing
behind_mark kinds.Geometry f = nothing
behind_mark k f = after_mark k f

abbrev asks : Mark → Facts → Bool
asks kinds.Geometry f = f.sketch
asks _ f = true

abbrev behind : Items → Facts → Facts
behind [] f = f
behind (tok c ∷ is) f = behind is f
behind (act k ∷ is) f = behind is (behind_mark k f)
behind (non n ∷ is) f = behind is (effect n f)

abbrev are_filled : Items → Facts → Bool
are_filled [] f = true
are_filled (tok c ∷ is) f = are_filled is f
are_filled (act k ∷ is) f = asks k f && are_filled is (behind_mark k f)
are_filled (non n ∷ is) f = are_filled is (effect n f)

behind_less : (k : Mark) (f g : Facts) → IsLess f g → IsLess (behind_mark k f) (behind_mark k g)
behind_less kinds.Outermost f g less = record { path = λ e. e; rings = λ e. e; sketch = λ e. e }
behind_less kinds.Geometry f g less = record { path = λ e. e; rings = λ e. e; sketch = λ e. e }
behind_less k f g less = mark_less k f g less

asks_less : (k : Mark) (f g : Facts) → IsLess f g → asks k f ≡ true → asks k g ≡ true
asks_less kinds.Geometry f g less e = less.sketch e
asks_less _ f g less e = e

filled_less : (is : Items) (f g : Facts) → IsLess f g → are_filled is f ≡ true → are_filled is g ≡ true
filled_less [] f g less e = e
filled_less (tok c ∷ is) f g less e = filled_less is f g less e
filled_less (act k ∷ is) f g less e =
    let p = both_true (asks k f) (are_filled is (behind_mark k f)) e in
    true_both (asks k g) (are_filled is (behind_mark k g)) (asks_less k f g less p.0) (filled_less is (behind_mark k f) (behind_mark k g) (behind_less k f g less) p.1)
filled_less (non n ∷ is) f g less e = filled_less is (effect n f) (effect n g) (effect_less n f g less) e

filled-append : (a is : Items) (f : Facts) → are_filled a f ≡ true → are_filled is (behind a f) ≡ true → are_filled (a ++ is) f ≡ true
filled-append [] is f e h = h
filled-append (tok c ∷ a) is f e h = filled-append a is f e h
filled-append (act k ∷ a) is f e h =
    let p = both_true (asks k f) (are_filled a (behind_mark k f)) e in
    true_both (asks k f) (are_filled (a ++ is) (behind_mark k f)) p.0 (filled-append a is (behind_mark k f) p.1 h)
filled-append (non n ∷ a) is f e h = filled-append a is (effect n f) e h

abbrev keeps : Bool → Bool → Bool → Rule → Items → Bool
keeps p q s n a = are_filled a (facts p q s) && is_less (effect n (facts p q s)) (behind a (facts p q s))

all_keep : (p q s : Bool) (n : Rule) → list_all (keeps p q s n) (alternatives n) ≡ true
all_keep true true true rules.Whole = refl
all_keep true true true _ = refl
all_keep true true false rules.Whole = refl
all_keep true true false _ = refl
all_keep true false true rules.Whole = refl
all_keep true false true _ = refl
all_keep true false false rules.Whole = refl
all_keep true false false _ = refl
all_keep false true true rules.Whole = refl
all_keep false true true _ = refl
all_keep false true false rules.Whole = refl
all_keep false true false _ = refl
all_keep false false true rules.Whole = refl
all_keep false false true _ = refl
all_keep false false false rules.Whole = refl
all_keep false false false _ = refl

opened_filled : (n : Rule) (a is : Items) (f : Facts) → IsAlternative n a → are_filled (non n ∷ is) f ≡ true → are_filled (a ++ is) f ≡ true
opened_filled n a is f i e =
    let kept = all_is (keeps f.path f.rings f.sketch n) (alternatives n) (all_keep f.path f.rings f.sketch n) a i in
    let p = both_true (are_filled a f) (is_less (effect n f) (behind a f)) kept in
    filled-append a is f p.0 (filled_less is (effect n f) (behind a f) (less_is (effect n f) (behind a f) p.1) e)

-- ---- what is known of the drawing, and of what is to come

record IsReady (items : Items) (r : Reading) : Type 0 where
  pub known : Facts
  pub holds : r.drawing.is_short ≡ false → Holds known r.drawing
  pub filled : are_filled items known ≡ true
  pub inside : r.wide ≡ None → r.drawing.is_outside ≡ false → IsInside r.drawing

start_ready : IsReady whole start
start_ready = record { known = nothing; holds = λ e. blank_holds; filled = refl; inside = λ w e. blank_inside }

token_ready : (chars : List ℕ) (t : Token) (is : Items) (r : Reading) → IsReady (tok (class_of t) ∷ is) r → IsReady is (eats chars t r)
unfolding eats
token_ready chars t is r ready = record {
  known = ready.known;
  holds = λ e. class_holds t.class (bytes_of chars t.from t.to) ready.known r.drawing (ready.holds (sym (class_short t.class (bytes_of chars t.from t.to) r.drawing) ∙ e));
  filled = ready.filled;
  inside = λ w e.
      let narrow = neither r.wide (wide_at chars t) w in
      class_inside t.class (bytes_of chars t.from t.to) t.from r.drawing narrow.1 (ready.inside narrow.0 (sym (class_outside t.class (bytes_of chars t.from t.to) r.drawing) ∙ e));
}

mark_ready : (chars : List ℕ) (k : Mark) (is : Items) (r : Reading) → IsReady (act k ∷ is) r → IsReady is (does chars k r)
unfolding does
mark_ready chars kinds.Outermost is r ready = record { known = nothing; holds = λ e. blank_holds; filled = (both_true true _ ready.filled).1; inside = λ w e. blank_inside }
mark_ready chars kinds.Geometry is r ready = record { known = nothing; holds = λ e. blank_holds; filled = (both_true ready.known.sketch _ ready.filled).1; inside = λ w e. blank_inside }
mark_ready chars k is r ready = record {
  known = after_mark k ready.known;
  holds = λ e. mark_holds k ready.known r.drawing e (ready.holds (mark_short k r.drawing e));
  filled = (both_true (asks k ready.known) (are_filled is (behind_mark k ready.known)) ready.filled).1;
  inside = λ w e. mark_inside k r.drawing e (ready.inside w (mark_outside k r.drawing e));
}

rule_ready : (n : Rule) (a is : Items) (r : Reading) → IsAlternative n a → IsReady (non n ∷ is) r → IsReady (a ++ is) r
rule_ready n a is r i ready = record { known = ready.known; holds = ready.holds; filled = opened_filled n a is ready.known i ready.filled; inside = ready.inside }

module _ (chars : List ℕ) where
  passes_ready : (is : Items) (r : Reading) (t : Token) (js : Items) (m : Reading) → Passes Reading (does chars) is r t js m → IsReady is r → IsReady js m
  passes_ready _ _ _ _ _ (stands is r t) ready = ready
  passes_ready _ _ _ _ _ (marked k is r t js m p) ready = passes_ready is (does chars k r) t js m p (mark_ready chars k is r ready)
  passes_ready _ _ _ _ _ (opened n a is r t js m e p) ready = passes_ready (a ++ is) r t js m p (rule_ready n a is r (is_rule n (class_of t) a e) ready)

  opens_ready : (js : Items) (c : Class) (ks : Items) → Opens js c ks → (r : Reading) → IsReady js r → IsReady ks r
  opens_ready _ _ _ (as_is js c) r ready = ready
  opens_ready _ _ _ (opened_rule n a is c js p o) r ready = opens_ready (a ++ is) c js o r (rule_ready n a is r (is_rule n c a p) ready)

  goes_ready : (is : Items) (r : Reading) (t : Token) (js : Items) (m : Reading) → Goes Reading (eats chars) (does chars) is r t js m → IsReady is r → IsReady js m
  goes_ready _ _ _ _ _ (takes t is r) ready = token_ready chars t is r ready
  goes_ready _ _ _ _ _ (marks k is r t js m g) ready = goes_ready is (does chars k r) t js m g (mark_ready chars k is r ready)
  goes_ready _ _ _ _ _ (opens n a is r t js m e g) ready = goes_ready (a ++ is) r t js m g (rule_ready n a is r (is_rule n (class_of t) a e) ready)

  runs_ready : (is : Items) (r : Reading) (ts : List Token) (js : Items) (m : Reading) → Run Reading (eats chars) (does chars) is r ts js m → IsReady is r → IsReady js m
  runs_ready _ _ _ _ _ (stays is r) ready = ready
  runs_ready _ _ _ _ _ (steps is r t ns n ts js m g more) ready = runs_ready ns n ts js m more (goes_ready is r t ns n g ready)

  geometry_ends : (is : Items) (r : Reading) → IsReady (act kinds.Geometry ∷ is) r → CanEnd r
  geometry_ends is r ready good narrow =
      let whole = good_is 1000 r.drawing good in
      let filled = (both_true ready.known.sketch (are_filled is nothing) ready.filled).0 in
      finished_but_memory 1000 r.drawing whole ((ready.holds whole.long).sketch filled) (stays_inside r.drawing (ready.inside narrow whole.within))

  -- where the mark that comes next ends a geometry
  pub mark_ends : (before : List Token) (is : Items) (r : Reading) → Reads chars whole start before is r → (t : Token) (js : Items) (m : Reading) → Passes Reading (does chars) is r t js m →
      (k : Mark) (ks : Items) → Opens js (class_of t) (act k ∷ ks) → k ≡ kinds.Geometry → CanEnd m
  mark_ends before is r run t js m passes k ks o e =
      let ready = opens_ready js (class_of t) (act k ∷ ks) o m (passes_ready is r t js m passes (runs_ready whole start before is r run start_ready)) in
      geometry_ends ks m (subst (λ (x : Mark). IsReady (act x ∷ ks) m) e ready)
