-- Each geometry has a position: a table of what each rule leaves that isn't empty, which its alternatives keep.
use Rattle.std.proofs.Common.{◌≡◌, ℕ, ◌+◌, ◌≤◌, List, [], ◌∷◌, ◌++◌, length, Bool, true, false, ◌&&◌, ◌||◌, not, refl, sym, ap, subst, ◌∙◌, arith, nat_le, length-append}
use Rattle.std.specs.Prelude.{Option}
use Rattle.std.specs.List.{list_all}
use Rattle.sc_geom.specs.declared.point.Pt.{Pt}
use Rattle.sc_geom.specs.Shapes.{joined, beside}
use Rattle.sc_geom.specs.Sketch.{Sketch}
use Rattle.sc_geom.specs.Drawn.{points_only, lines_only, areas_only}
use Rattle.sc_geom.specs.Answers.{count_of}
use Rattle.sc_geom.proofs.Lists.{joined-append, joined-push}
use Rattle.sc_geom.proofs.Finished.{count_is}
use Rattle.sc_grammar.specs.Grammar.{tok, non, act, done, token, mark, rule}
use Rattle.sc_grammar.specs.Words.{bytes_of}
use Rattle.sc_grammar.proofs.Sets.{both_true}
use Rattle.sc_grammar.specs.declared.token.Class.{Class}
use Rattle.sc_grammar.specs.declared.token.Class.TheVariants as classes
use Rattle.sc_grammar.specs.declared.token.Token.{Token}
use Rattle.sc_cqlgrammar.specs.declared.rule.Rule.{Rule}
use Rattle.sc_cqlgrammar.specs.declared.rule.Rule.TheVariants as rules
use Rattle.sc_cqlgrammar.specs.declared.mark.Mark.{Mark}
use Rattle.sc_cqlgrammar.specs.declared.mark.Mark.TheVariants as marks
use Rattle.sc_cqlgrammar.specs.Rules.{Items, alternatives, IsAlternative}
use Rattle.sc_cqlgrammar.proofs.Fitting.{all_is}
use Rattle.sc_cqlgrammar.proofs.Readings.{Left}
use Rattle.sc_wkt.specs.Drawing.{Drawing, blank, reads, reads_class, draws, with_line, with_area}

-- what is known not to be empty: the path, the rings, the sketch
pub record Facts : Type 0 where
  pub path : Bool
  pub rings : Bool
  pub sketch : Bool

abbrev pub facts : Bool → Bool → Bool → Facts
facts p q s = record { path = p; rings = q; sketch = s }

pub record Holds (f : Facts) (d : Drawing) : Type 0 where
  pub path : f.path ≡ true → 1 ≤ length d.path
  pub rings : f.rings ≡ true → 1 ≤ length (joined d.rings)
  pub sketch : f.sketch ≡ true → 1 ≤ count_of d.sketch

abbrev pub after_mark : Mark → Facts → Facts
after_mark marks.Latitude f = facts true f.rings f.sketch
after_mark marks.Points f = facts false f.rings (f.sketch || f.path)
after_mark marks.Line f = facts false f.rings (f.sketch || f.path)
after_mark marks.Ring f = facts false (f.rings || f.path) f.sketch
after_mark marks.Area f = facts f.path false (f.sketch || f.rings)
after_mark _ f = f

-- what a rule leaves; nothing is told of the rules that no geometry has
abbrev pub effect : Rule → Facts → Facts
effect rules.Position f = facts true f.rings f.sketch
effect rules.PositionRest f = f
effect rules.Height f = f
effect rules.ZWord f = f
effect rules.Member f = facts true f.rings f.sketch
effect rules.MemberRest f = f
effect rules.Line f = facts false f.rings true
effect rules.LineRest f = facts false f.rings f.sketch
effect rules.Ring f = facts false true f.sketch
effect rules.RingRest f = facts false f.rings f.sketch
effect rules.Area f = facts false false true
effect rules.AreaRest f = facts false false f.sketch
effect rules.Geometry f = facts false false true
effect rules.GeometryRest f = facts false false f.sketch
effect _ f = facts false false false

abbrev after : Items → Facts → Facts
after [] f = f
after (tok c ∷ is) f = after is f
after (act k ∷ is) f = after is (after_mark k f)
after (non n ∷ is) f = after is (effect n f)

after-append : (a is : Items) (f : Facts) → after (a ++ is) f ≡ after is (after a f)
after-append [] is f = refl
after-append (tok c ∷ a) is f = after-append a is f
after-append (act k ∷ a) is f = after-append a is (after_mark k f)
after-append (non n ∷ a) is f = after-append a is (effect n f)

-- ---- less is known

pub record IsLess (f g : Facts) : Type 0 where
  pub path : f.path ≡ true → g.path ≡ true
  pub rings : f.rings ≡ true → g.rings ≡ true
  pub sketch : f.sketch ≡ true → g.sketch ≡ true

pub less_holds : (f g : Facts) (d : Drawing) → IsLess f g → Holds g d → Holds f d
less_holds f g d less h = record { path = λ e. h.path (less.path e); rings = λ e. h.rings (less.rings e); sketch = λ e. h.sketch (less.sketch e) }

no_fact : {A : Type 0} → false ≡ true → A
no_fact e = absurd cc

or_less : (a b c d : Bool) → (a ≡ true → c ≡ true) → (b ≡ true → d ≡ true) → (a || b) ≡ true → (c || d) ≡ true
or_less true b true d h k e = refl
or_less true b false d h k e = no_fact (h refl)
or_less false b true d h k e = refl
or_less false b false d h k e = k e

pub mark_less : (k : Mark) (f g : Facts) → IsLess f g → IsLess (after_mark k f) (after_mark k g)
mark_less marks.Latitude f g less = record { path = λ e. refl; rings = less.rings; sketch = less.sketch }
mark_less marks.Points f g less = record { path = λ e. e; rings = less.rings; sketch = or_less f.sketch f.path g.sketch g.path less.sketch less.path }
mark_less marks.Line f g less = record { path = λ e. e; rings = less.rings; sketch = or_less f.sketch f.path g.sketch g.path less.sketch less.path }
mark_less marks.Ring f g less = record { path = λ e. e; rings = or_less f.rings f.path g.rings g.path less.rings less.path; sketch = less.sketch }
mark_less marks.Area f g less = record { path = less.path; rings = λ e. e; sketch = or_less f.sketch f.rings g.sketch g.rings less.sketch less.rings }
mark_less _ f g less = less

pub effect_less : (n : Rule) (f g : Facts) → IsLess f g → IsLess (effect n f) (effect n g)
effect_less rules.Position f g less = record { path = λ e. refl; rings = less.rings; sketch = less.sketch }
effect_less rules.PositionRest f g less = less
effect_less rules.Height f g less = less
effect_less rules.ZWord f g less = less
effect_less rules.Member f g less = record { path = λ e. refl; rings = less.rings; sketch = less.sketch }
effect_less rules.MemberRest f g less = less
effect_less rules.Line f g less = record { path = λ e. e; rings = less.rings; sketch = λ e. refl }
effect_less rules.LineRest f g less = record { path = λ e. e; rings = less.rings; sketch = less.sketch }
effect_less rules.Ring f g less = record { path = λ e. e; rings = λ e. refl; sketch = less.sketch }
effect_less rules.RingRest f g less = record { path = λ e. e; rings = less.rings; sketch = less.sketch }
effect_less rules.Area f g less = record { path = λ e. e; rings = λ e. e; sketch = λ e. refl }
effect_less rules.AreaRest f g less = record { path = λ e. e; rings = λ e. e; sketch = less.sketch }
effect_less rules.Geometry f g less = record { path = λ e. e; rings = λ e. e; sketch = λ e. refl }
effect_less rules.GeometryRest f g less = record { path = λ e. e; rings = λ e. e; sketch = less.sketch }
effect_less _ f g less = record { path = λ e. e; rings = λ e. e; sketch = λ e. e }

after_less : (is : Items) (f g : Facts) → IsLess f g → IsLess (after is f) (after is g)
after_less [] f g less = less
after_less (tok c ∷ is) f g less = after_less is f g less
after_less (act k ∷ is) f g less = after_less is (after_mark k f) (after_mark k g) (mark_less k f g less)
after_less (non n ∷ is) f g less = after_less is (effect n f) (effect n g) (effect_less n f g less)

-- ---- the table holds of each alternative

abbrev implies : Bool → Bool → Bool
implies a b = not a || b

abbrev pub is_less : Facts → Facts → Bool
is_less f g = implies f.path g.path && implies f.rings g.rings && implies f.sketch g.sketch

implied : (a b : Bool) → implies a b ≡ true → a ≡ true → b ≡ true
implied true b e f = e
implied false b e f = no_fact f

pub less_is : (f g : Facts) → is_less f g ≡ true → IsLess f g
less_is f g e =
    let p = both_true (implies f.path g.path && implies f.rings g.rings) (implies f.sketch g.sketch) e in
    let q = both_true (implies f.path g.path) (implies f.rings g.rings) p.0 in
    record { path = implied f.path g.path q.0; rings = implied f.rings g.rings q.1; sketch = implied f.sketch g.sketch p.1 }

abbrev keeps : Bool → Bool → Bool → Rule → Bool
keeps p q s n = list_all (λ (a : Items). is_less (effect n (facts p q s)) (after a (facts p q s))) (alternatives n)

all_keep : (p q s : Bool) (n : Rule) → keeps p q s n ≡ true
all_keep true true true rules.Whole = refl
all_keep true true true _ = refl
all_keep true true false rules.Whole = refl
all_keep true true false _ = refl
all_keep true false true rules.Whole = refl
all_keep true false true _ = refl
all_keep true false false rules.Whole = refl
all_keep true false false _ = refl
all_keep false true true rules.Whole = refl
all_keep false true true _ = refl
all_keep false true false rules.Whole = refl
all_keep false true false _ = refl
all_keep false false true rules.Whole = refl
all_keep false false true _ = refl
all_keep false false false rules.Whole = refl
all_keep false false false _ = refl

alternative_keeps : (n : Rule) (a : Items) → IsAlternative n a → (f : Facts) → IsLess (effect n f) (after a f)
alternative_keeps n a i f = less_is (effect n f) (after a f) (all_is (λ (x : Items). is_less (effect n f) (after x f)) (alternatives n) (all_keep f.path f.rings f.sketch n) a i)

-- ---- marks

count_beside : (s t : Sketch) → count_of (beside s t) ≡ count_of s + count_of t
count_beside s t =
    let whole = count_is (beside s t) in
    let first = count_is s in
    let second = count_is t in
    let points = length-append s.points t.points in
    let lines : length (joined (s.lines ++ t.lines)) ≡ length (joined s.lines) + length (joined t.lines) = ap length (joined-append s.lines t.lines) ∙ length-append (joined s.lines) (joined t.lines) in
    let rings : joined (joined (s.areas ++ t.areas)) ≡ joined (joined s.areas) ++ joined (joined t.areas) = ap joined (joined-append s.areas t.areas) ∙ joined-append (joined s.areas) (joined t.areas) in
    let areas : length (joined (joined (s.areas ++ t.areas))) ≡ length (joined (joined s.areas)) + length (joined (joined t.areas)) = ap length rings ∙ length-append (joined (joined s.areas)) (joined (joined t.areas)) in
    omega arith

-- a sketch that isn't empty stays so, and one beside which something is put isn't empty
grown : (old new : Sketch) (f g : Bool) → (f ≡ true → 1 ≤ count_of old) → (g ≡ true → 1 ≤ count_of new) → (f || g) ≡ true → 1 ≤ count_of (beside old new)
grown old new true g h k e = let sum = count_beside old new in let some : 1 ≤ count_of old = h refl in omega arith
grown old new false g h k e = let sum = count_beside old new in let some : 1 ≤ count_of new = k e in omega arith

points_counted : (path : List (Option Pt)) → 1 ≤ length path → 1 ≤ count_of (points_only path)
points_counted path h = let whole = count_is (points_only path) in omega arith

line_counted : (path : List (Option Pt)) → 1 ≤ length path → 1 ≤ count_of (lines_only (path ∷ []))
line_counted path h =
    let whole = count_is (lines_only (path ∷ [])) in
    let joins : length (joined (path ∷ [])) ≡ length path = ap length (joined-push [] path) in
    omega arith

area_counted : (rings : List (List (Option Pt))) → 1 ≤ length (joined rings) → 1 ≤ count_of (areas_only (rings ∷ []))
area_counted rings h =
    let whole = count_is (areas_only (rings ∷ [])) in
    let joins : length (joined (joined (rings ∷ []))) ≡ length (joined rings) = ap (λ (x : List (List (Option Pt))). length (joined x)) (joined-push [] rings) in
    omega arith

path_grown : (path : List (Option Pt)) (place : Option Pt) → 1 ≤ length (path ++ place ∷ [])
path_grown path place = let e = length-append path (place ∷ []) in omega arith

rings_grown : (rings : List (List (Option Pt))) (path : List (Option Pt)) (f g : Bool) → (f ≡ true → 1 ≤ length (joined rings)) → (g ≡ true → 1 ≤ length path) → (f || g) ≡ true → 1 ≤ length (joined (rings ++ path ∷ []))
rings_grown rings path true g h k e = let sum = ap length (joined-push rings path) ∙ length-append (joined rings) path in let some : 1 ≤ length (joined rings) = h refl in omega arith
rings_grown rings path false g h k e = let sum = ap length (joined-push rings path) ∙ length-append (joined rings) path in let some : 1 ≤ length path = k e in omega arith

line_holds : (b : Bool) (f : Facts) (d : Drawing) → (with_line b d).is_short ≡ false → Holds f d → Holds (after_mark marks.Line f) (with_line b d)
line_holds true f d e h = record {
  path = no_fact;
  rings = h.rings;
  sketch = grown d.sketch (lines_only (d.path ∷ [])) f.sketch f.path h.sketch (λ p. line_counted d.path (h.path p));
}
line_holds false f d e h = absurd cc

area_holds : (rings : List (List (Option Pt))) (f : Facts) (d : Drawing) → (f.rings ≡ true → 1 ≤ length (joined rings)) → Holds f d → Holds (after_mark marks.Area f) (with_area rings d)
area_holds [] f d k h = record { path = h.path; rings = no_fact; sketch = λ e. by_facts f.sketch f.rings e h.sketch k }
  where
    by_facts : (s q : Bool) → (s || q) ≡ true → (s ≡ true → 1 ≤ count_of d.sketch) → (q ≡ true → 1 ≤ 0) → 1 ≤ count_of d.sketch
    by_facts true q e h k = h refl
    by_facts false q e h k = absurd (let no : 1 ≤ 0 = k e in omega arith)
area_holds (ring ∷ rings) f d k h = record {
  path = h.path;
  rings = no_fact;
  sketch = grown d.sketch (areas_only ((ring ∷ rings) ∷ [])) f.sketch f.rings h.sketch (λ p. area_counted (ring ∷ rings) (k p));
}

pub mark_holds : (k : Mark) (f : Facts) (d : Drawing) → (draws k d).is_short ≡ false → Holds f d → Holds (after_mark k f) (draws k d)
mark_holds marks.Longitude f d e h = record { path = h.path; rings = h.rings; sketch = h.sketch }
mark_holds marks.Latitude f d e h = record { path = λ p. path_grown d.path _; rings = h.rings; sketch = h.sketch }
mark_holds marks.Points f d e h = record { path = no_fact; rings = h.rings; sketch = grown d.sketch (points_only d.path) f.sketch f.path h.sketch (λ p. points_counted d.path (h.path p)) }
mark_holds marks.Line f d e h = line_holds (nat_le 2 (length d.path)) f d e h
mark_holds marks.Ring f d e h = record { path = no_fact; rings = rings_grown d.rings d.path f.rings f.path h.rings h.path; sketch = h.sketch }
mark_holds marks.Area f d e h = area_holds d.rings f d h.rings h
mark_holds _ f d e h = h

line_short : (b : Bool) (d : Drawing) → (with_line b d).is_short ≡ false → d.is_short ≡ false
line_short true d e = e
line_short false d e = absurd cc

area_short : (rings : List (List (Option Pt))) (d : Drawing) → (with_area rings d).is_short ≡ d.is_short
area_short [] d = refl
area_short (ring ∷ rings) d = refl

pub mark_short : (k : Mark) (d : Drawing) → (draws k d).is_short ≡ false → d.is_short ≡ false
mark_short marks.Line d e = line_short (nat_le 2 (length d.path)) d e
mark_short marks.Area d e = sym (area_short d.rings d) ∙ e
mark_short _ d e = e

-- ---- tokens, and whole derivations

pub class_short : (c : Class) (bytes : List ℕ) (d : Drawing) → (reads_class c bytes d).is_short ≡ d.is_short
class_short classes.Number bytes d = refl
class_short _ bytes d = refl

pub class_holds : (c : Class) (bytes : List ℕ) (f : Facts) (d : Drawing) → Holds f d → Holds f (reads_class c bytes d)
class_holds classes.Number bytes f d h = record { path = h.path; rings = h.rings; sketch = h.sketch }
class_holds _ bytes f d h = h

pub blank_holds : Holds (facts false false false) blank
blank_holds = record { path = no_fact; rings = no_fact; sketch = no_fact }

module _ (text : List ℕ) where
  derives_short : (is : Items) (d : Drawing) (ts : List Token) (e : Drawing) → Left Drawing (reads text) draws is d ts e → e.is_short ≡ false → d.is_short ≡ false
  derives_short _ _ _ _ (done d) h = h
  derives_short _ _ _ _ (token t is d ts e l) h = sym (class_short t.class (bytes_of text t.from t.to) d) ∙ derives_short is (reads text t d) ts e l h
  derives_short _ _ _ _ (mark k is d ts e l) h = mark_short k d (derives_short is (draws k d) ts e l h)
  derives_short _ _ _ _ (rule n a is d ts e r l) h = derives_short (a ++ is) d ts e l h

  derives_holds : (is : Items) (d : Drawing) (ts : List Token) (e : Drawing) → Left Drawing (reads text) draws is d ts e → e.is_short ≡ false → (f : Facts) → Holds f d → Holds (after is f) e
  derives_holds _ _ _ _ (done d) s f h = h
  derives_holds _ _ _ _ (token t is d ts e l) s f h = derives_holds is (reads text t d) ts e l s f (class_holds t.class (bytes_of text t.from t.to) f d h)
  derives_holds _ _ _ _ (mark k is d ts e l) s f h = derives_holds is (draws k d) ts e l s (after_mark k f) (mark_holds k f d (derives_short is (draws k d) ts e l s) h)
  derives_holds _ _ _ _ (rule n a is d ts e r l) s f h =
      let inner : Holds (after is (after a f)) e = subst (λ (x : Facts). Holds x e) (after-append a is f) (derives_holds (a ++ is) d ts e l s f h) in
      less_holds (after is (effect n f)) (after is (after a f)) e (after_less is (effect n f) (after a f) (alternative_keeps n a r f)) inner

  -- a geometry with no line that is too short has a position
  pub drawn_filled : (ts : List Token) (e : Drawing) → Left Drawing (reads text) draws (non rules.Geometry ∷ []) blank ts e → e.is_short ≡ false → 1 ≤ count_of e.sketch
  drawn_filled ts e l s = (derives_holds (non rules.Geometry ∷ []) blank ts e l s (facts false false false) blank_holds).sketch refl
