-- What stands ready keeps what the types of a filter's parts do, by each mark: texts are UTF-8, numbers stand in their one
-- form, moments and geometries are within their ranges.
use Rattle.std.proofs.Common.{rules, IsUtf8, ◌≡◌, ℕ, ◌≤◌, leb, Bool, true, false, cond, List, [], ◌∷◌, length, take, drop, reverse, Option, Some, None, Result, Ok, Err, ℤ, refl, subst, sym, arith}
use Rattle.std.specs.List.{All}
use Rattle.std.specs.Option.{IfSome, option_map}
use Rattle.std.specs.Prelude.{IfOk}
use Rattle.std.proofs.lemmas.Bool.{leb-true}
use Rattle.std.proofs.lemmas.List.{length-reverse, length-take, reverse-append}
use Rattle.std.proofs.lemmas.List.Elements.{All-nil, All-cons, All-head, All-tail, All-push, All-take, All-drop}
use Rattle.sc_geom.specs.declared.rects.Rects.{Rects}
use Rattle.sc_geom.specs.declared.point.Pt.{Pt}
use Rattle.sc_geom.specs.Shapes.{Shapes}
use Rattle.sc_geom.specs.Rects.{geometry_of}
use Rattle.sc_cqlgrammar.specs.declared.mark.Mark.{Mark}
use Rattle.sc_cqlgrammar.specs.declared.mark.Mark.TheVariants as marks
use Rattle.sc_grammar.specs.declared.token.Token.{Token}
use Rattle.sc_decimal.specs.Number.{Number, IsDec}
use Rattle.sc_time.specs.Instant.{IsInstant}
use Rattle.sc_geom.specs.Geometry.{IsGeometry}
use Rattle.sc_forms.proofs.Literals.{name_utf8, text_utf8, number_dec, instant_kept, day_kept}
use Rattle.sc_forms.proofs.Boxes.{box_geometry}
use Rattle.sc_expr.specs.declared.scalar.Scalar.{Scalar}
use Rattle.sc_expr.specs.declared.scalar.Scalar.TheVariants as scalars
use Rattle.sc_expr.specs.declared.scalar.Shape.{Shape}
use Rattle.sc_expr.specs.declared.scalar.Shape.TheVariants as shapes
use Rattle.sc_expr.specs.declared.scalar.Pattern.{Pattern}
use Rattle.sc_expr.specs.declared.expr.CompOp.{CompOp}
use Rattle.sc_expr.specs.declared.expr.CompOp.TheVariants as ops
use Rattle.sc_expr.specs.declared.expr.Expr.{Expr}
use Rattle.sc_expr.specs.declared.expr.Expr.TheVariants as exprs
use Rattle.sc_expr.specs.Kept.{IsKeptScalar, IsKeptShape, IsKept}
use Rattle.sc_expr.proofs.Keeping.{property_kept, text_kept, number_kept, truth_kept, moment_kept, folded_kept, const_kept, and_kept, or_kept, not_kept, compare_kept, is_null_kept, between_kept, among_kept, like_kept, meets_kept}
use Rattle.sc_cqlvalue.specs.declared.state.State.{State}
use Rattle.sc_cqlvalue.specs.Literals.{bytes_of, name_of, text_of, dec_of, instant_of, day_of}
use Rattle.sc_cqlvalue.specs.Boxes.{rects_of}
use Rattle.sc_cqlvalue.specs.Values as values

-- what stands ready keeps what the types of a filter's parts do
pub record AreKept (s : State) : Type 0 where
  pub scalars : All IsKeptScalar s.scalars
  pub listed : All IsKeptScalar s.listed
  pub exprs : All IsKept s.exprs
  pub shapes : All IsKeptShape s.shapes
  pub pattern : IfSome s.pattern (λ (p : Pattern). IsUtf8 p.text)

pub start_kept : AreKept values.start
start_kept = record { scalars = All-nil IsKeptScalar; listed = All-nil IsKeptScalar; exprs = All-nil IsKept; shapes = All-nil IsKeptShape; pattern = tt }

pub eats_keeps : (token : Token) (s : State) → AreKept s → AreKept (values.eats token s)
eats_keeps token s f = record { scalars = f.scalars; listed = f.listed; exprs = f.exprs; shapes = f.shapes; pattern = f.pattern }

pub noted_keeps : (place : ℕ) (s : State) → AreKept s → AreKept (values.noted place s)
noted_keeps place s f = record { scalars = f.scalars; listed = f.listed; exprs = f.exprs; shapes = f.shapes; pattern = f.pattern }

scalar_keeps : (scalar : Scalar) (s : State) → IsKeptScalar scalar → AreKept s → AreKept (values.with_scalar scalar s)
scalar_keeps scalar s formed f = record { scalars = All-cons IsKeptScalar scalar s.scalars formed f.scalars; listed = f.listed; exprs = f.exprs; shapes = f.shapes; pattern = f.pattern }

literal_keeps : (literal : Option Scalar) (s : State) → IfSome literal IsKeptScalar → AreKept s → AreKept (values.with_literal literal s)
literal_keeps (Some scalar) s formed f = scalar_keeps scalar s formed f
literal_keeps None s formed f = scalar_keeps (scalars.Truth false) (values.noted s.token.from s) (truth_kept false) (noted_keeps s.token.from s f)

shape_keeps : (shape : Shape) (s : State) → IsKeptShape shape → AreKept s → AreKept (values.with_shape shape s)
shape_keeps shape s formed f = record { scalars = f.scalars; listed = f.listed; exprs = f.exprs; shapes = All-cons IsKeptShape shape s.shapes formed f.shapes; pattern = f.pattern }

stand_in_kept : IsKeptShape values.stand_in
stand_in_kept = search rules

shape_at_keeps : (place : ℕ) (shape : Option Shape) (s : State) → IfSome shape IsKeptShape → AreKept s → AreKept (values.with_shape_at place shape s)
shape_at_keeps place (Some shape) s formed f = shape_keeps shape s formed f
shape_at_keeps place None s formed f = shape_keeps values.stand_in (values.noted place s) stand_in_kept (noted_keeps place s f)

expr_keeps : (expr : Expr) (s : State) → IsKept expr → AreKept s → AreKept (values.with_expr expr s)
expr_keeps expr s formed f = record { scalars = f.scalars; listed = f.listed; exprs = All-cons IsKept expr s.exprs formed f.exprs; shapes = f.shapes; pattern = f.pattern }

-- the same with fewer scalars
fewer_scalars : (ready : List Scalar) (s : State) → All IsKeptScalar ready → AreKept s → AreKept (record s { scalars = ready })
fewer_scalars ready s formed f = record { scalars = formed; listed = f.listed; exprs = f.exprs; shapes = f.shapes; pattern = f.pattern }

-- ---- chains

turned_kept : (ready : List Expr) → All IsKept ready → All IsKept (reverse ready)
turned_kept [] all = All-nil IsKept
turned_kept (expr ∷ ready) all =
    subst (All IsKept) (sym (reverse-append (expr ∷ []) ready))
    (All-push IsKept (reverse ready) expr (turned_kept ready (All-tail IsKept expr ready all)) (All-head IsKept expr ready all))

joined_when : (join : List Expr → Expr) (count : ℕ) (ready : List Expr) → ((members : List Expr) → 2 ≤ length members → All IsKept members → IsKept (join members)) → count ≤ length ready → All IsKept ready →
    (many : Bool) → leb 2 count ≡ many → All IsKept (cond many (join (reverse (take count ready)) ∷ drop count ready) ready)
joined_when join count ready makes within all true many =
    All-cons IsKept (join (reverse (take count ready))) (drop count ready)
    (makes (reverse (take count ready)) (omega (arith, length-reverse (take count ready), length-take count ready, leb-true 2 count many)) (turned_kept (take count ready) (All-take IsKept count ready all)))
    (All-drop IsKept count ready all)
joined_when join count ready makes within all false many = all

joined_kept : (join : List Expr → Expr) (count : ℕ) (ready : List Expr) → ((members : List Expr) → 2 ≤ length members → All IsKept members → IsKept (join members)) → count ≤ length ready → All IsKept ready → All IsKept (values.joined join count ready)
joined_kept join count ready makes within all = joined_when join count ready makes within all (leb 2 count) refl

count_within : (chains : List ℕ) (ready : List Expr) → values.chain_count chains ready ≤ length ready
count_within [] ready = omega arith
count_within (before ∷ chains) ready = omega arith

ended_keeps : (join : List Expr → Expr) (s : State) → ((members : List Expr) → 2 ≤ length members → All IsKept members → IsKept (join members)) → AreKept s → AreKept (values.chain_ended join s)
ended_keeps join s makes f = record {
  scalars = f.scalars;
  listed = f.listed;
  exprs = joined_kept join (values.chain_count s.chains s.exprs) s.exprs makes (count_within s.chains s.exprs) f.exprs;
  shapes = f.shapes;
  pattern = f.pattern;
}

negated_keeps : (ready : List Expr) (s : State) → All IsKept ready → AreKept s → AreKept (values.negated_from ready s)
negated_keeps [] s all f = f
negated_keeps (expr ∷ others) s all f = record {
  scalars = f.scalars;
  listed = f.listed;
  exprs = All-cons IsKept (exprs.Not expr) others (not_kept expr (All-head IsKept expr others all)) (All-tail IsKept expr others all);
  shapes = f.shapes;
  pattern = f.pattern;
}

constant_keeps : (ready : List Scalar) (s : State) → All IsKeptScalar ready → AreKept s → AreKept (values.constant_from ready s)
constant_keeps [] s all f = f
constant_keeps (scalar ∷ others) s all f =
    expr_keeps (exprs.Const (values.truth_of scalar)) (record s { scalars = others }) (const_kept (values.truth_of scalar)) (fewer_scalars others s (All-tail IsKeptScalar scalar others all) f)

-- ---- tests

compared_keeps : (op : CompOp) (ready : List Scalar) (s : State) → All IsKeptScalar ready → AreKept s → AreKept (values.compared_from op ready s)
compared_keeps op [] s all f = f
compared_keeps op (right ∷ []) s all f = f
compared_keeps op (right ∷ left ∷ others) s all f =
    let rest = All-tail IsKeptScalar right (left ∷ others) all in
    expr_keeps (exprs.Compare op left right) (record s { scalars = others })
    (compare_kept op left right (All-head IsKeptScalar left others rest) (All-head IsKeptScalar right (left ∷ others) all))
    (fewer_scalars others s (All-tail IsKeptScalar left others rest) f)

null_keeps : (ready : List Scalar) (s : State) → All IsKeptScalar ready → AreKept s → AreKept (values.tested_for_null_from ready s)
null_keeps [] s all f = f
null_keeps (operand ∷ others) s all f =
    expr_keeps (exprs.IsNull operand) (record s { scalars = others })
    (is_null_kept operand (All-head IsKeptScalar operand others all))
    (fewer_scalars others s (All-tail IsKeptScalar operand others all) f)

between_keeps : (ready : List Scalar) (s : State) → All IsKeptScalar ready → AreKept s → AreKept (values.placed_between_from ready s)
between_keeps [] s all f = f
between_keeps (high ∷ []) s all f = f
between_keeps (high ∷ low ∷ []) s all f = f
between_keeps (high ∷ low ∷ operand ∷ others) s all f =
    let rest = All-tail IsKeptScalar high (low ∷ operand ∷ others) all in
    let last = All-tail IsKeptScalar low (operand ∷ others) rest in
    expr_keeps (exprs.Between operand low high) (record s { scalars = others })
    (between_kept operand low high (All-head IsKeptScalar operand others last) (All-head IsKeptScalar low (operand ∷ others) rest) (All-head IsKeptScalar high (low ∷ operand ∷ others) all))
    (fewer_scalars others s (All-tail IsKeptScalar operand others last) f)

list_keeps : (s : State) → AreKept s → AreKept (values.list_begun s)
list_keeps s f = record { scalars = f.scalars; listed = All-nil IsKeptScalar; exprs = f.exprs; shapes = f.shapes; pattern = f.pattern }

element_keeps : (ready : List Scalar) (s : State) → All IsKeptScalar ready → AreKept s → AreKept (values.with_element_from ready s)
element_keeps [] s all f = f
element_keeps (element ∷ others) s all f = record {
  scalars = All-tail IsKeptScalar element others all;
  listed = All-push IsKeptScalar s.listed element f.listed (All-head IsKeptScalar element others all);
  exprs = f.exprs;
  shapes = f.shapes;
  pattern = f.pattern;
}

sought_keeps : (ready listed : List Scalar) (s : State) → All IsKeptScalar ready → All IsKeptScalar listed → AreKept s → AreKept (values.sought_from ready listed s)
sought_keeps [] listed s all each f = f
sought_keeps (operand ∷ others) [] s all each f = f
sought_keeps (operand ∷ others) (first ∷ more) s all each f = record {
  scalars = All-tail IsKeptScalar operand others all;
  listed = All-nil IsKeptScalar;
  exprs = All-cons IsKept (exprs.Among operand (first ∷ more)) s.exprs (among_kept operand (first ∷ more) (All-head IsKeptScalar operand others all) each) f.exprs;
  shapes = f.shapes;
  pattern = f.pattern;
}

matched_keeps : (ready : List Scalar) (pattern : Option Pattern) (s : State) → All IsKeptScalar ready → IfSome pattern (λ (p : Pattern). IsUtf8 p.text) → AreKept s → AreKept (values.matched_from ready pattern s)
matched_keeps [] pattern s all u f = f
matched_keeps (operand ∷ others) None s all u f = f
matched_keeps (operand ∷ others) (Some pattern) s all u f = record {
  scalars = All-tail IsKeptScalar operand others all;
  listed = f.listed;
  exprs = All-cons IsKept (exprs.Like operand pattern) s.exprs (like_kept operand pattern (All-head IsKeptScalar operand others all) u) f.exprs;
  shapes = f.shapes;
  pattern = tt;
}

met_keeps : (ready : List Shape) (s : State) → All IsKeptShape ready → AreKept s → AreKept (values.met_from ready s)
met_keeps [] s all f = f
met_keeps (right ∷ []) s all f = f
met_keeps (right ∷ left ∷ others) s all f =
    let rest = All-tail IsKeptShape right (left ∷ others) all in
    record {
      scalars = f.scalars;
      listed = f.listed;
      exprs = All-cons IsKept (exprs.Meets left right) s.exprs (meets_kept left right (All-head IsKeptShape left others rest) (All-head IsKeptShape right (left ∷ others) all)) f.exprs;
      shapes = All-tail IsKeptShape left others rest;
      pattern = f.pattern;
    }

-- ---- scalars and patterns

folded_keeps : (ready : List Scalar) (s : State) → All IsKeptScalar ready → AreKept s → AreKept (values.folded_from ready s)
folded_keeps [] s all f = f
folded_keeps (scalar ∷ others) s all f =
    fewer_scalars (scalars.Folded scalar ∷ others) s
    (All-cons IsKeptScalar (scalars.Folded scalar) others (folded_kept scalar (All-head IsKeptScalar scalar others all)) (All-tail IsKeptScalar scalar others all)) f

pattern_keeps : (text : Option (List ℕ)) (s : State) → IfSome text IsUtf8 → AreKept s → AreKept (values.with_pattern text s)
pattern_keeps None s u f = record { scalars = f.scalars; listed = f.listed; exprs = f.exprs; shapes = f.shapes; pattern = search rules }
pattern_keeps (Some text) s u f = record { scalars = f.scalars; listed = f.listed; exprs = f.exprs; shapes = f.shapes; pattern = u }

pattern_folded_keeps : (pattern : Option Pattern) (s : State) → IfSome pattern (λ (p : Pattern). IsUtf8 p.text) → AreKept s → AreKept (values.pattern_folded_from pattern s)
pattern_folded_keeps None s u f = f
pattern_folded_keeps (Some pattern) s u f = record { scalars = f.scalars; listed = f.listed; exprs = f.exprs; shapes = f.shapes; pattern = u }

named : (name : Option (List ℕ)) → IfSome name IsUtf8 → IfSome (option_map (λ n. scalars.Prop n) name) IsKeptScalar
named None u = tt
named (Some name) u = property_kept name u

text_made : (t : Option (List ℕ)) → IfSome t IsUtf8 → IfSome (option_map (λ x. scalars.Text x) t) IsKeptScalar
text_made None u = tt
text_made (Some t) u = text_kept t u

number_made : (number : Option Number) → IfSome number IsDec → IfSome (option_map (λ x. scalars.Number x) number) IsKeptScalar
number_made None d = tt
number_made (Some number) d = number_kept number d

moment_made : (moment : Option ℤ) → IfSome moment IsInstant → IfSome (option_map (λ x. scalars.Moment x) moment) IsKeptScalar
moment_made None i = tt
moment_made (Some moment) i = moment_kept moment i

-- ---- shapes

shape_named : (name : Option (List ℕ)) → IfSome name IsUtf8 → IfSome (option_map (λ n. shapes.Prop n) name) IsKeptShape
shape_named None u = tt
shape_named (Some name) u = u

box_made : (rects : Option Rects) → IfSome rects (λ r. IsGeometry (geometry_of r)) → IfSome (option_map (λ r. shapes.Geom (geometry_of r)) rects) IsKeptShape
box_made None is = tt
box_made (Some rects) is = is

side_keeps : (side : Option Number) (s : State) → AreKept s → AreKept (values.with_side side s)
side_keeps None s f = record { scalars = f.scalars; listed = f.listed; exprs = f.exprs; shapes = f.shapes; pattern = f.pattern }
side_keeps (Some side) s f = record { scalars = f.scalars; listed = f.listed; exprs = f.exprs; shapes = f.shapes; pattern = f.pattern }

box_when : (wide : Bool) (s : State) → AreKept s → AreKept (cond wide (values.with_shape values.stand_in s) (values.with_shape_at s.bbox.place (values.box_shape_of s.bbox.sides) s))
box_when true s f = shape_keeps values.stand_in s stand_in_kept f
box_when false s f = shape_at_keeps s.bbox.place (values.box_shape_of s.bbox.sides) s (box_made (rects_of s.bbox.sides) (box_geometry s.bbox.sides)) f

pub geometry_keeps : (drawn : Result (Shapes Pt) ℕ) (s : State) → IfOk drawn IsGeometry → AreKept s → AreKept (values.with_geometry drawn s)
geometry_keeps (Ok geometry) s few f = shape_keeps (shapes.Geom geometry) s few f
geometry_keeps (Err place) s few f = shape_at_keeps place None s tt f

-- ---- each mark

shapes_keep : (text : List ℕ) (mark : Mark) (s : State) → AreKept s → AreKept (values.does_to_shapes text mark s)
shapes_keep text marks.NamedShape s f = shape_at_keeps s.token.from (values.named_shape_of text s.token) s (shape_named (name_of s.token.class (bytes_of text s.token)) (name_utf8 s.token.class (bytes_of text s.token))) f
shapes_keep text marks.Box s f = record { scalars = f.scalars; listed = f.listed; exprs = f.exprs; shapes = f.shapes; pattern = f.pattern }
shapes_keep text marks.Side s f = side_keeps (dec_of (bytes_of text s.token)) s f
shapes_keep text marks.Rectangles s f = box_when s.bbox.has_wide s f
shapes_keep text _ s f = f

scalars_keep : (text : List ℕ) (mark : Mark) (s : State) → AreKept s → AreKept (values.does_to_scalars text mark s)
scalars_keep text marks.True s f = scalar_keeps (scalars.Truth true) s (truth_kept true) f
scalars_keep text marks.False s f = scalar_keeps (scalars.Truth false) s (truth_kept false) f
scalars_keep text marks.Property s f = literal_keeps (values.property_of text s.token) s (named (name_of s.token.class (bytes_of text s.token)) (name_utf8 s.token.class (bytes_of text s.token))) f
scalars_keep text marks.Text s f = literal_keeps (values.text_scalar_of text s.token) s (text_made (text_of (bytes_of text s.token)) (text_utf8 (bytes_of text s.token))) f
scalars_keep text marks.Number s f = literal_keeps (values.number_scalar_of text s.token) s (number_made (dec_of (bytes_of text s.token)) (number_dec (bytes_of text s.token))) f
scalars_keep text marks.Instant s f = literal_keeps (values.instant_scalar_of text s.token) s (moment_made (instant_of (bytes_of text s.token)) (instant_kept (bytes_of text s.token))) f
scalars_keep text marks.Day s f = literal_keeps (values.day_scalar_of text s.token) s (moment_made (day_of (bytes_of text s.token)) (day_kept (bytes_of text s.token))) f
scalars_keep text marks.Fold s f = folded_keeps s.scalars s f.scalars f
scalars_keep text marks.Pattern s f = pattern_keeps (values.pattern_text_of text s.token) s (text_utf8 (bytes_of text s.token)) f
scalars_keep text marks.FoldPattern s f = pattern_folded_keeps s.pattern s f.pattern f
scalars_keep text mark s f = shapes_keep text mark s f

tests_keep : (text : List ℕ) (mark : Mark) (s : State) → AreKept s → AreKept (values.does_by_test text mark s)
tests_keep text marks.Equal s f = compared_keeps ops.Eq s.scalars s f.scalars f
tests_keep text marks.NotEqual s f = compared_keeps ops.Ne s.scalars s f.scalars f
tests_keep text marks.Less s f = compared_keeps ops.Lt s.scalars s f.scalars f
tests_keep text marks.Greater s f = compared_keeps ops.Gt s.scalars s f.scalars f
tests_keep text marks.AtMost s f = compared_keeps ops.Le s.scalars s f.scalars f
tests_keep text marks.AtLeast s f = compared_keeps ops.Ge s.scalars s f.scalars f
tests_keep text marks.IsNull s f = null_keeps s.scalars s f.scalars f
tests_keep text marks.Between s f = between_keeps s.scalars s f.scalars f
tests_keep text marks.List s f = list_keeps s f
tests_keep text marks.Element s f = element_keeps s.scalars s f.scalars f
tests_keep text marks.Among s f = sought_keeps s.scalars s.listed s f.scalars f.listed f
tests_keep text marks.Like s f = matched_keeps s.scalars s.pattern s f.scalars f.pattern f
tests_keep text marks.Meets s f = met_keeps s.shapes s f.shapes f
tests_keep text mark s f = scalars_keep text mark s f

pub does_keeps : (text : List ℕ) (mark : Mark) (s : State) → AreKept s → AreKept (values.does text mark s)
does_keeps text marks.Chain s f = record { scalars = f.scalars; listed = f.listed; exprs = f.exprs; shapes = f.shapes; pattern = f.pattern }
does_keeps text marks.Or s f = ended_keeps exprs.Or s (λ members some all. or_kept members all) f
does_keeps text marks.And s f = ended_keeps exprs.And s (λ members some all. and_kept members all) f
does_keeps text marks.Negate s f = negated_keeps s.exprs s f.exprs f
does_keeps text marks.Constant s f = constant_keeps s.scalars s f.scalars f
does_keeps text mark s f = tests_keep text mark s f
