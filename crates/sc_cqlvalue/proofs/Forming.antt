-- What stands ready stays formed by each mark.
use Rattle.std.proofs.Common.{◌≡◌, ℕ, ◌≤◌, leb, Bool, true, false, cond, List, [], ◌∷◌, length, take, drop, reverse, Option, Some, None, Result, Ok, Err, ℤ, refl, subst, sym, arith}
use Rattle.std.specs.List.{All}
use Rattle.std.specs.Option.{IfSome, option_map}
use Rattle.std.specs.Prelude.{IfOk}
use Rattle.std.proofs.lemmas.Bool.{leb-true}
use Rattle.std.proofs.lemmas.List.{length-reverse, length-take, reverse-append}
use Rattle.std.proofs.lemmas.List.Elements.{All-nil, All-cons, All-head, All-tail, All-push, All-take, All-drop}
use Rattle.sc_geom.specs.declared.rects.Rects.{Rects}
use Rattle.sc_geom.specs.declared.point.Pt.{Pt}
use Rattle.sc_geom.specs.Rectangle.{Rectangle}
use Rattle.sc_geom.specs.Shapes.{Shapes, positions_of}
use Rattle.sc_geom.specs.Rects.{geometry_of}
use Rattle.sc_cqlgrammar.specs.declared.mark.Mark.{Mark}
use Rattle.sc_cqlgrammar.specs.declared.mark.Mark.TheVariants as marks
use Rattle.sc_grammar.specs.declared.token.Token.{Token}
use Rattle.sc_decimal.specs.Number.{Number}
use Rattle.sc_expr.specs.declared.scalar.Scalar.{Scalar}
use Rattle.sc_expr.specs.declared.scalar.Scalar.TheVariants as scalars
use Rattle.sc_expr.specs.declared.scalar.Shape.{Shape}
use Rattle.sc_expr.specs.declared.scalar.Shape.TheVariants as shapes
use Rattle.sc_expr.specs.declared.scalar.Pattern.{Pattern}
use Rattle.sc_expr.specs.declared.expr.CompOp.{CompOp}
use Rattle.sc_expr.specs.declared.expr.CompOp.TheVariants as ops
use Rattle.sc_expr.specs.declared.expr.Expr.{Expr}
use Rattle.sc_expr.specs.declared.expr.Expr.TheVariants as exprs
use Rattle.sc_expr.specs.Form.{IsFormedScalar, IsFormedShape, IsFormed}
use Rattle.sc_expr.proofs.Formed.{property_formed, text_formed, number_formed, truth_formed, moment_formed, folded_formed, const_formed, and_formed, or_formed, not_formed, compare_formed, is_null_formed, between_formed, among_formed, like_formed, meets_formed}
use Rattle.sc_cqlvalue.specs.declared.state.State.{State}
use Rattle.sc_cqlvalue.specs.Literals.{bytes_of, if_filled, dec_of}
use Rattle.sc_cqlvalue.specs.Boxes.{rects_of}
use Rattle.sc_cqlvalue.specs.Values as values
use Rattle.sc_cqlvalue.specs.Formed.{AreFormed}

pub start_formed : AreFormed values.start
start_formed = record { scalars = All-nil IsFormedScalar; listed = All-nil IsFormedScalar; exprs = All-nil IsFormed; shapes = All-nil IsFormedShape }

pub eats_keeps : (token : Token) (s : State) → AreFormed s → AreFormed (values.eats token s)
eats_keeps token s f = record { scalars = f.scalars; listed = f.listed; exprs = f.exprs; shapes = f.shapes }

pub noted_keeps : (place : ℕ) (s : State) → AreFormed s → AreFormed (values.noted place s)
noted_keeps place s f = record { scalars = f.scalars; listed = f.listed; exprs = f.exprs; shapes = f.shapes }

scalar_keeps : (scalar : Scalar) (s : State) → IsFormedScalar scalar → AreFormed s → AreFormed (values.with_scalar scalar s)
scalar_keeps scalar s formed f = record { scalars = All-cons IsFormedScalar scalar s.scalars formed f.scalars; listed = f.listed; exprs = f.exprs; shapes = f.shapes }

literal_keeps : (literal : Option Scalar) (s : State) → IfSome literal IsFormedScalar → AreFormed s → AreFormed (values.with_literal literal s)
literal_keeps (Some scalar) s formed f = scalar_keeps scalar s formed f
literal_keeps None s formed f = scalar_keeps (scalars.Truth false) (values.noted s.token.from s) (truth_formed false) (noted_keeps s.token.from s f)

shape_keeps : (shape : Shape) (s : State) → IsFormedShape shape → AreFormed s → AreFormed (values.with_shape shape s)
shape_keeps shape s formed f = record { scalars = f.scalars; listed = f.listed; exprs = f.exprs; shapes = All-cons IsFormedShape shape s.shapes formed f.shapes }

stand_in_formed : IsFormedShape values.stand_in
stand_in_formed = omega arith

shape_at_keeps : (place : ℕ) (shape : Option Shape) (s : State) → IfSome shape IsFormedShape → AreFormed s → AreFormed (values.with_shape_at place shape s)
shape_at_keeps place (Some shape) s formed f = shape_keeps shape s formed f
shape_at_keeps place None s formed f = shape_keeps values.stand_in (values.noted place s) stand_in_formed (noted_keeps place s f)

expr_keeps : (expr : Expr) (s : State) → IsFormed expr → AreFormed s → AreFormed (values.with_expr expr s)
expr_keeps expr s formed f = record { scalars = f.scalars; listed = f.listed; exprs = All-cons IsFormed expr s.exprs formed f.exprs; shapes = f.shapes }

-- the same with fewer scalars
fewer_scalars : (ready : List Scalar) (s : State) → All IsFormedScalar ready → AreFormed s → AreFormed (record s { scalars = ready })
fewer_scalars ready s formed f = record { scalars = formed; listed = f.listed; exprs = f.exprs; shapes = f.shapes }

-- ---- chains

turned_formed : (ready : List Expr) → All IsFormed ready → All IsFormed (reverse ready)
turned_formed [] all = All-nil IsFormed
turned_formed (expr ∷ ready) all =
    subst (All IsFormed) (sym (reverse-append (expr ∷ []) ready))
    (All-push IsFormed (reverse ready) expr (turned_formed ready (All-tail IsFormed expr ready all)) (All-head IsFormed expr ready all))

joined_when : (join : List Expr → Expr) (count : ℕ) (ready : List Expr) → ((members : List Expr) → 2 ≤ length members → All IsFormed members → IsFormed (join members)) → count ≤ length ready → All IsFormed ready →
    (many : Bool) → leb 2 count ≡ many → All IsFormed (cond many (join (reverse (take count ready)) ∷ drop count ready) ready)
joined_when join count ready makes within all true many =
    All-cons IsFormed (join (reverse (take count ready))) (drop count ready)
    (makes (reverse (take count ready)) (omega (arith, length-reverse (take count ready), length-take count ready, leb-true 2 count many)) (turned_formed (take count ready) (All-take IsFormed count ready all)))
    (All-drop IsFormed count ready all)
joined_when join count ready makes within all false many = all

joined_formed : (join : List Expr → Expr) (count : ℕ) (ready : List Expr) → ((members : List Expr) → 2 ≤ length members → All IsFormed members → IsFormed (join members)) → count ≤ length ready → All IsFormed ready → All IsFormed (values.joined join count ready)
joined_formed join count ready makes within all = joined_when join count ready makes within all (leb 2 count) refl

count_within : (chains : List ℕ) (ready : List Expr) → values.chain_count chains ready ≤ length ready
count_within [] ready = omega arith
count_within (before ∷ chains) ready = omega arith

ended_keeps : (join : List Expr → Expr) (s : State) → ((members : List Expr) → 2 ≤ length members → All IsFormed members → IsFormed (join members)) → AreFormed s → AreFormed (values.chain_ended join s)
ended_keeps join s makes f = record {
  scalars = f.scalars;
  listed = f.listed;
  exprs = joined_formed join (values.chain_count s.chains s.exprs) s.exprs makes (count_within s.chains s.exprs) f.exprs;
  shapes = f.shapes;
}

negated_keeps : (ready : List Expr) (s : State) → All IsFormed ready → AreFormed s → AreFormed (values.negated_from ready s)
negated_keeps [] s all f = f
negated_keeps (expr ∷ others) s all f = record {
  scalars = f.scalars;
  listed = f.listed;
  exprs = All-cons IsFormed (exprs.Not expr) others (not_formed expr (All-head IsFormed expr others all)) (All-tail IsFormed expr others all);
  shapes = f.shapes;
}

constant_keeps : (ready : List Scalar) (s : State) → All IsFormedScalar ready → AreFormed s → AreFormed (values.constant_from ready s)
constant_keeps [] s all f = f
constant_keeps (scalar ∷ others) s all f =
    expr_keeps (exprs.Const (values.truth_of scalar)) (record s { scalars = others }) (const_formed (values.truth_of scalar)) (fewer_scalars others s (All-tail IsFormedScalar scalar others all) f)

-- ---- tests

compared_keeps : (op : CompOp) (ready : List Scalar) (s : State) → All IsFormedScalar ready → AreFormed s → AreFormed (values.compared_from op ready s)
compared_keeps op [] s all f = f
compared_keeps op (right ∷ []) s all f = f
compared_keeps op (right ∷ left ∷ others) s all f =
    let rest = All-tail IsFormedScalar right (left ∷ others) all in
    expr_keeps (exprs.Compare op left right) (record s { scalars = others })
    (compare_formed op left right (All-head IsFormedScalar left others rest) (All-head IsFormedScalar right (left ∷ others) all))
    (fewer_scalars others s (All-tail IsFormedScalar left others rest) f)

null_keeps : (ready : List Scalar) (s : State) → All IsFormedScalar ready → AreFormed s → AreFormed (values.tested_for_null_from ready s)
null_keeps [] s all f = f
null_keeps (operand ∷ others) s all f =
    expr_keeps (exprs.IsNull operand) (record s { scalars = others })
    (is_null_formed operand (All-head IsFormedScalar operand others all))
    (fewer_scalars others s (All-tail IsFormedScalar operand others all) f)

between_keeps : (ready : List Scalar) (s : State) → All IsFormedScalar ready → AreFormed s → AreFormed (values.placed_between_from ready s)
between_keeps [] s all f = f
between_keeps (high ∷ []) s all f = f
between_keeps (high ∷ low ∷ []) s all f = f
between_keeps (high ∷ low ∷ operand ∷ others) s all f =
    let rest = All-tail IsFormedScalar high (low ∷ operand ∷ others) all in
    let last = All-tail IsFormedScalar low (operand ∷ others) rest in
    expr_keeps (exprs.Between operand low high) (record s { scalars = others })
    (between_formed operand low high (All-head IsFormedScalar operand others last) (All-head IsFormedScalar low (operand ∷ others) rest) (All-head IsFormedScalar high (low ∷ operand ∷ others) all))
    (fewer_scalars others s (All-tail IsFormedScalar operand others last) f)

list_keeps : (s : State) → AreFormed s → AreFormed (values.list_begun s)
list_keeps s f = record { scalars = f.scalars; listed = All-nil IsFormedScalar; exprs = f.exprs; shapes = f.shapes }

element_keeps : (ready : List Scalar) (s : State) → All IsFormedScalar ready → AreFormed s → AreFormed (values.with_element_from ready s)
element_keeps [] s all f = f
element_keeps (element ∷ others) s all f = record {
  scalars = All-tail IsFormedScalar element others all;
  listed = All-push IsFormedScalar s.listed element f.listed (All-head IsFormedScalar element others all);
  exprs = f.exprs;
  shapes = f.shapes;
}

sought_keeps : (ready listed : List Scalar) (s : State) → All IsFormedScalar ready → All IsFormedScalar listed → AreFormed s → AreFormed (values.sought_from ready listed s)
sought_keeps [] listed s all each f = f
sought_keeps (operand ∷ others) [] s all each f = f
sought_keeps (operand ∷ others) (first ∷ more) s all each f = record {
  scalars = All-tail IsFormedScalar operand others all;
  listed = All-nil IsFormedScalar;
  exprs = All-cons IsFormed (exprs.Among operand (first ∷ more)) s.exprs (among_formed operand (first ∷ more) (All-head IsFormedScalar operand others all) (omega arith) each) f.exprs;
  shapes = f.shapes;
}

matched_keeps : (ready : List Scalar) (pattern : Option Pattern) (s : State) → All IsFormedScalar ready → AreFormed s → AreFormed (values.matched_from ready pattern s)
matched_keeps [] pattern s all f = f
matched_keeps (operand ∷ others) None s all f = f
matched_keeps (operand ∷ others) (Some pattern) s all f = record {
  scalars = All-tail IsFormedScalar operand others all;
  listed = f.listed;
  exprs = All-cons IsFormed (exprs.Like operand pattern) s.exprs (like_formed operand pattern (All-head IsFormedScalar operand others all)) f.exprs;
  shapes = f.shapes;
}

met_keeps : (ready : List Shape) (s : State) → All IsFormedShape ready → AreFormed s → AreFormed (values.met_from ready s)
met_keeps [] s all f = f
met_keeps (right ∷ []) s all f = f
met_keeps (right ∷ left ∷ others) s all f =
    let rest = All-tail IsFormedShape right (left ∷ others) all in
    record {
      scalars = f.scalars;
      listed = f.listed;
      exprs = All-cons IsFormed (exprs.Meets left right) s.exprs (meets_formed left right (All-head IsFormedShape left others rest) (All-head IsFormedShape right (left ∷ others) all)) f.exprs;
      shapes = All-tail IsFormedShape left others rest;
    }

-- ---- scalars and patterns

folded_keeps : (ready : List Scalar) (s : State) → All IsFormedScalar ready → AreFormed s → AreFormed (values.folded_from ready s)
folded_keeps [] s all f = f
folded_keeps (scalar ∷ others) s all f =
    fewer_scalars (scalars.Folded scalar ∷ others) s
    (All-cons IsFormedScalar (scalars.Folded scalar) others (folded_formed scalar (All-head IsFormedScalar scalar others all)) (All-tail IsFormedScalar scalar others all)) f

pattern_keeps : (text : Option (List ℕ)) (s : State) → AreFormed s → AreFormed (values.with_pattern text s)
pattern_keeps None s f = record { scalars = f.scalars; listed = f.listed; exprs = f.exprs; shapes = f.shapes }
pattern_keeps (Some text) s f = record { scalars = f.scalars; listed = f.listed; exprs = f.exprs; shapes = f.shapes }

pattern_folded_keeps : (pattern : Option Pattern) (s : State) → AreFormed s → AreFormed (values.pattern_folded_from pattern s)
pattern_folded_keeps None s f = f
pattern_folded_keeps (Some pattern) s f = record { scalars = f.scalars; listed = f.listed; exprs = f.exprs; shapes = f.shapes }

named : (name : Option (List ℕ)) → IfSome (option_map (λ n. scalars.Prop n) (if_filled name)) IsFormedScalar
named None = tt
named (Some []) = tt
named (Some (b ∷ bytes)) = property_formed (b ∷ bytes) (omega arith)

text_made : (t : Option (List ℕ)) → IfSome (option_map (λ x. scalars.Text x) t) IsFormedScalar
text_made None = tt
text_made (Some t) = text_formed t

number_made : (number : Option Number) → IfSome (option_map (λ x. scalars.Number x) number) IsFormedScalar
number_made None = tt
number_made (Some number) = number_formed number

moment_made : (moment : Option ℤ) → IfSome (option_map (λ x. scalars.Moment x) moment) IsFormedScalar
moment_made None = tt
moment_made (Some moment) = moment_formed moment

-- ---- shapes

shape_named : (name : Option (List ℕ)) → IfSome (option_map (λ n. shapes.Prop n) (if_filled name)) IsFormedShape
shape_named None = tt
shape_named (Some []) = tt
shape_named (Some (b ∷ bytes)) = omega arith

rectangles_few : (first : Rectangle) (second : Option Rectangle) → length (positions_of (geometry_of (record { first = first; second = second }))) ≤ 1000
rectangles_few first None = omega arith
rectangles_few first (Some second) = omega arith

box_made : (rects : Option Rects) → IfSome (option_map (λ r. shapes.Geom (geometry_of r)) rects) IsFormedShape
box_made None = tt
box_made (Some rects) = rectangles_few rects.first rects.second

side_keeps : (side : Option Number) (s : State) → AreFormed s → AreFormed (values.with_side side s)
side_keeps None s f = record { scalars = f.scalars; listed = f.listed; exprs = f.exprs; shapes = f.shapes }
side_keeps (Some side) s f = record { scalars = f.scalars; listed = f.listed; exprs = f.exprs; shapes = f.shapes }

box_when : (wide : Bool) (s : State) → AreFormed s → AreFormed (cond wide (values.with_shape values.stand_in s) (values.with_shape_at s.bbox.place (values.box_shape_of s.bbox.sides) s))
box_when true s f = shape_keeps values.stand_in s stand_in_formed f
box_when false s f = shape_at_keeps s.bbox.place (values.box_shape_of s.bbox.sides) s (box_made (rects_of s.bbox.sides)) f

pub geometry_keeps : (drawn : Result (Shapes Pt) ℕ) (s : State) → IfOk drawn (λ geometry. length (positions_of geometry) ≤ 1000) → AreFormed s → AreFormed (values.with_geometry drawn s)
geometry_keeps (Ok geometry) s few f = shape_keeps (shapes.Geom geometry) s few f
geometry_keeps (Err place) s few f = shape_at_keeps place None s tt f

-- ---- each mark

shapes_keep : (text : List ℕ) (mark : Mark) (s : State) → AreFormed s → AreFormed (values.does_to_shapes text mark s)
shapes_keep text marks.NamedShape s f = shape_at_keeps s.token.from (values.named_shape_of text s.token) s (shape_named _) f
shapes_keep text marks.Box s f = record { scalars = f.scalars; listed = f.listed; exprs = f.exprs; shapes = f.shapes }
shapes_keep text marks.Side s f = side_keeps (dec_of (bytes_of text s.token)) s f
shapes_keep text marks.Rectangles s f = box_when s.bbox.has_wide s f
shapes_keep text _ s f = f

scalars_keep : (text : List ℕ) (mark : Mark) (s : State) → AreFormed s → AreFormed (values.does_to_scalars text mark s)
scalars_keep text marks.True s f = scalar_keeps (scalars.Truth true) s (truth_formed true) f
scalars_keep text marks.False s f = scalar_keeps (scalars.Truth false) s (truth_formed false) f
scalars_keep text marks.Property s f = literal_keeps (values.property_of text s.token) s (named _) f
scalars_keep text marks.Text s f = literal_keeps (values.text_scalar_of text s.token) s (text_made _) f
scalars_keep text marks.Number s f = literal_keeps (values.number_scalar_of text s.token) s (number_made _) f
scalars_keep text marks.Instant s f = literal_keeps (values.instant_scalar_of text s.token) s (moment_made _) f
scalars_keep text marks.Day s f = literal_keeps (values.day_scalar_of text s.token) s (moment_made _) f
scalars_keep text marks.Fold s f = folded_keeps s.scalars s f.scalars f
scalars_keep text marks.Pattern s f = pattern_keeps (values.pattern_text_of text s.token) s f
scalars_keep text marks.FoldPattern s f = pattern_folded_keeps s.pattern s f
scalars_keep text mark s f = shapes_keep text mark s f

tests_keep : (text : List ℕ) (mark : Mark) (s : State) → AreFormed s → AreFormed (values.does_by_test text mark s)
tests_keep text marks.Equal s f = compared_keeps ops.Eq s.scalars s f.scalars f
tests_keep text marks.NotEqual s f = compared_keeps ops.Ne s.scalars s f.scalars f
tests_keep text marks.Less s f = compared_keeps ops.Lt s.scalars s f.scalars f
tests_keep text marks.Greater s f = compared_keeps ops.Gt s.scalars s f.scalars f
tests_keep text marks.AtMost s f = compared_keeps ops.Le s.scalars s f.scalars f
tests_keep text marks.AtLeast s f = compared_keeps ops.Ge s.scalars s f.scalars f
tests_keep text marks.IsNull s f = null_keeps s.scalars s f.scalars f
tests_keep text marks.Between s f = between_keeps s.scalars s f.scalars f
tests_keep text marks.List s f = list_keeps s f
tests_keep text marks.Element s f = element_keeps s.scalars s f.scalars f
tests_keep text marks.Among s f = sought_keeps s.scalars s.listed s f.scalars f.listed f
tests_keep text marks.Like s f = matched_keeps s.scalars s.pattern s f.scalars f
tests_keep text marks.Meets s f = met_keeps s.shapes s f.shapes f
tests_keep text mark s f = scalars_keep text mark s f

pub does_keeps : (text : List ℕ) (mark : Mark) (s : State) → AreFormed s → AreFormed (values.does text mark s)
does_keeps text marks.Chain s f = record { scalars = f.scalars; listed = f.listed; exprs = f.exprs; shapes = f.shapes }
does_keeps text marks.Or s f = ended_keeps exprs.Or s or_formed f
does_keeps text marks.And s f = ended_keeps exprs.And s and_formed f
does_keeps text marks.Negate s f = negated_keeps s.exprs s f.exprs f
does_keeps text marks.Constant s f = constant_keeps s.scalars s f.scalars f
does_keeps text mark s f = tests_keep text mark s f
