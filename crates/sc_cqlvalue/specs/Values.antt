-- What the tokens and the marks of the grammar make of what was read of a filter (OGC 21-065r2, Annex B), its geometries
-- left out. A mark for which too little stands ready changes nothing.
use Rattle.std.specs.Prelude.{ℕ, ◌-◌, min, List, [], ◌∷◌, ◌++◌, length, take, drop, reverse, Bool, true, false, nat_le, if◌then◌else◌, codes, Option, Some, None, Result, Ok, Err}
use Rattle.std.specs.Option.{option_map}
use Rattle.sc_decimal.specs.Number.{Number}
use Rattle.sc_geom.specs.declared.point.Pt.{Pt}
use Rattle.sc_geom.specs.Shapes.{Shapes}
use Rattle.sc_geom.specs.Rects.{geometry_of}
use Rattle.sc_grammar.specs.declared.token.Token.{Token}
use Rattle.sc_grammar.specs.declared.token.Class.TheVariants as classes
use Rattle.sc_cqlgrammar.specs.declared.mark.Mark.{Mark}
use Rattle.sc_cqlgrammar.specs.declared.mark.Mark.TheVariants as marks
use Rattle.sc_expr.specs.declared.scalar.Scalar.{Scalar}
use Rattle.sc_expr.specs.declared.scalar.Scalar.TheVariants as scalars
use Rattle.sc_expr.specs.declared.scalar.Shape.{Shape}
use Rattle.sc_expr.specs.declared.scalar.Shape.TheVariants as shapes
use Rattle.sc_expr.specs.declared.scalar.Pattern.{Pattern}
use Rattle.sc_expr.specs.declared.expr.CompOp.{CompOp}
use Rattle.sc_expr.specs.declared.expr.CompOp.TheVariants as ops
use Rattle.sc_expr.specs.declared.expr.Expr.{Expr}
use Rattle.sc_expr.specs.declared.expr.Expr.TheVariants as exprs
use Rattle.sc_cqlvalue.specs.declared.state.State.{State}
use Rattle.sc_cqlvalue.specs.Literals.{bytes_of, text_of, name_of, dec_of, instant_of, day_of}
use Rattle.sc_cqlvalue.specs.Boxes.{rects_of}

-- before the first token
abbrev pub start : State
start = record {
  token = record { class = classes.End; from = 0; to = 0 };
  scalars = [];
  exprs = [];
  shapes = [];
  chains = [];
  listed = [];
  pattern = None;
  bbox = record { place = 0; sides = []; has_wide = false };
  bad = None;
}

abbrev pub eats : Token → State → State
eats token s = record s { token = token }

-- ---- what can't be read

abbrev pub earlier : Option ℕ → ℕ → ℕ
earlier None place = place
earlier (Some other) place = min other place

abbrev pub noted : ℕ → State → State
noted place s = record s { bad = Some (earlier s.bad place) }

abbrev pub with_scalar : Scalar → State → State
with_scalar scalar s = record s { scalars = scalar ∷ s.scalars }

-- the literal of the last token; where that can't be read, its place is noted, and false stands for it, so that reading goes
-- on. A name that is none and a text that isn't UTF-8 count as such: no token of a text in UTF-8 is one (`Readable`)
abbrev pub with_literal : Option Scalar → State → State
with_literal (Some scalar) s = with_scalar scalar s
with_literal None s = with_scalar (scalars.Truth false) (noted s.token.from s)

abbrev pub with_shape : Shape → State → State
with_shape shape s = record s { shapes = shape ∷ s.shapes }

-- what stands for a shape that can't be read
abbrev pub stand_in : Shape
stand_in = shapes.Prop (codes "geometry")

-- a shape; where it can't be read, its place is noted
abbrev pub with_shape_at : ℕ → Option Shape → State → State
with_shape_at place (Some shape) s = with_shape shape s
with_shape_at place None s = with_shape stand_in (noted place s)

abbrev pub with_expr : Expr → State → State
with_expr expr s = record s { exprs = expr ∷ s.exprs }

-- ---- chains of expressions

abbrev pub chain_begun : State → State
chain_begun s = record s { chains = length s.exprs ∷ s.chains }

-- the last `count` expressions as one: one alone is itself, and more are joined in their order
abbrev pub joined : (List Expr → Expr) → ℕ → List Expr → List Expr
joined join count ready = if nat_le 2 count then join (reverse (take count ready)) ∷ drop count ready else ready

-- how many expressions the last chain has; 0 where none is open
abbrev pub chain_count : List ℕ → List Expr → ℕ
chain_count [] ready = 0
chain_count (before ∷ chains) ready = length ready - before

abbrev pub chain_ended : (List Expr → Expr) → State → State
chain_ended join s = record s { chains = drop 1 s.chains; exprs = joined join (chain_count s.chains s.exprs) s.exprs }

abbrev pub negated_from : List Expr → State → State
negated_from [] s = s
negated_from (expr ∷ others) s = record s { exprs = exprs.Not expr ∷ others }

abbrev pub negated : State → State
negated s = negated_from s.exprs s

-- by the grammar it is TRUE or FALSE
abbrev pub truth_of : Scalar → Bool
truth_of (scalars.Truth truth) = truth
truth_of _ = false

abbrev pub constant_from : List Scalar → State → State
constant_from [] s = s
constant_from (scalar ∷ others) s = with_expr (exprs.Const (truth_of scalar)) (record s { scalars = others })

abbrev pub constant : State → State
constant s = constant_from s.scalars s

-- ---- tests of scalars and shapes

abbrev pub compared_from : CompOp → List Scalar → State → State
compared_from op (right ∷ left ∷ others) s = with_expr (exprs.Compare op left right) (record s { scalars = others })
compared_from op _ s = s

abbrev pub compared : CompOp → State → State
compared op s = compared_from op s.scalars s

abbrev pub tested_for_null_from : List Scalar → State → State
tested_for_null_from [] s = s
tested_for_null_from (operand ∷ others) s = with_expr (exprs.IsNull operand) (record s { scalars = others })

abbrev pub tested_for_null : State → State
tested_for_null s = tested_for_null_from s.scalars s

abbrev pub placed_between_from : List Scalar → State → State
placed_between_from (high ∷ low ∷ operand ∷ others) s = with_expr (exprs.Between operand low high) (record s { scalars = others })
placed_between_from _ s = s

abbrev pub placed_between : State → State
placed_between s = placed_between_from s.scalars s

abbrev pub list_begun : State → State
list_begun s = record s { listed = [] }

abbrev pub with_element_from : List Scalar → State → State
with_element_from [] s = s
with_element_from (element ∷ others) s = record s { scalars = others; listed = s.listed ++ element ∷ [] }

abbrev pub with_element : State → State
with_element s = with_element_from s.scalars s

abbrev pub sought_from : List Scalar → List Scalar → State → State
sought_from (operand ∷ others) (first ∷ more) s = with_expr (exprs.Among operand (first ∷ more)) (record s { scalars = others; listed = [] })
sought_from _ _ s = s

-- the scalar before the list is among it
abbrev pub sought : State → State
sought s = sought_from s.scalars s.listed s

abbrev pub matched_from : List Scalar → Option Pattern → State → State
matched_from (operand ∷ others) (Some pattern) s = with_expr (exprs.Like operand pattern) (record s { scalars = others; pattern = None })
matched_from _ _ s = s

abbrev pub matched : State → State
matched s = matched_from s.scalars s.pattern s

abbrev pub met_from : List Shape → State → State
met_from (right ∷ left ∷ others) s = with_expr (exprs.Meets left right) (record s { shapes = others })
met_from _ s = s

abbrev pub met : State → State
met s = met_from s.shapes s

-- ---- scalars and patterns

abbrev pub property_of : List ℕ → Token → Option Scalar
property_of text token = option_map (λ name. scalars.Prop name) (name_of token.class (bytes_of text token))

abbrev pub text_scalar_of : List ℕ → Token → Option Scalar
text_scalar_of text token = option_map (λ t. scalars.Text t) (text_of (bytes_of text token))

abbrev pub number_scalar_of : List ℕ → Token → Option Scalar
number_scalar_of text token = option_map (λ number. scalars.Number number) (dec_of (bytes_of text token))

abbrev pub instant_scalar_of : List ℕ → Token → Option Scalar
instant_scalar_of text token = option_map (λ instant. scalars.Moment instant) (instant_of (bytes_of text token))

abbrev pub day_scalar_of : List ℕ → Token → Option Scalar
day_scalar_of text token = option_map (λ day. scalars.Moment day) (day_of (bytes_of text token))

abbrev pub folded_from : List Scalar → State → State
folded_from [] s = s
folded_from (scalar ∷ others) s = record s { scalars = scalars.Folded scalar ∷ others }

abbrev pub folded : State → State
folded s = folded_from s.scalars s

abbrev pub pattern_text_of : List ℕ → Token → Option (List ℕ)
pattern_text_of text token = text_of (bytes_of text token)

-- the text of the last token as a pattern
abbrev pub with_pattern : Option (List ℕ) → State → State
with_pattern (Some text) s = record s { pattern = Some (record { text = text; folded = false }) }
with_pattern None s = record (noted s.token.from s) { pattern = Some (record { text = []; folded = false }) }

abbrev pub pattern_folded_from : Option Pattern → State → State
pattern_folded_from None s = s
pattern_folded_from (Some pattern) s = record s { pattern = Some (record { text = pattern.text; folded = true }) }

abbrev pub pattern_folded : State → State
pattern_folded s = pattern_folded_from s.pattern s

-- ---- shapes

abbrev pub named_shape_of : List ℕ → Token → Option Shape
named_shape_of text token = option_map (λ name. shapes.Prop name) (name_of token.class (bytes_of text token))

abbrev pub box_begun : State → State
box_begun s = record s { bbox = record { place = s.token.from; sides = []; has_wide = false } }

-- the number of the last token as the next side; where it is too wide, it is noted, and the box won't be judged
abbrev pub with_side : Option Number → State → State
with_side (Some side) s = record s { bbox = record s.bbox { sides = s.bbox.sides ++ side ∷ [] } }
with_side None s = record (noted s.token.from s) { bbox = record s.bbox { has_wide = true } }

abbrev pub box_shape_of : List Number → Option Shape
box_shape_of sides = option_map (λ rects. shapes.Geom (geometry_of rects)) (rects_of sides)

-- a box that is refused is noted at its word
abbrev pub with_box : State → State
with_box s =
    if s.bbox.has_wide then with_shape stand_in s
    else with_shape_at s.bbox.place (box_shape_of s.bbox.sides) s

-- a geometry that was drawn, or the place of one that is refused
abbrev pub with_geometry : Result (Shapes Pt) ℕ → State → State
with_geometry (Ok geometry) s = with_shape (shapes.Geom geometry) s
with_geometry (Err place) s = with_shape_at place None s

-- ---- each mark, by what it makes

-- the marks of a geometry make nothing here: what was drawn is put by `with_geometry`. The link of a chain stands ready
-- already
abbrev pub does_to_shapes : List ℕ → Mark → State → State
does_to_shapes text marks.NamedShape s = with_shape_at s.token.from (named_shape_of text s.token) s
does_to_shapes text marks.Box s = box_begun s
does_to_shapes text marks.Side s = with_side (dec_of (bytes_of text s.token)) s
does_to_shapes text marks.Rectangles s = with_box s
does_to_shapes text _ s = s

abbrev pub does_to_scalars : List ℕ → Mark → State → State
does_to_scalars text marks.True s = with_scalar (scalars.Truth true) s
does_to_scalars text marks.False s = with_scalar (scalars.Truth false) s
does_to_scalars text marks.Property s = with_literal (property_of text s.token) s
does_to_scalars text marks.Text s = with_literal (text_scalar_of text s.token) s
does_to_scalars text marks.Number s = with_literal (number_scalar_of text s.token) s
does_to_scalars text marks.Instant s = with_literal (instant_scalar_of text s.token) s
does_to_scalars text marks.Day s = with_literal (day_scalar_of text s.token) s
does_to_scalars text marks.Fold s = folded s
does_to_scalars text marks.Pattern s = with_pattern (pattern_text_of text s.token) s
does_to_scalars text marks.FoldPattern s = pattern_folded s
does_to_scalars text mark s = does_to_shapes text mark s

abbrev pub does_by_test : List ℕ → Mark → State → State
does_by_test text marks.Equal s = compared ops.Eq s
does_by_test text marks.NotEqual s = compared ops.Ne s
does_by_test text marks.Less s = compared ops.Lt s
does_by_test text marks.Greater s = compared ops.Gt s
does_by_test text marks.AtMost s = compared ops.Le s
does_by_test text marks.AtLeast s = compared ops.Ge s
does_by_test text marks.IsNull s = tested_for_null s
does_by_test text marks.Between s = placed_between s
does_by_test text marks.List s = list_begun s
does_by_test text marks.Element s = with_element s
does_by_test text marks.Among s = sought s
does_by_test text marks.Like s = matched s
does_by_test text marks.Meets s = met s
does_by_test text mark s = does_to_scalars text mark s

abbrev pub does : List ℕ → Mark → State → State
does text marks.Chain s = chain_begun s
does text marks.Or s = chain_ended exprs.Or s
does text marks.And s = chain_ended exprs.And s
does text marks.Negate s = negated s
does text marks.Constant s = constant s
does text mark s = does_by_test text mark s

-- ---- at the end

-- the one expression that stands ready
abbrev pub finished : List Expr → Option Expr
finished (expr ∷ []) = Some expr
finished _ = None
