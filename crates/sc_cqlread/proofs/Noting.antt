-- The marks that note no literal.
use Rattle.std.proofs.Common.{◌≡◌, ℕ, List, [], ◌∷◌, true, Option, Some, None, refl, ap}
use Rattle.sc_cqlgrammar.specs.declared.mark.Mark.{Mark}
use Rattle.sc_cqlgrammar.specs.declared.mark.Mark.TheVariants as kinds
use Rattle.sc_expr.specs.declared.scalar.Scalar.{Scalar}
use Rattle.sc_expr.specs.declared.scalar.Shape.{Shape}
use Rattle.sc_expr.specs.declared.scalar.Pattern.{Pattern}
use Rattle.sc_expr.specs.declared.expr.CompOp.{CompOp}
use Rattle.sc_expr.specs.declared.expr.CompOp.TheVariants as ops
use Rattle.sc_expr.specs.declared.expr.Expr.{Expr}
use Rattle.sc_cqlvalue.specs.declared.state.State.{State}
use Rattle.sc_cqlvalue.specs.Values as values
use Rattle.sc_cqlread.specs.Reading.{Reading, does, bad_of, lesser}
use Rattle.sc_cqlread.proofs.Quiet.{is_quiet}

negated_bad : (es : List Expr) (s : State) → (values.negated_from es s).bad ≡ s.bad
negated_bad [] s = refl
negated_bad (x ∷ es) s = refl

constant_bad : (xs : List Scalar) (s : State) → (values.constant_from xs s).bad ≡ s.bad
constant_bad [] s = refl
constant_bad (x ∷ xs) s = refl

compared_bad : (op : CompOp) (xs : List Scalar) (s : State) → (values.compared_from op xs s).bad ≡ s.bad
compared_bad op [] s = refl
compared_bad op (x ∷ []) s = refl
compared_bad op (x ∷ y ∷ xs) s = refl

null_bad : (xs : List Scalar) (s : State) → (values.tested_for_null_from xs s).bad ≡ s.bad
null_bad [] s = refl
null_bad (x ∷ xs) s = refl

between_bad : (xs : List Scalar) (s : State) → (values.placed_between_from xs s).bad ≡ s.bad
between_bad [] s = refl
between_bad (x ∷ []) s = refl
between_bad (x ∷ y ∷ []) s = refl
between_bad (x ∷ y ∷ z ∷ xs) s = refl

element_bad : (xs : List Scalar) (s : State) → (values.with_element_from xs s).bad ≡ s.bad
element_bad [] s = refl
element_bad (x ∷ xs) s = refl

sought_bad : (xs ys : List Scalar) (s : State) → (values.sought_from xs ys s).bad ≡ s.bad
sought_bad [] ys s = refl
sought_bad (x ∷ xs) [] s = refl
sought_bad (x ∷ xs) (y ∷ ys) s = refl

matched_bad : (xs : List Scalar) (p : Option Pattern) (s : State) → (values.matched_from xs p s).bad ≡ s.bad
matched_bad [] p s = refl
matched_bad (x ∷ xs) None s = refl
matched_bad (x ∷ xs) (Some p) s = refl

met_bad : (xs : List Shape) (s : State) → (values.met_from xs s).bad ≡ s.bad
met_bad [] s = refl
met_bad (x ∷ []) s = refl
met_bad (x ∷ y ∷ xs) s = refl

folded_bad : (xs : List Scalar) (s : State) → (values.folded_from xs s).bad ≡ s.bad
folded_bad [] s = refl
folded_bad (x ∷ xs) s = refl

pattern_bad : (p : Option Pattern) (s : State) → (values.pattern_folded_from p s).bad ≡ s.bad
pattern_bad None s = refl
pattern_bad (Some p) s = refl

values_quiet : (chars : List ℕ) (k : Mark) (s : State) → is_quiet k ≡ true → (values.does chars k s).bad ≡ s.bad
values_quiet chars kinds.Negate s e = negated_bad s.exprs s
values_quiet chars kinds.Constant s e = constant_bad s.scalars s
values_quiet chars kinds.Equal s e = compared_bad ops.Eq s.scalars s
values_quiet chars kinds.NotEqual s e = compared_bad ops.Ne s.scalars s
values_quiet chars kinds.Less s e = compared_bad ops.Lt s.scalars s
values_quiet chars kinds.Greater s e = compared_bad ops.Gt s.scalars s
values_quiet chars kinds.AtMost s e = compared_bad ops.Le s.scalars s
values_quiet chars kinds.AtLeast s e = compared_bad ops.Ge s.scalars s
values_quiet chars kinds.IsNull s e = null_bad s.scalars s
values_quiet chars kinds.Between s e = between_bad s.scalars s
values_quiet chars kinds.Element s e = element_bad s.scalars s
values_quiet chars kinds.Among s e = sought_bad s.scalars s.listed s
values_quiet chars kinds.Like s e = matched_bad s.scalars s.pattern s
values_quiet chars kinds.Meets s e = met_bad s.shapes s
values_quiet chars kinds.Fold s e = folded_bad s.scalars s
values_quiet chars kinds.FoldPattern s e = pattern_bad s.pattern s
values_quiet chars kinds.Property s e = absurd cc
values_quiet chars kinds.Text s e = absurd cc
values_quiet chars kinds.Number s e = absurd cc
values_quiet chars kinds.Instant s e = absurd cc
values_quiet chars kinds.Day s e = absurd cc
values_quiet chars kinds.Pattern s e = absurd cc
values_quiet chars kinds.NamedShape s e = absurd cc
values_quiet chars kinds.Geometry s e = absurd cc
values_quiet chars kinds.Side s e = absurd cc
values_quiet chars kinds.Rectangles s e = absurd cc
values_quiet chars _ s e = refl

pub quiet_keeps : (chars : List ℕ) (k : Mark) (r : Reading) → is_quiet k ≡ true → bad_of (does chars k r) ≡ bad_of r
unfolding does
quiet_keeps chars kinds.Outermost r e = refl
quiet_keeps chars kinds.Geometry r e = absurd cc
quiet_keeps chars k r e = ap (λ (b : Option ℕ). lesser b r.wide) (values_quiet chars k r.values e)
