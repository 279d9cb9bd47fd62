-- A tree is one scalar, pattern, shape or expression at most.
use Rattle.std.proofs.Common.{◌≡◌, ℤ, true, false, List, [], ◌∷◌, map, Option, Some, refl, sym, ap, subst, ◌∙◌, arith, inl, inr}
use Rattle.std.specs.Prelude.{◌≤ℤ◌, ◌<ℤ◌}
use Rattle.sc_decimal.specs.Number.{Number}
use Rattle.sc_json.specs.declared.tree.Json.{Json}
use Rattle.sc_geom.specs.declared.point.Pt.{Pt}
use Rattle.sc_geom.specs.Shapes.{Shapes, map_shapes}
use Rattle.sc_geom.specs.declared.rects.Rects.{Rects}
use Rattle.sc_geom.specs.Rects.{sides_of, Spans, AreRects, geometry_of}
use Rattle.sc_geom.specs.Answers.{GeomOf}
use Rattle.sc_geom.proofs.Depicting.{one_sketch}
use Rattle.sc_expr.specs.declared.scalar.Scalar.{Scalar}
use Rattle.sc_expr.specs.declared.scalar.Scalar.TheVariants as scalars
use Rattle.sc_expr.specs.declared.scalar.Pattern.{Pattern}
use Rattle.sc_expr.specs.declared.scalar.Shape.{Shape}
use Rattle.sc_expr.specs.declared.scalar.Shape.TheVariants as shapes
use Rattle.sc_expr.specs.declared.expr.Expr.{Expr}
use Rattle.sc_expr.specs.declared.expr.Expr.TheVariants as exprs
use Rattle.sc_cqljson.specs.declared.operator.Operator.{Operator}
use Rattle.sc_cqljson.specs.declared.operator.Operator.TheVariants.{CaseI}
use Rattle.sc_json.specs.Views.{list_of}
use Rattle.sc_cqljson.specs.Heads.{Head, call, property, timestamp, date, bbox, geometry, nothing, head_of}
use Rattle.sc_cqljson.specs.Drawn.{BoxOf, DrawsBy, Draws}
use Rattle.sc_cqljson.specs.Spells.{Calls, SpellsScalar, prop, text, number, truth, timed, dated, folded, SpellScalars, no_scalars, one_scalar, SpellsList, SpellsPattern, plain, unfolded, SpellsShape, of_property, drawn, Spells, const, applied, Applied, conjunction, disjunction, negation, comparison, null, between, among, like, intersection, SpellAll, none_left, one_more}
use Rattle.sc_cqljson.proofs.Tags as tags
use Rattle.std.proofs.lemmas.Int.{ints}
use Rattle.sc_cqljson.proofs.Tags.{Tag, headed, tag_of, tag_headed, tag_text, tag_number, tag_truth, call_of, tag_called, same_truth}

-- ---- calls

pub same_calls : (tree : Json) (o o' : Operator) (args args' : List Json) → Calls tree o args → Calls tree o' args' → (o ≡ o') × (args ≡ args')
same_calls tree o o' args args' c d =
    let by : Some o ≡ Some o' = sym c.by ∙ d.by in
    let on : Some args ≡ Some args' = sym c.on ∙ d.on in
    (cc, cc)

-- ---- scalars

abbrev scalar_tag : (tree : Json) (a : Scalar) → SpellsScalar tree a → (tag : Tag) × (tag_of tree ≡ tag)
scalar_tag tree _ (prop _ value name h n) = (headed (property value), tag_headed tree (property value) h tt)
scalar_tag tree _ (text _ t e) = (tags.text, tag_text tree t e)
scalar_tag tree _ (number _ n e) = (tags.number, tag_number tree n e)
scalar_tag tree _ (truth _ b e) = (tags.truth, tag_truth tree b e)
scalar_tag tree _ (timed _ value at h e) = (headed (timestamp value), tag_headed tree (timestamp value) h tt)
scalar_tag tree _ (dated _ value at h e) = (headed (date value), tag_headed tree (date value) h tt)
scalar_tag tree _ (folded _ arg s c d) = let k = tag_called tree CaseI c.by in (headed (call k.0), k.1)

mutual
  pub one_scalar_of : (tree tree' : Json) (a b : Scalar) → tree ≡ tree' → SpellsScalar tree a → SpellsScalar tree' b → a ≡ b
  one_scalar_of tree tree' _ _ t (prop _ value name h n) (prop _ value' name' h' n') =
      let v : property value ≡ property value' = sym h ∙ ap head_of t ∙ h' in
      let w : value ≡ value' = cc in
      let m : name ≡ name' = cc in
      ap scalars.Prop m
  one_scalar_of tree tree' _ _ t (text _ u e) (text _ u' e') = let m : u ≡ u' = cc in ap scalars.Text m
  one_scalar_of tree tree' _ _ t (number _ n e) (number _ n' e') = let m : n ≡ n' = cc in ap scalars.Number m
  one_scalar_of tree tree' _ _ t (truth _ b e) (truth _ b' e') = ap scalars.Truth (same_truth b b' (sym e ∙ t ∙ e'))
  one_scalar_of tree tree' _ _ t (timed _ value at h e) (timed _ value' at' h' e') =
      let v : timestamp value ≡ timestamp value' = sym h ∙ ap head_of t ∙ h' in
      let w : value ≡ value' = cc in
      let m : at ≡ at' = cc in
      ap scalars.Moment m
  one_scalar_of tree tree' _ _ t (dated _ value at h e) (dated _ value' at' h' e') =
      let v : date value ≡ date value' = sym h ∙ ap head_of t ∙ h' in
      let w : value ≡ value' = cc in
      let m : at ≡ at' = cc in
      ap scalars.Moment m
  one_scalar_of tree tree' _ _ t (folded _ arg s c d) (folded _ arg' s' c' d') =
      let same = same_calls tree CaseI CaseI (arg ∷ []) (arg' ∷ []) c (subst (λ (x : Json). Calls x CaseI (arg' ∷ [])) (sym t) c') in
      let m : arg ≡ arg' = cc in
      ap scalars.Folded (one_scalar_of arg arg' s s' m d d')
  one_scalar_of tree tree' a b t x y =
      let e = (scalar_tag tree a x).1 in
      let f = (scalar_tag tree' b y).1 in
      let g : (scalar_tag tree a x).0 ≡ (scalar_tag tree' b y).0 = sym e ∙ ap tag_of t ∙ f in
      absurd cc

pub same_scalars : (trees trees' : List Json) (a b : List Scalar) → trees ≡ trees' → SpellScalars trees a → SpellScalars trees' b → a ≡ b
same_scalars _ _ _ _ t no_scalars no_scalars = refl
same_scalars _ _ _ _ t no_scalars (one_scalar _ _ _ _ _ _) = absurd cc
same_scalars _ _ _ _ t (one_scalar _ _ _ _ _ _) no_scalars = absurd cc
same_scalars _ _ _ _ t (one_scalar tree trees s ss d all) (one_scalar tree' trees' s' ss' d' all') =
    let first : tree ≡ tree' = cc in
    let rest : trees ≡ trees' = cc in
    let one : s ≡ s' = one_scalar_of tree tree' s s' first d d' in
    let others : ss ≡ ss' = same_scalars trees trees' ss ss' rest all all' in
    cc

pub one_list : (tree tree' : Json) (a b : List Scalar) → tree ≡ tree' → SpellsList tree a → SpellsList tree' b → a ≡ b
one_list tree tree' a b t x y =
    let e : Some x.elements ≡ Some y.elements = sym x.are ∙ ap list_of t ∙ y.are in
    same_scalars x.elements y.elements a b (cc) x.spelled y.spelled

-- ---- patterns

pub one_pattern : (tree tree' : Json) (a b : Pattern) → tree ≡ tree' → SpellsPattern tree a → SpellsPattern tree' b → a ≡ b
one_pattern tree tree' _ _ t (plain _ u e) (plain _ u' e') = let m : u ≡ u' = cc in λ k. record { text = m k; folded = false }
one_pattern tree tree' _ _ t (plain _ u e) (unfolded _ arg u' b' c' d') =
    let k = tag_called tree' CaseI c'.by in
    let g : tags.text ≡ headed (call k.0) = sym (tag_text tree u e) ∙ ap tag_of t ∙ k.1 in
    absurd cc
one_pattern tree tree' _ _ t (unfolded _ arg u b c d) (plain _ u' e') =
    let k = tag_called tree CaseI c.by in
    let g : headed (call k.0) ≡ tags.text = sym k.1 ∙ ap tag_of t ∙ tag_text tree' u' e' in
    absurd cc
one_pattern tree tree' _ _ t (unfolded _ arg u b c d) (unfolded _ arg' u' b' c' d') =
    let same = same_calls tree CaseI CaseI (arg ∷ []) (arg' ∷ []) c (subst (λ (x : Json). Calls x CaseI (arg' ∷ [])) (sym t) c') in
    let m : arg ≡ arg' = cc in
    let one = one_pattern arg arg' (record { text = u; folded = b }) (record { text = u'; folded = b' }) m d d' in
    λ k. record { text = (one k).text; folded = true }

-- ---- shapes

kept_line : (ps qs : List Pt) → map Some ps ≡ map Some qs → ps ≡ qs
kept_line [] [] e = refl
kept_line [] (q ∷ qs) e = absurd cc
kept_line (p ∷ ps) [] e = absurd cc
kept_line (p ∷ ps) (q ∷ qs) e =
    let tails : map Some ps ≡ map Some qs = cc in
    let rest : ps ≡ qs = kept_line ps qs tails in
    let first : p ≡ q = cc in
    cc

kept_lines : (ps qs : List (List Pt)) → map (map Some) ps ≡ map (map Some) qs → ps ≡ qs
kept_lines [] [] e = refl
kept_lines [] (q ∷ qs) e = absurd cc
kept_lines (p ∷ ps) [] e = absurd cc
kept_lines (p ∷ ps) (q ∷ qs) e =
    let heads : map Some p ≡ map Some q = cc in
    let tails : map (map Some) ps ≡ map (map Some) qs = cc in
    let first : p ≡ q = kept_line p q heads in
    let rest : ps ≡ qs = kept_lines ps qs tails in
    cc

kept_areas : (ps qs : List (List (List Pt))) → map (map (map Some)) ps ≡ map (map (map Some)) qs → ps ≡ qs
kept_areas [] [] e = refl
kept_areas [] (q ∷ qs) e = absurd cc
kept_areas (p ∷ ps) [] e = absurd cc
kept_areas (p ∷ ps) (q ∷ qs) e =
    let heads : map (map Some) p ≡ map (map Some) q = cc in
    let tails : map (map (map Some)) ps ≡ map (map (map Some)) qs = cc in
    let first : p ≡ q = kept_lines p q heads in
    let rest : ps ≡ qs = kept_areas ps qs tails in
    cc

pub one_geometry : (tree : Json) (g h : Shapes Pt) → GeomOf tree g → GeomOf tree h → g ≡ h
one_geometry tree g h a b =
    let same = one_sketch tree (map_shapes Some g) (map_shapes Some h) a.depicted b.depicted in
    let points = kept_line g.points h.points (ap (λ (s : Shapes (Option Pt)). s.points) same) in
    let lines = kept_lines g.lines h.lines (ap (λ (s : Shapes (Option Pt)). s.lines) same) in
    let areas = kept_areas g.areas h.areas (ap (λ (s : Shapes (Option Pt)). s.areas) same) in
    λ k. record { points = points k; lines = lines k; areas = areas k }

apart : (a b : ℤ) → a ≤ℤ b → b <ℤ a → ⊥
apart a b le lt = omega (arith, ints)

one_span : (s : _) (p q : Rects) → Spans s p → Spans s q → p ≡ q
one_span s p q (inl a) (inl b) = a.same ∙ sym b.same
one_span s p q (inl a) (inr b) = absurd (apart s.west s.east a.across b.crosses)
one_span s p q (inr a) (inl b) = absurd (apart s.west s.east b.across a.crosses)
one_span s p q (inr a) (inr b) = a.same ∙ sym b.same

one_rects : (numbers numbers' : List Number) (p q : Rects) → numbers ≡ numbers' → AreRects numbers p → AreRects numbers' q → p ≡ q
one_rects numbers numbers' p q e a b =
    let s : Some a.0 ≡ Some b.0 = sym a.1 ∙ ap sides_of e ∙ b.1 in
    let same : a.0 ≡ b.0 = cc in
    one_span b.0 p q (subst (λ x. Spans x p) same a.2) b.2

one_box : (value : Json) (g h : Shapes Pt) → BoxOf value g → BoxOf value h → g ≡ h
one_box value g h a b =
    let n : Some a.numbers ≡ Some b.numbers = sym a.are ∙ b.are in
    let same : a.numbers ≡ b.numbers = cc in
    a.same ∙ ap geometry_of (one_rects a.numbers b.numbers a.rects b.rects same a.span b.span) ∙ sym b.same

drawn_by : (h : Head) (tree : Json) (a b : Shapes Pt) → DrawsBy h tree a → DrawsBy h tree b → a ≡ b
drawn_by (call v) tree a b x y = absurd x
drawn_by (property v) tree a b x y = absurd x
drawn_by (timestamp v) tree a b x y = absurd x
drawn_by (date v) tree a b x y = absurd x
drawn_by (bbox v) tree a b x y = one_box v a b x y
drawn_by geometry tree a b x y = one_geometry tree a b x.is y.is
drawn_by nothing tree a b x y = absurd x

pub one_drawn : (tree : Json) (a b : Shapes Pt) → Draws tree a → Draws tree b → a ≡ b
one_drawn tree a b x y = drawn_by (head_of tree) tree a b x y

pub no_property : (h : Head) (tree value : Json) (g : Shapes Pt) → h ≡ property value → DrawsBy h tree g → ⊥
no_property h tree value g e d = subst (λ (k : Head). DrawsBy k tree g) e d

pub one_shape : (tree tree' : Json) (a b : Shape) → tree ≡ tree' → SpellsShape tree a → SpellsShape tree' b → a ≡ b
one_shape tree tree' _ _ t (of_property _ value name h n) (of_property _ value' name' h' n') =
    let v : property value ≡ property value' = sym h ∙ ap head_of t ∙ h' in
    let w : value ≡ value' = cc in
    let m : name ≡ name' = cc in
    ap shapes.Prop m
one_shape tree tree' _ _ t (of_property _ value name h n) (drawn _ g d) = absurd (no_property (head_of tree') tree' value g (sym (ap head_of t) ∙ h) d)
one_shape tree tree' _ _ t (drawn _ g d) (of_property _ value name h n) = absurd (no_property (head_of tree) tree value g (ap head_of t ∙ h) d)
one_shape tree tree' _ _ t (drawn _ g d) (drawn _ g' d') = ap shapes.Geom (one_drawn tree g g' d (subst (λ (x : Json). Draws x g') (sym t) d'))

-- ---- expressions

mutual
  pub one_expr : (tree tree' : Json) (a b : Expr) → tree ≡ tree' → Spells tree a → Spells tree' b → a ≡ b
  one_expr tree tree' _ _ t (const _ b e) (const _ b' e') = ap exprs.Const (same_truth b b' (sym e ∙ t ∙ e'))
  one_expr tree tree' _ b t (const _ c e) (applied _ o args _ k d) =
      let p = tag_called tree' o k.by in
      let g : tags.truth ≡ headed (call p.0) = sym (tag_truth tree c e) ∙ ap tag_of t ∙ p.1 in
      absurd cc
  one_expr tree tree' a _ t (applied _ o args _ k d) (const _ c e) =
      let p = tag_called tree o k.by in
      let g : headed (call p.0) ≡ tags.truth = sym p.1 ∙ ap tag_of t ∙ tag_truth tree' c e in
      absurd cc
  one_expr tree tree' a b t (applied _ o args _ k d) (applied _ o' args' _ k' d') =
      let same = same_calls tree o o' args args' k (subst (λ (x : Json). Calls x o' args') (sym t) k') in
      one_applied o o' args args' a b same.0 same.1 d d'

  one_applied : (o o' : Operator) (args args' : List Json) (a b : Expr) → o ≡ o' → args ≡ args' → Applied o args a → Applied o' args' b → a ≡ b
  one_applied _ _ args args' _ _ e t (conjunction _ members n all) (conjunction _ members' n' all') = ap exprs.And (same_members args args' members members' t all all')
  one_applied _ _ args args' _ _ e t (disjunction _ members n all) (disjunction _ members' n' all') = ap exprs.Or (same_members args args' members members' t all all')
  one_applied _ _ _ _ _ _ e t (negation x member d) (negation x' member' d') = let s : x ≡ x' = cc in ap exprs.Not (one_expr x x' member member' s d d')
  one_applied _ _ _ _ _ _ e t (comparison op x y left right d f) (comparison op' x' y' left' right' d' f') =
      let o : op ≡ op' = cc in
      let s : x ≡ x' = cc in
      let r : y ≡ y' = cc in
      let l : left ≡ left' = one_scalar_of x x' left left' s d d' in
      let h : right ≡ right' = one_scalar_of y y' right right' r f f' in
      λ k. exprs.Compare (o k) (l k) (h k)
  one_applied _ _ _ _ _ _ e t (null x operand d) (null x' operand' d') = let s : x ≡ x' = cc in ap exprs.IsNull (one_scalar_of x x' operand operand' s d d')
  one_applied _ _ _ _ _ _ e t (between x y z a b c d f g) (between x' y' z' a' b' c' d' f' g') =
      let s : x ≡ x' = cc in
      let r : y ≡ y' = cc in
      let q : z ≡ z' = cc in
      let l : a ≡ a' = one_scalar_of x x' a a' s d d' in
      let h : b ≡ b' = one_scalar_of y y' b b' r f f' in
      let m : c ≡ c' = one_scalar_of z z' c c' q g g' in
      λ k. exprs.Between (l k) (h k) (m k)
  one_applied _ _ _ _ _ _ e t (among x y operand xs d all) (among x' y' operand' xs' d' all') =
      let s : x ≡ x' = cc in
      let r : y ≡ y' = cc in
      let l : operand ≡ operand' = one_scalar_of x x' operand operand' s d d' in
      let h : xs ≡ xs' = one_list y y' xs xs' r all all' in
      λ k. exprs.Among (l k) (h k)
  one_applied _ _ _ _ _ _ e t (like x y operand p d f) (like x' y' operand' p' d' f') =
      let s : x ≡ x' = cc in
      let r : y ≡ y' = cc in
      let l : operand ≡ operand' = one_scalar_of x x' operand operand' s d d' in
      let h : p ≡ p' = one_pattern y y' p p' r f f' in
      λ k. exprs.Like (l k) (h k)
  one_applied _ _ _ _ _ _ e t (intersection x y left right d f) (intersection x' y' left' right' d' f') =
      let s : x ≡ x' = cc in
      let r : y ≡ y' = cc in
      let l : left ≡ left' = one_shape x x' left left' s d d' in
      let h : right ≡ right' = one_shape y y' right right' r f f' in
      λ k. exprs.Meets (l k) (h k)
  one_applied _ _ _ _ _ _ e t x y = absurd cc

  same_members : (trees trees' : List Json) (a b : List Expr) → trees ≡ trees' → SpellAll trees a → SpellAll trees' b → a ≡ b
  same_members _ _ _ _ t none_left none_left = refl
  same_members _ _ _ _ t none_left (one_more _ _ _ _ _ _) = absurd cc
  same_members _ _ _ _ t (one_more _ _ _ _ _ _) none_left = absurd cc
  same_members _ _ _ _ t (one_more tree trees s ss d all) (one_more tree' trees' s' ss' d' all') =
      let first : tree ≡ tree' = cc in
      let rest : trees ≡ trees' = cc in
      let one : s ≡ s' = one_expr tree tree' s s' first d d' in
      let others : ss ≡ ss' = same_members trees trees' ss ss' rest all all' in
      cc
