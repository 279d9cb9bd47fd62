-- A tree that fits in its place has no fault there, and one that doesn't has one.
use Rattle.std.proofs.Common.{◌≡◌, ℕ, ◌+◌, ◌≤◌, ◌⊎◌, Bool, true, List, [], ◌∷◌, length, map, Some, refl, sym, ap, subst, ◌∙◌, arith, inl, inr, nat_le}
use Rattle.std.proofs.lemmas.Bool.Decides.{nat_tests}
use Rattle.sc_decimal.specs.Number.{Number}
use Rattle.sc_json.specs.declared.tree.Json.{Json}
use Rattle.sc_json.specs.declared.tree.Json.TheVariants as trees
use Rattle.sc_json.specs.declared.tree.Json.TheOpen as layer
use Rattle.sc_json.specs.declared.tree.Json.TheOpen.{Json-F}
use Rattle.sc_json.specs.declared.tree.Json.TheViews.{out-Json}
use Rattle.sc_json.specs.declared.tree.Member.{Member}
use Rattle.sc_geom.specs.declared.point.Pt.{Pt}
use Rattle.sc_geom.specs.Shapes.{Shapes}
use Rattle.sc_expr.specs.declared.scalar.Scalar.{Scalar}
use Rattle.sc_expr.specs.declared.scalar.Pattern.{Pattern}
use Rattle.sc_expr.specs.declared.scalar.Shape.{Shape}
use Rattle.sc_expr.specs.declared.expr.Expr.{Expr}
use Rattle.sc_cqljson.specs.declared.operator.Operator.{Operator}
use Rattle.sc_cqljson.specs.declared.operator.Operator.TheVariants.{CaseI}
use Rattle.sc_json.specs.Views.{text_in, number_in, list_in, text_of, number_of, list_of, values}
use Rattle.sc_cqljson.specs.Words.{args_name}
use Rattle.sc_cqljson.specs.Operators.{Role, expression, scalar, pattern, shape, listed, arguments, fits, takes, roles_of}
use Rattle.sc_cqljson.specs.Heads.{Head, call, property, timestamp, date, bbox, geometry, nothing, head_of, known, called_by, operator_of}
use Rattle.sc_cqljson.specs.Drawn.{DrawsBy, Draws}
use Rattle.sc_cqljson.specs.Spells.{Calls, SpellsScalar, prop, text, number, truth, timed, dated, folded, SpellScalars, no_scalars, one_scalar, SpellsList, SpellsPattern, plain, unfolded, SpellsShape, of_property, drawn, Spells, const, applied, Applied, conjunction, disjunction, negation, comparison, null, between, among, like, intersection, SpellAll, none_left, one_more}
use Rattle.sc_cqljson.specs.Forms.{whole, unfit, within, drawing, Unfitness, property_form, moment_form, elements_form, form_in, form_of}
use Rattle.sc_cqljson.specs.Heads as heads
use Rattle.sc_cqljson.specs.Unfit.{Fits, Unfit, itself, undrawn, inner, UnfitAmong, here, later}
use Rattle.sc_cqljson.proofs.Tags.{call_of, out_truth}
use Rattle.sc_cqljson.proofs.Forming.{IsObjectPlace, formed_by, formed_within}

-- ---- by the form

whole_fits : (role : Role) (tree : Json) (at : ℕ) (how : Unfitness) → form_of role tree ≡ whole → Unfit role tree at how → ⊥
whole_fits role tree _ _ e (itself _ _ at how f) = cc
whole_fits role tree _ _ e (undrawn _ _ f none) = cc
whole_fits role tree _ _ e (inner _ _ roles args place at how f u) = cc

drawing_fits : (role : Role) (tree : Json) (at : ℕ) (how : Unfitness) (g : Shapes Pt) → form_of role tree ≡ drawing → Draws tree g → Unfit role tree at how → ⊥
drawing_fits role tree _ _ g e d (itself _ _ at how f) = cc
drawing_fits role tree _ _ g e d (undrawn _ _ f none) = none g d
drawing_fits role tree _ _ g e d (inner _ _ roles args place at how f u) = cc

among_same : (roles roles' : List Role) (args args' : List Json) (at : ℕ) (how : Unfitness) → roles ≡ roles' → args ≡ args' → UnfitAmong roles args at how → UnfitAmong roles' args' at how
among_same roles roles' args args' at how e f u = subst (λ (rs : List Role). UnfitAmong rs args' at how) e (subst (λ (ts : List Json). UnfitAmong roles ts at how) f u)

within_fits : (role : Role) (tree : Json) (roles : List Role) (args : List Json) (place at : ℕ) (how : Unfitness) → form_of role tree ≡ within roles args place → Unfit role tree at how →
    (n : ℕ) × UnfitAmong roles args n how
within_fits role tree roles args place _ _ e (itself _ _ at how f) = absurd cc
within_fits role tree roles args place _ _ e (undrawn _ _ f none) = absurd cc
within_fits role tree roles args place _ _ e (inner _ _ roles' args' place' at how f u) =
    let r : roles' ≡ roles = cc in
    let a : args' ≡ args = cc in
    (at, among_same roles' roles args' args at how r a u)

none_among : (roles : List Role) (trees : List Json) (at : ℕ) (how : Unfitness) → roles ≡ [] → UnfitAmong roles trees at how → ⊥
none_among _ _ _ _ e (here role roles tree trees at how u) = cc
none_among _ _ _ _ e (later role roles tree trees at how fit u) = cc

among_cases : (roles rs : List Role) (trees ts : List Json) (r : Role) (t : Json) (at : ℕ) (how : Unfitness) → roles ≡ r ∷ rs → trees ≡ t ∷ ts → UnfitAmong roles trees at how →
    ((n : ℕ) × Unfit r t n how) ⊎ ((n : ℕ) × UnfitAmong rs ts n how)
among_cases _ rs _ ts r t _ how e f (here role roles tree trees at _ u) =
    let a : role ≡ r = cc in
    let b : tree ≡ t = cc in
    inl (at, subst (λ (x : Json). Unfit r x at how) b (subst (λ (q : Role). Unfit q tree at how) a u))
among_cases _ rs _ ts r t _ how e f (later role roles tree trees at _ fit u) =
    let a : roles ≡ rs = cc in
    let b : trees ≡ ts = cc in
    inr (at, among_same roles rs trees ts at how a b u)

-- one, two and three values of which none is unfit

one_fits : (r : Role) (a : Json) (at : ℕ) (how : Unfitness) → ((n : ℕ) (w : Unfitness) → Unfit r a n w → ⊥) → UnfitAmong (r ∷ []) (a ∷ []) at how → ⊥
one_fits r a at how none u = elim (among_cases (r ∷ []) [] (a ∷ []) [] r a at how refl refl u) [ inl v ↦ none v.0 how v.1 | inr v ↦ none_among [] [] v.0 how refl v.1 ]

two_fit : (r q : Role) (a b : Json) (at : ℕ) (how : Unfitness) → ((n : ℕ) (w : Unfitness) → Unfit r a n w → ⊥) → ((n : ℕ) (w : Unfitness) → Unfit q b n w → ⊥) →
    UnfitAmong (r ∷ q ∷ []) (a ∷ b ∷ []) at how → ⊥
two_fit r q a b at how none none' u =
    elim (among_cases (r ∷ q ∷ []) (q ∷ []) (a ∷ b ∷ []) (b ∷ []) r a at how refl refl u) [ inl v ↦ none v.0 how v.1 | inr v ↦ one_fits q b v.0 how none' v.1 ]

three_fit : (r q p : Role) (a b d : Json) (at : ℕ) (how : Unfitness) → ((n : ℕ) (w : Unfitness) → Unfit r a n w → ⊥) → ((n : ℕ) (w : Unfitness) → Unfit q b n w → ⊥) →
    ((n : ℕ) (w : Unfitness) → Unfit p d n w → ⊥) → UnfitAmong (r ∷ q ∷ p ∷ []) (a ∷ b ∷ d ∷ []) at how → ⊥
three_fit r q p a b d at how none none' none'' u =
    elim (among_cases (r ∷ q ∷ p ∷ []) (q ∷ p ∷ []) (a ∷ b ∷ d ∷ []) (b ∷ d ∷ []) r a at how refl refl u) [ inl v ↦ none v.0 how v.1 | inr v ↦ two_fit q p b d v.0 how none' none'' v.1 ]

-- ---- forms of what is spelled

text_whole : (level : Json-F Json Member) (tree : Json) (t : List ℕ) → text_in level ≡ Some t → (form_in scalar tree level ≡ whole) × (form_in pattern tree level ≡ whole)
text_whole layer.Null tree t e = absurd cc
text_whole (layer.Truth b) tree t e = absurd cc
text_whole (layer.Number n) tree t e = absurd cc
text_whole (layer.Text u) tree t e = (refl, refl)
text_whole (layer.List xs) tree t e = absurd cc
text_whole (layer.Object ms) tree t e = absurd cc

text_form : (tree : Json) (t : List ℕ) → text_of tree ≡ Some t → (form_of scalar tree ≡ whole) × (form_of pattern tree ≡ whole)
unfolding text_of form_of
text_form tree t e = text_whole (out-Json tree) tree t e

number_whole : (level : Json-F Json Member) (tree : Json) (n : Number) → number_in level ≡ Some n → form_in scalar tree level ≡ whole
number_whole layer.Null tree n e = absurd cc
number_whole (layer.Truth b) tree n e = absurd cc
number_whole (layer.Number m) tree n e = refl
number_whole (layer.Text u) tree n e = absurd cc
number_whole (layer.List xs) tree n e = absurd cc
number_whole (layer.Object ms) tree n e = absurd cc

number_form : (tree : Json) (n : Number) → number_of tree ≡ Some n → form_of scalar tree ≡ whole
unfolding number_of form_of
number_form tree n e = number_whole (out-Json tree) tree n e

truth_form : (tree : Json) (b : Bool) → tree ≡ trees.Truth b → (form_of scalar tree ≡ whole) × (form_of expression tree ≡ whole)
unfolding form_of
truth_form tree b e =
    let l : out-Json tree ≡ layer.Truth b = ap out-Json e ∙ out_truth b in
    (ap (form_in scalar tree) l, ap (form_in expression tree) l)

list_whole : (level : Json-F Json Member) (tree : Json) (xs : List Json) → list_in level ≡ Some xs → form_in listed tree level ≡ elements_form xs
list_whole layer.Null tree xs e = absurd cc
list_whole (layer.Truth b) tree xs e = absurd cc
list_whole (layer.Number n) tree xs e = absurd cc
list_whole (layer.Text u) tree xs e = absurd cc
list_whole (layer.List ys) tree xs e = let s : ys ≡ xs = cc in ap elements_form s
list_whole (layer.Object ms) tree xs e = absurd cc

filled_form : (xs : List Json) → 1 ≤ length xs → elements_form xs ≡ within (map (λ _. scalar) xs) xs 0
filled_form [] n = absurd (omega arith)
filled_form (x ∷ xs) n = refl

pub list_form : (tree : Json) (xs : List Json) → list_of tree ≡ Some xs → 1 ≤ length xs → form_of listed tree ≡ within (map (λ _. scalar) xs) xs 0
unfolding list_of form_of
list_form tree xs e n = list_whole (out-Json tree) tree xs e ∙ filled_form xs n

called_form : (role : Role) (o : Operator) (tree : Json) (args : List Json) → Calls tree o args → takes o (length args) ≡ true → fits role o ≡ true → IsObjectPlace role →
    form_of role tree ≡ within (roles_of (arguments role o) args) args (heads.number_of tree args_name)
called_form role o tree args c n f place = let k = call_of tree o c.by in formed_within role o tree k.0 args k.1 (sym (ap called_by k.1) ∙ c.by) c.on n f place

property_whole : (role : Role) (tree value : Json) (name : List ℕ) → heads.name_in value ≡ Some name → property_form tree (heads.name_in value) ≡ whole
property_whole role tree value name e = ap (property_form tree) e

drawn_form : (h : Head) (tree : Json) (g : Shapes Pt) → head_of tree ≡ h → DrawsBy h tree g → form_of shape tree ≡ drawing
drawn_form (call v) tree g e d = absurd d
drawn_form (property v) tree g e d = absurd d
drawn_form (timestamp v) tree g e d = absurd d
drawn_form (date v) tree g e d = absurd d
drawn_form (bbox v) tree g e d = formed_by shape tree (bbox v) e tt tt
drawn_form geometry tree g e d = formed_by shape tree geometry e tt tt
drawn_form nothing tree g e d = absurd d

-- ---- what is spelled has no fault

pub scalar_fits : (tree : Json) (a : Scalar) → SpellsScalar tree a → (at : ℕ) (how : Unfitness) → Unfit scalar tree at how → ⊥
scalar_fits tree _ (prop _ value name h n) at how u = whole_fits scalar tree at how (formed_by scalar tree (property value) h tt tt ∙ property_whole scalar tree value name n) u
scalar_fits tree _ (text _ t e) at how u = whole_fits scalar tree at how (text_form tree t e).0 u
scalar_fits tree _ (number _ n e) at how u = whole_fits scalar tree at how (number_form tree n e) u
scalar_fits tree _ (truth _ b e) at how u = whole_fits scalar tree at how (truth_form tree b e).0 u
scalar_fits tree _ (timed _ value m h e) at how u = whole_fits scalar tree at how (formed_by scalar tree (timestamp value) h tt tt ∙ ap moment_form e) u
scalar_fits tree _ (dated _ value m h e) at how u = whole_fits scalar tree at how (formed_by scalar tree (date value) h tt tt ∙ ap moment_form e) u
scalar_fits tree _ (folded _ arg s c d) at how u =
    let v = within_fits scalar tree (scalar ∷ []) (arg ∷ []) (heads.number_of tree args_name) at how (called_form scalar CaseI tree (arg ∷ []) c refl refl tt) u in
    one_fits scalar arg v.0 how (scalar_fits arg s d) v.1

pub scalars_fit : (trees : List Json) (ss : List Scalar) → SpellScalars trees ss → (at : ℕ) (how : Unfitness) → UnfitAmong (map (λ _. scalar) trees) trees at how → ⊥
scalars_fit _ _ no_scalars at how u = none_among [] [] at how refl u
scalars_fit _ _ (one_scalar tree trees s ss d all) at how u =
    elim (among_cases (map (λ _. scalar) (tree ∷ trees)) (map (λ _. scalar) trees) (tree ∷ trees) trees scalar tree at how refl refl u) [
      | inl v ↦ scalar_fits tree s d v.0 how v.1
      | inr v ↦ scalars_fit trees ss all v.0 how v.1
    ]

pub list_fits : (tree : Json) (ss : List Scalar) → SpellsList tree ss → (at : ℕ) (how : Unfitness) → Unfit listed tree at how → ⊥
list_fits tree ss l at how u =
    let v = within_fits listed tree (map (λ _. scalar) l.elements) l.elements 0 at how (list_form tree l.elements l.are l.some) u in
    scalars_fit l.elements ss l.spelled v.0 how v.1

pub pattern_fits : (tree : Json) (p : Pattern) → SpellsPattern tree p → (at : ℕ) (how : Unfitness) → Unfit pattern tree at how → ⊥
pattern_fits tree _ (plain _ t e) at how u = whole_fits pattern tree at how (text_form tree t e).1 u
pattern_fits tree _ (unfolded _ arg t b c d) at how u =
    let v = within_fits pattern tree (pattern ∷ []) (arg ∷ []) (heads.number_of tree args_name) at how (called_form pattern CaseI tree (arg ∷ []) c refl refl tt) u in
    one_fits pattern arg v.0 how (pattern_fits arg (record { text = t; folded = b }) d) v.1

pub shape_fits : (tree : Json) (s : Shape) → SpellsShape tree s → (at : ℕ) (how : Unfitness) → Unfit shape tree at how → ⊥
shape_fits tree _ (of_property _ value name h n) at how u = whole_fits shape tree at how (formed_by shape tree (property value) h tt tt ∙ property_whole shape tree value name n) u
shape_fits tree _ (drawn _ g d) at how u = drawing_fits shape tree at how g (drawn_form (head_of tree) tree g refl d) d u

two_taken : (n : ℕ) → 2 ≤ n → nat_le 2 n ≡ true
two_taken n le = grind (arith, nat_tests)

taken : (o : Operator) (args : List Json) (e : Expr) → Applied o args e → (takes o (length args) ≡ true) × (fits expression o ≡ true)
taken _ _ _ (conjunction args members n all) = (two_taken (length args) n, refl)
taken _ _ _ (disjunction args members n all) = (two_taken (length args) n, refl)
taken _ _ _ (negation a member d) = (refl, refl)
taken _ _ _ (comparison op a b left right d f) = (refl, refl)
taken _ _ _ (null a operand d) = (refl, refl)
taken _ _ _ (between a b c x y z d f g) = (refl, refl)
taken _ _ _ (among a b operand xs d all) = (refl, refl)
taken _ _ _ (like a b operand p d f) = (refl, refl)
taken _ _ _ (intersection a b left right d f) = (refl, refl)

mutual
  pub expr_fits : (tree : Json) (e : Expr) → Spells tree e → (at : ℕ) (how : Unfitness) → Unfit expression tree at how → ⊥
  expr_fits tree _ (const _ b e) at how u = whole_fits expression tree at how (truth_form tree b e).1 u
  expr_fits tree e (applied _ o args _ c d) at how u =
      let k = taken o args e d in
      let v = within_fits expression tree (roles_of (arguments expression o) args) args (heads.number_of tree args_name) at how (called_form expression o tree args c k.0 k.1 tt) u in
      applied_fits o args e d v.0 how v.1

  applied_fits : (o : Operator) (args : List Json) (e : Expr) → Applied o args e → (at : ℕ) (how : Unfitness) → UnfitAmong (roles_of (arguments expression o) args) args at how → ⊥
  applied_fits _ _ _ (conjunction args members n all) at how u = members_fit args members all at how u
  applied_fits _ _ _ (disjunction args members n all) at how u = members_fit args members all at how u
  applied_fits _ _ _ (negation a member d) at how u = one_fits expression a at how (expr_fits a member d) u
  applied_fits _ _ _ (comparison op a b left right d f) at how u = two_fit scalar scalar a b at how (scalar_fits a left d) (scalar_fits b right f) u
  applied_fits _ _ _ (null a operand d) at how u = one_fits scalar a at how (scalar_fits a operand d) u
  applied_fits _ _ _ (between a b c x y z d f g) at how u = three_fit scalar scalar scalar a b c at how (scalar_fits a x d) (scalar_fits b y f) (scalar_fits c z g) u
  applied_fits _ _ _ (among a b operand xs d all) at how u = two_fit scalar listed a b at how (scalar_fits a operand d) (list_fits b xs all) u
  applied_fits _ _ _ (like a b operand p d f) at how u = two_fit scalar pattern a b at how (scalar_fits a operand d) (pattern_fits b p f) u
  applied_fits _ _ _ (intersection a b left right d f) at how u = two_fit shape shape a b at how (shape_fits a left d) (shape_fits b right f) u

  members_fit : (trees : List Json) (es : List Expr) → SpellAll trees es → (at : ℕ) (how : Unfitness) → UnfitAmong (map (λ _. expression) trees) trees at how → ⊥
  members_fit _ _ none_left at how u = none_among [] [] at how refl u
  members_fit _ _ (one_more tree trees e es d all) at how u =
      elim (among_cases (map (λ _. expression) (tree ∷ trees)) (map (λ _. expression) trees) (tree ∷ trees) trees expression tree at how refl refl u) [
        | inl v ↦ expr_fits tree e d v.0 how v.1
        | inr v ↦ members_fit trees es all v.0 how v.1
      ]

pub fits_or_not : (role : Role) (tree : Json) (at : ℕ) (how : Unfitness) → Fits role tree → Unfit role tree at how → ⊥
fits_or_not expression tree at how f u = expr_fits tree f.0 f.1 at how u
fits_or_not scalar tree at how f u = scalar_fits tree f.0 f.1 at how u
fits_or_not pattern tree at how f u = pattern_fits tree f.0 f.1 at how u
fits_or_not shape tree at how f u = shape_fits tree f.0 f.1 at how u
fits_or_not listed tree at how f u = list_fits tree f.0 f.1 at how u

-- ---- one fault

mutual
  pub one_unfit : (role : Role) (tree : Json) (at at' : ℕ) (how how' : Unfitness) → Unfit role tree at how → Unfit role tree at' how' → (at ≡ at') × (how ≡ how')
  one_unfit role tree _ _ _ _ (itself _ _ at how e) (itself _ _ at' how' e') = let s : unfit at how ≡ unfit at' how' = sym e ∙ e' in (cc, cc)
  one_unfit role tree _ _ _ _ (itself _ _ at how e) (undrawn _ _ e' none) = absurd cc
  one_unfit role tree _ _ _ _ (itself _ _ at how e) (inner _ _ roles args place at' how' e' u) = absurd cc
  one_unfit role tree _ _ _ _ (undrawn _ _ e none) (itself _ _ at' how' e') = absurd cc
  one_unfit role tree _ _ _ _ (undrawn _ _ e none) (undrawn _ _ e' none') = (refl, refl)
  one_unfit role tree _ _ _ _ (undrawn _ _ e none) (inner _ _ roles args place at' how' e' u) = absurd cc
  one_unfit role tree _ _ _ _ (inner _ _ roles args place at how e u) (itself _ _ at' how' e') = absurd cc
  one_unfit role tree _ _ _ _ (inner _ _ roles args place at how e u) (undrawn _ _ e' none) = absurd cc
  one_unfit role tree _ _ _ _ (inner _ _ roles args place at how e u) (inner _ _ roles' args' place' at' how' e' u') =
      let s : within roles args place ≡ within roles' args' place' = sym e ∙ e' in
      let r : roles ≡ roles' = cc in
      let a : args ≡ args' = cc in
      let p : place ≡ place' = cc in
      let one = one_among roles roles' args args' at at' how how' r a u u' in
      let q : at ≡ at' = one.0 in
      (cc, one.1)

  one_among : (roles roles' : List Role) (trees trees' : List Json) (at at' : ℕ) (how how' : Unfitness) → roles ≡ roles' → trees ≡ trees' →
      UnfitAmong roles trees at how → UnfitAmong roles' trees' at' how' → (at ≡ at') × (how ≡ how')
  one_among _ _ _ _ _ _ _ _ e f (here role roles tree trees at how u) (here role' roles' tree' trees' at' how' u') =
      let r : role' ≡ role = cc in
      let t : tree' ≡ tree = cc in
      let one = one_unfit role tree at at' how how' u (subst (λ (x : Json). Unfit role x at' how') t (subst (λ (q : Role). Unfit q tree' at' how') r u')) in
      let q : at ≡ at' = one.0 in
      (cc, one.1)
  one_among _ _ _ _ _ _ _ _ e f (here role roles tree trees at how u) (later role' roles' tree' trees' at' how' fit u') =
      let r : role' ≡ role = cc in
      let t : tree' ≡ tree = cc in
      absurd (fits_or_not role tree at how (subst (λ (x : Json). Fits role x) t (subst (λ (q : Role). Fits q tree') r fit)) u)
  one_among _ _ _ _ _ _ _ _ e f (later role roles tree trees at how fit u) (here role' roles' tree' trees' at' how' u') =
      let r : role ≡ role' = cc in
      let t : tree ≡ tree' = cc in
      absurd (fits_or_not role' tree' at' how' (subst (λ (x : Json). Fits role' x) t (subst (λ (q : Role). Fits q tree) r fit)) u')
  one_among _ _ _ _ _ _ _ _ e f (later role roles tree trees at how fit u) (later role' roles' tree' trees' at' how' fit' u') =
      let r : roles ≡ roles' = cc in
      let t : trees ≡ trees' = cc in
      let s : tree ≡ tree' = cc in
      let one = one_among roles roles' trees trees' at at' how how' r t u u' in
      let q : at ≡ at' = one.0 in
      (ap (λ (x : Json). values x + at) s ∙ ap (λ n. values tree' + n) q, one.1)
