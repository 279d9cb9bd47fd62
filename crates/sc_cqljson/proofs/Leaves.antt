-- What is told of a value by itself.
use Rattle.std.proofs.Common.{◌≡◌, ℕ, ◌≤◌, ◌⊎◌, Bool, true, ℤ, List, [], ◌∷◌, length, arith, Option, Some, None, refl, sym, ap, subst, ◌∙◌, inl, inr}
use Rattle.sc_json.specs.declared.tree.Num.{Num}
use Rattle.sc_json.specs.declared.tree.Json.{Json}
use Rattle.sc_json.specs.declared.tree.Json.TheVariants as trees
use Rattle.sc_json.specs.declared.tree.Json.TheOpen as layer
use Rattle.sc_json.specs.declared.tree.Json.TheOpen.{Json-F}
use Rattle.sc_json.specs.declared.tree.Json.TheViews.{out-Json, roll-Json, out-roll-Json, roll-out-Json}
use Rattle.sc_json.specs.declared.tree.Member.{Member}
use Rattle.sc_expr.specs.declared.fault.CqlFault.{CqlFault}
use Rattle.sc_expr.specs.declared.fault.CqlFault.TheVariants.{Syntax, TooDeep, TooManyNodes, BadLiteral, OutOfMemory}
use Rattle.sc_expr.specs.Filter.{in_bits}
use Rattle.sc_cqljson.specs.declared.operator.Operator.{Operator}
use Rattle.sc_cqljson.specs.declared.operator.Operator.TheVariants.{CaseI}
use Rattle.std.specs.Option.{option_and_then}
use Rattle.sc_json.specs.Views.{text_of}
use Rattle.sc_cqljson.specs.Words.{property_name}
use Rattle.sc_cqljson.specs.Operators.{Role, expression, scalar, pattern, shape, listed, fits}
use Rattle.sc_cqljson.specs.Heads.{Head, call, property, head_of, known, filled, name_in, number_of}
use Rattle.sc_cqljson.specs.Forms.{misplaced, unreadable, unfit, drawing, property_form, moment_form, call_form, object_form, form_in, form_of}
use Rattle.sc_cqljson.specs.declared.head.Head.{Head as Seen}
use Rattle.sc_cqljson.specs.declared.head.Head.TheVariants as heads
use Rattle.sc_cqljson.specs.Seen.{seen}
use Rattle.sc_cqljson.specs.Drawn.{Draws}
use Rattle.sc_cqljson.specs.Unfit.{Unfit, itself, undrawn}
use Rattle.sc_cqljson.specs.Told.{Tells, CantFold, CantBeDrawn}
use Rattle.sc_cqljson.proofs.Forming.{IsHead, IsObjectPlace, formed_by, formed_by_call}

-- ---- trees by their kind

pub out_null : out-Json trees.Null ≡ layer.Null
out_null = ap out-Json (sym trees.rolls-Null) ∙ out-roll-Json layer.Null

pub out_truth : (b : Bool) → out-Json (trees.Truth b) ≡ layer.Truth b
out_truth b = ap out-Json (sym (trees.rolls-Truth b)) ∙ out-roll-Json (layer.Truth b)

pub out_number : (n : Num) → out-Json (trees.Number n) ≡ layer.Number n
out_number n = ap out-Json (sym (trees.rolls-Number n)) ∙ out-roll-Json (layer.Number n)

pub out_text : (t : List ℕ) → out-Json (trees.Text t) ≡ layer.Text t
out_text t = ap out-Json (sym (trees.rolls-Text t)) ∙ out-roll-Json (layer.Text t)

pub out_list : (xs : List Json) → out-Json (trees.List xs) ≡ layer.List xs
out_list xs = ap out-Json (sym (trees.rolls-List xs)) ∙ out-roll-Json (layer.List xs)

pub out_object : (ms : List Member) → out-Json (trees.Object ms) ≡ layer.Object ms
out_object ms = ap out-Json (sym (trees.rolls-Object ms)) ∙ out-roll-Json (layer.Object ms)

-- ---- the fault of the value

module _ (role : Role) (tree : Json) where
  pub misplaced_here : form_of role tree ≡ unfit 0 misplaced → Tells (Unfit role tree) (Syntax 0)
  misplaced_here e = (0, refl, itself role tree 0 misplaced e)

  pub unreadable_here : form_of role tree ≡ unfit 0 unreadable → Tells (Unfit role tree) (BadLiteral 0)
  unreadable_here e = (0, refl, itself role tree 0 unreadable e)

  pub misplaced_at : (number : ℕ) (f : CqlFault) → f ≡ Syntax (in_bits 64 number) → form_of role tree ≡ unfit number misplaced → Tells (Unfit role tree) f
  misplaced_at number f e form =
      let at : Tells (Unfit role tree) (Syntax (in_bits 64 number)) = (number, refl, itself role tree number misplaced form) in
      subst (Tells (Unfit role tree)) (sym e) at

  pub level_formed : (level : Json-F Json Member) → out-Json tree ≡ level → form_of role tree ≡ form_in role tree level
  unfolding form_of
  level_formed level e = ap (form_in role tree) e

  object_level : (ms : List Member) → IsObjectPlace role → form_in role tree (layer.Object ms) ≡ object_form role tree (head_of tree)
  object_level ms place = by_role role place
    where
      by_role : (r : Role) → IsObjectPlace r → form_in r tree (layer.Object ms) ≡ object_form r tree (head_of tree)
      by_role expression p = refl
      by_role scalar p = refl
      by_role pattern p = refl
      by_role shape p = refl
      by_role listed p = absurd p

  -- an object by its head
  pub object_formed : (ms : List Member) (h : Head) → tree ≡ trees.Object ms → h ≡ head_of tree → IsObjectPlace role → form_of role tree ≡ object_form role tree h
  object_formed ms h e head place =
      level_formed (layer.Object ms) (ap out-Json e ∙ out_object ms) ∙ object_level ms place ∙ ap (object_form role tree) (sym head)

  -- ---- objects that can't be read

  pub told_of_call : (op : Json) (o : Option Operator) (number : ℕ) (f : CqlFault) → head_of tree ≡ call op → known op ≡ o → IsObjectPlace role →
      f ≡ Syntax (in_bits 64 number) → call_form role tree o ≡ unfit number misplaced → Tells (Unfit role tree) f
  told_of_call op o number f h k place e form = misplaced_at number f e (formed_by_call role tree op o h k place ∙ form)

  pub told_of_folding : (op : Json) (f : CqlFault) → head_of tree ≡ call op → fits role CaseI ≡ true → IsObjectPlace role → CantFold tree op f → Tells (Unfit role tree) f
  told_of_folding op f h fit place c = told_of_call op (known op) c.0 f h refl place c.1 (c.2 role fit)

-- ---- drawn shapes

pub told_of_drawing : (tree : Json) (f : CqlFault) → form_of shape tree ≡ drawing → CantBeDrawn (Draws tree) f → Tells (Unfit shape tree) f
told_of_drawing tree (Syntax at) e c = absurd c
told_of_drawing tree (BadLiteral at) e c = (0, c.0, undrawn shape tree e c.1)
told_of_drawing tree TooDeep e c = absurd c
told_of_drawing tree TooManyNodes e c = absurd c
told_of_drawing tree OutOfMemory e c = tt

-- ---- values of another kind than the place asks for

module _ (tree : Json) where
  text_level : (level : Json-F Json Member) → tree ≡ roll-Json level → ((t : List ℕ) → tree ≡ trees.Text t → ⊥) → ((ms : List Member) → tree ≡ trees.Object ms → ⊥) →
      form_in pattern tree level ≡ unfit 0 misplaced
  text_level layer.Null e no_text no_object = refl
  text_level (layer.Truth b) e no_text no_object = refl
  text_level (layer.Number n) e no_text no_object = refl
  text_level (layer.Text t) e no_text no_object = absurd (no_text t (e ∙ trees.rolls-Text t))
  text_level (layer.List xs) e no_text no_object = refl
  text_level (layer.Object ms) e no_text no_object = absurd (no_object ms (e ∙ trees.rolls-Object ms))

  pub no_pattern : ((t : List ℕ) → tree ≡ trees.Text t → ⊥) → ((ms : List Member) → tree ≡ trees.Object ms → ⊥) → Tells (Unfit pattern tree) (Syntax 0)
  no_pattern no_text no_object = misplaced_here pattern tree (level_formed pattern tree (out-Json tree) refl ∙ text_level (out-Json tree) (sym (roll-out-Json tree)) no_text no_object)

  scalar_level : (level : Json-F Json Member) → tree ≡ roll-Json level → ((b : Bool) → tree ≡ trees.Truth b → ⊥) → ((n : Num) → tree ≡ trees.Number n → ⊥) →
      ((t : List ℕ) → tree ≡ trees.Text t → ⊥) → ((ms : List Member) → tree ≡ trees.Object ms → ⊥) → form_in scalar tree level ≡ unfit 0 misplaced
  scalar_level layer.Null e no_truth no_number no_text no_object = refl
  scalar_level (layer.Truth b) e no_truth no_number no_text no_object = absurd (no_truth b (e ∙ trees.rolls-Truth b))
  scalar_level (layer.Number n) e no_truth no_number no_text no_object = absurd (no_number n (e ∙ trees.rolls-Number n))
  scalar_level (layer.Text t) e no_truth no_number no_text no_object = absurd (no_text t (e ∙ trees.rolls-Text t))
  scalar_level (layer.List xs) e no_truth no_number no_text no_object = refl
  scalar_level (layer.Object ms) e no_truth no_number no_text no_object = absurd (no_object ms (e ∙ trees.rolls-Object ms))

  pub no_scalar : ((b : Bool) → tree ≡ trees.Truth b → ⊥) → ((n : Num) → tree ≡ trees.Number n → ⊥) → ((t : List ℕ) → tree ≡ trees.Text t → ⊥) →
      ((ms : List Member) → tree ≡ trees.Object ms → ⊥) → Tells (Unfit scalar tree) (Syntax 0)
  no_scalar no_truth no_number no_text no_object =
      misplaced_here scalar tree (level_formed scalar tree (out-Json tree) refl ∙ scalar_level (out-Json tree) (sym (roll-out-Json tree)) no_truth no_number no_text no_object)

  expression_level : (level : Json-F Json Member) → tree ≡ roll-Json level → ((b : Bool) → tree ≡ trees.Truth b → ⊥) → ((ms : List Member) → tree ≡ trees.Object ms → ⊥) →
      form_in expression tree level ≡ unfit 0 misplaced
  expression_level layer.Null e no_truth no_object = refl
  expression_level (layer.Truth b) e no_truth no_object = absurd (no_truth b (e ∙ trees.rolls-Truth b))
  expression_level (layer.Number n) e no_truth no_object = refl
  expression_level (layer.Text t) e no_truth no_object = refl
  expression_level (layer.List xs) e no_truth no_object = refl
  expression_level (layer.Object ms) e no_truth no_object = absurd (no_object ms (e ∙ trees.rolls-Object ms))

  pub no_expression : ((b : Bool) → tree ≡ trees.Truth b → ⊥) → ((ms : List Member) → tree ≡ trees.Object ms → ⊥) → Tells (Unfit expression tree) (Syntax 0)
  no_expression no_truth no_object =
      misplaced_here expression tree (level_formed expression tree (out-Json tree) refl ∙ expression_level (out-Json tree) (sym (roll-out-Json tree)) no_truth no_object)

  shape_level : (level : Json-F Json Member) → tree ≡ roll-Json level → ((ms : List Member) → tree ≡ trees.Object ms → ⊥) → form_in shape tree level ≡ unfit 0 misplaced
  shape_level layer.Null e no_object = refl
  shape_level (layer.Truth b) e no_object = refl
  shape_level (layer.Number n) e no_object = refl
  shape_level (layer.Text t) e no_object = refl
  shape_level (layer.List xs) e no_object = refl
  shape_level (layer.Object ms) e no_object = absurd (no_object ms (e ∙ trees.rolls-Object ms))

  pub no_shape : ((ms : List Member) → tree ≡ trees.Object ms → ⊥) → Tells (Unfit shape tree) (Syntax 0)
  no_shape no_object = misplaced_here shape tree (level_formed shape tree (out-Json tree) refl ∙ shape_level (out-Json tree) (sym (roll-out-Json tree)) no_object)

-- ---- objects by a member that says nothing of the place

abbrev pub Bor : Type 0
Bor = denote.Bor.Bor Rattle.sc_json.specs.declared.tree.Json.TheVariants.the_data

module _ (tree : Json) (ms : List Member) (h : Seen) (is : tree ≡ trees.Object ms) (head : seen h ≡ head_of tree) where
  seen_formed : (role : Role) → IsObjectPlace role → object_form role tree (seen h) ≡ unfit 0 misplaced → Tells (Unfit role tree) (Syntax 0)
  seen_formed role place e = misplaced_here role tree (object_formed role tree ms (seen h) is head place ∙ e)

pattern_head : (tree : Json) (h : Seen) → ((v : Bor) → h ≡ heads.Call v → ⊥) → object_form pattern tree (seen h) ≡ unfit 0 misplaced
pattern_head tree (heads.Call v) none = absurd (none v refl)
pattern_head tree (heads.Property v) none = refl
pattern_head tree (heads.Timestamp v) none = refl
pattern_head tree (heads.Date v) none = refl
pattern_head tree (heads.Bbox v) none = refl
pattern_head tree heads.Geometry none = refl
pattern_head tree heads.Nothing none = refl

pub no_pattern_headed : (tree : Json) (ms : List Member) (h : Seen) → tree ≡ trees.Object ms → seen h ≡ head_of tree → ((v : Bor) → h ≡ heads.Call v → ⊥) → Tells (Unfit pattern tree) (Syntax 0)
no_pattern_headed tree ms h is head none = seen_formed tree ms h is head pattern tt (pattern_head tree h none)

expression_head : (tree : Json) (h : Seen) → ((v : Bor) → h ≡ heads.Call v → ⊥) → object_form expression tree (seen h) ≡ unfit 0 misplaced
expression_head tree (heads.Call v) none = absurd (none v refl)
expression_head tree (heads.Property v) none = refl
expression_head tree (heads.Timestamp v) none = refl
expression_head tree (heads.Date v) none = refl
expression_head tree (heads.Bbox v) none = refl
expression_head tree heads.Geometry none = refl
expression_head tree heads.Nothing none = refl

pub no_expression_headed : (tree : Json) (ms : List Member) (h : Seen) → tree ≡ trees.Object ms → seen h ≡ head_of tree → ((v : Bor) → h ≡ heads.Call v → ⊥) → Tells (Unfit expression tree) (Syntax 0)
no_expression_headed tree ms h is head none = seen_formed tree ms h is head expression tt (expression_head tree h none)

scalar_head : (tree : Json) (h : Seen) → ((v : Bor) → h ≡ heads.Call v → ⊥) → ((v : Bor) → h ≡ heads.Property v → ⊥) → ((v : Bor) → h ≡ heads.Timestamp v → ⊥) →
    ((v : Bor) → h ≡ heads.Date v → ⊥) → object_form scalar tree (seen h) ≡ unfit 0 misplaced
scalar_head tree (heads.Call v) none none2 none3 none4 = absurd (none v refl)
scalar_head tree (heads.Property v) none none2 none3 none4 = absurd (none2 v refl)
scalar_head tree (heads.Timestamp v) none none2 none3 none4 = absurd (none3 v refl)
scalar_head tree (heads.Date v) none none2 none3 none4 = absurd (none4 v refl)
scalar_head tree (heads.Bbox v) none none2 none3 none4 = refl
scalar_head tree heads.Geometry none none2 none3 none4 = refl
scalar_head tree heads.Nothing none none2 none3 none4 = refl

pub no_scalar_headed : (tree : Json) (ms : List Member) (h : Seen) → tree ≡ trees.Object ms → seen h ≡ head_of tree → ((v : Bor) → h ≡ heads.Call v → ⊥) →
    ((v : Bor) → h ≡ heads.Property v → ⊥) → ((v : Bor) → h ≡ heads.Timestamp v → ⊥) → ((v : Bor) → h ≡ heads.Date v → ⊥) → Tells (Unfit scalar tree) (Syntax 0)
no_scalar_headed tree ms h is head none none2 none3 none4 = seen_formed tree ms h is head scalar tt (scalar_head tree h none none2 none3 none4)

shape_head : (tree : Json) (h : Seen) → ((v : Bor) → h ≡ heads.Call v → ⊥) → ((v : Bor) → h ≡ heads.Property v → ⊥) → ((v : Bor) → h ≡ heads.Bbox v → ⊥) →
    (h ≡ heads.Geometry → ⊥) → object_form shape tree (seen h) ≡ unfit 0 misplaced
shape_head tree (heads.Call v) none none2 none3 none4 = absurd (none v refl)
shape_head tree (heads.Property v) none none2 none3 none4 = absurd (none2 v refl)
shape_head tree (heads.Timestamp v) none none2 none3 none4 = refl
shape_head tree (heads.Date v) none none2 none3 none4 = refl
shape_head tree (heads.Bbox v) none none2 none3 none4 = absurd (none3 v refl)
shape_head tree heads.Geometry none none2 none3 none4 = absurd (none4 refl)
shape_head tree heads.Nothing none none2 none3 none4 = refl

pub no_shape_headed : (tree : Json) (ms : List Member) (h : Seen) → tree ≡ trees.Object ms → seen h ≡ head_of tree → ((v : Bor) → h ≡ heads.Call v → ⊥) →
    ((v : Bor) → h ≡ heads.Property v → ⊥) → ((v : Bor) → h ≡ heads.Bbox v → ⊥) → (h ≡ heads.Geometry → ⊥) → Tells (Unfit shape tree) (Syntax 0)
no_shape_headed tree ms h is head none none2 none3 none4 = seen_formed tree ms h is head shape tt (shape_head tree h none none2 none3 none4)

-- ---- names and moments

pub named_some : (value : Json) (name : List ℕ) → name_in value ≡ Some name → 1 ≤ length name
unfolding name_in
named_some value name e = by (text_of value) e
  where
    by : (t : Option (List ℕ)) → option_and_then filled t ≡ Some name → 1 ≤ length name
    by None f = absurd cc
    by (Some []) f = absurd cc
    by (Some (b ∷ bs)) f = let s : (b ∷ bs) ≡ name = cc in omega (arith, ap length s)

pub told_of_name : (role : Role) (tree value : Json) (f : CqlFault) → property value ≡ head_of tree → IsObjectPlace role → object_form role tree (property value) ≡ property_form tree (name_in value) →
    (f ≡ OutOfMemory) ⊎ ((name_in value ≡ None) × (f ≡ Syntax (in_bits 64 (number_of tree property_name)))) → Tells (Unfit role tree) f
told_of_name role tree value f h place form (inl e) = let free : Tells (Unfit role tree) OutOfMemory = tt in subst (Tells (Unfit role tree)) (sym e) free
told_of_name role tree value f h place form (inr e) =
    misplaced_at role tree (number_of tree property_name) f e.1 (formed_by role tree (property value) (sym h) tt place ∙ form ∙ ap (property_form tree) e.0)

pub told_of_moment : (tree : Json) (h : Head) (m : Option ℤ) (f : CqlFault) → h ≡ head_of tree → IsHead h → object_form scalar tree h ≡ moment_form m → (m ≡ None) × (f ≡ BadLiteral 0) →
    Tells (Unfit scalar tree) f
told_of_moment tree h m f e is form none =
    subst (Tells (Unfit scalar tree)) (sym none.1) (unreadable_here scalar tree (formed_by scalar tree h (sym e) is tt ∙ form ∙ ap moment_form none.0))
