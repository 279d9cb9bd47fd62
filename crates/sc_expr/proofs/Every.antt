-- A fact of every level, variant by variant: it is made of the fact of the first level and those of the members.
use Rattle.std.proofs.Common.{◌≡◌, ℕ, ◌+◌, ◌<◌, ◌≤◌, Bool, List, [], ◌∷◌, ◌++◌, length, get_or, take, map, ℤ, refl, sym, ap, ◌∙◌, subst}
use Rattle.std.specs.List.{All, AllByRecursion}
use Rattle.std.proofs.lemmas.List.{take_more, take_all}
use Rattle.std.proofs.lemmas.List.Elements.{All-push, recursion_from_All}
use Rattle.sc_decimal.specs.Number.{Number}
use Rattle.sc_expr.specs.declared.scalar.Scalar.{Scalar}
use Rattle.sc_expr.specs.declared.scalar.Scalar.TheVariants as scalars
use Rattle.sc_expr.specs.declared.scalar.Scalar.TheOpen as inner
use Rattle.sc_expr.specs.declared.scalar.Scalar.TheOpen.{Scalar-F}
use Rattle.sc_expr.specs.declared.scalar.Scalar.TheViews.{out-Scalar}
use Rattle.sc_expr.specs.declared.scalar.Scalar.TheFolds.{map-Scalar, every-Scalar, every_here-Scalar, every_held-Scalar, every_made-Scalar}
use Rattle.sc_expr.specs.declared.scalar.Pattern.{Pattern}
use Rattle.sc_expr.specs.declared.scalar.Shape.{Shape}
use Rattle.sc_expr.specs.declared.expr.CompOp.{CompOp}
use Rattle.sc_expr.specs.declared.expr.Expr.{Expr}
use Rattle.sc_expr.specs.declared.expr.Expr.TheVariants as exprs
use Rattle.sc_expr.specs.declared.expr.Expr.TheOpen as outer
use Rattle.sc_expr.specs.declared.expr.Expr.TheOpen.{Expr-F}
use Rattle.sc_expr.specs.declared.expr.Expr.TheViews.{out-Expr}
use Rattle.sc_expr.specs.declared.expr.Expr.TheFolds.{map-Expr, every-Expr, every_here-Expr, every_held-Expr, every_made-Expr}

-- ---- lists, one element after the other

module _ {A : Type 0} (P : A → Type 0) (xs : List A) (i : ℕ) where
  pub all_next : (x : A) → i < length xs → x ≡ get_or xs i x → All P (take i xs) → P x → All P (take (i + 1) xs)
  all_next x lt is all here =
      let e : take i xs ++ x ∷ [] ≡ take (i + 1) xs = ap (λ y. take i xs ++ y ∷ []) is ∙ sym (take_more xs i x lt) in
      subst (All P) e (All-push P (take i xs) x all here)

  pub all_taken : length xs ≤ i → All P (take i xs) → All P xs
  all_taken le all = subst (All P) (take_all i xs le) all

-- ---- scalars

-- the scalar that a level folds, where it does
abbrev pub folded_in : {A : Type 0} → Scalar-F A → List A
folded_in (inner.Prop name) = []
folded_in (inner.Text text) = []
folded_in (inner.Number number) = []
folded_in (inner.Truth truth) = []
folded_in (inner.Moment moment) = []
folded_in (inner.Folded scalar) = scalar ∷ []

module _ (Fact : Scalar-F Scalar → Type 0) where
  abbrev EveryScalar : Scalar → Type 0
  EveryScalar = every-Scalar Fact

  pub every_property : (name : List ℕ) → Fact (inner.Prop name) → EveryScalar (scalars.Prop name)
  every_property name h = subst EveryScalar (scalars.rolls-Prop name) (every_made-Scalar Fact (inner.Prop name) (inner.Prop name) refl h)

  pub every_text : (text : List ℕ) → Fact (inner.Text text) → EveryScalar (scalars.Text text)
  every_text text h = subst EveryScalar (scalars.rolls-Text text) (every_made-Scalar Fact (inner.Text text) (inner.Text text) refl h)

  pub every_number : (number : Number) → Fact (inner.Number number) → EveryScalar (scalars.Number number)
  every_number number h = subst EveryScalar (scalars.rolls-Number number) (every_made-Scalar Fact (inner.Number number) (inner.Number number) refl h)

  pub every_truth : (truth : Bool) → Fact (inner.Truth truth) → EveryScalar (scalars.Truth truth)
  every_truth truth h = subst EveryScalar (scalars.rolls-Truth truth) (every_made-Scalar Fact (inner.Truth truth) (inner.Truth truth) refl h)

  pub every_moment : (moment : ℤ) → Fact (inner.Moment moment) → EveryScalar (scalars.Moment moment)
  every_moment moment h = subst EveryScalar (scalars.rolls-Moment moment) (every_made-Scalar Fact (inner.Moment moment) (inner.Moment moment) refl h)

  pub every_folded : (scalar : Scalar) → Fact (inner.Folded scalar) → EveryScalar scalar → EveryScalar (scalars.Folded scalar)
  every_folded scalar h below = subst EveryScalar (scalars.rolls-Folded scalar) (every_made-Scalar Fact (inner.Folded scalar) (inner.Folded (scalar, below)) refl h)

  pub scalar_level : (scalar : Scalar) → EveryScalar scalar → Fact (out-Scalar scalar)
  scalar_level scalar h = every_here-Scalar Fact scalar h

  abbrev HeldScalar : Type 0
  HeldScalar = (scalar : Scalar) × EveryScalar scalar

  abbrev scalar_of : Scalar-F HeldScalar → Scalar-F Scalar
  scalar_of = map-Scalar HeldScalar Scalar (λ h. h.0)

  within : (level : Scalar-F HeldScalar) → AllByRecursion EveryScalar (folded_in (scalar_of level))
  within (inner.Prop name) = tt
  within (inner.Text text) = tt
  within (inner.Number number) = tt
  within (inner.Truth truth) = tt
  within (inner.Moment moment) = tt
  within (inner.Folded h) = (h.1, tt)

  pub every_folded_in : (scalar : Scalar) → EveryScalar scalar → AllByRecursion EveryScalar (folded_in (out-Scalar scalar))
  every_folded_in scalar h = go (every_held-Scalar Fact scalar h)
    where
      go : ((level : Scalar-F HeldScalar) × (scalar_of level ≡ out-Scalar scalar)) → AllByRecursion EveryScalar (folded_in (out-Scalar scalar))
      go (level, e) = subst (λ (l : Scalar-F Scalar). AllByRecursion EveryScalar (folded_in l)) e (within level)

-- ---- expressions

-- the members of one level, in their order
abbrev pub members_in : {A : Type 0} → Expr-F A → List A
members_in (outer.Const truth) = []
members_in (outer.And members) = members
members_in (outer.Or members) = members
members_in (outer.Not member) = member ∷ []
members_in (outer.Compare op left right) = []
members_in (outer.IsNull operand) = []
members_in (outer.Between operand low high) = []
members_in (outer.Among operand listed) = []
members_in (outer.Like operand pattern) = []
members_in (outer.Meets left right) = []

module _ (Fact : Expr-F Expr → Type 0) where
  abbrev Every : Expr → Type 0
  Every = every-Expr Fact

  abbrev Held : Type 0
  Held = (expr : Expr) × Every expr

  -- the members beside what holds of them
  beside : (members : List Expr) → AllByRecursion Every members → (held : List Held) × (map (λ h. h.0) held ≡ members)
  beside [] all = ([], refl)
  beside (e ∷ members) all = let rest = beside members all.1 in ((e, all.0) ∷ rest.0, ap (λ (es : List Expr). e ∷ es) rest.1)

  pub every_const : (truth : Bool) → Fact (outer.Const truth) → Every (exprs.Const truth)
  every_const truth h = subst Every (exprs.rolls-Const truth) (every_made-Expr Fact (outer.Const truth) (outer.Const truth) refl h)

  pub every_and : (members : List Expr) → Fact (outer.And members) → All Every members → Every (exprs.And members)
  every_and members h all =
      let held = beside members (recursion_from_All Every members all) in
      subst Every (exprs.rolls-And members) (every_made-Expr Fact (outer.And members) (outer.And held.0) (ap (λ (es : List Expr). outer.And es) held.1) h)

  pub every_or : (members : List Expr) → Fact (outer.Or members) → All Every members → Every (exprs.Or members)
  every_or members h all =
      let held = beside members (recursion_from_All Every members all) in
      subst Every (exprs.rolls-Or members) (every_made-Expr Fact (outer.Or members) (outer.Or held.0) (ap (λ (es : List Expr). outer.Or es) held.1) h)

  pub every_not : (member : Expr) → Fact (outer.Not member) → Every member → Every (exprs.Not member)
  every_not member h below = subst Every (exprs.rolls-Not member) (every_made-Expr Fact (outer.Not member) (outer.Not (member, below)) refl h)

  pub every_compare : (op : CompOp) (left right : Scalar) → Fact (outer.Compare op left right) → Every (exprs.Compare op left right)
  every_compare op left right h =
      subst Every (exprs.rolls-Compare op left right) (every_made-Expr Fact (outer.Compare op left right) (outer.Compare op left right) refl h)

  pub every_is_null : (operand : Scalar) → Fact (outer.IsNull operand) → Every (exprs.IsNull operand)
  every_is_null operand h = subst Every (exprs.rolls-IsNull operand) (every_made-Expr Fact (outer.IsNull operand) (outer.IsNull operand) refl h)

  pub every_between : (operand low high : Scalar) → Fact (outer.Between operand low high) → Every (exprs.Between operand low high)
  every_between operand low high h =
      subst Every (exprs.rolls-Between operand low high) (every_made-Expr Fact (outer.Between operand low high) (outer.Between operand low high) refl h)

  pub every_among : (operand : Scalar) (listed : List Scalar) → Fact (outer.Among operand listed) → Every (exprs.Among operand listed)
  every_among operand listed h =
      subst Every (exprs.rolls-Among operand listed) (every_made-Expr Fact (outer.Among operand listed) (outer.Among operand listed) refl h)

  pub every_like : (operand : Scalar) (pattern : Pattern) → Fact (outer.Like operand pattern) → Every (exprs.Like operand pattern)
  every_like operand pattern h =
      subst Every (exprs.rolls-Like operand pattern) (every_made-Expr Fact (outer.Like operand pattern) (outer.Like operand pattern) refl h)

  pub every_meets : (left right : Shape) → Fact (outer.Meets left right) → Every (exprs.Meets left right)
  every_meets left right h = subst Every (exprs.rolls-Meets left right) (every_made-Expr Fact (outer.Meets left right) (outer.Meets left right) refl h)

  -- ---- what a fact of every level says of the first level and of the members

  pub every_level : (expr : Expr) → Every expr → Fact (out-Expr expr)
  every_level expr h = every_here-Expr Fact expr h

  abbrev expr_of : Expr-F Held → Expr-F Expr
  expr_of = map-Expr Held Expr (λ h. h.0)

  all_of : (held : List Held) → AllByRecursion Every (map (λ h. h.0) held)
  all_of [] = tt
  all_of (h ∷ held) = (h.1, all_of held)

  each_of : (level : Expr-F Held) → AllByRecursion Every (members_in (expr_of level))
  each_of (outer.Const truth) = tt
  each_of (outer.And members) = all_of members
  each_of (outer.Or members) = all_of members
  each_of (outer.Not member) = (member.1, tt)
  each_of (outer.Compare op left right) = tt
  each_of (outer.IsNull operand) = tt
  each_of (outer.Between operand low high) = tt
  each_of (outer.Among operand listed) = tt
  each_of (outer.Like operand pattern) = tt
  each_of (outer.Meets left right) = tt

  pub every_member : (expr : Expr) → Every expr → AllByRecursion Every (members_in (out-Expr expr))
  every_member expr h = go (every_held-Expr Fact expr h)
    where
      go : ((level : Expr-F Held) × (expr_of level ≡ out-Expr expr)) → AllByRecursion Every (members_in (out-Expr expr))
      go (level, e) = subst (λ (l : Expr-F Expr). AllByRecursion Every (members_in l)) e (each_of level)
