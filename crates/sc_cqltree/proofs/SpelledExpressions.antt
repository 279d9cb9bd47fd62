-- What is written of an expression spells it, and what is written of a filter is that filter.
use Rattle.std.proofs.Common.{◌≡◌, ℕ, ◌≤◌, List, [], ◌∷◌, length, map, codes, Some, refl, sym, ap, subst, ◌∙◌}
use Rattle.std.specs.List.{AllByRecursion}
use Rattle.std.proofs.lemmas.List.{length-map}
use Rattle.std.proofs.lemmas.List.Elements.{recursion_from_All}
use Rattle.sc_json.specs.declared.tree.Json.{Json}
use Rattle.sc_json.specs.declared.tree.Json.TheVariants as trees
use Rattle.sc_expr.specs.declared.scalar.Scalar.{Scalar}
use Rattle.sc_expr.specs.declared.scalar.Pattern.{Pattern}
use Rattle.sc_expr.specs.declared.scalar.Shape.{Shape}
use Rattle.sc_expr.specs.declared.expr.CompOp.{CompOp}
use Rattle.sc_expr.specs.declared.expr.CompOp.TheVariants.{Eq, Ne, Lt, Gt, Le, Ge}
use Rattle.sc_expr.specs.declared.expr.Expr.{Expr}
use Rattle.sc_expr.specs.declared.expr.Expr.TheVariants as exprs
use Rattle.sc_expr.specs.declared.expr.Expr.TheOpen as outer
use Rattle.sc_expr.specs.declared.expr.Expr.TheOpen.{Expr-F}
use Rattle.sc_expr.specs.declared.expr.Expr.TheViews.{roll-Expr, out-roll-Expr}
use Rattle.sc_expr.specs.declared.expr.Expr.TheFolds.{map-Expr, fold-roll-Expr, ind-Expr}
use Rattle.sc_expr.specs.Form.{IsFormedScalar, IsFormedShape, IsLevel, IsFormed}
use Rattle.sc_expr.specs.Kept.{IsKeptScalar, IsKeptShape, IsKeptLevel, IsKept}
use Rattle.sc_expr.specs.Filter.{IsFilter}
use Rattle.sc_expr.proofs.Every.{members_in, every_level, every_member}
use Rattle.sc_cqlwrite.specs.Tokens.{sign_of}
use Rattle.sc_cqljson.specs.declared.operator.Operator.{Operator}
use Rattle.sc_cqljson.specs.declared.operator.Operator.TheVariants.{And, Or, Not, Compare, IsNull, Between, In, Like, Intersects}
use Rattle.sc_cqljson.specs.Operators.{operator_named}
use Rattle.sc_cqljson.specs.Spells.{Spells, const, applied, Applied, conjunction, disjunction, negation, comparison, null, between, among, like, intersection, SpellAll, none_left, one_more, SpellsList}
use Rattle.sc_cqljson.specs.Filters.{IsCqlTree}
use Rattle.sc_cqltree.specs.Objects.{call}
use Rattle.sc_cqltree.specs.Scalars.{scalar_tree, pattern_tree}
use Rattle.sc_cqltree.specs.Geometries.{shape_tree}
use Rattle.sc_cqltree.specs.Predicates.{comparison_tree, null_tree, between_tree, among_tree, like_tree, meets_tree}
use Rattle.sc_cqltree.specs.Written.{level, written}
use Rattle.sc_cqltree.proofs.Reading.{list_is, calls}
use Rattle.sc_cqltree.proofs.SpelledScalars.{scalar_spelled, scalars_spelled, pattern_spelled}
use Rattle.sc_cqltree.proofs.SpelledShapes.{shape_spelled}

called : (name : List ℕ) (operator : Operator) (args : List Json) (expr : Expr) → operator_named name ≡ Some operator → Applied operator args expr → Spells (call name args) expr
called name operator args expr e a = applied (call name args) operator args expr (calls name operator args e) a

-- ---- predicates

sign_named : (op : CompOp) → operator_named (sign_of op) ≡ Some (Compare op)
unfolding operator_named
sign_named Eq = refl
sign_named Ne = refl
sign_named Lt = refl
sign_named Gt = refl
sign_named Le = refl
sign_named Ge = refl

-- a scalar that is formed and kept
record IsWhole (s : Scalar) : Type 0 where
  formed : IsFormedScalar s
  kept : IsKeptScalar s

comparison_spelled : (op : CompOp) (left right : Scalar) → IsWhole left → IsWhole right → Spells (comparison_tree op left right) (exprs.Compare op left right)
unfolding comparison_tree
comparison_spelled op left right l r =
    called (sign_of op) (Compare op) (scalar_tree left ∷ scalar_tree right ∷ []) (exprs.Compare op left right) (sign_named op)
    (comparison op (scalar_tree left) (scalar_tree right) left right (scalar_spelled left l.formed l.kept) (scalar_spelled right r.formed r.kept))

null_spelled : (operand : Scalar) → IsWhole operand → Spells (null_tree operand) (exprs.IsNull operand)
unfolding null_tree operator_named
null_spelled operand o =
    called (codes "isNull") IsNull (scalar_tree operand ∷ []) (exprs.IsNull operand) refl (null (scalar_tree operand) operand (scalar_spelled operand o.formed o.kept))

between_spelled : (operand low high : Scalar) → IsWhole operand → IsWhole low → IsWhole high → Spells (between_tree operand low high) (exprs.Between operand low high)
unfolding between_tree operator_named
between_spelled operand low high o l h =
    called (codes "between") Between (scalar_tree operand ∷ scalar_tree low ∷ scalar_tree high ∷ []) (exprs.Between operand low high) refl
    (between (scalar_tree operand) (scalar_tree low) (scalar_tree high) operand low high (scalar_spelled operand o.formed o.kept) (scalar_spelled low l.formed l.kept) (scalar_spelled high h.formed h.kept))

list_spelled : (scalars : List Scalar) → 1 ≤ length scalars → AllByRecursion IsFormedScalar scalars → AllByRecursion IsKeptScalar scalars → SpellsList (trees.List (map scalar_tree scalars)) scalars
list_spelled scalars some f k = record {
  elements = map scalar_tree scalars;
  are = list_is (map scalar_tree scalars);
  some = rw (length-map scalars scalar_tree) some;
  spelled = scalars_spelled scalars f k;
}

among_spelled : (operand : Scalar) (scalars : List Scalar) → IsWhole operand → SpellsList (trees.List (map scalar_tree scalars)) scalars → Spells (among_tree operand scalars) (exprs.Among operand scalars)
unfolding among_tree operator_named
among_spelled operand scalars o list =
    called (codes "in") In (scalar_tree operand ∷ trees.List (map scalar_tree scalars) ∷ []) (exprs.Among operand scalars) refl
    (among (scalar_tree operand) (trees.List (map scalar_tree scalars)) operand scalars (scalar_spelled operand o.formed o.kept) list)

like_spelled : (operand : Scalar) (pattern : Pattern) → IsWhole operand → Spells (like_tree operand pattern) (exprs.Like operand pattern)
unfolding like_tree operator_named
like_spelled operand pattern o =
    called (codes "like") Like (scalar_tree operand ∷ pattern_tree pattern ∷ []) (exprs.Like operand pattern) refl
    (like (scalar_tree operand) (pattern_tree pattern) operand pattern (scalar_spelled operand o.formed o.kept) (pattern_spelled pattern))

meets_spelled : (left right : Shape) → IsFormedShape left → IsKeptShape left → IsFormedShape right → IsKeptShape right → Spells (meets_tree left right) (exprs.Meets left right)
unfolding meets_tree operator_named
meets_spelled left right f k g l =
    called (codes "s_intersects") Intersects (shape_tree left ∷ shape_tree right ∷ []) (exprs.Meets left right) refl
    (intersection (shape_tree left) (shape_tree right) left right (shape_spelled left f k) (shape_spelled right g l))

-- ---- expressions

abbrev Good : Expr → Type 0
Good e = IsFormed e → IsKept e → Spells (written e) e

abbrev Held : Type 0
Held = (e : Expr) × Good e

abbrev expr_of : Expr-F Held → Expr-F Expr
expr_of = map-Expr Held Expr (λ h. h.0)

-- what is known of a level
record Level (x : Expr-F Expr) : Type 0 where
  formed : IsLevel x
  kept : IsKeptLevel x
  members_formed : AllByRecursion IsFormed (members_in x)
  members_kept : AllByRecursion IsKept (members_in x)

level_at : (x : Expr-F Expr) → IsFormed (roll-Expr x) → IsKept (roll-Expr x) → Level x
level_at x f k = record {
  formed = subst IsLevel (out-roll-Expr x) (every_level IsLevel (roll-Expr x) f);
  kept = subst IsKeptLevel (out-roll-Expr x) (every_level IsKeptLevel (roll-Expr x) k);
  members_formed = subst (λ (y : Expr-F Expr). AllByRecursion IsFormed (members_in y)) (out-roll-Expr x) (every_member IsLevel (roll-Expr x) f);
  members_kept = subst (λ (y : Expr-F Expr). AllByRecursion IsKept (members_in y)) (out-roll-Expr x) (every_member IsKeptLevel (roll-Expr x) k);
}

abbrev firsts : List Held → List Expr
firsts = map (λ h. h.0)

members_spelled : (held : List Held) → AllByRecursion IsFormed (firsts held) → AllByRecursion IsKept (firsts held) → SpellAll (map written (firsts held)) (firsts held)
members_spelled [] f k = none_left
members_spelled (h ∷ held) f k = one_more (written h.0) (map written (firsts held)) h.0 (firsts held) (h.1 f.0 k.0) (members_spelled held f.1 k.1)

as_many : (es : List Expr) → 2 ≤ length es → 2 ≤ length (map written es)
as_many es some = rw (length-map es written) some

along : (tree : Json) (e f : Expr) → f ≡ e → Spells tree e → Spells tree f
along tree e f is h = subst (Spells tree) (sym is) h

level_spelled : (y : Expr-F Held) → Level (expr_of y) → Spells (level (map-Expr Expr Json written (expr_of y))) (roll-Expr (expr_of y))
unfolding operator_named
level_spelled (outer.Const truth) l = along _ (exprs.Const truth) _ (exprs.rolls-Const truth) (const (trees.Truth truth) truth refl)
level_spelled (outer.And held) l =
    let es = firsts held in
    along _ (exprs.And es) _ (exprs.rolls-And es)
    (called (codes "and") And (map written es) (exprs.And es) refl (conjunction (map written es) es (as_many es l.formed) (members_spelled held l.members_formed l.members_kept)))
level_spelled (outer.Or held) l =
    let es = firsts held in
    along _ (exprs.Or es) _ (exprs.rolls-Or es)
    (called (codes "or") Or (map written es) (exprs.Or es) refl (disjunction (map written es) es (as_many es l.formed) (members_spelled held l.members_formed l.members_kept)))
level_spelled (outer.Not h) l =
    along _ (exprs.Not h.0) _ (exprs.rolls-Not h.0)
    (called (codes "not") Not (written h.0 ∷ []) (exprs.Not h.0) refl (negation (written h.0) h.0 (h.1 l.members_formed.0 l.members_kept.0)))
level_spelled (outer.Compare op left right) l =
    along _ (exprs.Compare op left right) _ (exprs.rolls-Compare op left right)
    (comparison_spelled op left right (record { formed = l.formed.0; kept = l.kept.0 }) (record { formed = l.formed.1; kept = l.kept.1 }))
level_spelled (outer.IsNull operand) l =
    along _ (exprs.IsNull operand) _ (exprs.rolls-IsNull operand) (null_spelled operand (record { formed = l.formed; kept = l.kept }))
level_spelled (outer.Between operand low high) l =
    along _ (exprs.Between operand low high) _ (exprs.rolls-Between operand low high)
    (between_spelled operand low high (record { formed = l.formed.0; kept = l.kept.0 }) (record { formed = l.formed.1; kept = l.kept.1 }) (record { formed = l.formed.2; kept = l.kept.2 }))
level_spelled (outer.Among operand scalars) l =
    along _ (exprs.Among operand scalars) _ (exprs.rolls-Among operand scalars)
    (among_spelled operand scalars (record { formed = l.formed.0; kept = l.kept.0 })
    (list_spelled scalars l.formed.1 (recursion_from_All IsFormedScalar scalars l.formed.2) (recursion_from_All IsKeptScalar scalars l.kept.1)))
level_spelled (outer.Like operand pattern) l =
    along _ (exprs.Like operand pattern) _ (exprs.rolls-Like operand pattern) (like_spelled operand pattern (record { formed = l.formed; kept = l.kept.0 }))
level_spelled (outer.Meets left right) l =
    along _ (exprs.Meets left right) _ (exprs.rolls-Meets left right) (meets_spelled left right l.formed.0 l.kept.0 l.formed.1 l.kept.1)

each : (y : Expr-F Held) → Good (roll-Expr (expr_of y))
each y f k = subst (λ (tree : Json). Spells tree (roll-Expr (expr_of y))) (sym (fold-roll-Expr Json level (expr_of y))) (level_spelled y (level_at (expr_of y) f k))

expr_spelled : (e : Expr) → Good e
expr_spelled = ind-Expr Good (λ x y is. subst (λ (l : Expr-F Expr). Good (roll-Expr l)) is (each y))

pub filter_again : (expr : Expr) (tree : Json) → IsFilter expr → tree ≡ written expr → IsCqlTree tree expr
filter_again expr tree is e = record { spelled = subst (λ (t : Json). Spells t expr) (sym e) (expr_spelled expr is.formed is.kept); checked = is }

-- ---- the code's

pub and_written : (members : List Expr) → written (exprs.And members) ≡ call (codes "and") (map written members)
and_written members = ap written (sym (exprs.rolls-And members)) ∙ fold-roll-Expr Json level (outer.And members)

pub or_written : (members : List Expr) → written (exprs.Or members) ≡ call (codes "or") (map written members)
or_written members = ap written (sym (exprs.rolls-Or members)) ∙ fold-roll-Expr Json level (outer.Or members)

pub not_written : (member : Expr) → written (exprs.Not member) ≡ call (codes "not") (written member ∷ [])
not_written member = ap written (sym (exprs.rolls-Not member)) ∙ fold-roll-Expr Json level (outer.Not member)
