-- What a selected item has: the need of a filter holds of each item of which the filter is true.
use Rattle.std.proofs.Common.{◌≡◌, ◌⊎◌, inl, inr, ℕ, ℤ, ◌≤ℤ◌, ◌<ℤ◌, Bool, true, false, cond, ◌&&◌, ◌||◌, List, [], ◌∷◌, ◌++◌, map, filter, refl, sym, ap, ◌∙◌, subst, arith, rules, true≢false, Ordering, int_le, int_lt}
use Rattle.std.specs.Prelude.{Option, Some, None, option_map}
use Rattle.std.specs.Ordering.{int_cmp, is_eq, is_lt, is_gt, is_le, is_ge, is_ne}
use Rattle.std.specs.Str.{bytes_eq}
use Rattle.std.specs.List.{AllByRecursion, list_any, list_all}
use Rattle.std.specs.Int.{int_min, int_max}
use Rattle.std.proofs.lemmas.Int.{ints, clamps}
use Rattle.std.specs.Cmp.Lexicographic.{bytes_decides}
use Rattle.sc_item.specs.Feature.{Feature}
use Rattle.sc_expr.specs.declared.expr.CompOp.{CompOp}
use Rattle.sc_expr.specs.declared.expr.CompOp.TheVariants.{Eq, Ne, Lt, Gt, Le, Ge}
use Rattle.sc_expr.specs.declared.expr.Truth3.{Truth3}
use Rattle.sc_expr.specs.declared.expr.Truth3.TheVariants.{True, False, Unknown}
use Rattle.sc_expr.specs.declared.expr.Expr.{Expr}
use Rattle.sc_expr.specs.declared.expr.Expr.TheOpen as outer
use Rattle.sc_expr.specs.declared.expr.Expr.TheOpen.{Expr-F}
use Rattle.sc_expr.specs.declared.expr.Expr.TheViews.{roll-Expr, out-roll-Expr}
use Rattle.sc_expr.specs.declared.expr.Expr.TheFolds.{map-Expr, fold-roll-Expr, ind-Expr}
use Rattle.sc_eval.specs.Comparison.{and3, all3, or3, any3}
use Rattle.sc_eval.specs.Meaning.{level_truth, truth_in}
use Rattle.sc_need.specs.declared.need.Need.{Need}
use Rattle.sc_need.specs.declared.need.Limits.{Limits}
use Rattle.sc_need.specs.Need.{free, no_limits, both, all_needs, either, any_need, both_limits, both_names, greater, lesser, wider, either_limits, either_names, joined, merged, without_places, need_level, need_in}
use Rattle.sc_eval.specs.Selection.{is_one_of, is_listed}
use Rattle.sc_need.specs.Need.{meets_need}
use Rattle.sc_eval.specs.Meaning.{met, shape_in}
use Rattle.sc_expr.specs.declared.scalar.Shape.{Shape}
use Rattle.sc_expr.specs.declared.scalar.Shape.TheVariants as shapes
use Rattle.sc_expr.specs.Kept.{IsKeptShape, IsKeptLevel, IsKept}
use Rattle.sc_expr.proofs.Every.{members_in, every_level, every_member}
use Rattle.sc_item.specs.Feature.{IsPlaceOf, IsShaped}
use Rattle.sc_need.proofs.Places.{IsShapeKept, met_meets}
use Rattle.sc_need.proofs.Predicates.{meets_free, compare_meets, between_meets, among_meets}
use Rattle.sc_need.specs.Match.{from_low, to_high, may_lie, may_touch, Satisfies}

or_right : (a b : Bool) → b ≡ true → (a || b) ≡ true
or_right true b e = refl
or_right false b e = e

bytes_same : (a b : List ℕ) → bytes_eq a b ≡ true → a ≡ b
bytes_same a b e = (bytes_decides a b).0 e

le_test : (a b : ℤ) → int_le a b ≡ true → a ≤ℤ b
le_test a b e = search (rules, e)

le_tested : (a b : ℤ) → a ≤ℤ b → int_le a b ≡ true
le_tested a b h = search (rules, h)

and_both : (a b : Bool) → a ≡ true → b ≡ true → (a && b) ≡ true
and_both true true e f = refl
and_both true false e f = f
and_both false b e f = e

and_left : (a b : Bool) → (a && b) ≡ true → a ≡ true
and_left true b e = refl
and_left false b e = e

and_right : (a b : Bool) → (a && b) ≡ true → b ≡ true
and_right true b e = e
and_right false b e = cc

-- ---- both

low_both : (a b : Option ℤ) (at : ℤ) → from_low a at ≡ true → from_low b at ≡ true → from_low (greater a b) at ≡ true
low_both None b at e f = f
low_both (Some x) None at e f = e
low_both (Some x) (Some y) at e f = elim (int_lt y x) as (λ b. int_le (cond b x y) at ≡ true) [ true ↦ e | false ↦ f ]

high_both : (a b : Option ℤ) (at : ℤ) → to_high a at ≡ true → to_high b at ≡ true → to_high (lesser a b) at ≡ true
high_both None b at e f = f
high_both (Some x) None at e f = e
high_both (Some x) (Some y) at e f = elim (int_lt y x) as (λ b. int_le at (cond b y x) ≡ true) [ true ↦ f | false ↦ e ]

limits_both : (a b : Limits) (at : ℤ) → may_lie a (Some (at, at)) ≡ true → may_lie b (Some (at, at)) ≡ true → may_lie (both_limits a b) (Some (at, at)) ≡ true
limits_both a b at e f =
    and_both (from_low (greater a.low b.low) at) (to_high (lesser a.high b.high) at)
    (low_both a.low b.low at (and_left (from_low a.low at) (to_high a.high at) e) (and_left (from_low b.low at) (to_high b.high at) f))
    (high_both a.high b.high at (and_right (from_low a.low at) (to_high a.high at) e) (and_right (from_low b.low at) (to_high b.high at) f))

names_filtered : (p : List ℕ → Bool) (names : List (List ℕ)) (name : List ℕ) → p name ≡ true → is_one_of names name ≡ true → is_one_of (filter p names) name ≡ true
names_filtered p [] name e f = f
names_filtered p (n ∷ names) name e f = go (bytes_eq name n) refl f (names_filtered p names name e)
  where
    keep : (b : Bool) → p n ≡ b → bytes_eq name n ≡ true → is_one_of (cond b (n ∷ filter p names) (filter p names)) name ≡ true
    keep true h g = rw g refl
    keep false h g = absurd (true≢false (sym e ∙ ap p (bytes_same name n g) ∙ h))

    later : (b : Bool) → is_one_of (filter p names) name ≡ true → is_one_of (cond b (n ∷ filter p names) (filter p names)) name ≡ true
    later true h = or_right (bytes_eq name n) (is_one_of (filter p names) name) h
    later false h = h

    go : (b : Bool) → bytes_eq name n ≡ b → (b || is_one_of names name) ≡ true → (is_one_of names name ≡ true → is_one_of (filter p names) name ≡ true) → is_one_of (filter p (n ∷ names)) name ≡ true
    go true g h more = keep (p n) refl g
    go false g h more = later (p n) (more h)

names_both : (a b : Option (List (List ℕ))) (name : List ℕ) → is_listed a name ≡ true → is_listed b name ≡ true → is_listed (both_names a b) name ≡ true
names_both None b name e f = f
names_both (Some x) None name e f = e
names_both (Some x) (Some y) name e f = names_filtered (is_one_of y) x name f e

all_append : {X : Type 0} (P : X → Type 0) (xs ys : List X) → AllByRecursion P xs → AllByRecursion P ys → AllByRecursion P (xs ++ ys)
all_append P [] ys a b = b
all_append P (x ∷ xs) ys a b = (a.0, all_append P xs ys a.1 b)

pub meets_both : (a b : Need) (item : Feature) → Satisfies a item → Satisfies b item → Satisfies (both a b) item
meets_both a b item m n = record {
  listed = names_both a.collections b.collections item.collection m.listed n.listed;
  start = limits_both a.starts b.starts item.start m.start n.start;
  end = limits_both a.ends b.ends item.end m.end n.end;
  place = all_append (λ boxes. may_touch item.place boxes ≡ true) a.places b.places m.place n.place;
}

-- ---- either

low_left : (a b : Option ℤ) (at : ℤ) → from_low a at ≡ true → from_low (wider int_min a b) at ≡ true
low_left None b at e = refl
low_left (Some x) None at e = refl
low_left (Some x) (Some y) at e = let h = le_test x at e in le_tested (int_min x y) at (omega (arith, ints, clamps, h))

low_right : (a b : Option ℤ) (at : ℤ) → from_low b at ≡ true → from_low (wider int_min a b) at ≡ true
low_right None b at e = refl
low_right (Some x) None at e = refl
low_right (Some x) (Some y) at e = let h = le_test y at e in le_tested (int_min x y) at (omega (arith, ints, clamps, h))

high_left : (a b : Option ℤ) (at : ℤ) → to_high a at ≡ true → to_high (wider int_max a b) at ≡ true
high_left None b at e = refl
high_left (Some x) None at e = refl
high_left (Some x) (Some y) at e = let h = le_test at x e in le_tested at (int_max x y) (omega (arith, ints, clamps, h))

high_right : (a b : Option ℤ) (at : ℤ) → to_high b at ≡ true → to_high (wider int_max a b) at ≡ true
high_right None b at e = refl
high_right (Some x) None at e = refl
high_right (Some x) (Some y) at e = let h = le_test at y e in le_tested at (int_max x y) (omega (arith, ints, clamps, h))

limits_left : (a b : Limits) (at : ℤ) → may_lie a (Some (at, at)) ≡ true → may_lie (either_limits a b) (Some (at, at)) ≡ true
limits_left a b at e =
    and_both (from_low (wider int_min a.low b.low) at) (to_high (wider int_max a.high b.high) at)
    (low_left a.low b.low at (and_left (from_low a.low at) (to_high a.high at) e)) (high_left a.high b.high at (and_right (from_low a.low at) (to_high a.high at) e))

limits_right : (a b : Limits) (at : ℤ) → may_lie b (Some (at, at)) ≡ true → may_lie (either_limits a b) (Some (at, at)) ≡ true
limits_right a b at e =
    and_both (from_low (wider int_min a.low b.low) at) (to_high (wider int_max a.high b.high) at)
    (low_right a.low b.low at (and_left (from_low b.low at) (to_high b.high at) e)) (high_right a.high b.high at (and_right (from_low b.low at) (to_high b.high at) e))

one_left : (a b : List (List ℕ)) (name : List ℕ) → is_one_of a name ≡ true → is_one_of (a ++ b) name ≡ true
one_left [] b name e = cc
one_left (x ∷ a) b name e = go (bytes_eq name x) e (one_left a b name)
  where
    go : (t : Bool) → (t || is_one_of a name) ≡ true → (is_one_of a name ≡ true → is_one_of (a ++ b) name ≡ true) → (t || is_one_of (a ++ b) name) ≡ true
    go true e more = refl
    go false e more = more e

one_right : (a b : List (List ℕ)) (name : List ℕ) → is_one_of b name ≡ true → is_one_of (a ++ b) name ≡ true
one_right [] b name e = e
one_right (x ∷ a) b name e = go (bytes_eq name x) (one_right a b name e)
  where
    go : (t : Bool) → is_one_of (a ++ b) name ≡ true → (t || is_one_of (a ++ b) name) ≡ true
    go true e = refl
    go false e = e

names_left : (a b : Option (List (List ℕ))) (name : List ℕ) → is_listed a name ≡ true → is_listed (either_names a b) name ≡ true
names_left None b name e = refl
names_left (Some x) None name e = refl
names_left (Some x) (Some y) name e = one_left x y name e

names_right : (a b : Option (List (List ℕ))) (name : List ℕ) → is_listed b name ≡ true → is_listed (either_names a b) name ≡ true
names_right None b name e = refl
names_right (Some x) None name e = refl
names_right (Some x) (Some y) name e = one_right x y name e

meets_left : (a b : Need) (item : Feature) → Satisfies a item → Satisfies (either a b) item
meets_left a b item m = record {
  listed = names_left a.collections b.collections item.collection m.listed;
  start = limits_left a.starts b.starts item.start m.start;
  end = limits_left a.ends b.ends item.end m.end;
  place = tt;
}

meets_right : (a b : Need) (item : Feature) → Satisfies b item → Satisfies (either a b) item
meets_right a b item m = record {
  listed = names_right a.collections b.collections item.collection m.listed;
  start = limits_right a.starts b.starts item.start m.start;
  end = limits_right a.ends b.ends item.end m.end;
  place = tt;
}

-- ---- expressions

module _ (item : Feature) (placed : IsPlaceOf item.geom item.place) (shaped : IsShaped item.geom) where
  shape_kept : (s : Shape) → IsKeptShape s → IsShapeKept s
  shape_kept (shapes.Prop name) k = tt
  shape_kept (shapes.Geom g) k = k

  abbrev Good : Expr → Type 0
  Good e = IsKept e → truth_in item e ≡ True → Satisfies (need_in e) item

  abbrev Held : Type 0
  Held = (e : Expr) × Good e

  abbrev firsts : List Held → List Expr
  firsts = map (λ h. h.0)

  all_true : (t u : Truth3) → and3 t u ≡ True → (t ≡ True) × (u ≡ True)
  all_true True u e = (refl, e)
  all_true False u e = cc
  all_true Unknown True e = cc
  all_true Unknown False e = cc
  all_true Unknown Unknown e = cc

  meets_all : (need : Need) (held : List Held) → Satisfies need item → AllByRecursion IsKept (firsts held) → all3 (map (truth_in item) (firsts held)) ≡ True → Satisfies (joined need (map need_in (firsts held))) item
  meets_all need [] m k e = m
  meets_all need (h ∷ held) m k e =
      let t = all_true (truth_in item h.0) (all3 (map (truth_in item) (firsts held))) e in
      meets_all (both need (need_in h.0)) held (meets_both need (need_in h.0) item m (h.1 k.0 t.0)) k.1 t.1

  any_true : (t u : Truth3) → or3 t u ≡ True → (t ≡ True) ⊎ (u ≡ True)
  any_true True u e = inl refl
  any_true False u e = inr e
  any_true Unknown True e = inr refl
  any_true Unknown False e = cc
  any_true Unknown Unknown e = cc

  -- the needs so far are met, or one that comes is
  meets_merged : (need : Need) (held : List Held) → AllByRecursion IsKept (firsts held) → (Satisfies need item ⊎ (any3 (map (truth_in item) (firsts held)) ≡ True)) → Satisfies (merged need (map need_in (firsts held))) item
  meets_merged need [] k (inl m) = m
  meets_merged need [] k (inr e) = cc
  meets_merged need (h ∷ held) k (inl m) = meets_merged (either need (need_in h.0)) held k.1 (inl (meets_left need (need_in h.0) item m))
  meets_merged need (h ∷ held) k (inr e) = meets_merged (either need (need_in h.0)) held k.1 (go (any_true (truth_in item h.0) (any3 (map (truth_in item) (firsts held))) e))
    where
      go : ((truth_in item h.0 ≡ True) ⊎ (any3 (map (truth_in item) (firsts held)) ≡ True)) → (Satisfies (either need (need_in h.0)) item ⊎ (any3 (map (truth_in item) (firsts held)) ≡ True))
      go (inl t) = inl (meets_right need (need_in h.0) item (h.1 k.0 t))
      go (inr f) = inr f

  only : (n : Need) → Satisfies n item → Satisfies (without_places n) item
  only n m = record { listed = m.listed; start = m.start; end = m.end; place = tt }

  meets_any : (h : Held) (held : List Held) → AllByRecursion IsKept (firsts (h ∷ held)) → any3 (map (truth_in item) (firsts (h ∷ held))) ≡ True → Satisfies (any_need (map need_in (firsts (h ∷ held)))) item
  meets_any h held k e = meets_merged (without_places (need_in h.0)) held k.1 (go (any_true (truth_in item h.0) (any3 (map (truth_in item) (firsts held))) e))
    where
      go : ((truth_in item h.0 ≡ True) ⊎ (any3 (map (truth_in item) (firsts held)) ≡ True)) → (Satisfies (without_places (need_in h.0)) item ⊎ (any3 (map (truth_in item) (firsts held)) ≡ True))
      go (inl t) = inl (only (need_in h.0) (h.1 k.0 t))
      go (inr f) = inr f

  abbrev expr_of : Expr-F Held → Expr-F Expr
  expr_of = map-Expr Held Expr (λ h. h.0)

  level_meets : (y : Expr-F Held) → IsKeptLevel (expr_of y) → AllByRecursion IsKept (members_in (expr_of y)) → level_truth item (map-Expr Expr Truth3 (truth_in item) (expr_of y)) ≡ True → Satisfies (need_level (map-Expr Expr Need need_in (expr_of y))) item
  level_meets (outer.Const b) k m e = meets_free item
  level_meets (outer.And held) k m e = meets_all free held (meets_free item) m e
  level_meets (outer.Or []) k m e = meets_free item
  level_meets (outer.Or (h ∷ held)) k m e = meets_any h held m e
  level_meets (outer.Not h) k m e = meets_free item
  level_meets (outer.Compare op left right) k m e = compare_meets item op left right e
  level_meets (outer.IsNull operand) k m e = meets_free item
  level_meets (outer.Between operand low high) k m e = between_meets item operand low high e
  level_meets (outer.Among operand listed) k m e = among_meets item operand listed e
  level_meets (outer.Like operand pattern) k m e = meets_free item
  level_meets (outer.Meets left right) k m e = met_meets item placed shaped left right (shape_kept left k.0) (shape_kept right k.1) e

  each : (y : Expr-F Held) → Good (roll-Expr (expr_of y))
  each y k e =
      subst (λ n. Satisfies n item) (sym (fold-roll-Expr Need need_level (expr_of y)))
      (level_meets y (subst IsKeptLevel (out-roll-Expr (expr_of y)) (every_level IsKeptLevel (roll-Expr (expr_of y)) k))
      (subst (λ (x : Expr-F Expr). AllByRecursion IsKept (members_in x)) (out-roll-Expr (expr_of y)) (every_member IsKeptLevel (roll-Expr (expr_of y)) k)) (sym (fold-roll-Expr Truth3 (level_truth item) (expr_of y)) ∙ e))

  pub need_holds : (e : Expr) → Good e
  need_holds = ind-Expr Good (λ x y is. subst (λ (l : Expr-F Expr). Good (roll-Expr l)) is (each y))
