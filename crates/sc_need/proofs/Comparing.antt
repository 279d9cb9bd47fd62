-- What a comparison that is true says of an item's start and collection.
use Rattle.std.proofs.Common.{◌≡◌, ℕ, ℤ, ◌≤ℤ◌, ◌<ℤ◌, ◌<◌, Bool, true, false, cond, ◌&&◌, ◌||◌, List, [], ◌∷◌, refl, sym, ap, ◌∙◌, subst, arith, rules, true≢false, Ordering, Less, Equal, Greater, int_le}
use Rattle.std.specs.Prelude.{Option, Some, None, option_map, unwrap_or}
use Rattle.std.specs.Ordering.{int_cmp, MatchOrdering}
use Rattle.std.proofs.lemmas.Cmp.{int_ranked}
use Rattle.std.proofs.lemmas.Int.{ints}
use Rattle.sc_base.specs.Text.{text_order}
use Rattle.std.specs.Ordering.{nat_cmp, ordering_then}
use Rattle.std.proofs.lemmas.Cmp.{ranked, by_ranked}
use Rattle.sc_item.specs.Feature.{Feature}
use Rattle.sc_expr.specs.declared.scalar.Scalar.{Scalar}
use Rattle.sc_expr.specs.declared.scalar.Scalar.TheOpen as inner
use Rattle.sc_expr.specs.declared.scalar.Scalar.TheOpen.{Scalar-F}
use Rattle.sc_expr.specs.declared.scalar.Scalar.TheViews.{out-Scalar, roll-out-Scalar}
use Rattle.sc_expr.specs.declared.scalar.Scalar.TheFolds.{map-Scalar, fold-roll-Scalar}
use Rattle.sc_expr.specs.declared.expr.CompOp.{CompOp}
use Rattle.sc_expr.specs.declared.expr.CompOp.TheVariants.{Eq, Ne, Lt, Gt, Le, Ge}
use Rattle.sc_expr.specs.declared.expr.Truth3.{Truth3}
use Rattle.sc_expr.specs.declared.expr.Truth3.TheVariants.{True, False, Unknown}
use Rattle.sc_sort.specs.Named.{Named, Id, Collection, Geometry, Time, Member, named, is_time as asks_time}
use Rattle.sc_eval.specs.Property.{PropertyValue, text, moment, value_named, property_value}
use Rattle.sc_eval.specs.Comparison.{instant_of, order_of, against as time_against, read_against, known, truth_of, compared, holds}
use Rattle.sc_eval.specs.Meaning.{value_level, value_in}
use Rattle.sc_need.specs.declared.need.Need.{Need}
use Rattle.sc_need.specs.Need.{free, asks_collection, of_starts, of_collections, moment_in, moment_of, text_in, text_of, name_in, is_time_name, is_collection_name, is_time, is_collection, limits_by, turned, is_equal, against, or_else, compare_need}
use Rattle.sc_need.specs.Match.{may_lie, Satisfies}

then_equal : (o p : Ordering) → ordering_then o p ≡ Equal → (o ≡ Equal) × (p ≡ Equal)
then_equal Less p e = cc
then_equal Equal p e = (refl, e)
then_equal Greater p e = cc

number_tie : (x y : ℕ) → nat_cmp x y ≡ Equal → x ≡ y
number_tie x y e = by_ranked (x < y) (x ≡ y) (y < x) (nat_cmp x y) (ranked x y (nat_cmp x y) refl) (λ l _. cc (l, e)) (λ _ h. h) (λ g _. cc (g, e))

text_tie : (a b : List ℕ) → text_order a b ≡ Equal → a ≡ b
text_tie [] [] e = refl
text_tie [] (y ∷ ys) e = cc
text_tie (x ∷ xs) [] e = cc
text_tie (x ∷ xs) (y ∷ ys) e =
    let t = then_equal (nat_cmp x y) (text_order xs ys) e in
    let h : x ≡ y = number_tie x y t.0 in
    let u : xs ≡ ys = text_tie xs ys t.1 in
    cc

le_tested : (a b : ℤ) → a ≤ℤ b → int_le a b ≡ true
le_tested a b h = search (rules, h)

pub and_both : (a b : Bool) → a ≡ true → b ≡ true → (a && b) ≡ true
and_both true true e f = refl
and_both true false e f = f
and_both false b e f = e

time_named : (n : Named) (item : Feature) → asks_time n ≡ true → value_named n item ≡ moment item.start
time_named Time item e = refl
time_named Id item e = cc
time_named Collection item e = cc
time_named Geometry item e = cc
time_named (Member name) item e = cc

collection_named : (n : Named) (item : Feature) → asks_collection n ≡ true → value_named n item ≡ text item.collection
collection_named Collection item e = refl
collection_named Id item e = cc
collection_named Time item e = cc
collection_named Geometry item e = cc
collection_named (Member name) item e = cc

-- ---- orders

less_holds : (op : CompOp) (s m : ℤ) (o : Ordering) → MatchOrdering o (s <ℤ m) (s ≡ m) (m <ℤ s) → known (holds op o) ≡ True → may_lie (limits_by op m) (Some (s, s)) ≡ true
less_holds Eq s m Equal h e = let a : m ≤ℤ s = omega (arith, ints, h) in let b : s ≤ℤ m = omega (arith, ints, h) in and_both (int_le m s) (int_le s m) (le_tested m s a) (le_tested s m b)
less_holds Eq s m Less h e = cc
less_holds Eq s m Greater h e = cc
less_holds Ne s m o h e = refl
less_holds Lt s m Less h e = let b : s ≤ℤ m = omega (arith, ints, h) in le_tested s m b
less_holds Lt s m Equal h e = cc
less_holds Lt s m Greater h e = cc
less_holds Gt s m Greater h e = let b : m ≤ℤ s = omega (arith, ints, h) in and_both (int_le m s) true (le_tested m s b) refl
less_holds Gt s m Equal h e = cc
less_holds Gt s m Less h e = cc
less_holds Le s m Less h e = let b : s ≤ℤ m = omega (arith, ints, h) in le_tested s m b
less_holds Le s m Equal h e = let b : s ≤ℤ m = omega (arith, ints, h) in le_tested s m b
less_holds Le s m Greater h e = cc
less_holds Ge s m Greater h e = let b : m ≤ℤ s = omega (arith, ints, h) in and_both (int_le m s) true (le_tested m s b) refl
less_holds Ge s m Equal h e = let b : m ≤ℤ s = omega (arith, ints, h) in and_both (int_le m s) true (le_tested m s b) refl
less_holds Ge s m Less h e = cc

turned_holds : (op : CompOp) (s m : ℤ) (o : Ordering) → MatchOrdering o (m <ℤ s) (m ≡ s) (s <ℤ m) → known (holds op o) ≡ True → may_lie (limits_by (turned op) m) (Some (s, s)) ≡ true
turned_holds Eq s m Equal h e = let a : m ≤ℤ s = omega (arith, ints, h) in let b : s ≤ℤ m = omega (arith, ints, h) in and_both (int_le m s) (int_le s m) (le_tested m s a) (le_tested s m b)
turned_holds Eq s m Less h e = cc
turned_holds Eq s m Greater h e = cc
turned_holds Ne s m o h e = refl
turned_holds Gt s m Greater h e = let b : s ≤ℤ m = omega (arith, ints, h) in le_tested s m b
turned_holds Gt s m Equal h e = cc
turned_holds Gt s m Less h e = cc
turned_holds Lt s m Less h e = let b : m ≤ℤ s = omega (arith, ints, h) in and_both (int_le m s) true (le_tested m s b) refl
turned_holds Lt s m Equal h e = cc
turned_holds Lt s m Greater h e = cc
turned_holds Ge s m Greater h e = let b : s ≤ℤ m = omega (arith, ints, h) in le_tested s m b
turned_holds Ge s m Equal h e = let b : s ≤ℤ m = omega (arith, ints, h) in le_tested s m b
turned_holds Ge s m Less h e = cc
turned_holds Le s m Less h e = let b : m ≤ℤ s = omega (arith, ints, h) in and_both (int_le m s) true (le_tested m s b) refl
turned_holds Le s m Equal h e = let b : m ≤ℤ s = omega (arith, ints, h) in and_both (int_le m s) true (le_tested m s b) refl
turned_holds Le s m Greater h e = cc

module _ (item : Feature) where
  abbrev value : Scalar → PropertyValue
  value = value_in item

  abbrev level : Scalar-F Scalar → PropertyValue
  level x = value_level item (map-Scalar Scalar PropertyValue value x)

  value_at : (s : Scalar) → value s ≡ level (out-Scalar s)
  value_at s = ap value (sym (roll-out-Scalar s)) ∙ fold-roll-Scalar PropertyValue (value_level item) (out-Scalar s)

  time_level : (x : Scalar-F Scalar) → is_time_name (name_in x) ≡ true → level x ≡ moment item.start
  unfolding property_value
  time_level (inner.Prop name) e = time_named (named name) item e
  time_level (inner.Text t) e = cc
  time_level (inner.Number n) e = cc
  time_level (inner.Truth b) e = cc
  time_level (inner.Moment at) e = cc
  time_level (inner.Folded s) e = cc

  pub time_value : (s : Scalar) → is_time s ≡ true → value s ≡ moment item.start
  unfolding is_time
  time_value s e = value_at s ∙ time_level (out-Scalar s) e

  collection_level : (x : Scalar-F Scalar) → is_collection_name (name_in x) ≡ true → level x ≡ text item.collection
  unfolding property_value
  collection_level (inner.Prop name) e = collection_named (named name) item e
  collection_level (inner.Text t) e = cc
  collection_level (inner.Number n) e = cc
  collection_level (inner.Truth b) e = cc
  collection_level (inner.Moment at) e = cc
  collection_level (inner.Folded s) e = cc

  pub collection_value : (s : Scalar) → is_collection s ≡ true → value s ≡ text item.collection
  unfolding is_collection
  collection_value s e = value_at s ∙ collection_level (out-Scalar s) e

  some_same : {X : Type 0} (a b : X) → Some a ≡ Some b → a ≡ b
  some_same a b e = ap (λ o. unwrap_or o a) e

  text_level : (x : Scalar-F Scalar) (t : List ℕ) → text_in x ≡ Some t → level x ≡ text t
  text_level (inner.Text u) t e = ap text (some_same u t e)
  text_level (inner.Prop name) t e = cc
  text_level (inner.Number n) t e = cc
  text_level (inner.Truth b) t e = cc
  text_level (inner.Moment at) t e = cc
  text_level (inner.Folded s) t e = cc

  pub text_value : (s : Scalar) (t : List ℕ) → text_of s ≡ Some t → value s ≡ text t
  unfolding text_of
  text_value s t e = value_at s ∙ text_level (out-Scalar s) t e

  moment_level : (x : Scalar-F Scalar) (m at : ℤ) → moment_in x ≡ Some m → (order_of (moment at) (level x) ≡ Some (int_cmp at m)) × (order_of (level x) (moment at) ≡ Some (int_cmp m at))
  unfolding order_of
  moment_level (inner.Moment n) m at e = let h = some_same n m e in (ap (λ (k : ℤ). Some (int_cmp at k)) h, ap (λ (k : ℤ). Some (int_cmp k at)) h)
  moment_level (inner.Text t) m at e = (ap (time_against at) e, ap (λ o. read_against o at) e)
  moment_level (inner.Prop name) m at e = cc
  moment_level (inner.Number n) m at e = cc
  moment_level (inner.Truth b) m at e = cc
  moment_level (inner.Folded s) m at e = cc

  pub moment_value : (s : Scalar) (m at : ℤ) → moment_of s ≡ Some m → (order_of (moment at) (value s) ≡ Some (int_cmp at m)) × (order_of (value s) (moment at) ≡ Some (int_cmp m at))
  unfolding moment_of
  moment_value s m at e =
      subst (λ v. (order_of (moment at) v ≡ Some (int_cmp at m)) × (order_of v (moment at) ≡ Some (int_cmp m at))) (sym (value_at s)) (moment_level (out-Scalar s) m at e)

  -- ---- both sides

  pub time_left : (op : CompOp) (l r : Scalar) (m : ℤ) → is_time l ≡ true → moment_of r ≡ Some m → compared op (value l) (value r) ≡ True → may_lie (limits_by op m) (Some (item.start, item.start)) ≡ true
  time_left op l r m t k e =
      let o : order_of (value l) (value r) ≡ Some (int_cmp item.start m) = ap (λ v. order_of v (value r)) (time_value l t) ∙ (moment_value r m item.start k).0 in
      less_holds op item.start m (int_cmp item.start m) (int_ranked item.start m (int_cmp item.start m) refl) (ap (truth_of op) (sym o) ∙ e)

  pub time_right : (op : CompOp) (l r : Scalar) (m : ℤ) → is_time r ≡ true → moment_of l ≡ Some m → compared op (value l) (value r) ≡ True → may_lie (limits_by (turned op) m) (Some (item.start, item.start)) ≡ true
  time_right op l r m t k e =
      let o : order_of (value l) (value r) ≡ Some (int_cmp m item.start) = ap (order_of (value l)) (time_value r t) ∙ (moment_value l m item.start k).1 in
      turned_holds op item.start m (int_cmp m item.start) (int_ranked m item.start (int_cmp m item.start) refl) (ap (truth_of op) (sym o) ∙ e)

  equal_texts : (a b : List ℕ) → compared Eq (text a) (text b) ≡ True → a ≡ b
  unfolding order_of
  equal_texts a b e = go (text_order a b) refl e
    where
      go : (o : Ordering) → text_order a b ≡ o → truth_of Eq (Some o) ≡ True → a ≡ b
      go Equal h e = text_tie a b h
      go Less h e = cc
      go Greater h e = cc

  pub names_equal : (l r : Scalar) (t : List ℕ) → is_collection l ≡ true → text_of r ≡ Some t → compared Eq (value l) (value r) ≡ True → t ≡ item.collection
  names_equal l r t c k e = sym (equal_texts item.collection t (subst (λ v. compared Eq (text item.collection) v ≡ True) (text_value r t k) (subst (λ v. compared Eq v (value r) ≡ True) (collection_value l c) e)))

  pub names_right : (l r : Scalar) (t : List ℕ) → is_collection r ≡ true → text_of l ≡ Some t → compared Eq (value l) (value r) ≡ True → t ≡ item.collection
  names_right l r t c k e = equal_texts t item.collection (subst (λ v. compared Eq v (text item.collection) ≡ True) (text_value l t k) (subst (λ v. compared Eq (value l) v ≡ True) (collection_value r c) e))
