-- The needs of single predicates.
use Rattle.std.proofs.Common.{◌≡◌, ◌⊎◌, inl, inr, ℕ, ℤ, ◌≤ℤ◌, Bool, true, false, cond, ◌&&◌, ◌||◌, List, [], ◌∷◌, map, refl, sym, ap, ◌∙◌, subst, arith, true≢false, int_le}
use Rattle.std.specs.Prelude.{Option, Some, None, option_map, unwrap_or}
use Rattle.std.specs.Str.{bytes_eq}
use Rattle.std.specs.Cmp.Lexicographic.{bytes_decides}
use Rattle.sc_item.specs.Feature.{Feature}
use Rattle.sc_expr.specs.declared.scalar.Scalar.{Scalar}
use Rattle.sc_expr.specs.declared.expr.CompOp.{CompOp}
use Rattle.sc_expr.specs.declared.expr.CompOp.TheVariants.{Eq, Ne, Lt, Gt, Le, Ge}
use Rattle.sc_expr.specs.declared.expr.Truth3.{Truth3}
use Rattle.sc_expr.specs.declared.expr.Truth3.TheVariants.{True, False, Unknown}
use Rattle.sc_eval.specs.Property.{PropertyValue}
use Rattle.sc_eval.specs.Comparison.{compared, and3, or3, any3}
use Rattle.sc_eval.specs.Meaning.{value_in}
use Rattle.sc_need.specs.declared.need.Need.{Need}
use Rattle.sc_need.specs.declared.need.Limits.{Limits}
use Rattle.sc_need.specs.Need.{free, of_starts, of_collections, moment_of, text_of, is_time, is_collection, limits_by, turned, is_equal, against, or_else, compare_need, range_need, between_need, onto, texts_of, names_need, among_need}
use Rattle.sc_eval.specs.Selection.{is_one_of, is_listed}
use Rattle.sc_need.specs.Match.{may_lie, may_touch, Satisfies}
use Rattle.sc_need.proofs.Comparing.{time_left, time_right, names_equal, names_right, and_both}

pub meets_free : (item : Feature) → Satisfies free item
meets_free item = record { listed = refl; start = refl; end = refl; place = tt }

module _ (item : Feature) where
  abbrev value : Scalar → PropertyValue
  value = value_in item

  meets_starts : (limits : Limits) → may_lie limits (Some (item.start, item.start)) ≡ true → Satisfies (of_starts limits) item
  meets_starts limits e = record { listed = refl; start = e; end = refl; place = tt }

  meets_names : (names : List (List ℕ)) → is_one_of names item.collection ≡ true → Satisfies (of_collections names) item
  meets_names names e = record { listed = e; start = refl; end = refl; place = tt }

  same_bytes : (a b : List ℕ) → a ≡ b → bytes_eq a b ≡ true
  same_bytes a b e = (bytes_decides a b).1 e

  one_name : (t : List ℕ) → t ≡ item.collection → is_one_of (t ∷ []) item.collection ≡ true
  one_name t e = rw (same_bytes item.collection t (sym e)) refl

  is_eq_op : (op : CompOp) → is_equal op ≡ true → op ≡ Eq
  is_eq_op Eq e = refl
  is_eq_op Ne e = cc
  is_eq_op Lt e = cc
  is_eq_op Gt e = cc
  is_eq_op Le e = cc
  is_eq_op Ge e = cc

  is_eq_turned : (op : CompOp) → is_equal (turned op) ≡ true → op ≡ Eq
  is_eq_turned Eq e = refl
  is_eq_turned Ne e = cc
  is_eq_turned Lt e = cc
  is_eq_turned Gt e = cc
  is_eq_turned Le e = cc
  is_eq_turned Ge e = cc

  and_left : (a b : Bool) → (a && b) ≡ true → a ≡ true
  and_left true b e = refl
  and_left false b e = e

  and_right : (a b : Bool) → (a && b) ≡ true → b ≡ true
  and_right true b e = e
  and_right false b e = cc

  some_same : {X : Type 0} (a b : X) → Some a ≡ Some b → a ≡ b
  some_same a b e = ap (λ o. unwrap_or o a) e

  -- a need that is made of a literal
  made : {X : Type 0} (f : X → Need) (o : Option X) (n : Need) → option_map f o ≡ Some n → ((x : X) → o ≡ Some x → Satisfies (f x) item) → Satisfies n item
  made f None n e g = cc
  made f (Some x) n e g = subst (λ m. Satisfies m item) (some_same (f x) n e) (g x refl)

  left_meets : (op : CompOp) (l r : Scalar) (n : Need) → against op l r ≡ Some n → compared op (value l) (value r) ≡ True → Satisfies n item
  unfolding against
  left_meets op l r n e h = go (is_time l) refl e
    where
      names : (b : Bool) → (is_equal op && is_collection l) ≡ b → cond b (option_map (λ name. of_collections (name ∷ [])) (text_of r)) None ≡ Some n → Satisfies n item
      names true b e =
          let eq : op ≡ Eq = is_eq_op op (and_left (is_equal op) (is_collection l) b) in
          made (λ name. of_collections (name ∷ [])) (text_of r) n e
          (λ t k. meets_names (t ∷ []) (one_name t (names_equal item l r t (and_right (is_equal op) (is_collection l) b) k (subst (λ (o : CompOp). compared o (value l) (value r) ≡ True) eq h))))
      names false b e = cc

      go : (b : Bool) → is_time l ≡ b → cond b (option_map (λ at. of_starts (limits_by op at)) (moment_of r)) (cond (is_equal op && is_collection l) (option_map (λ name. of_collections (name ∷ [])) (text_of r)) None) ≡ Some n → Satisfies n item
      go true t e = made (λ at. of_starts (limits_by op at)) (moment_of r) n e (λ m k. meets_starts (limits_by op m) (time_left item op l r m t k h))
      go false t e = names (is_equal op && is_collection l) refl e

  right_meets : (op : CompOp) (l r : Scalar) (n : Need) → against (turned op) r l ≡ Some n → compared op (value l) (value r) ≡ True → Satisfies n item
  unfolding against
  right_meets op l r n e h = go (is_time r) refl e
    where
      names : (b : Bool) → (is_equal (turned op) && is_collection r) ≡ b → cond b (option_map (λ name. of_collections (name ∷ [])) (text_of l)) None ≡ Some n → Satisfies n item
      names true b e =
          let eq : op ≡ Eq = is_eq_turned op (and_left (is_equal (turned op)) (is_collection r) b) in
          made (λ name. of_collections (name ∷ [])) (text_of l) n e
          (λ t k. meets_names (t ∷ []) (one_name t (names_right item l r t (and_right (is_equal (turned op)) (is_collection r) b) k (subst (λ (o : CompOp). compared o (value l) (value r) ≡ True) eq h))))
      names false b e = cc

      go : (b : Bool) → is_time r ≡ b → cond b (option_map (λ at. of_starts (limits_by (turned op) at)) (moment_of l)) (cond (is_equal (turned op) && is_collection r) (option_map (λ name. of_collections (name ∷ [])) (text_of l)) None) ≡ Some n → Satisfies n item
      go true t e = made (λ at. of_starts (limits_by (turned op) at)) (moment_of l) n e (λ m k. meets_starts (limits_by (turned op) m) (time_right item op l r m t k h))
      go false t e = names (is_equal (turned op) && is_collection r) refl e

  pub compare_meets : (op : CompOp) (l r : Scalar) → compared op (value l) (value r) ≡ True → Satisfies (compare_need op l r) item
  compare_meets op l r h = go (against op l r) refl (against (turned op) r l) refl
    where
      go : (a : Option Need) → against op l r ≡ a → (b : Option Need) → against (turned op) r l ≡ b → Satisfies (or_else a b) item
      go (Some n) e b f = left_meets op l r n e h
      go None e (Some n) f = right_meets op l r n f h
      go None e None f = meets_free item

  -- ---- between

  all_true : (t u : Truth3) → and3 t u ≡ True → (t ≡ True) × (u ≡ True)
  all_true True u e = (refl, e)
  all_true False u e = cc
  all_true Unknown True e = cc
  all_true Unknown False e = cc
  all_true Unknown Unknown e = cc

  pub between_meets : (o l h : Scalar) → and3 (compared Ge (value o) (value l)) (compared Le (value o) (value h)) ≡ True → Satisfies (between_need o l h) item
  between_meets o l h e = go (all_true (compared Ge (value o) (value l)) (compared Le (value o) (value h)) e) (is_time o) refl (moment_of l) refl (moment_of h) refl
    where
      go : ((compared Ge (value o) (value l) ≡ True) × (compared Le (value o) (value h) ≡ True)) → (b : Bool) → is_time o ≡ b → (x : Option ℤ) → moment_of l ≡ x → (y : Option ℤ) → moment_of h ≡ y → Satisfies (cond b (range_need x y) free) item
      go both false t x p y q = meets_free item
      go both true t None p y q = meets_free item
      go both true t (Some x) p None q = meets_free item
      go both true t (Some x) p (Some y) q =
          meets_starts (record { low = Some x; high = Some y })
          (and_both (int_le x item.start) (int_le item.start y) (and_left (int_le x item.start) true (time_left item Ge o l x t p both.0)) (and_right true (int_le item.start y) (time_left item Le o h y t q both.1)))

  -- ---- among

  any_true : (t u : Truth3) → or3 t u ≡ True → (t ≡ True) ⊎ (u ≡ True)
  any_true True u e = inl refl
  any_true False u e = inr e
  any_true Unknown True e = inr refl
  any_true Unknown False e = cc
  any_true Unknown Unknown e = cc

  or_right : (a b : Bool) → b ≡ true → (a || b) ≡ true
  or_right true b e = refl
  or_right false b e = e

  or_left : (a b : Bool) → a ≡ true → (a || b) ≡ true
  or_left true b e = refl
  or_left false b e = cc

  one_of_texts : (o : Scalar) (ss : List Scalar) (names : List (List ℕ)) → is_collection o ≡ true → texts_of ss ≡ Some names → any3 (map (λ s. compared Eq (value o) (value s)) ss) ≡ True → is_one_of names item.collection ≡ true
  one_of_texts o [] names c t e = cc
  one_of_texts o (s ∷ ss) names c t e = go (text_of s) refl (texts_of ss) refl t (any_true (compared Eq (value o) (value s)) (any3 (map (λ s. compared Eq (value o) (value s)) ss)) e) (λ rest k. one_of_texts o ss rest c k)
    where
      go : (a : Option (List ℕ)) → text_of s ≡ a → (b : Option (List (List ℕ))) → texts_of ss ≡ b → onto a b ≡ Some names
          → ((compared Eq (value o) (value s) ≡ True) ⊎ (any3 (map (λ s. compared Eq (value o) (value s)) ss) ≡ True))
          → ((rest : List (List ℕ)) → texts_of ss ≡ Some rest → any3 (map (λ s. compared Eq (value o) (value s)) ss) ≡ True → is_one_of rest item.collection ≡ true)
          → is_one_of names item.collection ≡ true
      go None p b q t h more = cc
      go (Some a) p None q t h more = cc
      go (Some a) p (Some rest) q t (inl h) more =
          subst (λ n. is_one_of n item.collection ≡ true) (some_same (a ∷ rest) names t) (or_left (bytes_eq item.collection a) (is_one_of rest item.collection) (same_bytes item.collection a (sym (names_equal item o s a c p h))))
      go (Some a) p (Some rest) q t (inr h) more =
          subst (λ n. is_one_of n item.collection ≡ true) (some_same (a ∷ rest) names t) (or_right (bytes_eq item.collection a) (is_one_of rest item.collection) (more rest q h))

  pub among_meets : (o : Scalar) (ss : List Scalar) → any3 (map (λ s. compared Eq (value o) (value s)) ss) ≡ True → Satisfies (among_need o ss) item
  among_meets o ss e = go (is_collection o) refl (texts_of ss) refl
    where
      go : (b : Bool) → is_collection o ≡ b → (n : Option (List (List ℕ))) → texts_of ss ≡ n → Satisfies (cond b (names_need n) free) item
      go false c n t = meets_free item
      go true c None t = meets_free item
      go true c (Some names) t = meets_names names (one_of_texts o ss names c t e)
