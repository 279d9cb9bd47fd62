-- The tokens behind a scalar are read as the test of it.
use Rattle.std.proofs.Common.{◌≡◌, inl, inr, ℕ, List, [], ◌∷◌, ◌++◌, None, refl, subst, append_assoc, append-nil}
use Rattle.sc_grammar.specs.Grammar.{tok, non, act}
use Rattle.sc_grammar.specs.declared.token.Class.TheVariants as classes
use Rattle.sc_grammar.specs.declared.token.Token.{Token}
use Rattle.sc_cqlgrammar.specs.declared.rule.Rule.TheVariants as rules
use Rattle.sc_cqlgrammar.specs.declared.mark.Mark.TheVariants as marks
use Rattle.sc_cqlgrammar.specs.Rules.{Items}
use Rattle.sc_expr.specs.declared.scalar.Scalar.{Scalar}
use Rattle.sc_expr.specs.declared.scalar.Pattern.{Pattern}
use Rattle.sc_expr.specs.declared.expr.CompOp.{CompOp}
use Rattle.sc_expr.specs.declared.expr.CompOp.TheVariants as ops
use Rattle.sc_expr.specs.declared.expr.Expr.{Expr}
use Rattle.sc_expr.specs.declared.expr.Expr.TheVariants as exprs
use Rattle.sc_cqlread.specs.Reading.{Reading, does}
use Rattle.sc_forms.specs.Forms.{sign_of, ScalarOf, ScalarsOf, last_scalar, more_scalars, PatternOf, NegatableOf, between, among, like, TestOf, compare, is_null, is_not_null, plain_test, negated_test}
use Rattle.sc_forms.proofs.Giving.{Ready, Any, At, Gives, gives_none, gives_append, gives_rule, gives_then, gives_mark, gives_marked, gives_token, made, gives_made}
use Rattle.sc_forms.proofs.Scalars.{put, with_pattern, scalar_read, pattern_read}

abbrev pub with_expr : Expr → Ready → Ready
with_expr e x = record x { exprs = e ∷ x.exprs }

-- no list is open, and no pattern stands ready
abbrev pub clean : Ready → Ready
clean x = record x { listed = []; pattern = None }

abbrev listing : List Scalar → Ready → Ready
listing ls x = record x { listed = ls }

module _ (chars : List ℕ) where
  -- ---- lists

  abbrev element_on : Items
  element_on = act marks.Element ∷ non rules.ScalarRest ∷ []

  element : (s : Scalar) (ls : List Scalar) (x : Ready) (r : Reading) → At (put s (listing ls x)) r → At (listing (ls ++ s ∷ []) x) (does chars marks.Element r)
  element s ls x = made chars marks.Element (put s (listing ls x)) (listing (ls ++ s ∷ []) x) (λ e. cc) (λ k b. refl)

  scalars_read : (ts : List Token) (ss : List Scalar) → ScalarsOf chars ts ss → (ls : List Scalar) (x : Ready) → Gives chars (non rules.Scalar ∷ element_on) (At (listing ls x)) (At (listing (ls ++ ss) x)) ts
  scalars_read _ _ (last_scalar ts s h) ls x =
      let y = listing ls x in let z = listing (ls ++ s ∷ []) x in
      subst (Gives chars (non rules.Scalar ∷ element_on) (At y) (At z)) (append-nil ts)
      (gives_then chars rules.Scalar element_on (At y) (At (put s y)) (At z) ts [] (scalar_read chars ts s h y)
      (gives_mark chars marks.Element (non rules.ScalarRest ∷ []) (At (put s y)) (At z) (At z) [] (element s ls x)
      (gives_rule chars rules.ScalarRest [] (At z) (At z) [] (inr (inl refl)) (gives_none chars (At z)))))
  scalars_read _ _ (more_scalars ts us c s ss h comma more) ls x =
      let y = listing ls x in let v = listing (ls ++ s ∷ []) x in let z = listing (ls ++ s ∷ ss) x in
      let rest : Gives chars (non rules.Scalar ∷ element_on) (At v) (At z) us =
      subst (λ (l : List Scalar). Gives chars (non rules.Scalar ∷ element_on) (At v) (At (listing l x)) us) (append_assoc ls (s ∷ []) ss) (scalars_read us ss more (ls ++ s ∷ []) x) in
      gives_then chars rules.Scalar element_on (At y) (At (put s y)) (At z) ts (c ∷ us) (scalar_read chars ts s h y)
      (gives_mark chars marks.Element (non rules.ScalarRest ∷ []) (At (put s y)) (At v) (At z) (c ∷ us) (element s ls x)
      (gives_rule chars rules.ScalarRest (tok classes.Comma ∷ non rules.Scalar ∷ element_on) (At v) (At z) (c ∷ us) (inl refl)
      (gives_token chars classes.Comma c (non rules.Scalar ∷ element_on) v Any (At z) us comma refl rest)))

  -- ---- tests

  abbrev Tests : Scalar → List Token → Expr → Type 0
  Tests s ts e = (x : Ready) → Gives chars (non rules.Test ∷ []) (At (put s (clean x))) (At (clean (with_expr e x))) ts

  abbrev Negatables : Scalar → List Token → Expr → Type 0
  Negatables s ts e = (x : Ready) → Gives chars (non rules.Negatable ∷ []) (At (put s (clean x))) (At (clean (with_expr e x))) ts

  between_read : (s : Scalar) (b a : Token) (ls hs : List Token) (low high : Scalar) → b.class ≡ classes.Between → a.class ≡ classes.And → ScalarOf chars ls low → ScalarOf chars hs high → Negatables s (b ∷ (ls ++ a ∷ hs)) (exprs.Between s low high)
  between_read s b a ls hs low high be ae l h x =
      let y = put s (clean x) in let v = put low y in let w = put high v in let z = clean (with_expr (exprs.Between s low high) x) in
      gives_rule chars rules.Negatable (tok classes.Between ∷ non rules.Scalar ∷ tok classes.And ∷ non rules.Scalar ∷ act marks.Between ∷ []) (At y) (At z) (b ∷ (ls ++ a ∷ hs)) (inl refl)
      (gives_token chars classes.Between b (non rules.Scalar ∷ tok classes.And ∷ non rules.Scalar ∷ act marks.Between ∷ []) y Any (At z) (ls ++ a ∷ hs) be refl
      (gives_then chars rules.Scalar (tok classes.And ∷ non rules.Scalar ∷ act marks.Between ∷ []) (At y) (At v) (At z) ls (a ∷ hs) (scalar_read chars ls low l y)
      (gives_token chars classes.And a (non rules.Scalar ∷ act marks.Between ∷ []) v Any (At z) hs ae refl
      (gives_marked chars rules.Scalar marks.Between (At v) (At w) (At z) hs (scalar_read chars hs high h v) (made chars marks.Between w z (λ e. cc) (λ k b. refl))))))

  among_ended : (s : Scalar) (ts : List Token) (ss : List Scalar) → ScalarsOf chars ts ss → (x : Ready) (r : Reading) → At (listing ss (put s (clean x))) r → At (clean (with_expr (exprs.Among s ss) x)) (does chars marks.Among r)
  among_ended s _ _ (last_scalar ts o h) x = made chars marks.Among (listing (o ∷ []) (put s (clean x))) (clean (with_expr (exprs.Among s (o ∷ [])) x)) (λ e. cc) (λ k b. refl)
  among_ended s _ _ (more_scalars ts us c o ss h comma more) x = made chars marks.Among (listing (o ∷ ss) (put s (clean x))) (clean (with_expr (exprs.Among s (o ∷ ss)) x)) (λ e. cc) (λ k b. refl)

  among_read : (s : Scalar) (i o c : Token) (ts : List Token) (ss : List Scalar) → i.class ≡ classes.In → o.class ≡ classes.Opening → c.class ≡ classes.Closing → ScalarsOf chars ts ss → Negatables s (i ∷ o ∷ (ts ++ c ∷ [])) (exprs.Among s ss)
  among_read s i o c ts ss ie oe ce h x =
      let y = put s (clean x) in let w = listing ss y in let z = clean (with_expr (exprs.Among s ss) x) in
      let end : Items = tok classes.Closing ∷ act marks.Among ∷ [] in
      let list : Items = non rules.Scalar ∷ act marks.Element ∷ non rules.ScalarRest ∷ end in
      gives_rule chars rules.Negatable (tok classes.In ∷ tok classes.Opening ∷ act marks.List ∷ list) (At y) (At z) (i ∷ o ∷ (ts ++ c ∷ [])) (inr (inl refl))
      (gives_token chars classes.In i (tok classes.Opening ∷ act marks.List ∷ list) y Any (At z) (o ∷ (ts ++ c ∷ [])) ie refl
      (gives_token chars classes.Opening o (act marks.List ∷ list) y Any (At z) (ts ++ c ∷ []) oe refl
      (gives_mark chars marks.List list (At y) (At y) (At z) (ts ++ c ∷ []) (made chars marks.List y y (λ e. cc) (λ k b. refl))
      (gives_append chars (non rules.Scalar ∷ element_on) end (At y) (At w) (At z) ts (c ∷ []) (scalars_read ts ss h [] (put s (clean x)))
      (gives_token chars classes.Closing c (act marks.Among ∷ []) w Any (At z) [] ce refl
      (gives_mark chars marks.Among [] (At w) (At z) (At z) [] (among_ended s ts ss h x) (gives_none chars (At z))))))))

  like_read : (s : Scalar) (l : Token) (ts : List Token) (p : Pattern) → l.class ≡ classes.Like → PatternOf chars ts p → Negatables s (l ∷ ts) (exprs.Like s p)
  like_read s l ts p le h x =
      let y = put s (clean x) in let v = with_pattern p y in let z = clean (with_expr (exprs.Like s p) x) in
      gives_rule chars rules.Negatable (tok classes.Like ∷ non rules.Pattern ∷ act marks.Like ∷ []) (At y) (At z) (l ∷ ts) (inr (inr (inl refl)))
      (gives_token chars classes.Like l (non rules.Pattern ∷ act marks.Like ∷ []) y Any (At z) ts le refl
      (gives_marked chars rules.Pattern marks.Like (At y) (At v) (At z) ts (pattern_read chars ts p h y) (made chars marks.Like v z (λ e. cc) (λ k b. refl))))

  negatable_read : (s : Scalar) (ts : List Token) (e : Expr) → NegatableOf chars s ts e → Negatables s ts e
  negatable_read s _ _ (between b a ls hs low high are l h) = between_read s b a ls hs low high are.0 are.1.0 l h
  negatable_read s _ _ (among i o c ts ss are h) = among_read s i o c ts ss are.0 are.1.0 are.1.1.0 h
  negatable_read s _ _ (like l ts p le h) = like_read s l ts p le h

  compare_read : (s : Scalar) (t : Token) (op : CompOp) (ts : List Token) (right : Scalar) → t.class ≡ sign_of op → ScalarOf chars ts right → Tests s (t ∷ ts) (exprs.Compare op s right)
  compare_read s t ops.Eq ts right te h x =
      let y = put s (clean x) in let v = put right y in let z = clean (with_expr (exprs.Compare ops.Eq s right) x) in
      gives_rule chars rules.Test (tok classes.Equal ∷ non rules.Scalar ∷ act marks.Equal ∷ []) (At y) (At z) (t ∷ ts) (inl refl)
      (gives_token chars classes.Equal t (non rules.Scalar ∷ act marks.Equal ∷ []) y Any (At z) ts te refl
      (gives_marked chars rules.Scalar marks.Equal (At y) (At v) (At z) ts (scalar_read chars ts right h y) (made chars marks.Equal v z (λ e. cc) (λ k b. refl))))
  compare_read s t ops.Ne ts right te h x =
      let y = put s (clean x) in let v = put right y in let z = clean (with_expr (exprs.Compare ops.Ne s right) x) in
      gives_rule chars rules.Test (tok classes.NotEqual ∷ non rules.Scalar ∷ act marks.NotEqual ∷ []) (At y) (At z) (t ∷ ts) (inr (inl refl))
      (gives_token chars classes.NotEqual t (non rules.Scalar ∷ act marks.NotEqual ∷ []) y Any (At z) ts te refl
      (gives_marked chars rules.Scalar marks.NotEqual (At y) (At v) (At z) ts (scalar_read chars ts right h y) (made chars marks.NotEqual v z (λ e. cc) (λ k b. refl))))
  compare_read s t ops.Lt ts right te h x =
      let y = put s (clean x) in let v = put right y in let z = clean (with_expr (exprs.Compare ops.Lt s right) x) in
      gives_rule chars rules.Test (tok classes.Less ∷ non rules.Scalar ∷ act marks.Less ∷ []) (At y) (At z) (t ∷ ts) (inr (inr (inl refl)))
      (gives_token chars classes.Less t (non rules.Scalar ∷ act marks.Less ∷ []) y Any (At z) ts te refl
      (gives_marked chars rules.Scalar marks.Less (At y) (At v) (At z) ts (scalar_read chars ts right h y) (made chars marks.Less v z (λ e. cc) (λ k b. refl))))
  compare_read s t ops.Gt ts right te h x =
      let y = put s (clean x) in let v = put right y in let z = clean (with_expr (exprs.Compare ops.Gt s right) x) in
      gives_rule chars rules.Test (tok classes.Greater ∷ non rules.Scalar ∷ act marks.Greater ∷ []) (At y) (At z) (t ∷ ts) (inr (inr (inr (inl refl))))
      (gives_token chars classes.Greater t (non rules.Scalar ∷ act marks.Greater ∷ []) y Any (At z) ts te refl
      (gives_marked chars rules.Scalar marks.Greater (At y) (At v) (At z) ts (scalar_read chars ts right h y) (made chars marks.Greater v z (λ e. cc) (λ k b. refl))))
  compare_read s t ops.Le ts right te h x =
      let y = put s (clean x) in let v = put right y in let z = clean (with_expr (exprs.Compare ops.Le s right) x) in
      gives_rule chars rules.Test (tok classes.AtMost ∷ non rules.Scalar ∷ act marks.AtMost ∷ []) (At y) (At z) (t ∷ ts) (inr (inr (inr (inr (inl refl)))))
      (gives_token chars classes.AtMost t (non rules.Scalar ∷ act marks.AtMost ∷ []) y Any (At z) ts te refl
      (gives_marked chars rules.Scalar marks.AtMost (At y) (At v) (At z) ts (scalar_read chars ts right h y) (made chars marks.AtMost v z (λ e. cc) (λ k b. refl))))
  compare_read s t ops.Ge ts right te h x =
      let y = put s (clean x) in let v = put right y in let z = clean (with_expr (exprs.Compare ops.Ge s right) x) in
      gives_rule chars rules.Test (tok classes.AtLeast ∷ non rules.Scalar ∷ act marks.AtLeast ∷ []) (At y) (At z) (t ∷ ts) (inr (inr (inr (inr (inr (inl refl))))))
      (gives_token chars classes.AtLeast t (non rules.Scalar ∷ act marks.AtLeast ∷ []) y Any (At z) ts te refl
      (gives_marked chars rules.Scalar marks.AtLeast (At y) (At v) (At z) ts (scalar_read chars ts right h y) (made chars marks.AtLeast v z (λ e. cc) (λ k b. refl))))

  -- ---- NOT within a test

  null_read : (s : Scalar) (n : Token) → n.class ≡ classes.Null → (x : Ready) (is : Items) (R : Reading → Type 0) → Gives chars is (At (clean (with_expr (exprs.IsNull s) x))) R [] → Gives chars (tok classes.Null ∷ act marks.IsNull ∷ is) (At (put s (clean x))) R (n ∷ [])
  null_read s n ne x is R h =
      let y = put s (clean x) in let z = clean (with_expr (exprs.IsNull s) x) in
      gives_token chars classes.Null n (act marks.IsNull ∷ is) y Any R [] ne refl (gives_mark chars marks.IsNull is (At y) (At z) R [] (made chars marks.IsNull y z (λ e. cc) (λ k b. refl)) h)

  gives_negated : (e : Expr) (x : Ready) → Gives chars (act marks.Negate ∷ []) (At (clean (with_expr e x))) (At (clean (with_expr (exprs.Not e) x))) []
  gives_negated e x = gives_made chars marks.Negate (clean (with_expr e x)) (clean (with_expr (exprs.Not e) x)) (λ e. cc) (λ k b. refl)

  pub test_read : (s : Scalar) (ts : List Token) (e : Expr) → TestOf chars s ts e → Tests s ts e
  test_read s _ _ (compare t op ts right te h) x = compare_read s t op ts right te h x
  test_read s _ _ (is_null i n are) x =
      let y = put s (clean x) in let z = clean (with_expr (exprs.IsNull s) x) in
      gives_rule chars rules.Test (tok classes.Is ∷ non rules.NullTest ∷ []) (At y) (At z) (i ∷ n ∷ []) (inr (inr (inr (inr (inr (inr (inl refl)))))))
      (gives_token chars classes.Is i (non rules.NullTest ∷ []) y Any (At z) (n ∷ []) are.0 refl
      (gives_rule chars rules.NullTest (tok classes.Null ∷ act marks.IsNull ∷ []) (At y) (At z) (n ∷ []) (inl refl)
      (null_read s n are.1.0 x [] (At z) (gives_none chars (At z)))))
  test_read s _ _ (is_not_null i t n are) x =
      let y = put s (clean x) in let z = clean (with_expr (exprs.Not (exprs.IsNull s)) x) in
      gives_rule chars rules.Test (tok classes.Is ∷ non rules.NullTest ∷ []) (At y) (At z) (i ∷ t ∷ n ∷ []) (inr (inr (inr (inr (inr (inr (inl refl)))))))
      (gives_token chars classes.Is i (non rules.NullTest ∷ []) y Any (At z) (t ∷ n ∷ []) are.0 refl
      (gives_rule chars rules.NullTest (tok classes.Not ∷ tok classes.Null ∷ act marks.IsNull ∷ act marks.Negate ∷ []) (At y) (At z) (t ∷ n ∷ []) (inr (inl refl))
      (gives_token chars classes.Not t (tok classes.Null ∷ act marks.IsNull ∷ act marks.Negate ∷ []) y Any (At z) (n ∷ []) are.1.0 refl
      (null_read s n are.1.1.0 x (act marks.Negate ∷ []) (At z) (gives_negated (exprs.IsNull s) x)))))
  test_read s _ _ (plain_test ts e h) x =
      gives_rule chars rules.Test (non rules.Negatable ∷ []) (At (put s (clean x))) (At (clean (with_expr e x))) ts (inr (inr (inr (inr (inr (inr (inr (inr (inl refl))))))))) (negatable_read s ts e h x)
  test_read s _ _ (negated_test t ts e te h) x =
      let y = put s (clean x) in let v = clean (with_expr e x) in let z = clean (with_expr (exprs.Not e) x) in
      gives_rule chars rules.Test (tok classes.Not ∷ non rules.Negatable ∷ act marks.Negate ∷ []) (At y) (At z) (t ∷ ts) (inr (inr (inr (inr (inr (inr (inr (inl refl))))))))
      (gives_token chars classes.Not t (non rules.Negatable ∷ act marks.Negate ∷ []) y Any (At z) ts te refl
      (gives_marked chars rules.Negatable marks.Negate (At y) (At v) (At z) ts (negatable_read s ts e h x) (made chars marks.Negate v z (λ e. cc) (λ k b. refl))))
