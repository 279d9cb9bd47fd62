-- The tokens of a scalar are read as the scalar, and those of a pattern as the pattern.
use Rattle.std.proofs.Common.{◌≡◌, ◌⊎◌, inl, inr, ℕ, List, [], ◌∷◌, ◌++◌, Bool, true, false, Some, refl, sym, subst}
use Rattle.sc_decimal.specs.Number.{Number}
use Rattle.sc_grammar.specs.Grammar.{tok, non, act}
use Rattle.sc_grammar.specs.declared.token.Class.{Class}
use Rattle.sc_grammar.specs.declared.token.Class.TheVariants as classes
use Rattle.sc_grammar.specs.declared.token.Token.{Token}
use Rattle.sc_cqlgrammar.specs.declared.rule.Rule.TheVariants as rules
use Rattle.sc_cqlgrammar.specs.declared.mark.Mark.TheVariants as marks
use Rattle.sc_expr.specs.declared.scalar.Scalar.{Scalar}
use Rattle.sc_expr.specs.declared.scalar.Scalar.TheVariants as scalars
use Rattle.sc_expr.specs.declared.scalar.Pattern.{Pattern}
use Rattle.sc_cqlvalue.specs.Values as values
use Rattle.sc_cqlvalue.specs.Literals.{bytes_of, text_of, name_of, dec_of}
use Rattle.sc_cqlread.specs.Reading.{Reading}
use Rattle.sc_forms.specs.Forms.{IsName, ScalarOf, name, text, number, is_true, is_false, timestamp, date, casei, PatternOf, plain_pattern, folded_pattern}
use Rattle.sc_forms.proofs.Giving.{Ready, Is, Any, OfLast, At, Gives, IsNarrow, gives_none, gives_rule, gives_then, gives_mark, gives_marked, gives_last, gives_token, made, made_of, gives_made, gives_literal}

abbrev pub put : Scalar → Ready → Ready
put s x = record x { scalars = s ∷ x.scalars }

abbrev pub with_pattern : Pattern → Ready → Ready
with_pattern p x = record x { pattern = Some p }

module _ (chars : List ℕ) where
  -- ---- names and numbers

  pub name_read : (t : Token) → IsName t.class → (x : Ready) → Gives chars (non rules.Name ∷ []) (At x) (Is x (OfLast t Any)) (t ∷ [])
  name_read t is x = of_class t.class refl is
    where
      last : (c : Class) → t.class ≡ c → IsNarrow chars c t → Gives chars (tok c ∷ []) (At x) (Is x (OfLast t Any)) (t ∷ [])
      last c e narrow = gives_last chars c t [] x Any (Is x (OfLast t Any)) [] e narrow (gives_none chars (Is x (OfLast t Any)))

      of_class : (c : Class) → t.class ≡ c → IsName c → Gives chars (non rules.Name ∷ []) (At x) (Is x (OfLast t Any)) (t ∷ [])
      of_class classes.Name e i = gives_rule chars rules.Name (tok classes.Name ∷ []) (At x) (Is x (OfLast t Any)) (t ∷ []) (inl refl) (last classes.Name e refl)
      of_class classes.QuotedName e i = gives_rule chars rules.Name (tok classes.QuotedName ∷ []) (At x) (Is x (OfLast t Any)) (t ∷ []) (inr (inl refl)) (last classes.QuotedName e refl)
      of_class classes.Z e i = gives_rule chars rules.Name (tok classes.Z ∷ []) (At x) (Is x (OfLast t Any)) (t ∷ []) (inr (inr (inl refl))) (last classes.Z e refl)
      of_class _ e i = absurd i

  pub narrow_number : (t : Token) (n : Number) → dec_of (bytes_of chars t) ≡ Some n → IsNarrow chars classes.Number t
  narrow_number t n e = rw e refl

  -- ---- operands

  abbrev Operands : List Token → Scalar → Type 0
  Operands ts s = (x : Ready) → Gives chars (non rules.Operand ∷ []) (At x) (At (put s x)) ts

  abbrev pub Scalars : List Token → Scalar → Type 0
  Scalars ts s = (x : Ready) → Gives chars (non rules.Scalar ∷ []) (At x) (At (put s x)) ts

  name_operand : (t : Token) (n : List ℕ) → IsName t.class → name_of t.class (bytes_of chars t) ≡ Some n → Operands (t ∷ []) (scalars.Prop n)
  name_operand t n class value x =
      let y = put (scalars.Prop n) x in
      gives_rule chars rules.Operand (non rules.Name ∷ act marks.Property ∷ []) (At x) (At y) (t ∷ []) (inl refl)
      (gives_marked chars rules.Name marks.Property (At x) (Is x (OfLast t Any)) (At y) (t ∷ []) (name_read t class x)
      (made_of chars marks.Property x y t (λ e. cc) (λ b. rw value refl)))

  text_operand : (t : Token) (s : List ℕ) → t.class ≡ classes.Text → text_of (bytes_of chars t) ≡ Some s → Operands (t ∷ []) (scalars.Text s)
  text_operand t s class value x =
      let y = put (scalars.Text s) x in
      gives_rule chars rules.Operand (tok classes.Text ∷ act marks.Text ∷ []) (At x) (At y) (t ∷ []) (inr (inl refl))
      (gives_literal chars classes.Text t marks.Text [] x y (At y) [] class refl (λ e. cc) (λ b. rw value refl) (gives_none chars (At y)))

  number_operand : (t : Token) (n : Number) → t.class ≡ classes.Number → dec_of (bytes_of chars t) ≡ Some n → Operands (t ∷ []) (scalars.Number n)
  number_operand t n class value x =
      let y = put (scalars.Number n) x in
      gives_rule chars rules.Operand (tok classes.Number ∷ act marks.Number ∷ []) (At x) (At y) (t ∷ []) (inr (inr (inl refl)))
      (gives_literal chars classes.Number t marks.Number [] x y (At y) [] class (narrow_number t n value) (λ e. cc) (λ b. rw value refl) (gives_none chars (At y)))

  timestamp_operand : (w o t c : Token) (s : Scalar) → w.class ≡ classes.Timestamp → o.class ≡ classes.Opening → t.class ≡ classes.Text → c.class ≡ classes.Closing → values.instant_scalar_of chars t ≡ Some s → Operands (w ∷ o ∷ t ∷ c ∷ []) s
  timestamp_operand w o t c s we oe te ce value x =
      let y = put s x in
      gives_rule chars rules.Operand (tok classes.Timestamp ∷ tok classes.Opening ∷ tok classes.Text ∷ act marks.Instant ∷ tok classes.Closing ∷ []) (At x) (At y) (w ∷ o ∷ t ∷ c ∷ []) (inr (inr (inr (inl refl))))
      (gives_token chars classes.Timestamp w (tok classes.Opening ∷ tok classes.Text ∷ act marks.Instant ∷ tok classes.Closing ∷ []) x Any (At y) (o ∷ t ∷ c ∷ []) we refl
      (gives_token chars classes.Opening o (tok classes.Text ∷ act marks.Instant ∷ tok classes.Closing ∷ []) x Any (At y) (t ∷ c ∷ []) oe refl
      (gives_literal chars classes.Text t marks.Instant (tok classes.Closing ∷ []) x y (At y) (c ∷ []) te refl (λ e. cc) (λ b. rw value refl)
      (gives_token chars classes.Closing c [] y Any (At y) [] ce refl (gives_none chars (At y))))))

  date_operand : (w o t c : Token) (s : Scalar) → w.class ≡ classes.Date → o.class ≡ classes.Opening → t.class ≡ classes.Text → c.class ≡ classes.Closing → values.day_scalar_of chars t ≡ Some s → Operands (w ∷ o ∷ t ∷ c ∷ []) s
  date_operand w o t c s we oe te ce value x =
      let y = put s x in
      gives_rule chars rules.Operand (tok classes.Date ∷ tok classes.Opening ∷ tok classes.Text ∷ act marks.Day ∷ tok classes.Closing ∷ []) (At x) (At y) (w ∷ o ∷ t ∷ c ∷ []) (inr (inr (inr (inr (inl refl)))))
      (gives_token chars classes.Date w (tok classes.Opening ∷ tok classes.Text ∷ act marks.Day ∷ tok classes.Closing ∷ []) x Any (At y) (o ∷ t ∷ c ∷ []) we refl
      (gives_token chars classes.Opening o (tok classes.Text ∷ act marks.Day ∷ tok classes.Closing ∷ []) x Any (At y) (t ∷ c ∷ []) oe refl
      (gives_literal chars classes.Text t marks.Day (tok classes.Closing ∷ []) x y (At y) (c ∷ []) te refl (λ e. cc) (λ b. rw value refl)
      (gives_token chars classes.Closing c [] y Any (At y) [] ce refl (gives_none chars (At y))))))

  casei_operand : (w o c : Token) (ts : List Token) (s : Scalar) → w.class ≡ classes.Casei → o.class ≡ classes.Opening → c.class ≡ classes.Closing → Scalars ts s → Operands (w ∷ o ∷ (ts ++ c ∷ [])) (scalars.Folded s)
  casei_operand w o c ts s we oe ce h x =
      let v = put s x in let y = put (scalars.Folded s) x in
      gives_rule chars rules.Operand (tok classes.Casei ∷ tok classes.Opening ∷ non rules.Scalar ∷ tok classes.Closing ∷ act marks.Fold ∷ []) (At x) (At y) (w ∷ o ∷ (ts ++ c ∷ [])) (inr (inr (inr (inr (inr (inl refl))))))
      (gives_token chars classes.Casei w (tok classes.Opening ∷ non rules.Scalar ∷ tok classes.Closing ∷ act marks.Fold ∷ []) x Any (At y) (o ∷ (ts ++ c ∷ [])) we refl
      (gives_token chars classes.Opening o (non rules.Scalar ∷ tok classes.Closing ∷ act marks.Fold ∷ []) x Any (At y) (ts ++ c ∷ []) oe refl
      (gives_then chars rules.Scalar (tok classes.Closing ∷ act marks.Fold ∷ []) (At x) (At v) (At y) ts (c ∷ []) (h x)
      (gives_token chars classes.Closing c (act marks.Fold ∷ []) v Any (At y) [] ce refl (gives_made chars marks.Fold v y (λ e. cc) (λ k b. refl))))))

  -- ---- scalars: an operand, or TRUE or FALSE

  abbrev truth_class : Bool → Class
  truth_class true = classes.True
  truth_class false = classes.False

  record IsTruth (ts : List Token) (s : Scalar) : Type 0 where
    token : Token
    truth : Bool
    tokens_are : ts ≡ token ∷ []
    scalar_is : s ≡ scalars.Truth truth
    class : token.class ≡ truth_class truth

  operand_scalar : (ts : List Token) (s : Scalar) → Operands ts s → Scalars ts s
  operand_scalar ts s h x = gives_rule chars rules.Scalar (non rules.Operand ∷ []) (At x) (At (put s x)) ts (inr (inr (inl refl))) (h x)

  truth_scalar : (t : Token) (truth : Bool) → t.class ≡ truth_class truth → Scalars (t ∷ []) (scalars.Truth truth)
  truth_scalar t true e x =
      let y = put (scalars.Truth true) x in
      gives_rule chars rules.Scalar (tok classes.True ∷ act marks.True ∷ []) (At x) (At y) (t ∷ []) (inl refl)
      (gives_token chars classes.True t (act marks.True ∷ []) x Any (At y) [] e refl (gives_made chars marks.True x y (λ e. cc) (λ k b. refl)))
  truth_scalar t false e x =
      let y = put (scalars.Truth false) x in
      gives_rule chars rules.Scalar (tok classes.False ∷ act marks.False ∷ []) (At x) (At y) (t ∷ []) (inr (inl refl))
      (gives_token chars classes.False t (act marks.False ∷ []) x Any (At y) [] e refl (gives_made chars marks.False x y (λ e. cc) (λ k b. refl)))

  abbrev IsSaid : List Token → Scalar → Type 0
  IsSaid ts s = Operands ts s ⊎ IsTruth ts s

  of_said : (ts : List Token) (s : Scalar) → IsSaid ts s → Scalars ts s
  of_said ts s (inl h) x = operand_scalar ts s h x
  of_said ts s (inr h) x = rw (h.tokens_are, h.scalar_is) (truth_scalar h.token h.truth h.class x)

  said : (ts : List Token) (s : Scalar) → ScalarOf chars ts s → IsSaid ts s
  said _ _ (name t n class value) = inl (name_operand t n class value)
  said _ _ (text t s class value) = inl (text_operand t s class value)
  said _ _ (number t n class value) = inl (number_operand t n class value)
  said _ _ (is_true t class) = inr (record { token = t; truth = true; tokens_are = refl; scalar_is = refl; class = class })
  said _ _ (is_false t class) = inr (record { token = t; truth = false; tokens_are = refl; scalar_is = refl; class = class })
  said _ _ (timestamp w o t c at are value) = inl (timestamp_operand w o t c (scalars.Moment at) are.0 are.1.0 are.1.1.0 are.1.1.1.0 (rw value refl))
  said _ _ (date w o t c at are value) = inl (date_operand w o t c (scalars.Moment at) are.0 are.1.0 are.1.1.0 are.1.1.1.0 (rw value refl))
  said _ _ (casei w o c ts s are h) = inl (casei_operand w o c ts s are.0 are.1.0 are.1.1.0 (of_said ts s (said ts s h)))

  pub scalar_read : (ts : List Token) (s : Scalar) → ScalarOf chars ts s → Scalars ts s
  scalar_read ts s h = of_said ts s (said ts s h)

  -- ---- a scalar before a test

  truth_tested : (t : Token) (truth : Bool) (us : List Token) (x : Ready) (R : Reading → Type 0) → t.class ≡ truth_class truth → Gives chars (non rules.Test ∷ []) (At (put (scalars.Truth truth) x)) R us → Gives chars (non rules.Primary ∷ []) (At x) R (t ∷ us)
  truth_tested t true us x R e h =
      let y = put (scalars.Truth true) x in
      gives_rule chars rules.Primary (tok classes.True ∷ act marks.True ∷ non rules.TruthRest ∷ []) (At x) R (t ∷ us) (inr (inl refl))
      (gives_token chars classes.True t (act marks.True ∷ non rules.TruthRest ∷ []) x Any R us e refl
      (gives_mark chars marks.True (non rules.TruthRest ∷ []) (At x) (At y) R us (made chars marks.True x y (λ e. cc) (λ k b. refl))
      (gives_rule chars rules.TruthRest (non rules.Test ∷ []) (At y) R us (inl refl) h)))
  truth_tested t false us x R e h =
      let y = put (scalars.Truth false) x in
      gives_rule chars rules.Primary (tok classes.False ∷ act marks.False ∷ non rules.TruthRest ∷ []) (At x) R (t ∷ us) (inr (inr (inl refl)))
      (gives_token chars classes.False t (act marks.False ∷ non rules.TruthRest ∷ []) x Any R us e refl
      (gives_mark chars marks.False (non rules.TruthRest ∷ []) (At x) (At y) R us (made chars marks.False x y (λ e. cc) (λ k b. refl))
      (gives_rule chars rules.TruthRest (non rules.Test ∷ []) (At y) R us (inl refl) h)))

  tested_said : (ts us : List Token) (s : Scalar) (x : Ready) (R : Reading → Type 0) → IsSaid ts s → Gives chars (non rules.Test ∷ []) (At (put s x)) R us → Gives chars (non rules.Primary ∷ []) (At x) R (ts ++ us)
  tested_said ts us s x R (inl o) h =
      gives_rule chars rules.Primary (non rules.Operand ∷ non rules.Test ∷ []) (At x) R (ts ++ us) (inr (inr (inr (inl refl))))
      (gives_then chars rules.Operand (non rules.Test ∷ []) (At x) (At (put s x)) R ts us (o x) h)
  tested_said ts us s x R (inr t) h =
      subst (λ (l : List Token). Gives chars (non rules.Primary ∷ []) (At x) R (l ++ us)) (sym t.tokens_are)
      (truth_tested t.token t.truth us x R t.class (subst (λ (u : Scalar). Gives chars (non rules.Test ∷ []) (At (put u x)) R us) t.scalar_is h))

  pub scalar_tested : (ts us : List Token) (s : Scalar) (x : Ready) (R : Reading → Type 0) → ScalarOf chars ts s → Gives chars (non rules.Test ∷ []) (At (put s x)) R us → Gives chars (non rules.Primary ∷ []) (At x) R (ts ++ us)
  scalar_tested ts us s x R h = tested_said ts us s x R (said ts s h)

  -- ---- patterns

  pub pattern_read : (ts : List Token) (p : Pattern) → PatternOf chars ts p → (x : Ready) → Gives chars (non rules.Pattern ∷ []) (At x) (At (with_pattern p x)) ts
  pattern_read _ _ (plain_pattern t s class value) x =
      let y = with_pattern (record { text = s; folded = false }) x in
      gives_rule chars rules.Pattern (tok classes.Text ∷ act marks.Pattern ∷ []) (At x) (At y) (t ∷ []) (inl refl)
      (gives_literal chars classes.Text t marks.Pattern [] x y (At y) [] class refl (λ e. cc) (λ b. rw value refl) (gives_none chars (At y)))
  pattern_read _ _ (folded_pattern w o c ts p are h) x =
      let v = with_pattern p x in let y = with_pattern (record { text = p.text; folded = true }) x in
      gives_rule chars rules.Pattern (tok classes.Casei ∷ tok classes.Opening ∷ non rules.Pattern ∷ tok classes.Closing ∷ act marks.FoldPattern ∷ []) (At x) (At y) (w ∷ o ∷ (ts ++ c ∷ [])) (inr (inl refl))
      (gives_token chars classes.Casei w (tok classes.Opening ∷ non rules.Pattern ∷ tok classes.Closing ∷ act marks.FoldPattern ∷ []) x Any (At y) (o ∷ (ts ++ c ∷ [])) are.0 refl
      (gives_token chars classes.Opening o (non rules.Pattern ∷ tok classes.Closing ∷ act marks.FoldPattern ∷ []) x Any (At y) (ts ++ c ∷ []) are.1.0 refl
      (gives_then chars rules.Pattern (tok classes.Closing ∷ act marks.FoldPattern ∷ []) (At x) (At v) (At y) ts (c ∷ []) (pattern_read ts p h x)
      (gives_token chars classes.Closing c (act marks.FoldPattern ∷ []) v Any (At y) [] are.1.1.0 refl (gives_made chars marks.FoldPattern v y (λ e. cc) (λ k b. refl))))))
