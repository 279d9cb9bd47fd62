-- The tokens of a scalar make the scalar, and those of a pattern the pattern.
use Rattle.std.proofs.Common.{◌≡◌, ◌⊎◌, inl, inr, ℕ, ◌≤◌, List, [], ◌∷◌, ◌++◌, length, Bool, true, false, Option, Some, refl, sym, ap, subst, ◌∙◌, ℤ, IsUtf8}
use Rattle.std.specs.List.{AllByRecursion}
use Rattle.std.specs.Option.{option_map}
use Rattle.sc_grammar.specs.Grammar.{tok, non, act}
use Rattle.sc_grammar.specs.Words.{bytes_of}
use Rattle.sc_grammar.specs.declared.token.Class.{Class}
use Rattle.sc_grammar.specs.declared.token.Class.TheVariants as classes
use Rattle.sc_grammar.specs.declared.token.Token.{Token as Told}
use Rattle.sc_cqlgrammar.specs.declared.rule.Rule.TheVariants as rules
use Rattle.sc_cqlgrammar.specs.declared.mark.Mark.{Mark}
use Rattle.sc_cqlgrammar.specs.declared.mark.Mark.TheVariants as marks
use Rattle.sc_decimal.specs.Number.{Number, IsDec}
use Rattle.sc_decimal.specs.Literal.{literal_of}
use Rattle.sc_time.specs.Instant.{IsInstant}
use Rattle.sc_expr.specs.declared.scalar.Scalar.{Scalar}
use Rattle.sc_expr.specs.declared.scalar.Scalar.TheVariants as scalars
use Rattle.sc_expr.specs.declared.scalar.Scalar.TheOpen as inner
use Rattle.sc_expr.specs.declared.scalar.Scalar.TheOpen.{Scalar-F}
use Rattle.sc_expr.specs.declared.scalar.Scalar.TheViews.{roll-Scalar, out-roll-Scalar}
use Rattle.sc_expr.specs.declared.scalar.Scalar.TheFolds.{map-Scalar, fold-roll-Scalar, ind-Scalar}
use Rattle.sc_expr.specs.declared.scalar.Pattern.{Pattern}
use Rattle.sc_expr.specs.Form.{IsScalarLevel, IsFormedScalar}
use Rattle.sc_expr.specs.Kept.{IsKeptScalarLevel, IsKeptScalar}
use Rattle.sc_expr.proofs.Every.{folded_in, scalar_level, every_folded_in}
use Rattle.sc_cqlvalue.specs.declared.state.Bbox.{Bbox}
use Rattle.sc_cqlvalue.specs.Values as values
use Rattle.sc_cqlvalue.specs.Literals.{name_of, text_of, dec_of, instant_of}
use Rattle.sc_cqlread.specs.Reading.{Reading, does}
use Rattle.sc_cqlwrite.specs.Tokens as tokens
use Rattle.sc_cqlwrite.specs.Tokens.{Token, spelled, enclosed}
use Rattle.sc_cqlwrite.specs.Moment.{moment_text}
use Rattle.sc_cqlwrite.specs.Scalars.{truth_token, folded_tokens, moment_tokens, scalar_tokens, folded_if, pattern_tokens}
use Rattle.sc_cqlwrite.specs.Scalars as written
use Rattle.sc_cqlback.specs.Read.{class_of}
use Rattle.sc_cqltext.proofs.Literals.{text_told, name_told, number_told, instant_told}
use Rattle.sc_cqltext.proofs.Gives.{Ready, state_of, IsTold, At, On, Gives, Rules, gives_none, gives_rule, gives_then, gives_mark, gives_marked, gives_plain, gives_kept, IsPlain, IsValued, done_at, done_on, gives_true, gives_false, gives_casei, gives_timestamp}

abbrev pub put : Scalar → Ready → Ready
put s x = record x { scalars = s ∷ x.scalars }

abbrev pub with_pattern : Pattern → Ready → Ready
with_pattern p x = record x { pattern = Some p }

module _ (chars : List ℕ) where
  -- a literal token and its mark
  literal_gives : (t : Token) (m : Mark) (x y : Ready) → IsPlain chars t → IsValued chars m → ((k : Told) (b : Bbox) → IsTold chars k t → values.does chars m (state_of x k b) ≡ state_of y k b) → Gives chars (tok (class_of t) ∷ act m ∷ []) (At chars x) (At chars y) (t ∷ [])
  literal_gives t m x y plain valued is =
      gives_kept chars t (act m ∷ []) x (At chars y) [] plain (gives_mark chars m [] (On chars x t) (At chars y) (At chars y) [] (done_on chars m x y t valued is) (gives_none chars (At chars y)))

  -- a mark alone
  pub mark_gives : (m : Mark) (x y : Ready) → IsValued chars m → ((k : Told) (b : Bbox) → values.does chars m (state_of x k b) ≡ state_of y k b) → Gives chars (act m ∷ []) (At chars x) (At chars y) []
  mark_gives m x y valued is = gives_mark chars m [] (At chars x) (At chars y) (At chars y) [] (done_at chars m x y valued is) (gives_none chars (At chars y))

  true_valued : IsValued chars marks.True
  unfolding does
  true_valued = record { values_are = λ r. refl; wide_is = λ r. refl }

  false_valued : IsValued chars marks.False
  unfolding does
  false_valued = record { values_are = λ r. refl; wide_is = λ r. refl }

  property_valued : IsValued chars marks.Property
  unfolding does
  property_valued = record { values_are = λ r. refl; wide_is = λ r. refl }

  text_valued : IsValued chars marks.Text
  unfolding does
  text_valued = record { values_are = λ r. refl; wide_is = λ r. refl }

  number_valued : IsValued chars marks.Number
  unfolding does
  number_valued = record { values_are = λ r. refl; wide_is = λ r. refl }

  instant_valued : IsValued chars marks.Instant
  unfolding does
  instant_valued = record { values_are = λ r. refl; wide_is = λ r. refl }

  fold_valued : IsValued chars marks.Fold
  unfolding does
  fold_valued = record { values_are = λ r. refl; wide_is = λ r. refl }

  pattern_valued : IsValued chars marks.Pattern
  unfolding does
  pattern_valued = record { values_are = λ r. refl; wide_is = λ r. refl }

  fold_pattern_valued : IsValued chars marks.FoldPattern
  unfolding does
  fold_pattern_valued = record { values_are = λ r. refl; wide_is = λ r. refl }

  -- ---- operands

  -- TRUE, FALSE or an operand
  abbrev pub IsSaid : Scalar → List Token → Type 0
  IsSaid s ts =
      ((ts ≡ truth_token true ∷ []) × (s ≡ scalars.Truth true))
      ⊎ (((ts ≡ truth_token false ∷ []) × (s ≡ scalars.Truth false))
      ⊎ ((x : Ready) → Rules chars rules.Operand (At chars x) (At chars (put s x)) ts))

  true_scalar : (x : Ready) → Rules chars rules.Scalar (At chars x) (At chars (put (scalars.Truth true) x)) (truth_token true ∷ [])
  true_scalar x =
      gives_rule chars rules.Scalar (tok classes.True ∷ act marks.True ∷ []) (At chars x) (At chars (put (scalars.Truth true) x)) (truth_token true ∷ []) (inl refl)
      (gives_true chars (act marks.True ∷ []) x (At chars (put (scalars.Truth true) x)) [] (mark_gives marks.True x (put (scalars.Truth true) x) true_valued (λ k b. refl)))

  false_scalar : (x : Ready) → Rules chars rules.Scalar (At chars x) (At chars (put (scalars.Truth false) x)) (truth_token false ∷ [])
  false_scalar x =
      gives_rule chars rules.Scalar (tok classes.False ∷ act marks.False ∷ []) (At chars x) (At chars (put (scalars.Truth false) x)) (truth_token false ∷ []) (inr (inl refl))
      (gives_false chars (act marks.False ∷ []) x (At chars (put (scalars.Truth false) x)) [] (mark_gives marks.False x (put (scalars.Truth false) x) false_valued (λ k b. refl)))

  pub as_scalar : (s : Scalar) (ts : List Token) → IsSaid s ts → (x : Ready) → Rules chars rules.Scalar (At chars x) (At chars (put s x)) ts
  as_scalar s ts (inl e) x =
      subst (λ (u : Scalar). Rules chars rules.Scalar (At chars x) (At chars (put u x)) ts) (sym e.1)
      (subst (Rules chars rules.Scalar (At chars x) (At chars (put (scalars.Truth true) x))) (sym e.0) (true_scalar x))
  as_scalar s ts (inr (inl e)) x =
      subst (λ (u : Scalar). Rules chars rules.Scalar (At chars x) (At chars (put u x)) ts) (sym e.1)
      (subst (Rules chars rules.Scalar (At chars x) (At chars (put (scalars.Truth false) x))) (sym e.0) (false_scalar x))
  as_scalar s ts (inr (inr h)) x = gives_rule chars rules.Scalar (non rules.Operand ∷ []) (At chars x) (At chars (put s x)) ts (inr (inr (inl refl))) (h x)

  -- a scalar and what is asked of it
  true_primary : (us : List Token) (x : Ready) (Q : Reading → Type 0) → Rules chars rules.Test (At chars (put (scalars.Truth true) x)) Q us → Rules chars rules.Primary (At chars x) Q (truth_token true ∷ us)
  true_primary us x Q test =
      let y = put (scalars.Truth true) x in
      gives_rule chars rules.Primary (tok classes.True ∷ act marks.True ∷ non rules.TruthRest ∷ []) (At chars x) Q (truth_token true ∷ us) (inr (inl refl))
      (gives_true chars (act marks.True ∷ non rules.TruthRest ∷ []) x Q us
      (gives_mark chars marks.True (non rules.TruthRest ∷ []) (At chars x) (At chars y) Q us (done_at chars marks.True x y true_valued (λ k b. refl))
      (gives_rule chars rules.TruthRest (non rules.Test ∷ []) (At chars y) Q us (inl refl) test)))

  false_primary : (us : List Token) (x : Ready) (Q : Reading → Type 0) → Rules chars rules.Test (At chars (put (scalars.Truth false) x)) Q us → Rules chars rules.Primary (At chars x) Q (truth_token false ∷ us)
  false_primary us x Q test =
      let y = put (scalars.Truth false) x in
      gives_rule chars rules.Primary (tok classes.False ∷ act marks.False ∷ non rules.TruthRest ∷ []) (At chars x) Q (truth_token false ∷ us) (inr (inr (inl refl)))
      (gives_false chars (act marks.False ∷ non rules.TruthRest ∷ []) x Q us
      (gives_mark chars marks.False (non rules.TruthRest ∷ []) (At chars x) (At chars y) Q us (done_at chars marks.False x y false_valued (λ k b. refl))
      (gives_rule chars rules.TruthRest (non rules.Test ∷ []) (At chars y) Q us (inl refl) test)))

  pub as_primary : (s : Scalar) (ts us : List Token) (x : Ready) (Q : Reading → Type 0) → IsSaid s ts → Rules chars rules.Test (At chars (put s x)) Q us → Rules chars rules.Primary (At chars x) Q (ts ++ us)
  as_primary s ts us x Q (inl e) test =
      subst (λ (l : List Token). Rules chars rules.Primary (At chars x) Q (l ++ us)) (sym e.0)
      (true_primary us x Q (subst (λ (u : Scalar). Rules chars rules.Test (At chars (put u x)) Q us) e.1 test))
  as_primary s ts us x Q (inr (inl e)) test =
      subst (λ (l : List Token). Rules chars rules.Primary (At chars x) Q (l ++ us)) (sym e.0)
      (false_primary us x Q (subst (λ (u : Scalar). Rules chars rules.Test (At chars (put u x)) Q us) e.1 test))
  as_primary s ts us x Q (inr (inr h)) test =
      gives_rule chars rules.Primary (non rules.Operand ∷ non rules.Test ∷ []) (At chars x) Q (ts ++ us) (inr (inr (inr (inl refl))))
      (gives_then chars rules.Operand (non rules.Test ∷ []) (At chars x) (At chars (put s x)) Q ts us (h x) test)

  -- ---- names, texts, numbers and moments

  pub name_gives : (name : List ℕ) (x : Ready) → Rules chars rules.Name (At chars x) (On chars x (tokens.name name)) (tokens.name name ∷ [])
  name_gives name x =
      gives_rule chars rules.Name (tok classes.QuotedName ∷ []) (At chars x) (On chars x (tokens.name name)) (tokens.name name ∷ []) (inr (inl refl))
      (gives_kept chars (tokens.name name) [] x (On chars x (tokens.name name)) [] (λ place. refl) (gives_none chars (On chars x (tokens.name name))))

  pub name_is : (name : List ℕ) → 1 ≤ length name → IsUtf8 name → (k : Told) → IsTold chars k (tokens.name name) → name_of k.class (bytes_of chars k.from k.to) ≡ Some name
  name_is name some utf8 k told = ap (λ (c : Class). name_of c (bytes_of chars k.from k.to)) told.class ∙ ap (name_of classes.QuotedName) told.bytes ∙ name_told name some utf8

  property_gives : (name : List ℕ) → 1 ≤ length name → IsUtf8 name → (x : Ready) → Rules chars rules.Operand (At chars x) (At chars (put (scalars.Prop name) x)) (tokens.name name ∷ [])
  property_gives name some utf8 x =
      let y = put (scalars.Prop name) x in
      gives_rule chars rules.Operand (non rules.Name ∷ act marks.Property ∷ []) (At chars x) (At chars y) (tokens.name name ∷ []) (inl refl)
      (gives_marked chars rules.Name marks.Property (At chars x) (On chars x (tokens.name name)) (At chars y) (tokens.name name ∷ []) (name_gives name x)
      (done_on chars marks.Property x y (tokens.name name) property_valued
      (λ k b told. ap (λ (n : Option (List ℕ)). values.with_literal (option_map (λ name. scalars.Prop name) n) (state_of x k b)) (name_is name some utf8 k told))))

  text_gives : (text : List ℕ) → IsUtf8 text → (x : Ready) → Rules chars rules.Operand (At chars x) (At chars (put (scalars.Text text) x)) (tokens.text text ∷ [])
  text_gives text utf8 x =
      let y = put (scalars.Text text) x in
      gives_rule chars rules.Operand (tok classes.Text ∷ act marks.Text ∷ []) (At chars x) (At chars y) (tokens.text text ∷ []) (inr (inl refl))
      (literal_gives (tokens.text text) marks.Text x y (λ place. refl) text_valued
      (λ k b told. ap (λ (n : Option (List ℕ)). values.with_literal (option_map (λ t. scalars.Text t) n) (state_of x k b)) (ap text_of told.bytes ∙ text_told text utf8)))

  pub number_bytes : (n : List ℕ) (k : Told) → IsTold chars k (tokens.number n) → bytes_of chars k.from k.to ≡ n
  unfolding spelled
  number_bytes n k told = told.bytes

  -- a number that is told isn't too wide
  pub number_plain : (bytes : List ℕ) (n : Number) → dec_of bytes ≡ Some n → IsPlain chars (tokens.number bytes)
  unfolding spelled
  number_plain bytes n is place = rw is refl

  number_gives : (n : Number) → IsDec n → (x : Ready) → Rules chars rules.Operand (At chars x) (At chars (put (scalars.Number n) x)) (tokens.number (literal_of n) ∷ [])
  number_gives n is x =
      let y = put (scalars.Number n) x in
      gives_rule chars rules.Operand (tok classes.Number ∷ act marks.Number ∷ []) (At chars x) (At chars y) (tokens.number (literal_of n) ∷ []) (inr (inr (inl refl)))
      (literal_gives (tokens.number (literal_of n)) marks.Number x y (number_plain (literal_of n) n (number_told n is)) number_valued
      (λ k b told. ap (λ (o : Option Number). values.with_literal (option_map (λ number. scalars.Number number) o) (state_of x k b)) (ap dec_of (number_bytes (literal_of n) k told) ∙ number_told n is)))

  moment_gives : (at : ℤ) → IsInstant at → (x : Ready) → Rules chars rules.Operand (At chars x) (At chars (put (scalars.Moment at) x)) (moment_tokens (moment_text at))
  moment_gives at is x =
      let y = put (scalars.Moment at) x in let t : Token = tokens.text (moment_text at) in
      gives_rule chars rules.Operand (tok classes.Timestamp ∷ tok classes.Opening ∷ tok classes.Text ∷ act marks.Instant ∷ tok classes.Closing ∷ []) (At chars x) (At chars y) (moment_tokens (moment_text at)) (inr (inr (inr (inl refl))))
      (gives_timestamp chars (tok classes.Opening ∷ tok classes.Text ∷ act marks.Instant ∷ tok classes.Closing ∷ []) x (At chars y) (enclosed (t ∷ []))
      (gives_plain chars tokens.opening (tok classes.Text ∷ act marks.Instant ∷ tok classes.Closing ∷ []) x (At chars y) (t ∷ tokens.closing ∷ []) (λ place. refl)
      (gives_kept chars t (act marks.Instant ∷ tok classes.Closing ∷ []) x (At chars y) (tokens.closing ∷ []) (λ place. refl)
      (gives_mark chars marks.Instant (tok classes.Closing ∷ []) (On chars x t) (At chars y) (At chars y) (tokens.closing ∷ [])
      (done_on chars marks.Instant x y t instant_valued (λ k b told. ap (λ (o : Option ℤ). values.with_literal (option_map (λ instant. scalars.Moment instant) o) (state_of x k b)) (ap instant_of told.bytes ∙ instant_told at is)))
      (gives_plain chars tokens.closing [] y (At chars y) [] (λ place. refl) (gives_none chars (At chars y)))))))

  folded_gives : (s : Scalar) (inside : List Token) → IsSaid s inside → (x : Ready) → Rules chars rules.Operand (At chars x) (At chars (put (scalars.Folded s) x)) (folded_tokens inside)
  folded_gives s inside h x =
      let y = put s x in let z = put (scalars.Folded s) x in
      gives_rule chars rules.Operand (tok classes.Casei ∷ tok classes.Opening ∷ non rules.Scalar ∷ tok classes.Closing ∷ act marks.Fold ∷ []) (At chars x) (At chars z) (folded_tokens inside) (inr (inr (inr (inr (inr (inl refl))))))
      (gives_casei chars (tok classes.Opening ∷ non rules.Scalar ∷ tok classes.Closing ∷ act marks.Fold ∷ []) x (At chars z) (enclosed inside)
      (gives_plain chars tokens.opening (non rules.Scalar ∷ tok classes.Closing ∷ act marks.Fold ∷ []) x (At chars z) (inside ++ tokens.closing ∷ []) (λ place. refl)
      (gives_then chars rules.Scalar (tok classes.Closing ∷ act marks.Fold ∷ []) (At chars x) (At chars y) (At chars z) inside (tokens.closing ∷ []) (as_scalar s inside h x)
      (gives_plain chars tokens.closing (act marks.Fold ∷ []) y (At chars z) [] (λ place. refl) (mark_gives marks.Fold y z fold_valued (λ k b. refl))))))

  truth_said : (truth : Bool) → IsSaid (scalars.Truth truth) (truth_token truth ∷ [])
  truth_said true = inl (refl, refl)
  truth_said false = inr (inl (refl, refl))

  -- ---- scalars

  abbrev Good : Scalar → Type 0
  Good s = IsFormedScalar s → IsKeptScalar s → IsSaid s (scalar_tokens s)

  abbrev Held : Type 0
  Held = (s : Scalar) × Good s

  abbrev scalar_of : Scalar-F Held → Scalar-F Scalar
  scalar_of = map-Scalar Held Scalar (λ h. h.0)

  record Level (x : Scalar-F Scalar) : Type 0 where
    formed : IsScalarLevel x
    kept : IsKeptScalarLevel x
    folded_formed : AllByRecursion IsFormedScalar (folded_in x)
    folded_kept : AllByRecursion IsKeptScalar (folded_in x)

  level_at : (x : Scalar-F Scalar) → IsFormedScalar (roll-Scalar x) → IsKeptScalar (roll-Scalar x) → Level x
  level_at x f k = record {
    formed = subst IsScalarLevel (out-roll-Scalar x) (scalar_level IsScalarLevel (roll-Scalar x) f);
    kept = subst IsKeptScalarLevel (out-roll-Scalar x) (scalar_level IsKeptScalarLevel (roll-Scalar x) k);
    folded_formed = subst (λ (y : Scalar-F Scalar). AllByRecursion IsFormedScalar (folded_in y)) (out-roll-Scalar x) (every_folded_in IsScalarLevel (roll-Scalar x) f);
    folded_kept = subst (λ (y : Scalar-F Scalar). AllByRecursion IsKeptScalar (folded_in y)) (out-roll-Scalar x) (every_folded_in IsKeptScalarLevel (roll-Scalar x) k);
  }

  along : (s t : Scalar) (ts : List Token) → s ≡ t → IsSaid s ts → IsSaid t ts
  along s t ts e h = subst (λ (u : Scalar). IsSaid u ts) e h

  level_said : (y : Scalar-F Held) → Level (scalar_of y) → IsSaid (roll-Scalar (scalar_of y)) (written.scalar_level (map-Scalar Scalar (List Token) scalar_tokens (scalar_of y)))
  level_said (inner.Prop name) l = along (scalars.Prop name) _ _ (sym (scalars.rolls-Prop name)) (inr (inr (property_gives name l.formed l.kept)))
  level_said (inner.Text text) l = along (scalars.Text text) _ _ (sym (scalars.rolls-Text text)) (inr (inr (text_gives text l.kept)))
  level_said (inner.Number number) l = along (scalars.Number number) _ _ (sym (scalars.rolls-Number number)) (inr (inr (number_gives number l.kept)))
  level_said (inner.Truth truth) l = along (scalars.Truth truth) _ _ (sym (scalars.rolls-Truth truth)) (truth_said truth)
  level_said (inner.Moment moment) l = along (scalars.Moment moment) _ _ (sym (scalars.rolls-Moment moment)) (inr (inr (moment_gives moment l.kept)))
  level_said (inner.Folded h) l = along (scalars.Folded h.0) _ _ (sym (scalars.rolls-Folded h.0)) (inr (inr (folded_gives h.0 (scalar_tokens h.0) (h.1 l.folded_formed.0 l.folded_kept.0))))

  each : (y : Scalar-F Held) → Good (roll-Scalar (scalar_of y))
  each y f k =
      subst (IsSaid (roll-Scalar (scalar_of y))) (sym (fold-roll-Scalar (List Token) written.scalar_level (scalar_of y)))
      (level_said y (level_at (scalar_of y) f k))

  pub scalar_said : (s : Scalar) → Good s
  scalar_said = ind-Scalar Good (λ x y is. subst (λ (l : Scalar-F Scalar). Good (roll-Scalar l)) is (each y))

  -- ---- patterns

  plain_pattern : (text : List ℕ) → IsUtf8 text → (x : Ready) → Rules chars rules.Pattern (At chars x) (At chars (with_pattern (record { text = text; folded = false }) x)) (tokens.text text ∷ [])
  plain_pattern text utf8 x =
      let y = with_pattern (record { text = text; folded = false }) x in
      gives_rule chars rules.Pattern (tok classes.Text ∷ act marks.Pattern ∷ []) (At chars x) (At chars y) (tokens.text text ∷ []) (inl refl)
      (literal_gives (tokens.text text) marks.Pattern x y (λ place. refl) pattern_valued
      (λ k b told. ap (λ (n : Option (List ℕ)). values.with_pattern n (state_of x k b)) (ap text_of told.bytes ∙ text_told text utf8)))

  folded_pattern : (text : List ℕ) → IsUtf8 text → (x : Ready) → Rules chars rules.Pattern (At chars x) (At chars (with_pattern (record { text = text; folded = true }) x)) (folded_tokens (tokens.text text ∷ []))
  folded_pattern text utf8 x =
      let y = with_pattern (record { text = text; folded = false }) x in let z = with_pattern (record { text = text; folded = true }) x in
      let inside : List Token = tokens.text text ∷ [] in
      gives_rule chars rules.Pattern (tok classes.Casei ∷ tok classes.Opening ∷ non rules.Pattern ∷ tok classes.Closing ∷ act marks.FoldPattern ∷ []) (At chars x) (At chars z) (folded_tokens inside) (inr (inl refl))
      (gives_casei chars (tok classes.Opening ∷ non rules.Pattern ∷ tok classes.Closing ∷ act marks.FoldPattern ∷ []) x (At chars z) (enclosed inside)
      (gives_plain chars tokens.opening (non rules.Pattern ∷ tok classes.Closing ∷ act marks.FoldPattern ∷ []) x (At chars z) (inside ++ tokens.closing ∷ []) (λ place. refl)
      (gives_then chars rules.Pattern (tok classes.Closing ∷ act marks.FoldPattern ∷ []) (At chars x) (At chars y) (At chars z) inside (tokens.closing ∷ []) (plain_pattern text utf8 x)
      (gives_plain chars tokens.closing (act marks.FoldPattern ∷ []) y (At chars z) [] (λ place. refl) (mark_gives marks.FoldPattern y z fold_pattern_valued (λ k b. refl))))))

  pattern_by : (text : List ℕ) (folded : Bool) → IsUtf8 text → (x : Ready) → Rules chars rules.Pattern (At chars x) (At chars (with_pattern (record { text = text; folded = folded }) x)) (folded_if folded (tokens.text text ∷ []))
  pattern_by text true utf8 x = folded_pattern text utf8 x
  pattern_by text false utf8 x = plain_pattern text utf8 x

  pub pattern_gives : (pattern : Pattern) → IsUtf8 pattern.text → (x : Ready) → Rules chars rules.Pattern (At chars x) (At chars (with_pattern pattern x)) (pattern_tokens pattern)
  pattern_gives pattern utf8 x = pattern_by pattern.text pattern.folded utf8 x
