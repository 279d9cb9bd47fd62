-- The tokens of a filter are read as what they mean.
use Rattle.std.proofs.Common.{◌≡◌, ◌≢◌, inl, inr, ℕ, ◌+◌, ◌-◌, ◌≤◌, List, [], ◌∷◌, ◌++◌, length, drop, reverse, Bool, true, false, None, refl, sym, ap, subst, ◌∙◌, append_assoc, append-nil, length-append, arith}
use Rattle.std.proofs.Math.Seq.{take-append_seam, drop-append_seam}
use Rattle.std.proofs.lemmas.Bool.{le-leb}
use Rattle.std.proofs.lemmas.List.{reverse-append}
use Rattle.sc_grammar.specs.Grammar.{tok, non, act, done, token, rule}
use Rattle.sc_grammar.specs.Words.{bytes_of}
use Rattle.sc_grammar.specs.declared.token.Class.{Class}
use Rattle.sc_grammar.specs.declared.token.Class.TheVariants as classes
use Rattle.sc_grammar.specs.declared.token.Token.{Token}
use Rattle.sc_cqlgrammar.specs.declared.rule.Rule.{Rule}
use Rattle.sc_cqlgrammar.specs.declared.rule.Rule.TheVariants as rules
use Rattle.sc_cqlgrammar.specs.declared.mark.Mark.{Mark}
use Rattle.sc_cqlgrammar.specs.declared.mark.Mark.TheVariants as marks
use Rattle.sc_cqlgrammar.specs.Rules.{Items, IsAlternative}
use Rattle.sc_cqlgrammar.proofs.Readings.{one_value}
use Rattle.sc_wkt.specs.Drawing.{wide_of}
use Rattle.sc_expr.specs.declared.scalar.Scalar.TheVariants as scalars
use Rattle.sc_expr.specs.declared.scalar.Shape.{Shape}
use Rattle.sc_expr.specs.declared.expr.Expr.{Expr}
use Rattle.sc_expr.specs.declared.expr.Expr.TheVariants as exprs
use Rattle.sc_cqlvalue.specs.declared.state.State.{State}
use Rattle.sc_cqlvalue.specs.declared.state.Bbox.{Bbox}
use Rattle.sc_cqlvalue.specs.Values as values
use Rattle.sc_cqlread.specs.Reading.{Reading, start, eats, does, bad_of}
use Rattle.sc_cqlread.specs.Tokens.{readable, AreTokens}
use Rattle.sc_cqlread.specs.Nesting.{deepest}
use Rattle.sc_cqlread.specs.Filters.{whole, IsExpr}
use Rattle.sc_forms.specs.Forms.{ShapeOf, Level, filter, terms, term, factors, factor, primary, Means, alone_or, joined_or, last_term, more_terms, alone_and, joined_and, last_factor, more_factors, plain_factor, negated_factor, enclosed, tested, meets, true_alone, false_alone}
use Rattle.sc_forms.proofs.Giving.{Ready, state_of, Any, At, Makes, Gives, gives_none, gives_append, gives_rule, gives_then, gives_mark, gives_marked, gives_token, made, gives_made}
use Rattle.sc_forms.proofs.Scalars.{put, scalar_tested}
use Rattle.sc_forms.proofs.Shapes.{with_shape, shape_read}
use Rattle.sc_forms.proofs.Tests.{with_expr, clean, test_read}

-- the expressions put before others one by one: the last comes first
abbrev turn : List Expr → List Expr → List Expr
turn [] ns = ns
turn (e ∷ es) ns = turn es (e ∷ ns)

abbrev with_exprs : List Expr → Ready → Ready
with_exprs es x = record x { exprs = turn es x.exprs }

-- a chain is open
abbrev begun : Ready → Ready
begun x = record x { chains = length x.exprs ∷ x.chains }

-- ---- what ends a chain

turn_split : (es ns old : List Expr) → turn es (ns ++ old) ≡ turn es ns ++ old
turn_split [] ns old = refl
turn_split (e ∷ es) ns old = turn_split es (e ∷ ns) old

turn_back : (es ns : List Expr) → reverse (turn es ns) ≡ reverse ns ++ es
turn_back [] ns = sym (append-nil (reverse ns))
turn_back (e ∷ es) ns = turn_back es (e ∷ ns) ∙ ap (λ (l : List Expr). l ++ es) (reverse-append (e ∷ []) ns) ∙ append_assoc (reverse ns) (e ∷ []) es

length_turn : (es ns : List Expr) → length (turn es ns) ≡ length es + length ns
length_turn [] ns = omega arith
length_turn (e ∷ es) ns = omega (arith, length_turn es (e ∷ ns))

count_is : (ns old : List Expr) → length (ns ++ old) - length old ≡ length ns
count_is ns old = omega (arith, length-append ns old)

one_joined : (join : List Expr → Expr) (e : Expr) (old : List Expr) → values.joined join (length (e ∷ old) - length old) (e ∷ old) ≡ e ∷ old
one_joined join e old = rw (count_is (e ∷ []) old) refl

more_joined : (join : List Expr → Expr) (ns old : List Expr) → 2 ≤ length ns → values.joined join (length (ns ++ old) - length old) (ns ++ old) ≡ join (reverse ns) ∷ old
more_joined join ns old two =
    rw (count_is ns old, le-leb 2 (length ns) two)
    (ap (λ (l : List Expr). join (reverse l) ∷ drop (length ns) (ns ++ old)) (take-append_seam ns old) ∙ ap (λ (l : List Expr). join (reverse ns) ∷ l) (drop-append_seam ns old))

all_joined : (join : List Expr → Expr) (es old : List Expr) → 2 ≤ length es → values.joined join (length (turn es old) - length old) (turn es old) ≡ join es ∷ old
all_joined join es old two =
    let long : 2 ≤ length (turn es []) = omega (arith, length_turn es []) in
    rw (turn_split es [] old) (more_joined join (turn es []) old long ∙ ap (λ (l : List Expr). join l ∷ old) (turn_back es []))

module _ (chars : List ℕ) where
  abbrev or_on : Items
  or_on = act marks.Link ∷ non rules.OrRest ∷ []

  abbrev and_on : Items
  and_on = act marks.Link ∷ non rules.AndRest ∷ []

  abbrev items_of : Level → Items
  items_of filter = non rules.Filter ∷ []
  items_of terms = non rules.Term ∷ or_on
  items_of term = non rules.Term ∷ []
  items_of factors = non rules.Factor ∷ and_on
  items_of factor = non rules.Factor ∷ []
  items_of primary = non rules.Primary ∷ []

  abbrev Read : Level → List Token → List Expr → Type 0
  Read level ts es = (x : Ready) → Gives chars (items_of level) (At (clean x)) (At (clean (with_exprs es x))) ts

  -- ---- chains

  chain : (n : Rule) (is : Items) (m : Mark) (ts : List Token) (es : List Expr) (e : Expr) (x : Ready) → IsAlternative n (act marks.Chain ∷ (is ++ act m ∷ [])) → m ≢ marks.Geometry →
      ((k : Token) (b : Bbox) → values.does chars m (state_of (clean (with_exprs es (begun x))) k b) ≡ state_of (clean (with_expr e x)) k b) →
      Gives chars is (At (clean (begun x))) (At (clean (with_exprs es (begun x)))) ts → Gives chars (non n ∷ []) (At (clean x)) (At (clean (with_expr e x))) ts
  chain n is m ts es e x alternative other ends h =
      let v = clean (with_exprs es (begun x)) in let z = clean (with_expr e x) in
      gives_rule chars n (act marks.Chain ∷ (is ++ act m ∷ [])) (At (clean x)) (At z) ts alternative
      (gives_mark chars marks.Chain (is ++ act m ∷ []) (At (clean x)) (At (clean (begun x))) (At z) ts (made chars marks.Chain (clean x) (clean (begun x)) (λ e. cc) (λ k b. refl))
      (subst (Gives chars (is ++ act m ∷ []) (At (clean (begun x))) (At z)) (append-nil ts)
      (gives_append chars is (act m ∷ []) (At (clean (begun x))) (At v) (At z) ts [] h (gives_made chars m v z other ends))))

  abbrev state_with : Ready → Token → Bbox → List Expr → State
  state_with x k b es = state_of (record (clean x) { exprs = es }) k b

  or_read : (ts : List Token) (es : List Expr) (e : Expr) → Read terms ts es → ((old : List Expr) → values.joined exprs.Or (length (turn es old) - length old) (turn es old) ≡ e ∷ old) → Read filter ts (e ∷ [])
  or_read ts es e h joins x =
      chain rules.Filter (items_of terms) marks.Or ts es e x (inl refl) (λ e. cc) (λ k b. ap (state_with x k b) (joins x.exprs)) (h (begun x))

  and_read : (ts : List Token) (es : List Expr) (e : Expr) → Read factors ts es → ((old : List Expr) → values.joined exprs.And (length (turn es old) - length old) (turn es old) ≡ e ∷ old) → Read term ts (e ∷ [])
  and_read ts es e h joins x =
      chain rules.Term (items_of factors) marks.And ts es e x (inl refl) (λ e. cc) (λ k b. ap (state_with x k b) (joins x.exprs)) (h (begun x))

  -- the last member, and one before others
  last_read : (n rest : Rule) (e : Expr) (ts : List Token) → IsAlternative rest [] → ((x : Ready) → Gives chars (non n ∷ []) (At (clean x)) (At (clean (with_expr e x))) ts) →
      (x : Ready) → Gives chars (non n ∷ act marks.Link ∷ non rest ∷ []) (At (clean x)) (At (clean (with_expr e x))) ts
  last_read n rest e ts none h x =
      let y = clean (with_expr e x) in
      subst (Gives chars (non n ∷ act marks.Link ∷ non rest ∷ []) (At (clean x)) (At y)) (append-nil ts)
      (gives_then chars n (act marks.Link ∷ non rest ∷ []) (At (clean x)) (At y) (At y) ts [] (h x)
      (gives_mark chars marks.Link (non rest ∷ []) (At y) (At y) (At y) [] (made chars marks.Link y y (λ e. cc) (λ k b. refl))
      (gives_rule chars rest [] (At y) (At y) [] none (gives_none chars (At y)))))

  more_read : (n rest : Rule) (c : Class) (e : Expr) (ts us : List Token) (o : Token) (z : Ready) (x : Ready) → IsAlternative rest (tok c ∷ non n ∷ act marks.Link ∷ non rest ∷ []) → o.class ≡ c → wide_of c (bytes_of chars o.from o.to) o.from ≡ None →
      Gives chars (non n ∷ []) (At (clean x)) (At (clean (with_expr e x))) ts → Gives chars (non n ∷ act marks.Link ∷ non rest ∷ []) (At (clean (with_expr e x))) (At (clean z)) us →
      Gives chars (non n ∷ act marks.Link ∷ non rest ∷ []) (At (clean x)) (At (clean z)) (ts ++ o ∷ us)
  more_read n rest c e ts us o z x alternative class narrow h more =
      let y = clean (with_expr e x) in
      gives_then chars n (act marks.Link ∷ non rest ∷ []) (At (clean x)) (At y) (At (clean z)) ts (o ∷ us) h
      (gives_mark chars marks.Link (non rest ∷ []) (At y) (At y) (At (clean z)) (o ∷ us) (made chars marks.Link y y (λ e. cc) (λ k b. refl))
      (gives_rule chars rest (tok c ∷ non n ∷ act marks.Link ∷ non rest ∷ []) (At y) (At (clean z)) (o ∷ us) alternative
      (gives_token chars c o (non n ∷ act marks.Link ∷ non rest ∷ []) y Any (At (clean z)) us class narrow more)))

  -- ---- primaries

  negated_read : (t : Token) (ts : List Token) (e : Expr) → t.class ≡ classes.Not → Read primary ts (e ∷ []) → Read factor (t ∷ ts) (exprs.Not e ∷ [])
  negated_read t ts e class h x =
      let y = clean x in let v = clean (with_expr e x) in let z = clean (with_expr (exprs.Not e) x) in
      gives_rule chars rules.Factor (tok classes.Not ∷ non rules.Primary ∷ act marks.Negate ∷ []) (At y) (At z) (t ∷ ts) (inl refl)
      (gives_token chars classes.Not t (non rules.Primary ∷ act marks.Negate ∷ []) y Any (At z) ts class refl
      (gives_marked chars rules.Primary marks.Negate (At y) (At v) (At z) ts (h x) (made chars marks.Negate v z (λ e. cc) (λ k b. refl))))

  enclosed_read : (o c : Token) (ts : List Token) (e : Expr) → o.class ≡ classes.Opening → c.class ≡ classes.Closing → Read filter ts (e ∷ []) → Read primary (o ∷ (ts ++ c ∷ [])) (e ∷ [])
  enclosed_read o c ts e oe ce h x =
      let y = clean x in let z = clean (with_expr e x) in
      gives_rule chars rules.Primary (tok classes.Opening ∷ non rules.Filter ∷ tok classes.Closing ∷ []) (At y) (At z) (o ∷ (ts ++ c ∷ [])) (inl refl)
      (gives_token chars classes.Opening o (non rules.Filter ∷ tok classes.Closing ∷ []) y Any (At z) (ts ++ c ∷ []) oe refl
      (gives_then chars rules.Filter (tok classes.Closing ∷ []) (At y) (At z) (At z) ts (c ∷ []) (h x)
      (gives_token chars classes.Closing c [] z Any (At z) [] ce refl (gives_none chars (At z)))))

  meets_read : (s o m c : Token) (ts us : List Token) (left right : Shape) → s.class ≡ classes.SIntersects → o.class ≡ classes.Opening → m.class ≡ classes.Comma → c.class ≡ classes.Closing → ShapeOf chars ts left → ShapeOf chars us right →
      Read primary (s ∷ o ∷ (ts ++ m ∷ (us ++ c ∷ []))) (exprs.Meets left right ∷ [])
  meets_read s o m c ts us left right se oe me ce l r x =
      let y = clean x in let v = with_shape left y in let w = with_shape right v in let z = clean (with_expr (exprs.Meets left right) x) in
      let end : Items = tok classes.Closing ∷ act marks.Meets ∷ [] in
      gives_rule chars rules.Primary (tok classes.SIntersects ∷ tok classes.Opening ∷ non rules.Shape ∷ tok classes.Comma ∷ non rules.Shape ∷ end) (At y) (At z) (s ∷ o ∷ (ts ++ m ∷ (us ++ c ∷ []))) (inr (inr (inr (inr (inl refl)))))
      (gives_token chars classes.SIntersects s (tok classes.Opening ∷ non rules.Shape ∷ tok classes.Comma ∷ non rules.Shape ∷ end) y Any (At z) (o ∷ (ts ++ m ∷ (us ++ c ∷ []))) se refl
      (gives_token chars classes.Opening o (non rules.Shape ∷ tok classes.Comma ∷ non rules.Shape ∷ end) y Any (At z) (ts ++ m ∷ (us ++ c ∷ [])) oe refl
      (gives_then chars rules.Shape (tok classes.Comma ∷ non rules.Shape ∷ end) (At y) (At v) (At z) ts (m ∷ (us ++ c ∷ [])) (shape_read chars ts left l y)
      (gives_token chars classes.Comma m (non rules.Shape ∷ end) v Any (At z) (us ++ c ∷ []) me refl
      (gives_then chars rules.Shape end (At v) (At w) (At z) us (c ∷ []) (shape_read chars us right r v)
      (gives_token chars classes.Closing c (act marks.Meets ∷ []) w Any (At z) [] ce refl (gives_made chars marks.Meets w z (λ e. cc) (λ k b. refl))))))))

  constant : (truth : Bool) (x : Ready) → Gives chars (non rules.TruthRest ∷ []) (At (put (scalars.Truth truth) (clean x))) (At (clean (with_expr (exprs.Const truth) x))) []
  constant truth x =
      let v = put (scalars.Truth truth) (clean x) in let z = clean (with_expr (exprs.Const truth) x) in
      gives_rule chars rules.TruthRest (act marks.Constant ∷ []) (At v) (At z) [] (inr (inl refl)) (gives_made chars marks.Constant v z (λ e. cc) (λ k b. refl))

  true_read : (t : Token) → t.class ≡ classes.True → Read primary (t ∷ []) (exprs.Const true ∷ [])
  true_read t class x =
      let y = clean x in let v = put (scalars.Truth true) y in let z = clean (with_expr (exprs.Const true) x) in
      gives_rule chars rules.Primary (tok classes.True ∷ act marks.True ∷ non rules.TruthRest ∷ []) (At y) (At z) (t ∷ []) (inr (inl refl))
      (gives_token chars classes.True t (act marks.True ∷ non rules.TruthRest ∷ []) y Any (At z) [] class refl
      (gives_mark chars marks.True (non rules.TruthRest ∷ []) (At y) (At v) (At z) [] (made chars marks.True y v (λ e. cc) (λ k b. refl)) (constant true x)))

  false_read : (t : Token) → t.class ≡ classes.False → Read primary (t ∷ []) (exprs.Const false ∷ [])
  false_read t class x =
      let y = clean x in let v = put (scalars.Truth false) y in let z = clean (with_expr (exprs.Const false) x) in
      gives_rule chars rules.Primary (tok classes.False ∷ act marks.False ∷ non rules.TruthRest ∷ []) (At y) (At z) (t ∷ []) (inr (inr (inl refl)))
      (gives_token chars classes.False t (act marks.False ∷ non rules.TruthRest ∷ []) y Any (At z) [] class refl
      (gives_mark chars marks.False (non rules.TruthRest ∷ []) (At y) (At v) (At z) [] (made chars marks.False y v (λ e. cc) (λ k b. refl)) (constant false x)))

  -- ---- every level

  means_read : (level : Level) (ts : List Token) (es : List Expr) → Means chars level ts es → Read level ts es
  means_read _ _ _ (alone_or ts e h) x = or_read ts (e ∷ []) e (means_read terms ts (e ∷ []) h) (one_joined exprs.Or e) x
  means_read _ _ _ (joined_or ts e f es h) x = or_read ts (e ∷ f ∷ es) (exprs.Or (e ∷ f ∷ es)) (means_read terms ts (e ∷ f ∷ es) h) (λ old. all_joined exprs.Or (e ∷ f ∷ es) old (omega arith)) x
  means_read _ _ _ (last_term ts e h) x = last_read rules.Term rules.OrRest e ts (inr (inl refl)) (means_read term ts (e ∷ []) h) x
  means_read _ _ _ (more_terms ts us o e es h class more) x =
      more_read rules.Term rules.OrRest classes.Or e ts us o (with_exprs (e ∷ es) x) x (inl refl) class refl (means_read term ts (e ∷ []) h x) (means_read terms us es more (with_expr e x))
  means_read _ _ _ (alone_and ts e h) x = and_read ts (e ∷ []) e (means_read factors ts (e ∷ []) h) (one_joined exprs.And e) x
  means_read _ _ _ (joined_and ts e f es h) x = and_read ts (e ∷ f ∷ es) (exprs.And (e ∷ f ∷ es)) (means_read factors ts (e ∷ f ∷ es) h) (λ old. all_joined exprs.And (e ∷ f ∷ es) old (omega arith)) x
  means_read _ _ _ (last_factor ts e h) x = last_read rules.Factor rules.AndRest e ts (inr (inl refl)) (means_read factor ts (e ∷ []) h) x
  means_read _ _ _ (more_factors ts us a e es h class more) x =
      more_read rules.Factor rules.AndRest classes.And e ts us a (with_exprs (e ∷ es) x) x (inl refl) class refl (means_read factor ts (e ∷ []) h x) (means_read factors us es more (with_expr e x))
  means_read _ _ _ (plain_factor ts e h) x = gives_rule chars rules.Factor (non rules.Primary ∷ []) (At (clean x)) (At (clean (with_expr e x))) ts (inr (inl refl)) (means_read primary ts (e ∷ []) h x)
  means_read _ _ _ (negated_factor t ts e class h) x = negated_read t ts e class (means_read primary ts (e ∷ []) h) x
  means_read _ _ _ (enclosed o c ts e are h) x = enclosed_read o c ts e are.0 are.1.0 (means_read filter ts (e ∷ []) h) x
  means_read _ _ _ (tested ts us s e scalar test) x = scalar_tested chars ts us s (clean x) (At (clean (with_expr e x))) scalar (test_read chars s us e test x)
  means_read _ _ _ (meets s o m c ts us left right are l r) x = meets_read s o m c ts us left right are.0 are.1.0 are.1.1.0 are.1.1.1.0 l r x
  means_read _ _ _ (true_alone t class) x = true_read t class x
  means_read _ _ _ (false_alone t class) x = false_read t class x

-- ---- the whole text

nothing_ready : Ready
nothing_ready = record { scalars = []; exprs = []; shapes = []; chains = []; listed = []; pattern = None }

starts : At (clean nothing_ready) start
unfolding nothing_ready
starts = record { last = start.values.token; bbox = start.values.bbox; known = tt; values = refl; wide = refl }

end_narrow : (c : Class) (bytes : List ℕ) (place : ℕ) → c ≡ classes.End → wide_of c bytes place ≡ None
end_narrow c bytes place is = subst (λ (d : Class). wide_of d bytes place ≡ None) (sym is) refl

ended : (chars : List ℕ) (e : Expr) (end : Token) (r : Reading) → end.class ≡ classes.End → At (clean (with_expr e nothing_ready)) r → (bad_of (eats chars end r) ≡ None) × ((eats chars end r).values.exprs ≡ e ∷ [])
unfolding eats nothing_ready
ended chars e end r is at = (rw (at.values, at.wide) (end_narrow end.class (bytes_of chars end.from end.to) end.from is), ap (λ (s : State). s.exprs) at.values)

record IsEnd (e : Expr) (r : Reading) : Type 0 where
  sound : bad_of r ≡ None
  alone : r.values.exprs ≡ e ∷ []

at_end : (chars : List ℕ) (e : Expr) (end : Token) → end.class ≡ classes.End → Gives chars (tok classes.End ∷ []) (At (clean (with_expr e nothing_ready))) (IsEnd e) (end ∷ [])
at_end chars e end is r at =
    let made : Reading = eats chars end r in
    let both = ended chars e end r is at in
    (made, subst (λ (c : Class). Makes chars (tok c ∷ []) r (end ∷ []) made) is (token end [] r [] made (done made)), record { sound = both.0; alone = both.1 })

-- what tokens that mean an expression make, with the end behind them
whole_read : (chars : List ℕ) (ts : List Token) (end : Token) (e : Expr) → end.class ≡ classes.End → Means chars filter ts (e ∷ []) → (made : Reading) × Makes chars whole start (ts ++ end ∷ []) made × IsEnd e made
whole_read chars ts end e is means =
    let begin : Ready = clean nothing_ready in
    let z : Ready = clean (with_expr e nothing_ready) in
    let one = gives_append chars (non rules.Filter ∷ []) (tok classes.End ∷ []) (At begin) (At z) (IsEnd e) ts (end ∷ []) (means_read chars filter ts (e ∷ []) means nothing_ready) (at_end chars e end is) start starts in
    (one.0, rule rules.Whole (non rules.Filter ∷ tok classes.End ∷ []) [] start (ts ++ end ∷ []) one.0 (inl refl) one.1, one.2)

-- tokens that mean an expression are a text that is the expression
pub meaning_read : (text : List ℕ) (ts : List Token) (end : Token) (e : Expr) → AreTokens text (ts ++ end ∷ []) → end.class ≡ classes.End → deepest (ts ++ end ∷ []) ≤ 64 → Means (readable text) filter ts (e ∷ []) → IsExpr text e
meaning_read text ts end e are is shallow means =
    let one = whole_read (readable text) ts end e is means in
    record { tokens = ts ++ end ∷ []; made = one.0; are = are; shallow = shallow; makes = one.1; sound = (one.2).sound; alone = (one.2).alone }

first_same : (a b : Expr) (xs ys : List Expr) → a ∷ xs ≡ b ∷ ys → a ≡ b
first_same a b xs ys e = cc

-- and they mean no other
pub one_meaning : (chars : List ℕ) (ts : List Token) (a b : Expr) → Means chars filter ts (a ∷ []) → Means chars filter ts (b ∷ []) → a ≡ b
one_meaning chars ts a b h k =
    let end : Token = record { class = classes.End; from = 0; to = 0 } in
    let one = whole_read chars ts end a refl h in
    let two = whole_read chars ts end b refl k in
    let same = one_value Reading (eats chars) (does chars) rules.Whole (inl refl) start (ts ++ end ∷ []) one.0 two.0 one.1 two.1 in
    first_same a b [] [] (sym (one.2).alone ∙ ap (λ (r : Reading). r.values.exprs) same ∙ (two.2).alone)
