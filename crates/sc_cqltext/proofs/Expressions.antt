-- The tokens of an expression make the expression.
use Rattle.std.proofs.Common.{◌≡◌, inl, inr, ℕ, ◌+◌, ◌-◌, ◌≤◌, List, [], ◌∷◌, ◌++◌, length, map, drop, reverse, Bool, true, false, None, refl, sym, ap, subst, ◌∙◌, codes, append_assoc, append-nil, length-append, arith, IsUtf8}
use Rattle.std.specs.List.{AllByRecursion}
use Rattle.std.proofs.Math.Seq.{take-append_seam, drop-append_seam}
use Rattle.std.proofs.lemmas.Bool.{le-leb}
use Rattle.std.proofs.lemmas.List.{reverse-append}
use Rattle.std.proofs.lemmas.List.Elements.{recursion_from_All}
use Rattle.sc_grammar.specs.Grammar.{tok, non, act}
use Rattle.sc_grammar.specs.declared.token.Class.TheVariants as classes
use Rattle.sc_grammar.specs.declared.token.Token.{Token as Told}
use Rattle.sc_cqlgrammar.specs.declared.rule.Rule.{Rule}
use Rattle.sc_cqlgrammar.specs.declared.rule.Rule.TheVariants as rules
use Rattle.sc_cqlgrammar.specs.declared.mark.Mark.TheVariants as marks
use Rattle.sc_cqlgrammar.specs.Rules.{IsAlternative}
use Rattle.sc_expr.specs.declared.scalar.Scalar.{Scalar}
use Rattle.sc_expr.specs.declared.scalar.Scalar.TheVariants as scalars
use Rattle.sc_expr.specs.declared.scalar.Pattern.{Pattern}
use Rattle.sc_expr.specs.declared.scalar.Shape.{Shape}
use Rattle.sc_expr.specs.declared.expr.CompOp.{CompOp}
use Rattle.sc_expr.specs.declared.expr.CompOp.TheVariants.{Eq, Ne, Lt, Gt, Le, Ge}
use Rattle.sc_expr.specs.declared.expr.Expr.{Expr}
use Rattle.sc_expr.specs.declared.expr.Expr.TheVariants as exprs
use Rattle.sc_expr.specs.declared.expr.Expr.TheOpen as outer
use Rattle.sc_expr.specs.declared.expr.Expr.TheOpen.{Expr-F}
use Rattle.sc_expr.specs.declared.expr.Expr.TheViews.{roll-Expr, out-roll-Expr}
use Rattle.sc_expr.specs.declared.expr.Expr.TheFolds.{map-Expr, fold-roll-Expr, ind-Expr}
use Rattle.sc_expr.specs.Form.{IsFormedScalar, IsFormedShape, IsLevel, IsFormed}
use Rattle.sc_expr.specs.Kept.{IsKeptScalar, IsKeptShape, IsKeptLevel, IsKept}
use Rattle.sc_expr.specs.Filter.{IsFilter}
use Rattle.sc_expr.proofs.Every.{members_in, every_level, every_member}
use Rattle.sc_cqlvalue.specs.declared.state.State.{State}
use Rattle.sc_cqlvalue.specs.declared.state.Bbox.{Bbox}
use Rattle.sc_cqlvalue.specs.Values as values
use Rattle.sc_cqlread.specs.Reading.{Reading, does}
use Rattle.sc_cqlwrite.specs.Tokens as tokens
use Rattle.sc_cqlwrite.specs.Tokens.{Token, before_each, between, enclosed, listed}
use Rattle.sc_cqlwrite.specs.Scalars.{truth_token, scalar_tokens, pattern_tokens}
use Rattle.sc_cqlwrite.specs.Geometries.{shape_tokens}
use Rattle.sc_cqlwrite.specs.Predicates.{comparison_tokens, null_tokens, between_tokens, among_tokens, like_tokens, meets_tokens}
use Rattle.sc_cqlwrite.specs.Written.{Phrase, joined, single, enclosed_if, member_of, phrase_of, tokens_of}
use Rattle.sc_cqlwrite.specs.Written as written
use Rattle.sc_cqltext.proofs.Gives.{Ready, state_of, At, Gives, Rules, gives_none, gives_rule, gives_then, gives_mark, gives_marked, gives_plain, IsValued, done_at, gives_true, gives_false, gives_and, gives_or, gives_not, gives_is, gives_null, gives_between, gives_in, gives_like, gives_s_intersects}
use Rattle.sc_cqltext.proofs.Scalars.{put, with_pattern, mark_gives, IsSaid, as_scalar, as_primary, scalar_said, pattern_gives}
use Rattle.sc_cqltext.proofs.Shapes.{with_shape, shape_gives}

abbrev pub with_expr : Expr → Ready → Ready
with_expr e x = record x { exprs = e ∷ x.exprs }

-- no list is open, and no pattern stands ready
abbrev pub clean : Ready → Ready
clean x = record x { listed = []; pattern = None }

-- a chain is open, in which these came, the last first
abbrev opened : Ready → List Expr → Ready
opened x es = record x { exprs = es ++ x.exprs; chains = length x.exprs ∷ x.chains }

abbrev turn : List Expr → List Expr → List Expr
turn [] ns = ns
turn (e ∷ es) ns = turn es (e ∷ ns)

module _ (chars : List ℕ) where
  equal_valued : IsValued chars marks.Equal
  unfolding does
  equal_valued = record { values_are = λ r. refl; wide_is = λ r. refl }

  not_equal_valued : IsValued chars marks.NotEqual
  unfolding does
  not_equal_valued = record { values_are = λ r. refl; wide_is = λ r. refl }

  less_valued : IsValued chars marks.Less
  unfolding does
  less_valued = record { values_are = λ r. refl; wide_is = λ r. refl }

  greater_valued : IsValued chars marks.Greater
  unfolding does
  greater_valued = record { values_are = λ r. refl; wide_is = λ r. refl }

  at_most_valued : IsValued chars marks.AtMost
  unfolding does
  at_most_valued = record { values_are = λ r. refl; wide_is = λ r. refl }

  at_least_valued : IsValued chars marks.AtLeast
  unfolding does
  at_least_valued = record { values_are = λ r. refl; wide_is = λ r. refl }

  is_null_valued : IsValued chars marks.IsNull
  unfolding does
  is_null_valued = record { values_are = λ r. refl; wide_is = λ r. refl }

  between_valued : IsValued chars marks.Between
  unfolding does
  between_valued = record { values_are = λ r. refl; wide_is = λ r. refl }

  list_valued : IsValued chars marks.List
  unfolding does
  list_valued = record { values_are = λ r. refl; wide_is = λ r. refl }

  element_valued : IsValued chars marks.Element
  unfolding does
  element_valued = record { values_are = λ r. refl; wide_is = λ r. refl }

  among_valued : IsValued chars marks.Among
  unfolding does
  among_valued = record { values_are = λ r. refl; wide_is = λ r. refl }

  like_valued : IsValued chars marks.Like
  unfolding does
  like_valued = record { values_are = λ r. refl; wide_is = λ r. refl }

  meets_valued : IsValued chars marks.Meets
  unfolding does
  meets_valued = record { values_are = λ r. refl; wide_is = λ r. refl }

  chain_valued : IsValued chars marks.Chain
  unfolding does
  chain_valued = record { values_are = λ r. refl; wide_is = λ r. refl }

  link_valued : IsValued chars marks.Link
  unfolding does
  link_valued = record { values_are = λ r. refl; wide_is = λ r. refl }

  or_valued : IsValued chars marks.Or
  unfolding does
  or_valued = record { values_are = λ r. refl; wide_is = λ r. refl }

  and_valued : IsValued chars marks.And
  unfolding does
  and_valued = record { values_are = λ r. refl; wide_is = λ r. refl }

  negate_valued : IsValued chars marks.Negate
  unfolding does
  negate_valued = record { values_are = λ r. refl; wide_is = λ r. refl }

  constant_valued : IsValued chars marks.Constant
  unfolding does
  constant_valued = record { values_are = λ r. refl; wide_is = λ r. refl }

  true_valued : IsValued chars marks.True
  unfolding does
  true_valued = record { values_are = λ r. refl; wide_is = λ r. refl }

  false_valued : IsValued chars marks.False
  unfolding does
  false_valued = record { values_are = λ r. refl; wide_is = λ r. refl }

  -- ---- predicates

  abbrev Tests : Scalar → Expr → List Token → Type 0
  Tests s e ts = (x : Ready) → Rules chars rules.Test (At chars (put s (clean x))) (At chars (clean (with_expr e x))) ts

  abbrev Primaries : Expr → List Token → Type 0
  Primaries e ts = (x : Ready) → Rules chars rules.Primary (At chars (clean x)) (At chars (clean (with_expr e x))) ts

  abbrev Factors : Expr → List Token → Type 0
  Factors e ts = (x : Ready) → Rules chars rules.Factor (At chars (clean x)) (At chars (clean (with_expr e x))) ts

  abbrev Terms : Expr → List Token → Type 0
  Terms e ts = (x : Ready) → Rules chars rules.Term (At chars (clean x)) (At chars (clean (with_expr e x))) ts

  abbrev Filters : Expr → List Token → Type 0
  Filters e ts = (x : Ready) → Rules chars rules.Filter (At chars (clean x)) (At chars (clean (with_expr e x))) ts

  tested : (s : Scalar) (e : Expr) (us : List Token) → IsSaid chars s (scalar_tokens s) → Tests s e us → Primaries e (scalar_tokens s ++ us)
  tested s e us said test x = as_primary chars s (scalar_tokens s) us (clean x) (At chars (clean (with_expr e x))) said (test x)

  compared : (op : CompOp) (left right : Scalar) → IsSaid chars right (scalar_tokens right) → Tests left (exprs.Compare op left right) (tokens.sign op ∷ scalar_tokens right)
  compared Eq left right said x =
      let ts : List Token = scalar_tokens right in let y = put left (clean x) in let z = clean (with_expr (exprs.Compare Eq left right) x) in
      gives_rule chars rules.Test (tok classes.Equal ∷ non rules.Scalar ∷ act marks.Equal ∷ []) (At chars y) (At chars z) (tokens.sign Eq ∷ ts) (inl refl)
      (gives_plain chars (tokens.sign Eq) (non rules.Scalar ∷ act marks.Equal ∷ []) y (At chars z) ts (λ place. refl)
      (gives_marked chars rules.Scalar marks.Equal (At chars y) (At chars (put right y)) (At chars z) ts (as_scalar chars right ts said y) (done_at chars marks.Equal (put right y) z equal_valued (λ k b. refl))))
  compared Ne left right said x =
      let ts : List Token = scalar_tokens right in let y = put left (clean x) in let z = clean (with_expr (exprs.Compare Ne left right) x) in
      gives_rule chars rules.Test (tok classes.NotEqual ∷ non rules.Scalar ∷ act marks.NotEqual ∷ []) (At chars y) (At chars z) (tokens.sign Ne ∷ ts) (inr (inl refl))
      (gives_plain chars (tokens.sign Ne) (non rules.Scalar ∷ act marks.NotEqual ∷ []) y (At chars z) ts (λ place. refl)
      (gives_marked chars rules.Scalar marks.NotEqual (At chars y) (At chars (put right y)) (At chars z) ts (as_scalar chars right ts said y) (done_at chars marks.NotEqual (put right y) z not_equal_valued (λ k b. refl))))
  compared Lt left right said x =
      let ts : List Token = scalar_tokens right in let y = put left (clean x) in let z = clean (with_expr (exprs.Compare Lt left right) x) in
      gives_rule chars rules.Test (tok classes.Less ∷ non rules.Scalar ∷ act marks.Less ∷ []) (At chars y) (At chars z) (tokens.sign Lt ∷ ts) (inr (inr (inl refl)))
      (gives_plain chars (tokens.sign Lt) (non rules.Scalar ∷ act marks.Less ∷ []) y (At chars z) ts (λ place. refl)
      (gives_marked chars rules.Scalar marks.Less (At chars y) (At chars (put right y)) (At chars z) ts (as_scalar chars right ts said y) (done_at chars marks.Less (put right y) z less_valued (λ k b. refl))))
  compared Gt left right said x =
      let ts : List Token = scalar_tokens right in let y = put left (clean x) in let z = clean (with_expr (exprs.Compare Gt left right) x) in
      gives_rule chars rules.Test (tok classes.Greater ∷ non rules.Scalar ∷ act marks.Greater ∷ []) (At chars y) (At chars z) (tokens.sign Gt ∷ ts) (inr (inr (inr (inl refl))))
      (gives_plain chars (tokens.sign Gt) (non rules.Scalar ∷ act marks.Greater ∷ []) y (At chars z) ts (λ place. refl)
      (gives_marked chars rules.Scalar marks.Greater (At chars y) (At chars (put right y)) (At chars z) ts (as_scalar chars right ts said y) (done_at chars marks.Greater (put right y) z greater_valued (λ k b. refl))))
  compared Le left right said x =
      let ts : List Token = scalar_tokens right in let y = put left (clean x) in let z = clean (with_expr (exprs.Compare Le left right) x) in
      gives_rule chars rules.Test (tok classes.AtMost ∷ non rules.Scalar ∷ act marks.AtMost ∷ []) (At chars y) (At chars z) (tokens.sign Le ∷ ts) (inr (inr (inr (inr (inl refl)))))
      (gives_plain chars (tokens.sign Le) (non rules.Scalar ∷ act marks.AtMost ∷ []) y (At chars z) ts (λ place. refl)
      (gives_marked chars rules.Scalar marks.AtMost (At chars y) (At chars (put right y)) (At chars z) ts (as_scalar chars right ts said y) (done_at chars marks.AtMost (put right y) z at_most_valued (λ k b. refl))))
  compared Ge left right said x =
      let ts : List Token = scalar_tokens right in let y = put left (clean x) in let z = clean (with_expr (exprs.Compare Ge left right) x) in
      gives_rule chars rules.Test (tok classes.AtLeast ∷ non rules.Scalar ∷ act marks.AtLeast ∷ []) (At chars y) (At chars z) (tokens.sign Ge ∷ ts) (inr (inr (inr (inr (inr (inl refl))))))
      (gives_plain chars (tokens.sign Ge) (non rules.Scalar ∷ act marks.AtLeast ∷ []) y (At chars z) ts (λ place. refl)
      (gives_marked chars rules.Scalar marks.AtLeast (At chars y) (At chars (put right y)) (At chars z) ts (as_scalar chars right ts said y) (done_at chars marks.AtLeast (put right y) z at_least_valued (λ k b. refl))))

  comparison_gives : (op : CompOp) (left right : Scalar) → IsSaid chars left (scalar_tokens left) → IsSaid chars right (scalar_tokens right) → Primaries (exprs.Compare op left right) (comparison_tokens op left right)
  unfolding comparison_tokens
  comparison_gives op left right l r = tested left (exprs.Compare op left right) (tokens.sign op ∷ scalar_tokens right) l (compared op left right r)

  null_gives : (operand : Scalar) → IsSaid chars operand (scalar_tokens operand) → Primaries (exprs.IsNull operand) (null_tokens operand)
  unfolding null_tokens
  null_gives operand said =
      let null : Token = tokens.word (codes "NULL") in
      tested operand (exprs.IsNull operand) (tokens.word (codes "IS") ∷ null ∷ []) said
      (λ x. let y = put operand (clean x) in let z = clean (with_expr (exprs.IsNull operand) x) in
      gives_rule chars rules.Test (tok classes.Is ∷ non rules.NullTest ∷ []) (At chars y) (At chars z) (tokens.word (codes "IS") ∷ null ∷ []) (inr (inr (inr (inr (inr (inr (inl refl)))))))
      (gives_is chars (non rules.NullTest ∷ []) y (At chars z) (null ∷ [])
      (gives_rule chars rules.NullTest (tok classes.Null ∷ act marks.IsNull ∷ []) (At chars y) (At chars z) (null ∷ []) (inl refl)
      (gives_null chars (act marks.IsNull ∷ []) y (At chars z) [] (mark_gives chars marks.IsNull y z is_null_valued (λ k b. refl))))))

  negatable : (s : Scalar) (e : Expr) (ts : List Token) → ((x : Ready) → Rules chars rules.Negatable (At chars (put s (clean x))) (At chars (clean (with_expr e x))) ts) → Tests s e ts
  negatable s e ts h x = gives_rule chars rules.Test (non rules.Negatable ∷ []) (At chars (put s (clean x))) (At chars (clean (with_expr e x))) ts (inr (inr (inr (inr (inr (inr (inr (inr (inl refl))))))))) (h x)

  between_gives : (operand low high : Scalar) → IsSaid chars operand (scalar_tokens operand) → IsSaid chars low (scalar_tokens low) → IsSaid chars high (scalar_tokens high) → Primaries (exprs.Between operand low high) (between_tokens operand low high)
  unfolding between_tokens
  between_gives operand low high o l h =
      let ls : List Token = scalar_tokens low in let hs : List Token = scalar_tokens high in
      let rest : List Token = tokens.word (codes "AND") ∷ hs in
      let whole : List Token = tokens.word (codes "BETWEEN") ∷ (ls ++ rest) in
      tested operand (exprs.Between operand low high) whole o
      (negatable operand (exprs.Between operand low high) whole
      (λ x. let y = put operand (clean x) in let v = put low y in let w = put high v in let z = clean (with_expr (exprs.Between operand low high) x) in
      gives_rule chars rules.Negatable (tok classes.Between ∷ non rules.Scalar ∷ tok classes.And ∷ non rules.Scalar ∷ act marks.Between ∷ []) (At chars y) (At chars z) whole (inl refl)
      (gives_between chars (non rules.Scalar ∷ tok classes.And ∷ non rules.Scalar ∷ act marks.Between ∷ []) y (At chars z) (ls ++ rest)
      (gives_then chars rules.Scalar (tok classes.And ∷ non rules.Scalar ∷ act marks.Between ∷ []) (At chars y) (At chars v) (At chars z) ls rest (as_scalar chars low ls l y)
      (gives_and chars (non rules.Scalar ∷ act marks.Between ∷ []) v (At chars z) hs
      (gives_marked chars rules.Scalar marks.Between (At chars v) (At chars w) (At chars z) hs (as_scalar chars high hs h v) (done_at chars marks.Between w z between_valued (λ k b. refl))))))))

  like_gives : (operand : Scalar) (pattern : Pattern) → IsSaid chars operand (scalar_tokens operand) → IsUtf8 pattern.text → Primaries (exprs.Like operand pattern) (like_tokens operand pattern)
  unfolding like_tokens
  like_gives operand pattern o utf8 =
      let ps : List Token = pattern_tokens pattern in let whole : List Token = tokens.word (codes "LIKE") ∷ ps in
      tested operand (exprs.Like operand pattern) whole o
      (negatable operand (exprs.Like operand pattern) whole
      (λ x. let y = put operand (clean x) in let v = with_pattern pattern y in let z = clean (with_expr (exprs.Like operand pattern) x) in
      gives_rule chars rules.Negatable (tok classes.Like ∷ non rules.Pattern ∷ act marks.Like ∷ []) (At chars y) (At chars z) whole (inr (inr (inl refl)))
      (gives_like chars (non rules.Pattern ∷ act marks.Like ∷ []) y (At chars z) ps
      (gives_marked chars rules.Pattern marks.Like (At chars y) (At chars v) (At chars z) ps (pattern_gives chars pattern utf8 y) (done_at chars marks.Like v z like_valued (λ k b. refl))))))

  -- ---- lists

  abbrev listing : List Scalar → Ready → Ready
  listing ls x = record x { listed = ls }

  abbrev AreSaid : List Scalar → Type 0
  AreSaid = AllByRecursion (λ s. IsSaid chars s (scalar_tokens s))

  scalar_rest : (ss ls : List Scalar) → AreSaid ss → (x : Ready) → Rules chars rules.ScalarRest (At chars (listing ls x)) (At chars (listing (ls ++ ss) x)) (before_each tokens.comma (map scalar_tokens ss))
  scalar_rest [] ls all x =
      gives_rule chars rules.ScalarRest [] (At chars (listing ls x)) (At chars (listing (ls ++ []) x)) [] (inr (inl refl))
      (subst (λ (l : List Scalar). Gives chars [] (At chars (listing ls x)) (At chars (listing l x)) []) (sym (append-nil ls)) (gives_none chars (At chars (listing ls x))))
  scalar_rest (s ∷ ss) ls all x =
      let ts : List Token = scalar_tokens s in let us : List Token = before_each tokens.comma (map scalar_tokens ss) in
      let y = listing ls x in let v = listing (ls ++ s ∷ []) x in let z = listing (ls ++ s ∷ ss) x in
      let rest : Rules chars rules.ScalarRest (At chars v) (At chars z) us =
      subst (λ (l : List Scalar). Rules chars rules.ScalarRest (At chars v) (At chars (listing l x)) us) (append_assoc ls (s ∷ []) ss) (scalar_rest ss (ls ++ s ∷ []) all.1 x) in
      gives_rule chars rules.ScalarRest (tok classes.Comma ∷ non rules.Scalar ∷ act marks.Element ∷ non rules.ScalarRest ∷ []) (At chars y) (At chars z) (tokens.comma ∷ (ts ++ us)) (inl refl)
      (gives_plain chars tokens.comma (non rules.Scalar ∷ act marks.Element ∷ non rules.ScalarRest ∷ []) y (At chars z) (ts ++ us) (λ place. refl)
      (gives_then chars rules.Scalar (act marks.Element ∷ non rules.ScalarRest ∷ []) (At chars y) (At chars (put s y)) (At chars z) ts us (as_scalar chars s ts all.0 y)
      (gives_mark chars marks.Element (non rules.ScalarRest ∷ []) (At chars (put s y)) (At chars v) (At chars z) us (done_at chars marks.Element (put s y) v element_valued (λ k b. refl)) rest)))

  among_gives : (operand s : Scalar) (ss : List Scalar) → IsSaid chars operand (scalar_tokens operand) → IsSaid chars s (scalar_tokens s) → AreSaid ss → Primaries (exprs.Among operand (s ∷ ss)) (among_tokens operand (s ∷ ss))
  unfolding among_tokens
  among_gives operand s ss o h all =
      let first : List Token = scalar_tokens s in
      let rest : List Token = before_each tokens.comma (map scalar_tokens ss) in
      let end : List Token = tokens.closing ∷ [] in
      let list : List Token = listed (map scalar_tokens (s ∷ ss)) in
      let whole : List Token = tokens.word (codes "IN") ∷ list in
      let e : Expr = exprs.Among operand (s ∷ ss) in
      tested operand e whole o
      (negatable operand e whole
      (λ x. let y = put operand (clean x) in let v = listing (s ∷ []) y in let w = listing (s ∷ ss) y in let z = clean (with_expr e x) in
      gives_rule chars rules.Negatable (tok classes.In ∷ tok classes.Opening ∷ act marks.List ∷ non rules.Scalar ∷ act marks.Element ∷ non rules.ScalarRest ∷ tok classes.Closing ∷ act marks.Among ∷ []) (At chars y) (At chars z) whole (inr (inl refl))
      (gives_in chars (tok classes.Opening ∷ act marks.List ∷ non rules.Scalar ∷ act marks.Element ∷ non rules.ScalarRest ∷ tok classes.Closing ∷ act marks.Among ∷ []) y (At chars z) list
      (gives_plain chars tokens.opening (act marks.List ∷ non rules.Scalar ∷ act marks.Element ∷ non rules.ScalarRest ∷ tok classes.Closing ∷ act marks.Among ∷ []) y (At chars z) ((first ++ rest) ++ end) (λ place. refl)
      (gives_mark chars marks.List (non rules.Scalar ∷ act marks.Element ∷ non rules.ScalarRest ∷ tok classes.Closing ∷ act marks.Among ∷ []) (At chars y) (At chars y) (At chars z) ((first ++ rest) ++ end) (done_at chars marks.List y y list_valued (λ k b. refl))
      (subst (Gives chars (non rules.Scalar ∷ act marks.Element ∷ non rules.ScalarRest ∷ tok classes.Closing ∷ act marks.Among ∷ []) (At chars y) (At chars z)) (sym (append_assoc first rest end))
      (gives_then chars rules.Scalar (act marks.Element ∷ non rules.ScalarRest ∷ tok classes.Closing ∷ act marks.Among ∷ []) (At chars y) (At chars (put s y)) (At chars z) first (rest ++ end) (as_scalar chars s first h y)
      (gives_mark chars marks.Element (non rules.ScalarRest ∷ tok classes.Closing ∷ act marks.Among ∷ []) (At chars (put s y)) (At chars v) (At chars z) (rest ++ end) (done_at chars marks.Element (put s y) v element_valued (λ k b. refl))
      (gives_then chars rules.ScalarRest (tok classes.Closing ∷ act marks.Among ∷ []) (At chars v) (At chars w) (At chars z) rest end (scalar_rest ss (s ∷ []) all y)
      (gives_plain chars tokens.closing (act marks.Among ∷ []) w (At chars z) [] (λ place. refl) (mark_gives chars marks.Among w z among_valued (λ k b. refl))))))))))))

  meets_gives : (left right : Shape) → IsFormedShape left → IsKeptShape left → IsFormedShape right → IsKeptShape right → Primaries (exprs.Meets left right) (meets_tokens left right)
  unfolding meets_tokens
  meets_gives left right f k g l x =
      let ls : List Token = shape_tokens left in let rs : List Token = shape_tokens right in
      let end : List Token = tokens.closing ∷ [] in let pair : List Token = ls ++ (tokens.comma ∷ rs) in
      let y = clean x in let v = with_shape left y in let w = with_shape right v in let z = clean (with_expr (exprs.Meets left right) x) in
      gives_rule chars rules.Primary (tok classes.SIntersects ∷ tok classes.Opening ∷ non rules.Shape ∷ tok classes.Comma ∷ non rules.Shape ∷ tok classes.Closing ∷ act marks.Meets ∷ []) (At chars y) (At chars z) (tokens.function (codes "S_INTERSECTS") ∷ enclosed pair) (inr (inr (inr (inr (inl refl)))))
      (gives_s_intersects chars (tok classes.Opening ∷ non rules.Shape ∷ tok classes.Comma ∷ non rules.Shape ∷ tok classes.Closing ∷ act marks.Meets ∷ []) y (At chars z) (enclosed pair)
      (gives_plain chars tokens.opening (non rules.Shape ∷ tok classes.Comma ∷ non rules.Shape ∷ tok classes.Closing ∷ act marks.Meets ∷ []) y (At chars z) (pair ++ end) (λ place. refl)
      (subst (Gives chars (non rules.Shape ∷ tok classes.Comma ∷ non rules.Shape ∷ tok classes.Closing ∷ act marks.Meets ∷ []) (At chars y) (At chars z)) (sym (append_assoc ls (tokens.comma ∷ rs) end))
      (gives_then chars rules.Shape (tok classes.Comma ∷ non rules.Shape ∷ tok classes.Closing ∷ act marks.Meets ∷ []) (At chars y) (At chars v) (At chars z) ls ((tokens.comma ∷ rs) ++ end) (shape_gives chars left f k y)
      (gives_plain chars tokens.comma (non rules.Shape ∷ tok classes.Closing ∷ act marks.Meets ∷ []) v (At chars z) (rs ++ end) (λ place. refl)
      (gives_then chars rules.Shape (tok classes.Closing ∷ act marks.Meets ∷ []) (At chars v) (At chars w) (At chars z) rs end (shape_gives chars right g l v)
      (gives_plain chars tokens.closing (act marks.Meets ∷ []) w (At chars z) [] (λ place. refl) (mark_gives chars marks.Meets w z meets_valued (λ k b. refl)))))))))

  const_gives : (truth : Bool) → Primaries (exprs.Const truth) (truth_token truth ∷ [])
  const_gives true x =
      let y = clean x in let v = put (scalars.Truth true) y in let z = clean (with_expr (exprs.Const true) x) in
      gives_rule chars rules.Primary (tok classes.True ∷ act marks.True ∷ non rules.TruthRest ∷ []) (At chars y) (At chars z) (truth_token true ∷ []) (inr (inl refl))
      (gives_true chars (act marks.True ∷ non rules.TruthRest ∷ []) y (At chars z) []
      (gives_mark chars marks.True (non rules.TruthRest ∷ []) (At chars y) (At chars v) (At chars z) [] (done_at chars marks.True y v true_valued (λ k b. refl))
      (gives_rule chars rules.TruthRest (act marks.Constant ∷ []) (At chars v) (At chars z) [] (inr (inl refl)) (mark_gives chars marks.Constant v z constant_valued (λ k b. refl)))))
  const_gives false x =
      let y = clean x in let v = put (scalars.Truth false) y in let z = clean (with_expr (exprs.Const false) x) in
      gives_rule chars rules.Primary (tok classes.False ∷ act marks.False ∷ non rules.TruthRest ∷ []) (At chars y) (At chars z) (truth_token false ∷ []) (inr (inr (inl refl)))
      (gives_false chars (act marks.False ∷ non rules.TruthRest ∷ []) y (At chars z) []
      (gives_mark chars marks.False (non rules.TruthRest ∷ []) (At chars y) (At chars v) (At chars z) [] (done_at chars marks.False y v false_valued (λ k b. refl))
      (gives_rule chars rules.TruthRest (act marks.Constant ∷ []) (At chars v) (At chars z) [] (inr (inl refl)) (mark_gives chars marks.Constant v z constant_valued (λ k b. refl)))))

  -- ---- chains

  reverse-cons : (e : Expr) (ns : List Expr) → reverse (e ∷ ns) ≡ reverse ns ++ e ∷ []
  reverse-cons e ns = reverse-append (e ∷ []) ns

  length_turn : (es ns : List Expr) → length (turn es ns) ≡ length es + length ns
  length_turn [] ns = omega arith
  length_turn (e ∷ es) ns = omega (arith, length_turn es (e ∷ ns))

  turn_back : (es ns : List Expr) → reverse (turn es ns) ≡ reverse ns ++ es
  turn_back [] ns = sym (append-nil (reverse ns))
  turn_back (e ∷ es) ns = turn_back es (e ∷ ns) ∙ ap (λ (l : List Expr). l ++ es) (reverse-cons e ns) ∙ append_assoc (reverse ns) (e ∷ []) es

  count_is : (ns old : List Expr) → length (ns ++ old) - length old ≡ length ns
  count_is ns old = omega (arith, length-append ns old)

  -- what ends a chain of one, and of more
  one_joined : (join : List Expr → Expr) (e : Expr) (old : List Expr) → values.joined join (length (e ∷ old) - length old) (e ∷ old) ≡ e ∷ old
  one_joined join e old = rw (count_is (e ∷ []) old) refl

  more_joined : (join : List Expr → Expr) (ns old : List Expr) → 2 ≤ length ns → values.joined join (length (ns ++ old) - length old) (ns ++ old) ≡ join (reverse ns) ∷ old
  more_joined join ns old two =
      rw (count_is ns old, le-leb 2 (length ns) two)
      (ap (λ (l : List Expr). join (reverse l) ∷ drop (length ns) (ns ++ old)) (take-append_seam ns old) ∙ ap (λ (l : List Expr). join (reverse ns) ∷ l) (drop-append_seam ns old))

  opened_at : (x : Ready) (es : List Expr) → Reading → Type 0
  opened_at x es = At chars (opened (clean x) es)

  begun : (x : Ready) (r : Reading) → At chars (clean x) r → At chars (opened (clean x) []) (does chars marks.Chain r)
  begun x = done_at chars marks.Chain (clean x) (opened (clean x) []) chain_valued (λ k b. refl)

  linked : (x : Ready) (es : List Expr) (r : Reading) → At chars (opened (clean x) es) r → At chars (opened (clean x) es) (does chars marks.Link r)
  linked x es = done_at chars marks.Link (opened (clean x) es) (opened (clean x) es) link_valued (λ k b. refl)

  state_with : (x : Ready) (es : List Expr) (k : Told) (b : Bbox) → State
  state_with x es k b = state_of (record (clean x) { exprs = es }) k b

  and_one : (x : Ready) (e : Expr) (r : Reading) → At chars (opened (clean x) (e ∷ [])) r → At chars (clean (with_expr e x)) (does chars marks.And r)
  unfolding state_with
  and_one x e = done_at chars marks.And (opened (clean x) (e ∷ [])) (clean (with_expr e x)) and_valued (λ k b. ap (λ (es : List Expr). state_with x es k b) (one_joined exprs.And e x.exprs))

  or_one : (x : Ready) (e : Expr) (r : Reading) → At chars (opened (clean x) (e ∷ [])) r → At chars (clean (with_expr e x)) (does chars marks.Or r)
  unfolding state_with
  or_one x e = done_at chars marks.Or (opened (clean x) (e ∷ [])) (clean (with_expr e x)) or_valued (λ k b. ap (λ (es : List Expr). state_with x es k b) (one_joined exprs.Or e x.exprs))

  and_more : (x : Ready) (ns : List Expr) → 2 ≤ length ns → (r : Reading) → At chars (opened (clean x) ns) r → At chars (clean (with_expr (exprs.And (reverse ns)) x)) (does chars marks.And r)
  unfolding state_with
  and_more x ns two = done_at chars marks.And (opened (clean x) ns) (clean (with_expr (exprs.And (reverse ns)) x)) and_valued (λ k b. ap (λ (es : List Expr). state_with x es k b) (more_joined exprs.And ns x.exprs two))

  or_more : (x : Ready) (ns : List Expr) → 2 ≤ length ns → (r : Reading) → At chars (opened (clean x) ns) r → At chars (clean (with_expr (exprs.Or (reverse ns)) x)) (does chars marks.Or r)
  unfolding state_with
  or_more x ns two = done_at chars marks.Or (opened (clean x) ns) (clean (with_expr (exprs.Or (reverse ns)) x)) or_valued (λ k b. ap (λ (es : List Expr). state_with x es k b) (more_joined exprs.Or ns x.exprs two))

  no_more : (n : Rule) → IsAlternative n [] → (P : Reading → Type 0) → Rules chars n P P []
  no_more n is P = gives_rule chars n [] P P [] is (gives_none chars P)

  as_factor : (e : Expr) (ts : List Token) → Primaries e ts → Factors e ts
  as_factor e ts h x = gives_rule chars rules.Factor (non rules.Primary ∷ []) (At chars (clean x)) (At chars (clean (with_expr e x))) ts (inr (inl refl)) (h x)

  -- a factor within a chain
  chained : (e : Expr) (ts : List Token) → Factors e ts → (x : Ready) (ns : List Expr) → Rules chars rules.Factor (At chars (opened (clean x) ns)) (At chars (opened (clean x) (e ∷ ns))) ts
  chained e ts h x ns = h (opened x ns)

  term_gives : (x : Ready) (ts us : List Token) (e : Expr) (ns : List Expr) (Q : Reading → Type 0) → Factors e ts → Rules chars rules.AndRest (At chars (opened (clean x) (e ∷ []))) (At chars (opened (clean x) ns)) us
      → ((r : Reading) → At chars (opened (clean x) ns) r → Q (does chars marks.And r)) → Rules chars rules.Term (At chars (clean x)) Q (ts ++ us)
  term_gives x ts us e ns Q h k ends =
      gives_rule chars rules.Term (act marks.Chain ∷ non rules.Factor ∷ act marks.Link ∷ non rules.AndRest ∷ act marks.And ∷ []) (At chars (clean x)) Q (ts ++ us) (inl refl)
      (gives_mark chars marks.Chain (non rules.Factor ∷ act marks.Link ∷ non rules.AndRest ∷ act marks.And ∷ []) (At chars (clean x)) (At chars (opened (clean x) [])) Q (ts ++ us) (begun x)
      (gives_then chars rules.Factor (act marks.Link ∷ non rules.AndRest ∷ act marks.And ∷ []) (At chars (opened (clean x) [])) (At chars (opened (clean x) (e ∷ []))) Q ts us (chained e ts h x [])
      (gives_mark chars marks.Link (non rules.AndRest ∷ act marks.And ∷ []) (At chars (opened (clean x) (e ∷ []))) (At chars (opened (clean x) (e ∷ []))) Q us (linked x (e ∷ []))
      (gives_marked chars rules.AndRest marks.And (At chars (opened (clean x) (e ∷ []))) (At chars (opened (clean x) ns)) Q us k ends))))

  filter_gives : (x : Ready) (ts us : List Token) (e : Expr) (ns : List Expr) (Q : Reading → Type 0) → Terms e ts → Rules chars rules.OrRest (At chars (opened (clean x) (e ∷ []))) (At chars (opened (clean x) ns)) us
      → ((r : Reading) → At chars (opened (clean x) ns) r → Q (does chars marks.Or r)) → Rules chars rules.Filter (At chars (clean x)) Q (ts ++ us)
  filter_gives x ts us e ns Q h k ends =
      gives_rule chars rules.Filter (act marks.Chain ∷ non rules.Term ∷ act marks.Link ∷ non rules.OrRest ∷ act marks.Or ∷ []) (At chars (clean x)) Q (ts ++ us) (inl refl)
      (gives_mark chars marks.Chain (non rules.Term ∷ act marks.Link ∷ non rules.OrRest ∷ act marks.Or ∷ []) (At chars (clean x)) (At chars (opened (clean x) [])) Q (ts ++ us) (begun x)
      (gives_then chars rules.Term (act marks.Link ∷ non rules.OrRest ∷ act marks.Or ∷ []) (At chars (opened (clean x) [])) (At chars (opened (clean x) (e ∷ []))) Q ts us (h (opened x []))
      (gives_mark chars marks.Link (non rules.OrRest ∷ act marks.Or ∷ []) (At chars (opened (clean x) (e ∷ []))) (At chars (opened (clean x) (e ∷ []))) Q us (linked x (e ∷ []))
      (gives_marked chars rules.OrRest marks.Or (At chars (opened (clean x) (e ∷ []))) (At chars (opened (clean x) ns)) Q us k ends))))

  as_term : (e : Expr) (ts : List Token) → Factors e ts → Terms e ts
  as_term e ts h x =
      subst (Rules chars rules.Term (At chars (clean x)) (At chars (clean (with_expr e x)))) (append-nil ts)
      (term_gives x ts [] e (e ∷ []) (At chars (clean (with_expr e x))) h (no_more rules.AndRest (inr (inl refl)) (At chars (opened (clean x) (e ∷ [])))) (and_one x e))

  as_filter : (e : Expr) (ts : List Token) → Terms e ts → Filters e ts
  as_filter e ts h x =
      subst (Rules chars rules.Filter (At chars (clean x)) (At chars (clean (with_expr e x)))) (append-nil ts)
      (filter_gives x ts [] e (e ∷ []) (At chars (clean (with_expr e x))) h (no_more rules.OrRest (inr (inl refl)) (At chars (opened (clean x) (e ∷ [])))) (or_one x e))

  -- a member's tokens
  abbrev member : Expr → List Token
  member e = member_of (phrase_of e)

  abbrev members : List Expr → List (List Token)
  members es = map member_of (map phrase_of es)

  abbrev AreMembers : List Expr → Type 0
  AreMembers = AllByRecursion (λ e. Primaries e (member e))

  and_rest : (es ns : List Expr) → AreMembers es → (x : Ready) → Rules chars rules.AndRest (At chars (opened (clean x) ns)) (At chars (opened (clean x) (turn es ns))) (before_each (tokens.word (codes "AND")) (members es))
  and_rest [] ns all x = no_more rules.AndRest (inr (inl refl)) (At chars (opened (clean x) ns))
  and_rest (e ∷ es) ns all x =
      let ts : List Token = member e in let us : List Token = before_each (tokens.word (codes "AND")) (members es) in
      let y = opened (clean x) ns in let v = opened (clean x) (e ∷ ns) in let z = opened (clean x) (turn es (e ∷ ns)) in
      gives_rule chars rules.AndRest (tok classes.And ∷ non rules.Factor ∷ act marks.Link ∷ non rules.AndRest ∷ []) (At chars y) (At chars z) (tokens.word (codes "AND") ∷ (ts ++ us)) (inl refl)
      (gives_and chars (non rules.Factor ∷ act marks.Link ∷ non rules.AndRest ∷ []) y (At chars z) (ts ++ us)
      (gives_then chars rules.Factor (act marks.Link ∷ non rules.AndRest ∷ []) (At chars y) (At chars v) (At chars z) ts us (chained e ts (as_factor e ts all.0) x ns)
      (gives_mark chars marks.Link (non rules.AndRest ∷ []) (At chars v) (At chars v) (At chars z) us (linked x (e ∷ ns)) (and_rest es (e ∷ ns) all.1 x))))

  or_rest : (es ns : List Expr) → AreMembers es → (x : Ready) → Rules chars rules.OrRest (At chars (opened (clean x) ns)) (At chars (opened (clean x) (turn es ns))) (before_each (tokens.word (codes "OR")) (members es))
  or_rest [] ns all x = no_more rules.OrRest (inr (inl refl)) (At chars (opened (clean x) ns))
  or_rest (e ∷ es) ns all x =
      let ts : List Token = member e in let us : List Token = before_each (tokens.word (codes "OR")) (members es) in
      let y = opened (clean x) ns in let v = opened (clean x) (e ∷ ns) in let z = opened (clean x) (turn es (e ∷ ns)) in
      gives_rule chars rules.OrRest (tok classes.Or ∷ non rules.Term ∷ act marks.Link ∷ non rules.OrRest ∷ []) (At chars y) (At chars z) (tokens.word (codes "OR") ∷ (ts ++ us)) (inl refl)
      (gives_or chars (non rules.Term ∷ act marks.Link ∷ non rules.OrRest ∷ []) y (At chars z) (ts ++ us)
      (gives_then chars rules.Term (act marks.Link ∷ non rules.OrRest ∷ []) (At chars y) (At chars v) (At chars z) ts us (as_term e ts (as_factor e ts all.0) (opened x ns))
      (gives_mark chars marks.Link (non rules.OrRest ∷ []) (At chars v) (At chars v) (At chars z) us (linked x (e ∷ ns)) (or_rest es (e ∷ ns) all.1 x))))

  back_again : (e : Expr) (es : List Expr) → reverse (turn es (e ∷ [])) ≡ e ∷ es
  back_again e es = turn_back es (e ∷ []) ∙ ap (λ (l : List Expr). l ++ es) (reverse-cons e [])

  and_gives : (es : List Expr) → 2 ≤ length es → AreMembers es → Filters (exprs.And es) (between (tokens.word (codes "AND")) (members es))
  and_gives [] two all = absurd (omega arith)
  and_gives (e ∷ es) two all =
      let ns = turn es (e ∷ []) in let us : List Token = before_each (tokens.word (codes "AND")) (members es) in
      let long : 2 ≤ length ns = omega (arith, length_turn es (e ∷ [])) in
      as_filter (exprs.And (e ∷ es)) (member e ++ us)
      (λ x. subst (λ (l : List Expr). Rules chars rules.Term (At chars (clean x)) (At chars (clean (with_expr (exprs.And l) x))) (member e ++ us)) (back_again e es)
      (term_gives x (member e) us e ns (At chars (clean (with_expr (exprs.And (reverse ns)) x))) (as_factor e (member e) all.0) (and_rest es (e ∷ []) all.1 x) (and_more x ns long)))

  or_gives : (es : List Expr) → 2 ≤ length es → AreMembers es → Filters (exprs.Or es) (between (tokens.word (codes "OR")) (members es))
  or_gives [] two all x = absurd (omega arith)
  or_gives (e ∷ es) two all x =
      let ns = turn es (e ∷ []) in let us : List Token = before_each (tokens.word (codes "OR")) (members es) in
      let long : 2 ≤ length ns = omega (arith, length_turn es (e ∷ [])) in
      subst (λ (l : List Expr). Rules chars rules.Filter (At chars (clean x)) (At chars (clean (with_expr (exprs.Or l) x))) (member e ++ us)) (back_again e es)
      (filter_gives x (member e) us e ns (At chars (clean (with_expr (exprs.Or (reverse ns)) x))) (as_term e (member e) (as_factor e (member e) all.0)) (or_rest es (e ∷ []) all.1 x) (or_more x ns long))

  not_gives : (e : Expr) (ts : List Token) → Primaries e ts → Filters (exprs.Not e) (tokens.word (codes "NOT") ∷ ts)
  not_gives e ts h =
      let whole : List Token = tokens.word (codes "NOT") ∷ ts in
      as_filter (exprs.Not e) whole (as_term (exprs.Not e) whole
      (λ x. let y = clean x in let v = clean (with_expr e x) in let z = clean (with_expr (exprs.Not e) x) in
      gives_rule chars rules.Factor (tok classes.Not ∷ non rules.Primary ∷ act marks.Negate ∷ []) (At chars y) (At chars z) whole (inl refl)
      (gives_not chars (non rules.Primary ∷ act marks.Negate ∷ []) y (At chars z) ts
      (gives_marked chars rules.Primary marks.Negate (At chars y) (At chars v) (At chars z) ts (h x) (done_at chars marks.Negate v z negate_valued (λ k b. refl))))))

  enclosed_gives : (e : Expr) (ts : List Token) → Filters e ts → Primaries e (enclosed ts)
  enclosed_gives e ts h x =
      let y = clean x in let z = clean (with_expr e x) in
      gives_rule chars rules.Primary (tok classes.Opening ∷ non rules.Filter ∷ tok classes.Closing ∷ []) (At chars y) (At chars z) (enclosed ts) (inl refl)
      (gives_plain chars tokens.opening (non rules.Filter ∷ tok classes.Closing ∷ []) y (At chars z) (ts ++ tokens.closing ∷ []) (λ place. refl)
      (gives_then chars rules.Filter (tok classes.Closing ∷ []) (At chars y) (At chars z) (At chars z) ts (tokens.closing ∷ []) (h x)
      (gives_plain chars tokens.closing [] z (At chars z) [] (λ place. refl) (gives_none chars (At chars z)))))

  -- ---- expressions

  record IsPhrase (e : Expr) (p : Phrase) : Type 0 where
    alone : Filters e p.tokens
    member : Primaries e (member_of p)

  joined_phrase : (e : Expr) (ts : List Token) → Filters e ts → IsPhrase e (joined ts)
  joined_phrase e ts h = record { alone = h; member = enclosed_gives e ts h }

  single_phrase : (e : Expr) (ts : List Token) → Primaries e ts → IsPhrase e (single ts)
  single_phrase e ts h = record { alone = as_filter e ts (as_term e ts (as_factor e ts h)); member = h }

  abbrev Good : Expr → Type 0
  Good e = IsFormed e → IsKept e → IsPhrase e (phrase_of e)

  abbrev Held : Type 0
  Held = (e : Expr) × Good e

  abbrev expr_of : Expr-F Held → Expr-F Expr
  expr_of = map-Expr Held Expr (λ h. h.0)

  record Level (x : Expr-F Expr) : Type 0 where
    formed : IsLevel x
    kept : IsKeptLevel x
    members_formed : AllByRecursion IsFormed (members_in x)
    members_kept : AllByRecursion IsKept (members_in x)

  level_at : (x : Expr-F Expr) → IsFormed (roll-Expr x) → IsKept (roll-Expr x) → Level x
  level_at x f k = record {
    formed = subst IsLevel (out-roll-Expr x) (every_level IsLevel (roll-Expr x) f);
    kept = subst IsKeptLevel (out-roll-Expr x) (every_level IsKeptLevel (roll-Expr x) k);
    members_formed = subst (λ (y : Expr-F Expr). AllByRecursion IsFormed (members_in y)) (out-roll-Expr x) (every_member IsLevel (roll-Expr x) f);
    members_kept = subst (λ (y : Expr-F Expr). AllByRecursion IsKept (members_in y)) (out-roll-Expr x) (every_member IsKeptLevel (roll-Expr x) k);
  }

  abbrev firsts : List Held → List Expr
  firsts = map (λ h. h.0)

  members_said : (held : List Held) → AllByRecursion IsFormed (firsts held) → AllByRecursion IsKept (firsts held) → AreMembers (firsts held)
  members_said [] f k = tt
  members_said (h ∷ held) f k = ((h.1 f.0 k.0).member, members_said held f.1 k.1)

  scalars_said : (ss : List Scalar) → AllByRecursion IsFormedScalar ss → AllByRecursion IsKeptScalar ss → AreSaid ss
  scalars_said [] f k = tt
  scalars_said (s ∷ ss) f k = (scalar_said chars s f.0 k.0, scalars_said ss f.1 k.1)

  listed_gives : (operand : Scalar) (ss : List Scalar) → IsFormedScalar operand → IsKeptScalar operand → 1 ≤ length ss → AllByRecursion IsFormedScalar ss → AllByRecursion IsKeptScalar ss → Primaries (exprs.Among operand ss) (among_tokens operand ss)
  listed_gives operand [] f k some fs ks = absurd (omega arith)
  listed_gives operand (s ∷ ss) f k some fs ks = among_gives operand s ss (scalar_said chars operand f k) (scalar_said chars s fs.0 ks.0) (scalars_said ss fs.1 ks.1)

  along : (e f : Expr) (p : Phrase) → e ≡ f → IsPhrase e p → IsPhrase f p
  along e f p is h = subst (λ (u : Expr). IsPhrase u p) is h

  level_said : (y : Expr-F Held) → Level (expr_of y) → IsPhrase (roll-Expr (expr_of y)) (written.level (map-Expr Expr Phrase phrase_of (expr_of y)))
  level_said (outer.Const truth) l = along (exprs.Const truth) _ _ (sym (exprs.rolls-Const truth)) (single_phrase (exprs.Const truth) (truth_token truth ∷ []) (const_gives truth))
  level_said (outer.And held) l = along (exprs.And (firsts held)) _ _ (sym (exprs.rolls-And (firsts held))) (joined_phrase (exprs.And (firsts held)) _ (and_gives (firsts held) l.formed (members_said held l.members_formed l.members_kept)))
  level_said (outer.Or held) l = along (exprs.Or (firsts held)) _ _ (sym (exprs.rolls-Or (firsts held))) (joined_phrase (exprs.Or (firsts held)) _ (or_gives (firsts held) l.formed (members_said held l.members_formed l.members_kept)))
  level_said (outer.Not h) l = along (exprs.Not h.0) _ _ (sym (exprs.rolls-Not h.0)) (joined_phrase (exprs.Not h.0) _ (not_gives h.0 (member h.0) (h.1 l.members_formed.0 l.members_kept.0).member))
  level_said (outer.Compare op left right) l =
      along (exprs.Compare op left right) _ _ (sym (exprs.rolls-Compare op left right))
      (single_phrase (exprs.Compare op left right) _ (comparison_gives op left right (scalar_said chars left l.formed.0 l.kept.0) (scalar_said chars right l.formed.1 l.kept.1)))
  level_said (outer.IsNull operand) l =
      along (exprs.IsNull operand) _ _ (sym (exprs.rolls-IsNull operand)) (single_phrase (exprs.IsNull operand) _ (null_gives operand (scalar_said chars operand l.formed l.kept)))
  level_said (outer.Between operand low high) l =
      along (exprs.Between operand low high) _ _ (sym (exprs.rolls-Between operand low high))
      (single_phrase (exprs.Between operand low high) _ (between_gives operand low high (scalar_said chars operand l.formed.0 l.kept.0) (scalar_said chars low l.formed.1 l.kept.1) (scalar_said chars high l.formed.2 l.kept.2)))
  level_said (outer.Among operand scalars) l =
      along (exprs.Among operand scalars) _ _ (sym (exprs.rolls-Among operand scalars))
      (single_phrase (exprs.Among operand scalars) _ (listed_gives operand scalars l.formed.0 l.kept.0 l.formed.1 (recursion_from_All IsFormedScalar scalars l.formed.2) (recursion_from_All IsKeptScalar scalars l.kept.1)))
  level_said (outer.Like operand pattern) l =
      along (exprs.Like operand pattern) _ _ (sym (exprs.rolls-Like operand pattern)) (single_phrase (exprs.Like operand pattern) _ (like_gives operand pattern (scalar_said chars operand l.formed l.kept.0) l.kept.1))
  level_said (outer.Meets left right) l =
      along (exprs.Meets left right) _ _ (sym (exprs.rolls-Meets left right)) (single_phrase (exprs.Meets left right) _ (meets_gives left right l.formed.0 l.kept.0 l.formed.1 l.kept.1))

  each : (y : Expr-F Held) → Good (roll-Expr (expr_of y))
  each y f k = subst (IsPhrase (roll-Expr (expr_of y))) (sym (fold-roll-Expr Phrase written.level (expr_of y))) (level_said y (level_at (expr_of y) f k))

  expr_said : (e : Expr) → Good e
  expr_said = ind-Expr Good (λ x y is. subst (λ (l : Expr-F Expr). Good (roll-Expr l)) is (each y))

  pub filter_made : (expr : Expr) → IsFilter expr → Filters expr (tokens_of expr)
  filter_made expr is = (expr_said expr is.formed is.kept).alone
