-- The parentheses of a filter's text nest little deeper than the filter.
use Rattle.std.proofs.Common.{◌≡◌, ℕ, ◌+◌, ◌-◌, ◌≤◌, max, List, [], ◌∷◌, ◌++◌, map, Bool, true, false, refl, sym, ap, subst, ◌∙◌, codes, arith}
use Rattle.std.specs.List.{AllByRecursion}
use Rattle.sc_grammar.specs.Words.{word_of, keyword_of, function_of, geometry_of, is_z}
use Rattle.sc_geom.specs.declared.point.Pt.{Pt}
use Rattle.sc_expr.specs.declared.scalar.Scalar.{Scalar}
use Rattle.sc_expr.specs.declared.scalar.Scalar.TheOpen as inner
use Rattle.sc_expr.specs.declared.scalar.Scalar.TheOpen.{Scalar-F}
use Rattle.sc_expr.specs.declared.scalar.Scalar.TheViews.{roll-Scalar}
use Rattle.sc_expr.specs.declared.scalar.Scalar.TheFolds.{map-Scalar, fold-roll-Scalar, ind-Scalar}
use Rattle.sc_expr.specs.declared.scalar.Shape.{Shape}
use Rattle.sc_expr.specs.declared.scalar.Shape.TheVariants as shapes
use Rattle.sc_expr.specs.declared.expr.CompOp.{CompOp}
use Rattle.sc_expr.specs.declared.expr.CompOp.TheVariants.{Eq, Ne, Lt, Gt, Le, Ge}
use Rattle.sc_expr.specs.declared.expr.Expr.{Expr}
use Rattle.sc_expr.specs.declared.expr.Expr.TheOpen as outer
use Rattle.sc_expr.specs.declared.expr.Expr.TheOpen.{Expr-F}
use Rattle.sc_expr.specs.declared.expr.Expr.TheViews.{roll-Expr}
use Rattle.sc_expr.specs.declared.expr.Expr.TheFolds.{map-Expr, fold-roll-Expr, ind-Expr}
use Rattle.sc_expr.specs.Measure.{greatest, one_deeper, scalar_parts, parts, scalar_depth, level_depth, depth}
use Rattle.sc_cqlread.specs.Nesting.{level_behind}
use Rattle.sc_cqlwrite.specs.Tokens as tokens
use Rattle.sc_cqlwrite.specs.Tokens.{Token, before_each, between, enclosed, listed}
use Rattle.sc_cqlwrite.specs.Scalars.{truth_token, folded_tokens, moment_tokens, scalar_tokens, folded_if, pattern_tokens}
use Rattle.sc_cqlwrite.specs.Scalars as written_scalars
use Rattle.sc_cqlwrite.specs.Coordinate.{coordinate_text}
use Rattle.sc_cqlwrite.specs.Geometries.{position_tokens, line_tokens, point_part, line_part, area_part, parts_of, collected, shape_tokens}
use Rattle.sc_cqlwrite.specs.Predicates.{comparison_tokens, null_tokens, between_tokens, among_tokens, like_tokens, meets_tokens}
use Rattle.sc_cqlwrite.specs.Written.{Phrase, enclosed_if, member_of, phrase_of, tokens_of}
use Rattle.sc_cqlwrite.specs.Written as written
use Rattle.sc_cqlback.specs.Read.{class_of}

unfoldable pub level_after : ℕ → List Token → ℕ
level_after level [] = level
level_after level (t ∷ ts) = level_after (level_behind (class_of t) level) ts

unfoldable pub deep_from : ℕ → List Token → ℕ
deep_from level [] = level
deep_from level (t ∷ ts) = max level (deep_from (level_behind (class_of t) level) ts)

-- tokens that close what they open, and nest at most so deep
pub record Nests (deep : ℕ) (ts : List Token) : Type 0 where
  pub closes : (level : ℕ) → level_after level ts ≡ level
  pub most : (level : ℕ) → deep_from level ts ≤ level + deep

after_append : (level : ℕ) (ts us : List Token) → level_after level (ts ++ us) ≡ level_after (level_after level ts) us
unfolding level_after
after_append level [] us = refl
after_append level (t ∷ ts) us = after_append (level_behind (class_of t) level) ts us

deep_append : (level : ℕ) (ts us : List Token) → deep_from level (ts ++ us) ≤ max (deep_from level ts) (deep_from (level_after level ts) us)
unfolding level_after deep_from
deep_append level [] us = omega arith
deep_append level (t ∷ ts) us = omega (arith, deep_append (level_behind (class_of t) level) ts us)

nests_append : (d : ℕ) (ts us : List Token) → Nests d ts → Nests d us → Nests d (ts ++ us)
nests_append d ts us h k = record {
  closes = λ level. after_append level ts us ∙ ap (λ (l : ℕ). level_after l us) (h.closes level) ∙ k.closes level;
  most = λ level.
      let one = h.most level in let two = k.most level in
      let same : deep_from (level_after level ts) us ≡ deep_from level us = ap (λ (l : ℕ). deep_from l us) (h.closes level) in
      omega (arith, deep_append level ts us);
}

nests_none : (d : ℕ) → Nests d []
unfolding level_after deep_from
nests_none d = record { closes = λ level. refl; most = λ level. omega arith }

weaker : (d e : ℕ) (ts : List Token) → d ≤ e → Nests d ts → Nests e ts
weaker d e ts le h = record { closes = h.closes; most = λ level. let one = h.most level in omega arith }

-- a token that opens and closes nothing
abbrev IsFlat : Token → Type 0
IsFlat t = (level : ℕ) → level_behind (class_of t) level ≡ level

nests_flat : (d : ℕ) (t : Token) (ts : List Token) → IsFlat t → Nests d ts → Nests d (t ∷ ts)
unfolding level_after deep_from
nests_flat d t ts flat h = record {
  closes = λ level. ap (λ (l : ℕ). level_after l ts) (flat level) ∙ h.closes level;
  most = λ level.
      let one = h.most level in
      let same : deep_from (level_behind (class_of t) level) ts ≡ deep_from level ts = ap (λ (l : ℕ). deep_from l ts) (flat level) in
      omega arith;
}

one_flat : (d : ℕ) (t : Token) → IsFlat t → Nests d (t ∷ [])
one_flat d t flat = nests_flat d t [] flat (nests_none d)

nests_enclosed : (d : ℕ) (ts : List Token) → Nests d ts → Nests (d + 1) (enclosed ts)
unfolding level_after deep_from
nests_enclosed d ts h = record {
  closes = λ level.
      let back : level + 1 - 1 ≡ level = omega arith in
      after_append (level + 1) ts (tokens.closing ∷ []) ∙ ap (λ (l : ℕ). l - 1) (h.closes (level + 1)) ∙ back;
  most = λ level.
      let one = h.most (level + 1) in
      let last : level_after (level + 1) ts ≡ level + 1 = h.closes (level + 1) in
      omega (arith, deep_append (level + 1) ts (tokens.closing ∷ []));
}

nests_each : (d : ℕ) (t : Token) → IsFlat t → (parts : List (List Token)) → AllByRecursion (Nests d) parts → Nests d (before_each t parts)
nests_each d t flat [] all = nests_none d
nests_each d t flat (p ∷ ps) all = nests_flat d t (p ++ before_each t ps) flat (nests_append d p (before_each t ps) all.0 (nests_each d t flat ps all.1))

nests_between : (d : ℕ) (t : Token) → IsFlat t → (parts : List (List Token)) → AllByRecursion (Nests d) parts → Nests d (between t parts)
nests_between d t flat [] all = nests_none d
nests_between d t flat (p ∷ ps) all = nests_append d p (before_each t ps) all.0 (nests_each d t flat ps all.1)

comma_flat : IsFlat tokens.comma
comma_flat level = refl

nests_listed : (d : ℕ) (parts : List (List Token)) → AllByRecursion (Nests d) parts → Nests (d + 1) (listed parts)
nests_listed d parts all = nests_enclosed d (between tokens.comma parts) (nests_between d tokens.comma comma_flat parts all)

true_flat : IsFlat (tokens.word (codes "TRUE"))
unfolding word_of keyword_of function_of geometry_of is_z
true_flat level = refl

false_flat : IsFlat (tokens.word (codes "FALSE"))
unfolding word_of keyword_of function_of geometry_of is_z
false_flat level = refl

and_flat : IsFlat (tokens.word (codes "AND"))
unfolding word_of keyword_of function_of geometry_of is_z
and_flat level = refl

or_flat : IsFlat (tokens.word (codes "OR"))
unfolding word_of keyword_of function_of geometry_of is_z
or_flat level = refl

not_flat : IsFlat (tokens.word (codes "NOT"))
unfolding word_of keyword_of function_of geometry_of is_z
not_flat level = refl

is_flat : IsFlat (tokens.word (codes "IS"))
unfolding word_of keyword_of function_of geometry_of is_z
is_flat level = refl

null_flat : IsFlat (tokens.word (codes "NULL"))
unfolding word_of keyword_of function_of geometry_of is_z
null_flat level = refl

between_flat : IsFlat (tokens.word (codes "BETWEEN"))
unfolding word_of keyword_of function_of geometry_of is_z
between_flat level = refl

in_flat : IsFlat (tokens.word (codes "IN"))
unfolding word_of keyword_of function_of geometry_of is_z
in_flat level = refl

like_flat : IsFlat (tokens.word (codes "LIKE"))
unfolding word_of keyword_of function_of geometry_of is_z
like_flat level = refl

casei_flat : IsFlat (tokens.function (codes "CASEI"))
unfolding word_of keyword_of function_of geometry_of is_z
casei_flat level = refl

timestamp_flat : IsFlat (tokens.function (codes "TIMESTAMP"))
unfolding word_of keyword_of function_of geometry_of is_z
timestamp_flat level = refl

s_intersects_flat : IsFlat (tokens.function (codes "S_INTERSECTS"))
unfolding word_of keyword_of function_of geometry_of is_z
s_intersects_flat level = refl

point_flat : IsFlat (tokens.function (codes "POINT"))
unfolding word_of keyword_of function_of geometry_of is_z
point_flat level = refl

linestring_flat : IsFlat (tokens.function (codes "LINESTRING"))
unfolding word_of keyword_of function_of geometry_of is_z
linestring_flat level = refl

polygon_flat : IsFlat (tokens.function (codes "POLYGON"))
unfolding word_of keyword_of function_of geometry_of is_z
polygon_flat level = refl

geometrycollection_flat : IsFlat (tokens.function (codes "GEOMETRYCOLLECTION"))
unfolding word_of keyword_of function_of geometry_of is_z
geometrycollection_flat level = refl

-- ---- scalars

truth_nests : (d : ℕ) (truth : Bool) → Nests d (truth_token truth ∷ [])
truth_nests d true = one_flat d (tokens.word (codes "TRUE")) true_flat
truth_nests d false = one_flat d (tokens.word (codes "FALSE")) false_flat

folded_nests : (d : ℕ) (ts : List Token) → Nests d ts → Nests (d + 1) (folded_tokens ts)
folded_nests d ts h = nests_flat (d + 1) (tokens.function (codes "CASEI")) (enclosed ts) casei_flat (nests_enclosed d ts h)

moment_nests : (instant : List ℕ) → Nests 1 (moment_tokens instant)
moment_nests instant = nests_flat 1 (tokens.function (codes "TIMESTAMP")) (enclosed (tokens.text instant ∷ [])) timestamp_flat (nests_enclosed 0 (tokens.text instant ∷ []) (one_flat 0 (tokens.text instant) (λ level. refl)))

abbrev GoodScalar : Scalar → Type 0
GoodScalar s = Nests (scalar_depth s) (scalar_tokens s)

abbrev HeldScalar : Type 0
HeldScalar = (s : Scalar) × GoodScalar s

abbrev scalar_of : Scalar-F HeldScalar → Scalar-F Scalar
scalar_of = map-Scalar HeldScalar Scalar (λ h. h.0)

scalar_level_nests : (y : Scalar-F HeldScalar) → Nests (one_deeper (scalar_parts (map-Scalar Scalar ℕ scalar_depth (scalar_of y)))) (written_scalars.scalar_level (map-Scalar Scalar (List Token) scalar_tokens (scalar_of y)))
scalar_level_nests (inner.Prop name) = one_flat 1 (tokens.name name) (λ level. refl)
scalar_level_nests (inner.Text text) = one_flat 1 (tokens.text text) (λ level. refl)
scalar_level_nests (inner.Number number) = one_flat 1 _ (λ level. refl)
scalar_level_nests (inner.Truth truth) = truth_nests 1 truth
scalar_level_nests (inner.Moment moment) = moment_nests _
scalar_level_nests (inner.Folded h) = weaker (scalar_depth h.0 + 1) _ _ (omega arith) (folded_nests (scalar_depth h.0) (scalar_tokens h.0) h.1)

each_scalar : (y : Scalar-F HeldScalar) → GoodScalar (roll-Scalar (scalar_of y))
each_scalar y =
    subst (λ (d : ℕ). Nests d (scalar_tokens (roll-Scalar (scalar_of y)))) (sym (fold-roll-Scalar ℕ (λ level. one_deeper (scalar_parts level)) (scalar_of y)))
    (subst (Nests (one_deeper (scalar_parts (map-Scalar Scalar ℕ scalar_depth (scalar_of y))))) (sym (fold-roll-Scalar (List Token) written_scalars.scalar_level (scalar_of y))) (scalar_level_nests y))

scalar_nests : (s : Scalar) → GoodScalar s
scalar_nests = ind-Scalar GoodScalar (λ x y is. subst (λ (l : Scalar-F Scalar). GoodScalar (roll-Scalar l)) is (each_scalar y))

pattern_by : (folded : Bool) (text : List ℕ) → Nests 1 (folded_if folded (tokens.text text ∷ []))
pattern_by true text = folded_nests 0 (tokens.text text ∷ []) (one_flat 0 (tokens.text text) (λ level. refl))
pattern_by false text = one_flat 1 (tokens.text text) (λ level. refl)

-- ---- geometries

position_nests : (d : ℕ) (p : Pt) → Nests d (position_tokens p)
position_nests d p = nests_flat d (tokens.number (coordinate_text p.x)) (tokens.number (coordinate_text p.y) ∷ []) (λ level. refl) (one_flat d (tokens.number (coordinate_text p.y)) (λ level. refl))

positions_nest : (ps : List Pt) → AllByRecursion (Nests 0) (map position_tokens ps)
positions_nest [] = tt
positions_nest (p ∷ ps) = (position_nests 0 p, positions_nest ps)

lines_nest : (ls : List (List Pt)) → AllByRecursion (Nests 1) (map line_tokens ls)
lines_nest [] = tt
lines_nest (l ∷ ls) = (nests_listed 0 (map position_tokens l) (positions_nest l), lines_nest ls)

points_nest : (ps : List Pt) → AllByRecursion (Nests 2) (map point_part ps)
points_nest [] = tt
points_nest (p ∷ ps) = (weaker 1 2 _ (omega arith) (nests_flat 1 (tokens.function (codes "POINT")) _ point_flat (nests_enclosed 0 (position_tokens p) (position_nests 0 p))), points_nest ps)

line_parts_nest : (ls : List (List Pt)) → AllByRecursion (Nests 2) (map line_part ls)
line_parts_nest [] = tt
line_parts_nest (l ∷ ls) = (weaker 1 2 _ (omega arith) (nests_flat 1 (tokens.function (codes "LINESTRING")) _ linestring_flat (nests_listed 0 (map position_tokens l) (positions_nest l))), line_parts_nest ls)

area_parts_nest : (qs : List (List (List Pt))) → AllByRecursion (Nests 2) (map area_part qs)
area_parts_nest [] = tt
area_parts_nest (a ∷ qs) = (nests_flat 2 (tokens.function (codes "POLYGON")) _ polygon_flat (nests_listed 1 (map line_tokens a) (lines_nest a)), area_parts_nest qs)

both_nest : (d : ℕ) (ps qs : List (List Token)) → AllByRecursion (Nests d) ps → AllByRecursion (Nests d) qs → AllByRecursion (Nests d) (ps ++ qs)
both_nest d [] qs h k = k
both_nest d (p ∷ ps) qs h k = (h.0, both_nest d ps qs h.1 k)

collection_nests : (ps : List (List Token)) → AllByRecursion (Nests 2) ps → Nests 3 (tokens.function (codes "GEOMETRYCOLLECTION") ∷ listed ps)
collection_nests ps all = nests_flat 3 (tokens.function (codes "GEOMETRYCOLLECTION")) (listed ps) geometrycollection_flat (nests_listed 2 ps all)

collected_nests : (ps : List (List Token)) → AllByRecursion (Nests 2) ps → Nests 3 (collected ps)
collected_nests [] all = collection_nests [] all
collected_nests (p ∷ []) all = weaker 2 3 p (omega arith) all.0
collected_nests (p ∷ q ∷ ps) all = collection_nests (p ∷ q ∷ ps) all

shape_nests : (shape : Shape) → Nests 3 (shape_tokens shape)
shape_nests (shapes.Prop name) = one_flat 3 (tokens.name name) (λ level. refl)
shape_nests (shapes.Geom g) =
    collected_nests (parts_of g) (both_nest 2 (map point_part g.points ++ map line_part g.lines) (map area_part g.areas) (both_nest 2 (map point_part g.points) (map line_part g.lines) (points_nest g.points) (line_parts_nest g.lines)) (area_parts_nest g.areas))

-- ---- expressions: at most two more than the depth

sign_flat : (op : CompOp) → IsFlat (tokens.sign op)
sign_flat Eq level = refl
sign_flat Ne level = refl
sign_flat Lt level = refl
sign_flat Gt level = refl
sign_flat Le level = refl
sign_flat Ge level = refl

abbrev Good : Expr → Type 0
Good e = Nests (depth e + 2) (tokens_of e)

abbrev Held : Type 0
Held = (e : Expr) × Good e

abbrev expr_of : Expr-F Held → Expr-F Expr
expr_of = map-Expr Held Expr (λ h. h.0)

abbrev firsts : List Held → List Expr
firsts = map (λ h. h.0)

in_scalar : (s : Scalar) (d : ℕ) → scalar_depth s ≤ d → Nests d (scalar_tokens s)
in_scalar s d le = weaker (scalar_depth s) d (scalar_tokens s) le (scalar_nests s)

scalars_nest : (ss : List Scalar) (d : ℕ) → greatest (map scalar_depth ss) ≤ d → AllByRecursion (Nests d) (map scalar_tokens ss)
scalars_nest [] d le = tt
scalars_nest (s ∷ ss) d le = (in_scalar s d (omega arith), scalars_nest ss d (omega arith))

member_by : (joined : Bool) (ts : List Token) (d : ℕ) → Nests d ts → Nests (d + 1) (enclosed_if joined ts)
member_by true ts d h = nests_enclosed d ts h
member_by false ts d h = weaker d (d + 1) ts (omega arith) h

members_nest : (held : List Held) (d : ℕ) → greatest (map depth (firsts held)) ≤ d → AllByRecursion (Nests (d + 3)) (map member_of (map phrase_of (firsts held)))
members_nest [] d le = tt
members_nest (h ∷ held) d le =
    (weaker (depth h.0 + 2 + 1) (d + 3) _ (omega arith) (member_by (phrase_of h.0).is_joined (tokens_of h.0) (depth h.0 + 2) h.1), members_nest held d (omega arith))

level_nests : (y : Expr-F Held) → Nests (level_depth (map-Expr Expr ℕ depth (expr_of y)) + 2) (written.level (map-Expr Expr Phrase phrase_of (expr_of y))).tokens
unfolding comparison_tokens null_tokens between_tokens among_tokens like_tokens meets_tokens
level_nests (outer.Const truth) = truth_nests _ truth
level_nests (outer.And held) = weaker (greatest (map depth (firsts held)) + 3) _ _ (omega arith) (nests_between _ (tokens.word (codes "AND")) and_flat _ (members_nest held (greatest (map depth (firsts held))) (omega arith)))
level_nests (outer.Or held) = weaker (greatest (map depth (firsts held)) + 3) _ _ (omega arith) (nests_between _ (tokens.word (codes "OR")) or_flat _ (members_nest held (greatest (map depth (firsts held))) (omega arith)))
level_nests (outer.Not h) = weaker (depth h.0 + 2 + 1) _ _ (omega arith) (nests_flat _ (tokens.word (codes "NOT")) _ not_flat (member_by (phrase_of h.0).is_joined (tokens_of h.0) (depth h.0 + 2) h.1))
level_nests (outer.Compare op left right) =
    nests_append _ (scalar_tokens left) (tokens.sign op ∷ scalar_tokens right) (in_scalar left _ (omega arith)) (nests_flat _ (tokens.sign op) (scalar_tokens right) (sign_flat op) (in_scalar right _ (omega arith)))
level_nests (outer.IsNull operand) =
    nests_append _ (scalar_tokens operand) (tokens.word (codes "IS") ∷ tokens.word (codes "NULL") ∷ []) (in_scalar operand _ (omega arith)) (nests_flat _ (tokens.word (codes "IS")) _ is_flat (one_flat _ (tokens.word (codes "NULL")) null_flat))
level_nests (outer.Between operand low high) =
    nests_append _ (scalar_tokens operand) (tokens.word (codes "BETWEEN") ∷ (scalar_tokens low ++ (tokens.word (codes "AND") ∷ scalar_tokens high))) (in_scalar operand _ (omega arith))
    (nests_flat _ (tokens.word (codes "BETWEEN")) _ between_flat (nests_append _ (scalar_tokens low) (tokens.word (codes "AND") ∷ scalar_tokens high) (in_scalar low _ (omega arith)) (nests_flat _ (tokens.word (codes "AND")) (scalar_tokens high) and_flat (in_scalar high _ (omega arith)))))
level_nests (outer.Among operand ss) =
    nests_append _ (scalar_tokens operand) (tokens.word (codes "IN") ∷ listed (map scalar_tokens ss)) (in_scalar operand _ (omega arith))
    (nests_flat _ (tokens.word (codes "IN")) _ in_flat (weaker (greatest (map scalar_depth ss) + 1) _ _ (omega arith) (nests_listed (greatest (map scalar_depth ss)) (map scalar_tokens ss) (scalars_nest ss (greatest (map scalar_depth ss)) (omega arith)))))
level_nests (outer.Like operand pattern) =
    nests_append _ (scalar_tokens operand) (tokens.word (codes "LIKE") ∷ pattern_tokens pattern) (in_scalar operand _ (omega arith))
    (nests_flat _ (tokens.word (codes "LIKE")) _ like_flat (weaker 1 _ _ (omega arith) (pattern_by pattern.folded pattern.text)))
level_nests (outer.Meets left right) =
    nests_flat 4 (tokens.function (codes "S_INTERSECTS")) _ s_intersects_flat (nests_enclosed 3 (shape_tokens left ++ (tokens.comma ∷ shape_tokens right)) (nests_append 3 (shape_tokens left) (tokens.comma ∷ shape_tokens right) (shape_nests left) (nests_flat 3 tokens.comma (shape_tokens right) comma_flat (shape_nests right))))

each : (y : Expr-F Held) → Good (roll-Expr (expr_of y))
each y =
    subst (λ (d : ℕ). Nests (d + 2) (tokens_of (roll-Expr (expr_of y)))) (sym (fold-roll-Expr ℕ level_depth (expr_of y)))
    (subst (Nests (level_depth (map-Expr Expr ℕ depth (expr_of y)) + 2)) (sym (ap (λ (p : Phrase). p.tokens) (fold-roll-Expr Phrase written.level (expr_of y)))) (level_nests y))

pub expr_nests : (e : Expr) → Good e
expr_nests = ind-Expr Good (λ x y is. subst (λ (l : Expr-F Expr). Good (roll-Expr l)) is (each y))
