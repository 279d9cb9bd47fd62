-- The tokens of an expression are whole and in order.
use Rattle.std.proofs.Common.{◌≡◌, ℕ, List, [], ◌∷◌, ◌++◌, map, Bool, true, false, refl, sym, ap, subst, ◌∙◌, codes}
use Rattle.std.specs.List.{list_any, flat_map, AllByRecursion}
use Rattle.std.proofs.lemmas.Bool.{or_parts}
use Rattle.std.proofs.lemmas.List.Folds.{list_any-append}
use Rattle.std.proofs.lemmas.List.Elements.{recursion_from_All}
use Rattle.sc_expr.specs.declared.scalar.Scalar.{Scalar}
use Rattle.sc_expr.specs.declared.scalar.Pattern.{Pattern}
use Rattle.sc_expr.specs.declared.scalar.Shape.{Shape}
use Rattle.sc_expr.specs.declared.expr.CompOp.{CompOp}
use Rattle.sc_expr.specs.declared.expr.CompOp.TheVariants.{Eq, Ne, Lt, Gt, Le, Ge}
use Rattle.sc_expr.specs.declared.expr.Expr.{Expr}
use Rattle.sc_expr.specs.declared.expr.Expr.TheOpen as outer
use Rattle.sc_expr.specs.declared.expr.Expr.TheOpen.{Expr-F}
use Rattle.sc_expr.specs.declared.expr.Expr.TheViews.{roll-Expr, out-roll-Expr}
use Rattle.sc_expr.specs.declared.expr.Expr.TheFolds.{map-Expr, fold-roll-Expr, ind-Expr}
use Rattle.sc_expr.specs.Form.{IsFormedScalar, IsFormedShape, IsLevel, IsFormed}
use Rattle.sc_expr.specs.Kept.{IsKeptScalar, IsKeptShape, IsKeptLevel, IsKept}
use Rattle.sc_expr.specs.Filter.{IsFilter}
use Rattle.sc_expr.proofs.Every.{members_in, every_level, every_member}
use Rattle.sc_cqlwrite.specs.Tokens as tokens
use Rattle.sc_cqlwrite.specs.Tokens.{Token, spelled, between, enclosed, listed}
use Rattle.sc_cqlwrite.specs.Scalars.{scalar_tokens, pattern_tokens}
use Rattle.sc_cqlwrite.specs.Geometries.{shape_tokens}
use Rattle.sc_cqlwrite.specs.Predicates.{comparison_tokens, null_tokens, between_tokens, among_tokens, like_tokens, meets_tokens}
use Rattle.sc_cqlwrite.specs.Written.{Phrase, enclosed_if, member_of, phrase_of, tokens_of}
use Rattle.sc_cqlwrite.specs.Written as written
use Rattle.sc_cqlwrite.specs.Spellable.{ends_in_backslash, scalar_texts, texts_of, some_text_ends}
use Rattle.sc_cqlwrite.specs.Spellable as spellable
use Rattle.sc_cqlback.proofs.Words.{and_whole, or_whole, not_whole, is_whole, null_whole, between_whole, in_whole, like_whole, s_intersects_whole}
use Rattle.sc_cqlback.proofs.Lexical.{IsWhole, IsLexical, lexical_append, lexical_between, lexical_comma, lexical_enclosed, lexical_call}
use Rattle.sc_cqlback.proofs.Scalars.{scalar_lexical, pattern_lexical, truth_lexical, one_of}
use Rattle.sc_cqlback.proofs.Geometries.{shape_lexical, listed_lexical}

abbrev AreSpellable : List (List ℕ) → Type 0
AreSpellable texts = list_any ends_in_backslash texts ≡ false

both_spellable : (xs ys : List (List ℕ)) → AreSpellable (xs ++ ys) → AreSpellable xs × AreSpellable ys
both_spellable xs ys h = or_parts (list_any ends_in_backslash xs) (list_any ends_in_backslash ys) (sym (list_any-append ends_in_backslash xs ys) ∙ h)

word_lexical : (word : List ℕ) (ts : List Token) → IsWhole (tokens.word word) → IsLexical ts → IsLexical (tokens.word word ∷ ts)
word_lexical word ts whole h = (whole, tt, h)

-- ---- predicates

sign_whole : (op : CompOp) → IsWhole (tokens.sign op)
unfolding spelled
sign_whole Eq = record { whole = refl; meant = tt }
sign_whole Ne = record { whole = refl; meant = tt }
sign_whole Lt = record { whole = refl; meant = tt }
sign_whole Gt = record { whole = refl; meant = tt }
sign_whole Le = record { whole = refl; meant = tt }
sign_whole Ge = record { whole = refl; meant = tt }

comparison_lexical : (op : CompOp) (left right : Scalar) → IsFormedScalar left × IsFormedScalar right → IsKeptScalar left × IsKeptScalar right → AreSpellable (scalar_texts left ++ scalar_texts right) → IsLexical (comparison_tokens op left right)
unfolding comparison_tokens
comparison_lexical op left right f k e =
    let ends = both_spellable (scalar_texts left) (scalar_texts right) e in
    lexical_append (scalar_tokens left) (tokens.sign op ∷ scalar_tokens right) (scalar_lexical left f.0 k.0 ends.0) (sign_whole op, tt, scalar_lexical right f.1 k.1 ends.1)

null_lexical : (operand : Scalar) → IsFormedScalar operand → IsKeptScalar operand → AreSpellable (scalar_texts operand) → IsLexical (null_tokens operand)
unfolding null_tokens
null_lexical operand f k e =
    lexical_append (scalar_tokens operand) (tokens.word (codes "IS") ∷ tokens.word (codes "NULL") ∷ []) (scalar_lexical operand f k e) (is_whole, tt, (null_whole, tt, tt))

between_lexical : (operand low high : Scalar) → IsFormedScalar operand × IsFormedScalar low × IsFormedScalar high → IsKeptScalar operand × IsKeptScalar low × IsKeptScalar high → AreSpellable (scalar_texts operand ++ scalar_texts low ++ scalar_texts high) → IsLexical (between_tokens operand low high)
unfolding between_tokens
between_lexical operand low high f k e =
    let two = both_spellable (scalar_texts operand ++ scalar_texts low) (scalar_texts high) e in
    let one = both_spellable (scalar_texts operand) (scalar_texts low) two.0 in
    lexical_append (scalar_tokens operand) (tokens.word (codes "BETWEEN") ∷ (scalar_tokens low ++ (tokens.word (codes "AND") ∷ scalar_tokens high))) (scalar_lexical operand f.0 k.0 one.0)
    (between_whole, tt, lexical_append (scalar_tokens low) (tokens.word (codes "AND") ∷ scalar_tokens high) (scalar_lexical low f.1 k.1 one.1) (and_whole, tt, scalar_lexical high f.2 k.2 two.1))

scalars_lexical : (scalars : List Scalar) → AllByRecursion IsFormedScalar scalars → AllByRecursion IsKeptScalar scalars → AreSpellable (flat_map scalar_texts scalars) → AllByRecursion IsLexical (map scalar_tokens scalars)
scalars_lexical [] f k e = tt
scalars_lexical (s ∷ scalars) f k e =
    let ends = both_spellable (scalar_texts s) (flat_map scalar_texts scalars) e in
    (scalar_lexical s f.0 k.0 ends.0, scalars_lexical scalars f.1 k.1 ends.1)

among_lexical : (operand : Scalar) (scalars : List Scalar) → IsFormedScalar operand → IsKeptScalar operand → AllByRecursion IsFormedScalar scalars → AllByRecursion IsKeptScalar scalars → AreSpellable (scalar_texts operand ++ flat_map scalar_texts scalars) → IsLexical (among_tokens operand scalars)
unfolding among_tokens
among_lexical operand scalars f k fs ks e =
    let ends = both_spellable (scalar_texts operand) (flat_map scalar_texts scalars) e in
    lexical_append (scalar_tokens operand) (tokens.word (codes "IN") ∷ listed (map scalar_tokens scalars)) (scalar_lexical operand f k ends.0)
    (in_whole, tt, listed_lexical (map scalar_tokens scalars) (scalars_lexical scalars fs ks ends.1))

like_lexical : (operand : Scalar) (pattern : Pattern) → IsFormedScalar operand → IsKeptScalar operand → AreSpellable (scalar_texts operand ++ pattern.text ∷ []) → IsLexical (like_tokens operand pattern)
unfolding like_tokens
like_lexical operand pattern f k e =
    let ends = both_spellable (scalar_texts operand) (pattern.text ∷ []) e in
    lexical_append (scalar_tokens operand) (tokens.word (codes "LIKE") ∷ pattern_tokens pattern) (scalar_lexical operand f k ends.0)
    (like_whole, tt, pattern_lexical pattern (one_of pattern.text ends.1))

meets_lexical : (left right : Shape) → IsFormedShape left × IsFormedShape right → IsKeptShape left × IsKeptShape right → IsLexical (meets_tokens left right)
unfolding meets_tokens
meets_lexical left right f k =
    lexical_call (codes "S_INTERSECTS") (shape_tokens left ++ (tokens.comma ∷ shape_tokens right)) s_intersects_whole
    (lexical_append (shape_tokens left) (tokens.comma ∷ shape_tokens right) (shape_lexical left f.0 k.0) (lexical_comma.0, tt, shape_lexical right f.1 k.1))

-- ---- expressions

abbrev Good : Expr → Type 0
Good e = IsFormed e → IsKept e → some_text_ends e ≡ false → IsLexical (tokens_of e)

abbrev Held : Type 0
Held = (e : Expr) × Good e

abbrev expr_of : Expr-F Held → Expr-F Expr
expr_of = map-Expr Held Expr (λ h. h.0)

-- what is known of a level
record Level (x : Expr-F Expr) : Type 0 where
  formed : IsLevel x
  kept : IsKeptLevel x
  ends : AreSpellable (spellable.level (map-Expr Expr (List (List ℕ)) texts_of x))
  members_formed : AllByRecursion IsFormed (members_in x)
  members_kept : AllByRecursion IsKept (members_in x)

level_at : (x : Expr-F Expr) → IsFormed (roll-Expr x) → IsKept (roll-Expr x) → some_text_ends (roll-Expr x) ≡ false → Level x
level_at x f k e = record {
  formed = subst IsLevel (out-roll-Expr x) (every_level IsLevel (roll-Expr x) f);
  kept = subst IsKeptLevel (out-roll-Expr x) (every_level IsKeptLevel (roll-Expr x) k);
  ends = ap (list_any ends_in_backslash) (sym (fold-roll-Expr (List (List ℕ)) spellable.level x)) ∙ e;
  members_formed = subst (λ (y : Expr-F Expr). AllByRecursion IsFormed (members_in y)) (out-roll-Expr x) (every_member IsLevel (roll-Expr x) f);
  members_kept = subst (λ (y : Expr-F Expr). AllByRecursion IsKept (members_in y)) (out-roll-Expr x) (every_member IsKeptLevel (roll-Expr x) k);
}

enclosed_if_lexical : (joined : Bool) (inside : List Token) → IsLexical inside → IsLexical (enclosed_if joined inside)
enclosed_if_lexical true inside h = lexical_enclosed inside h
enclosed_if_lexical false inside h = h

member_lexical : (e : Expr) → IsLexical (tokens_of e) → IsLexical (member_of (phrase_of e))
member_lexical e h = enclosed_if_lexical (phrase_of e).is_joined (tokens_of e) h

abbrev firsts : List Held → List Expr
firsts = map (λ h. h.0)

members_lexical : (held : List Held) → AllByRecursion IsFormed (firsts held) → AllByRecursion IsKept (firsts held) → AreSpellable (flat_map (λ texts. texts) (map texts_of (firsts held))) → AllByRecursion IsLexical (map member_of (map phrase_of (firsts held)))
members_lexical [] f k e = tt
members_lexical (h ∷ held) f k e =
    let ends = both_spellable (texts_of h.0) (flat_map (λ texts. texts) (map texts_of (firsts held))) e in
    (member_lexical h.0 (h.1 f.0 k.0 ends.0), members_lexical held f.1 k.1 ends.1)

chain_lexical : (word : List ℕ) → IsWhole (tokens.word word) → (parts : List (List Token)) → AllByRecursion IsLexical parts → IsLexical (between (tokens.word word) parts)
chain_lexical word whole parts all = lexical_between (tokens.word word) (whole, tt, tt) parts all

level_lexical : (y : Expr-F Held) → Level (expr_of y) → IsLexical (written.level (map-Expr Expr Phrase phrase_of (expr_of y))).tokens
level_lexical (outer.Const truth) l = truth_lexical truth
level_lexical (outer.And held) l = chain_lexical (codes "AND") and_whole (map member_of (map phrase_of (firsts held))) (members_lexical held l.members_formed l.members_kept l.ends)
level_lexical (outer.Or held) l = chain_lexical (codes "OR") or_whole (map member_of (map phrase_of (firsts held))) (members_lexical held l.members_formed l.members_kept l.ends)
level_lexical (outer.Not h) l = word_lexical (codes "NOT") (member_of (phrase_of h.0)) not_whole (member_lexical h.0 (h.1 l.members_formed.0 l.members_kept.0 l.ends))
level_lexical (outer.Compare op left right) l = comparison_lexical op left right l.formed l.kept l.ends
level_lexical (outer.IsNull operand) l = null_lexical operand l.formed l.kept l.ends
level_lexical (outer.Between operand low high) l = between_lexical operand low high l.formed l.kept l.ends
level_lexical (outer.Among operand scalars) l =
    among_lexical operand scalars l.formed.0 l.kept.0 (recursion_from_All IsFormedScalar scalars l.formed.2) (recursion_from_All IsKeptScalar scalars l.kept.1) l.ends
level_lexical (outer.Like operand pattern) l = like_lexical operand pattern l.formed l.kept.0 l.ends
level_lexical (outer.Meets left right) l = meets_lexical left right l.formed l.kept

each : (y : Expr-F Held) → Good (roll-Expr (expr_of y))
each y f k e =
    subst IsLexical (sym (ap (λ (p : Phrase). p.tokens) (fold-roll-Expr Phrase written.level (expr_of y))))
    (level_lexical y (level_at (expr_of y) f k e))

expr_lexical : (e : Expr) → Good e
expr_lexical = ind-Expr Good (λ x y is. subst (λ (l : Expr-F Expr). Good (roll-Expr l)) is (each y))

pub filter_lexical : (expr : Expr) → IsFilter expr → some_text_ends expr ≡ false → IsLexical (tokens_of expr)
filter_lexical expr is ends = expr_lexical expr is.formed is.kept ends
