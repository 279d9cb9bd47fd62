-- What is written of a filter is read as that filter.
use Rattle.std.proofs.Common.{◌≡◌, ℕ, ◌≤◌, max, List, [], ◌∷◌, ◌++◌, length, take, Bool, true, ◌||◌, not, ◌==◌, None, inl, refl, sym, ap, subst, ◌∙◌, arith, IsUtf8}
use Rattle.std.proofs.Common.{take_all}
use Rattle.std.proofs.lemmas.Str.{utf8_valid_len-IsUtf8}
use Rattle.std.proofs.lemmas.Bool.{eq-eqb}
use Rattle.std.specs.List.{AllByRecursion, list_all}
use Rattle.sc_grammar.specs.Grammar.{tok, non, act, done, token, mark, rule}
use Rattle.sc_grammar.proofs.Sets.{both_true, true_both, unless_true}
use Rattle.sc_grammar.specs.Words.{token_at, IsFormedClass, bytes_of}
use Rattle.sc_grammar.specs.declared.token.Class.{Class}
use Rattle.sc_grammar.specs.declared.token.Class.TheVariants as classes
use Rattle.sc_grammar.specs.declared.token.Token.{Token as Told}
use Rattle.sc_cqlgrammar.specs.declared.rule.Rule.{Rule}
use Rattle.sc_cqlgrammar.specs.declared.rule.Rule.TheVariants as rules
use Rattle.sc_cqlgrammar.specs.declared.mark.Mark.{Mark}
use Rattle.sc_cqlgrammar.specs.Rules.{Items, alternatives, IsAlternative}
use Rattle.sc_cqlgrammar.specs.Reading as grammars
use Rattle.sc_cqlgrammar.proofs.Fitting.{all_is}
use Rattle.sc_cqlgrammar.proofs.Formed.{is_formed, formed_is, is_part, are_formed}
use Rattle.sc_wkt.specs.Drawing.{wide_of}
use Rattle.sc_expr.specs.declared.expr.Expr.{Expr}
use Rattle.sc_expr.specs.Filter.{IsFilter}
use Rattle.sc_cqlvalue.specs.declared.state.State.{State}
use Rattle.sc_cqlread.specs.Tokens.{AreTokensFrom, readable, is_readable}
use Rattle.sc_cqlread.specs.Nesting.{level_behind, deepest_from}
use Rattle.sc_cqlread.specs.Reading.{Reading, start, eats, does, bad_of}
use Rattle.sc_cqlread.specs.Filters.{Makes, IsCqlText}
use Rattle.sc_cqlwrite.specs.Tokens.{Token}
use Rattle.sc_cqlwrite.specs.Written.{tokens_of, written}
use Rattle.sc_cqlback.specs.Read.{class_of, AreRead}
use Rattle.sc_cqltext.proofs.Deriving.{left_append}
use Rattle.sc_cqltext.proofs.Gives.{Ready, AreTold, At, Left}
use Rattle.sc_cqltext.proofs.Expressions.{with_expr, clean, filter_made}
use Rattle.sc_cqltext.proofs.Nesting.{deep_from, expr_nests}

-- ---- the tokens that are told from a place on

told_from : List ℕ → ℕ → List Token → List Told
told_from text at [] = []
told_from text at (t ∷ ts) = token_at text true at ∷ told_from text (token_at text true at).to ts

end_of : List ℕ → ℕ → List Token → Told
end_of text at [] = token_at text true at
end_of text at (t ∷ ts) = end_of text (token_at text true at).to ts

alike : (text : List ℕ) (at : ℕ) (ts : List Token) → AreRead text at ts → AreTold text (told_from text at ts) ts
unfolding AreRead told_from
alike text at [] h = tt
alike text at (t ∷ ts) h = (record { class = h.0; bytes = h.1 }, alike text (token_at text true at).to ts h.2)

ends : (text : List ℕ) (at : ℕ) (ts : List Token) → AreRead text at ts → (end_of text at ts).class ≡ classes.End
unfolding AreRead end_of
ends text at [] h = h
ends text at (t ∷ ts) h = ends text (token_at text true at).to ts h.2

last_unformed : (c : Class) → c ≡ classes.End → IsFormedClass c → ⊥
last_unformed c is formed = subst IsFormedClass is formed

in_order : (text : List ℕ) (at : ℕ) (ts : List Token) → AllByRecursion (λ k. IsFormedClass k.class) (told_from text at ts) → AreRead text at ts → AreTokensFrom text true at (told_from text at ts ++ end_of text at ts ∷ [])
unfolding AreRead told_from end_of
in_order text at [] formed h = (refl, last_unformed (token_at text true at).class h)
in_order text at (t ∷ []) formed h = (refl, formed.0, in_order text (token_at text true at).to [] formed.1 h.2)
in_order text at (t ∷ u ∷ ts) formed h = (refl, formed.0, in_order text (token_at text true at).to (u ∷ ts) formed.1 h.2)

as_deep : (text : List ℕ) (at level : ℕ) (ts : List Token) → AreRead text at ts → deepest_from level (told_from text at ts ++ end_of text at ts ∷ []) ≤ deep_from level ts
unfolding AreRead told_from end_of deep_from
as_deep text at level [] h = subst (λ (c : Class). max level (level_behind c level) ≤ level) (sym h) (omega arith)
as_deep text at level (t ∷ ts) h =
    let to : ℕ = (token_at text true at).to in
    subst (λ (c : Class). max level (deepest_from (level_behind c level) (told_from text to ts ++ end_of text to ts ∷ [])) ≤ max level (deep_from (level_behind (class_of t) level) ts)) (sym h.0)
    (omega (arith, as_deep text to (level_behind (class_of t) level) ts h.2))

-- ---- a filter takes neither a byte at which no token can be formed nor the end

all_formed : (n : Rule) → list_all (λ (a : Items). not (is_part n) || are_formed a) (alternatives n) ≡ true
all_formed rules.Whole = refl
all_formed _ = refl

formed_in : (n : Rule) (a : Items) → IsAlternative n a → is_part n ≡ true → are_formed a ≡ true
formed_in n a i e = unless_true (is_part n) (are_formed a) (all_is (λ (x : Items). not (is_part n) || are_formed x) (alternatives n) (all_formed n) a i) e

formed-append : (a is : Items) → are_formed a ≡ true → are_formed is ≡ true → are_formed (a ++ is) ≡ true
formed-append [] is e f = f
formed-append (tok c ∷ a) is e f = let p = both_true (is_formed c) (are_formed a) e in true_both (is_formed c) (are_formed (a ++ is)) p.0 (formed-append a is p.1 f)
formed-append (act k ∷ a) is e f = formed-append a is e f
formed-append (non n ∷ a) is e f = let p = both_true (is_part n) (are_formed a) e in true_both (is_part n) (are_formed (a ++ is)) p.0 (formed-append a is p.1 f)

told_formed : (text : List ℕ) (is : Items) (s e : Reading) (ks : List Told) → Left text is s ks e → are_formed is ≡ true → AllByRecursion (λ (k : Told). IsFormedClass k.class) ks
told_formed text _ _ _ _ (done s) h = tt
told_formed text _ _ _ _ (token k is s ks e d) h =
    let p = both_true (is_formed k.class) (are_formed is) h in (formed_is k.class p.0, told_formed text is (eats text k s) e ks d p.1)
told_formed text _ _ _ _ (mark m is s ks e d) h = told_formed text is (does text m s) e ks d h
told_formed text _ _ _ _ (rule n a is s ks e r d) h =
    let q = both_true (is_part n) (are_formed is) h in told_formed text (a ++ is) s e ks d (formed-append a is (formed_in n a r q.0) q.1)

-- ---- what they make

nothing_ready : Ready
nothing_ready = record { scalars = []; exprs = []; shapes = []; chains = []; listed = []; pattern = None }

begun : (text : List ℕ) → At text (clean nothing_ready) start
unfolding nothing_ready
begun text = record { last = start.values.token; bbox = start.values.bbox; values = refl; wide = refl }

record Made (text : List ℕ) (expr : Expr) (ks : List Told) : Type 0 where
  made : Reading
  makes : Makes text ks made
  sound : bad_of made ≡ None
  alone : made.values.exprs ≡ expr ∷ []

end_narrow : (c : Class) (bytes : List ℕ) (place : ℕ) → c ≡ classes.End → wide_of c bytes place ≡ None
end_narrow c bytes place is = subst (λ (d : Class). wide_of d bytes place ≡ None) (sym is) refl

whole_made : (text : List ℕ) (expr : Expr) (told : List Told) (end : Told) → end.class ≡ classes.End → (e : Reading) → Left text (non rules.Filter ∷ []) start told e → At text (clean (with_expr expr nothing_ready)) e → Made text expr (told ++ end ∷ [])
unfolding eats nothing_ready
whole_made text expr told end is e derived at =
    let made : Reading = eats text end e in
    let last : Left text (tok classes.End ∷ []) e (end ∷ []) made =
    subst (λ (c : Class). Left text (tok c ∷ []) e (end ∷ []) made) is (token end [] e [] made (done made)) in
    let both : Left text (non rules.Filter ∷ tok classes.End ∷ []) start (told ++ end ∷ []) made =
    left_append Told Class Rule Mark Reading grammars.class_of (eats text) (does text) IsAlternative (non rules.Filter ∷ []) (tok classes.End ∷ []) start e made told (end ∷ []) derived last in
    record {
      made = made;
      makes = rule rules.Whole (non rules.Filter ∷ tok classes.End ∷ []) [] start (told ++ end ∷ []) made (inl refl) both;
      sound = rw (at.values, at.wide) (end_narrow end.class (bytes_of text end.from end.to) end.from is);
      alone = ap (λ (s : State). s.exprs) at.values;
    }

-- ---- the whole text

pub read_as : (expr : Expr) → IsFilter expr → IsUtf8 (written expr) → AreRead (written expr) 0 (tokens_of expr) → IsCqlText (written expr) expr
read_as expr is utf8 read =
    let text : List ℕ = written expr in
    let ts : List Token = tokens_of expr in
    let told : List Told = told_from text 0 ts in
    let end : Told = end_of text 0 ts in
    let valid = utf8_valid_len-IsUtf8 text utf8 in
    let all : readable text ≡ text = ap (λ (n : ℕ). take n text) valid ∙ take_all (length text) text (omega arith) in
    let whole : is_readable text ≡ true = ap (λ (n : ℕ). n == length text) valid ∙ eq-eqb (length text) (length text) refl in
    let one = filter_made text expr is nothing_ready told (alike text 0 ts read) start (begun text) in
    let made = whole_made text expr told end (ends text 0 ts read) one.0 one.1 one.2 in
    let formed = told_formed text (non rules.Filter ∷ []) start one.0 told one.1 refl in
    let nests = expr_nests expr in
    record {
      expr = record {
        tokens = told ++ end ∷ [];
        made = made.made;
        are = subst (λ (l : List ℕ). AreTokensFrom l (is_readable text) 0 (told ++ end ∷ [])) (sym all)
            (subst (λ (b : Bool). AreTokensFrom text b 0 (told ++ end ∷ [])) (sym whole) (in_order text 0 ts formed read));
        shallow = omega (arith, as_deep text 0 0 ts read, nests.most 0, is.shallow);
        makes = subst (λ (l : List ℕ). Makes l (told ++ end ∷ []) made.made) (sym all) made.makes;
        sound = made.sound;
        alone = made.alone;
      };
      checked = is;
    }
