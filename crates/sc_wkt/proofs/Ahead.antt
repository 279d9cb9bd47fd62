-- What is known between two tokens of a geometry.
use Rattle.std.proofs.Common.{◌≡◌, ℕ, ◌≤◌, ◌<◌, inl, inr, List, [], ◌∷◌, ◌++◌, length, Bool, true, false, Option, Some, None, refl, sym, ap, subst, ◌∙◌, arith, nat_le}
use Rattle.std.specs.Prelude.{IsTrue, if◌then◌else◌}
use Rattle.std.specs.Option.{option_or}
use Rattle.std.proofs.lemmas.Bool.Decides.{leb_tells}
use Rattle.sc_grammar.specs.Words.{token_at}
use Rattle.sc_grammar.specs.Grammar.{stays, takes, marks, opens}
use Rattle.sc_grammar.specs.Words.{IsFormedClass}
use Rattle.sc_grammar.proofs.Foresight as foresight
use Rattle.sc_grammar.specs.declared.token.Class.{Class}
use Rattle.sc_grammar.specs.declared.token.Class.TheVariants as classes
use Rattle.sc_grammar.specs.declared.token.Token.{Token}
use Rattle.sc_cqlgrammar.specs.declared.rule.Rule.{Rule}
use Rattle.sc_cqlgrammar.specs.declared.rule.Rule.TheVariants as rules
use Rattle.sc_cqlgrammar.specs.declared.mark.Mark.{Mark}
use Rattle.sc_cqlgrammar.specs.Rules.{Items, IsAlternative}
use Rattle.sc_cqlgrammar.specs.Table.{predict}
use Rattle.sc_cqlgrammar.specs.Reading as reading
use Rattle.sc_cqlgrammar.specs.Reading.{class_of, Nothing, Derive, TakesAll}
use Rattle.sc_cqlgrammar.proofs.Readings.{Run, taken_is_derived, derived_is_taken, runs_one}
use Rattle.sc_cqlgrammar.proofs.Formed.{formed_is, are_formed, goes_formed}
use Rattle.sc_cqlgrammar.proofs.Forgetting.{runs_forget, run_is_front, run_stops}
use Rattle.sc_wkt.specs.declared.drawing.Drawing as kept
use Rattle.sc_wkt.specs.declared.reading.End.TheVariants.{Whole, Refused}
use Rattle.sc_wkt.specs.Drawing.{Drawing, blank, reads, draws, wide_at, first_wide}
use Rattle.sc_wkt.specs.Kept.{IsDrawing}
use Rattle.sc_wkt.specs.Levels.{AreTokens, no_token, one_more, next_token, class_within, level_behind}
use Rattle.sc_wkt.specs.Reading.{geometry, Takes, Refuse, IsReading}

tokens_push : (text : List ℕ) (is_whole : Bool) (at level : ℕ) (ts : List Token) (to behind : ℕ) → AreTokens text is_whole at level ts to behind → (t : Token) → t ≡ next_token text is_whole to behind → AreTokens text is_whole at level (ts ++ t ∷ []) t.to (level_behind t.class behind)
tokens_push text is_whole _ _ _ _ _ (no_token at level) t e = one_more at level t [] t.to (level_behind t.class level) e (no_token t.to (level_behind t.class level))
tokens_push text is_whole _ _ _ _ _ (one_more at level u us to behind f rest) t e = one_more at level u (us ++ t ∷ []) t.to (level_behind t.class behind) f (tokens_push text is_whole u.to (level_behind u.class level) us to behind rest t e)

or_assoc : (a b c : Option ℕ) → option_or (option_or a b) c ≡ option_or a (option_or b c)
or_assoc None b c = refl
or_assoc (Some x) b c = refl

or_none : (a : Option ℕ) → option_or a None ≡ a
or_none None = refl
or_none (Some x) = refl

wide_push : (text : List ℕ) (ts : List Token) (t : Token) → first_wide text (ts ++ t ∷ []) ≡ option_or (first_wide text ts) (wide_at text t)
wide_push text [] t = or_none (wide_at text t)
wide_push text (u ∷ us) t = ap (option_or (wide_at text u)) (wide_push text us t) ∙ sym (or_assoc (wide_at text u) (first_wide text us) (wide_at text t))

low_within : (level : ℕ) (c : Class) → level ≤ 64 → level_behind (class_within level c) level ≤ 64
low_within level classes.Opening h = by_test (nat_le 64 level) refl
  where
    by_test : (b : Bool) → nat_le 64 level ≡ b → level_behind (if b then classes.Bad else classes.Opening) level ≤ 64
    by_test true e = h
    by_test false e = elim (leb_tells 64 level) [ inl p ↦ let no : true ≡ false = sym p.0 ∙ e in cc | inr p ↦ let below : level < 64 = p.1 in omega arith ]
low_within level classes.Closing h = omega arith
low_within level _ h = h

-- the token is read last
pub token_read : (text : List ℕ) (is : Items) (d : Drawing) (t : Token) (js : Items) (e : Drawing) → Takes text is d t js e → (m : Drawing) × (e ≡ reads text t m)
token_read text _ _ _ _ _ (takes t is d) = (d, refl)
token_read text _ _ _ _ _ (marks k is d t js e g) = token_read text is (draws k d) t js e g
token_read text _ _ _ _ _ (opens n a is d t js e p g) = token_read text (a ++ is) d t js e g

-- where a whole geometry was taken nothing is left
unfinished_left : (ts : List Token) (stack : Items) → TakesAll geometry ts stack → Derive geometry ts → stack ≡ []
unfinished_left ts stack r l =
    let one = runs_one Nothing reading.stays reading.stays geometry tt ts stack tt r [] tt (derived_is_taken Nothing reading.stays reading.stays rules.Geometry (inr refl) tt ts tt l) in
    one.items

pub record IsAhead (text : List ℕ) (is_whole : Bool) (at level : ℕ) (stack : Items) (drawing : kept.Drawing) (wide : Option ℕ) : Type 0 where
  pub tokens : List Token
  pub drawn : Drawing
  pub tokens_are : AreTokens text is_whole 0 0 tokens at level
  pub runs : Run Drawing (reads text) draws geometry blank tokens stack drawn
  pub drawing_is : IsDrawing drawing drawn
  pub wide_is : wide ≡ first_wide text tokens
  pub formed : are_formed stack ≡ true
  pub within : at ≤ length text
  pub low : level ≤ 64

pub some_left : (stack : Items) → stack ≡ geometry → stack ≡ [] → ⊥
some_left stack e f = let g : geometry ≡ [] = sym e ∙ f in cc

pub not_true : IsTrue false → ⊥
not_true e = cc

pub ahead_at_first : (text : List ℕ) (is_whole : Bool) (stack : Items) (drawing : kept.Drawing) → stack ≡ geometry → IsDrawing drawing blank → IsAhead text is_whole 0 0 stack drawing None
ahead_at_first text is_whole stack drawing e is = record {
  tokens = [];
  drawn = blank;
  tokens_are = no_token 0 0;
  runs = subst (λ (x : Items). Run Drawing (reads text) draws geometry blank [] x blank) (sym e) (stays geometry blank);
  drawing_is = is;
  wide_is = refl;
  formed = ap are_formed e;
  within = omega arith;
  low = omega arith;
}

module _ (text : List ℕ) (is_whole : Bool) (at level : ℕ) (stack : Items) (drawing : kept.Drawing) (wide : Option ℕ) (ahead : IsAhead text is_whole at level stack drawing wide) (t : Token) (t_is : t ≡ next_token text is_whole at level) where
  -- a token is taken
  pub ahead_on : (next : Items) (new : kept.Drawing) (e : Drawing) → Takes text stack ahead.drawn t next e → IsDrawing new e → (w : Option ℕ) → w ≡ option_or wide (wide_at text t) → (l : ℕ) → l ≡ level_behind t.class level → t.to ≤ length text → IsAhead text is_whole t.to l next new w
  ahead_on next new e goes is w w_is l l_is within = record {
    tokens = ahead.tokens ++ t ∷ [];
    drawn = e;
    tokens_are = subst (λ (x : ℕ). AreTokens text is_whole 0 0 (ahead.tokens ++ t ∷ []) t.to x) (sym l_is) (tokens_push text is_whole 0 0 ahead.tokens at level ahead.tokens_are t t_is);
    runs = foresight.runs_push Token Class Rule Mark Drawing class_of (reads text) draws IsAlternative predict geometry blank ahead.tokens stack ahead.drawn ahead.runs t next e goes;
    drawing_is = is;
    wide_is = w_is ∙ ap (λ (x : Option ℕ). option_or x (wide_at text t)) ahead.wide_is ∙ sym (wide_push text ahead.tokens t);
    formed = (goes_formed Drawing (reads text) draws stack ahead.drawn t next e goes ahead.formed).1;
    within = within;
    low = rw (l_is, t_is) (low_within level (token_at text is_whole at).class ahead.low);
  }

  -- it is a token, and so the place moves on
  pub taken_is_formed : (next : Items) (e : Drawing) → Takes text stack ahead.drawn t next e → IsFormedClass t.class
  taken_is_formed next e goes = formed_is t.class (goes_formed Drawing (reads text) draws stack ahead.drawn t next e goes ahead.formed).0

  -- a token is refused
  pub ahead_stops : (stack ≡ [] → ⊥) → Refuse text stack ahead.drawn t → (new : kept.Drawing) → IsReading text is_whole (record { drawing = new; wide = wide; end = Refused t.from })
  ahead_stops left refuses new = record {
    tokens = ahead.tokens;
    wide_is = ahead.wide_is;
    end_is = record {
      to = at;
      level = level;
      tokens_are = ahead.tokens_are;
      front = run_is_front Drawing (reads text) draws rules.Geometry blank ahead.tokens stack ahead.drawn ahead.runs;
      unfinished = λ l. left (unfinished_left ahead.tokens stack (runs_forget Drawing (reads text) draws geometry blank ahead.tokens stack ahead.drawn ahead.runs) l);
      none = λ f. run_stops Drawing (reads text) draws rules.Geometry blank ahead.tokens stack ahead.drawn ahead.runs t refuses (rw t_is f);
      place = ap (λ (x : Token). x.from) t_is;
    };
  }

pub ahead_ends : (text : List ℕ) (is_whole : Bool) (at level : ℕ) (stack : Items) (drawing : kept.Drawing) (wide : Option ℕ) → IsAhead text is_whole at level stack drawing wide → stack ≡ [] → IsReading text is_whole (record { drawing = drawing; wide = wide; end = Whole at })
ahead_ends text is_whole at level stack drawing wide ahead e = record {
  tokens = ahead.tokens;
  wide_is = ahead.wide_is;
  end_is = (
    ahead.drawn,
    record {
      level = level;
      tokens_are = ahead.tokens_are;
      derived = taken_is_derived Drawing (reads text) draws rules.Geometry blank ahead.tokens ahead.drawn (subst (λ (x : Items). Run Drawing (reads text) draws geometry blank ahead.tokens x ahead.drawn) e ahead.runs);
    },
    ahead.drawing_is,
  );
}
