-- Each text has a geometry at its front, or tokens in front of one with which it is none.
use Rattle.std.proofs.Common.{◌≡◌, ◌≢◌, ◌⊎◌, inl, inr, ℕ, zero, suc, ◌-◌, ◌<◌, ◌≤◌, List, [], ◌∷◌, ◌++◌, length, Bool, true, false, None, refl, subst, arith}
use Rattle.sc_geom.specs.Shapes.{map_shapes}
use Rattle.sc_geom.specs.Building.{settled, Completes}
use Rattle.sc_grammar.specs.Grammar.{done, token, mark, rule, stays}
use Rattle.sc_grammar.proofs.Foresight as foresight
use Rattle.sc_grammar.specs.Words.{token_at, bytes_of, IsFormedClass}
use Rattle.sc_grammar.specs.declared.token.Class.{Class}
use Rattle.sc_grammar.specs.declared.token.Class.TheVariants as classes
use Rattle.sc_grammar.specs.declared.token.Token.{Token}
use Rattle.sc_cqlgrammar.specs.declared.rule.Rule.{Rule}
use Rattle.sc_cqlgrammar.specs.declared.rule.Rule.TheVariants as rules
use Rattle.sc_cqlgrammar.specs.declared.mark.Mark.{Mark}
use Rattle.sc_cqlgrammar.specs.Rules.{Items, IsAlternative}
use Rattle.sc_cqlgrammar.specs.Table.{predict}
use Rattle.sc_cqlgrammar.specs.Reading as reading
use Rattle.sc_cqlgrammar.specs.Reading.{class_of, Nothing, Derive, AreFront, TakesAll}
use Rattle.sc_cqlgrammar.proofs.Readings.{Left, Run, taken_is_derived, derived_is_taken, refused_is_none, runs_one}
use Rattle.sc_cqlgrammar.proofs.Opening.{need}
use Rattle.sc_cqlgrammar.proofs.Formed.{formed_is, are_formed, goes_formed}
use Rattle.sc_cqlgrammar.proofs.Forgetting.{runs_forget, run_is_front}
use Rattle.sc_wkt.specs.Drawing.{Drawing, blank, reads, draws, first_wide, is_bad}
use Rattle.sc_wkt.specs.Levels.{AreTokens, no_token, one_more, next_token, class_within, level_behind}
use Rattle.sc_wkt.specs.Reading.{geometry, Draws, Stops}
use Rattle.sc_wkt.proofs.Finishing.{good_is}
use Rattle.sc_wkt.proofs.Filled.{drawn_filled}
use Rattle.sc_wkt.proofs.Inside.{drawn_inside}
use Rattle.sc_cqlread.proofs.Going.{stop_refuses_plain}
use Rattle.sc_cqlread.proofs.Course.{formed_within}
use Rattle.sc_cqlread.proofs.Total.{taken_or_refused}
use Rattle.sc_forms.proofs.Settled.{settles}
use Rattle.sc_forms.proofs.Placing.{IsKeptDrawing, blank_kept, mark_kept, class_kept}

-- ---- a whole geometry that is good is a geometry

module _ (text : List ℕ) where
  derives_kept : (is : Items) (d : Drawing) (ts : List Token) (e : Drawing) → Left Drawing (reads text) draws is d ts e → IsKeptDrawing d → IsKeptDrawing e
  derives_kept _ _ _ _ (done d) h = h
  derives_kept _ _ _ _ (token t is d ts e l) h = derives_kept is (reads text t d) ts e l (class_kept t.class (bytes_of text t.from t.to) d h)
  derives_kept _ _ _ _ (mark k is d ts e l) h = derives_kept is (draws k d) ts e l (mark_kept k d h)
  derives_kept _ _ _ _ (rule n a is d ts e r l) h = derives_kept (a ++ is) d ts e l h

  pub drawn_completes : (ts : List Token) (d : Drawing) (most : ℕ) → Left Drawing (reads text) draws geometry blank ts d → first_wide text ts ≡ None → is_bad most d ≡ false → Completes d.sketch (map_shapes settled d.sketch)
  drawn_completes ts d most l narrow good =
      let is = good_is most d good in
      settles d.sketch (derives_kept geometry blank ts d l blank_kept).sketch is.closed (drawn_inside text geometry ts d l narrow is.within) (drawn_filled text ts d l is.long)

-- ---- the tokens come to something

tokens_push : (text : List ℕ) (w : Bool) (at level : ℕ) (ts : List Token) (to behind : ℕ) → AreTokens text w at level ts to behind → (t : Token) → t ≡ next_token text w to behind → AreTokens text w at level (ts ++ t ∷ []) t.to (level_behind t.class behind)
tokens_push text w _ _ _ _ _ (no_token at level) t e = one_more at level t [] t.to (level_behind t.class level) e (no_token t.to (level_behind t.class level))
tokens_push text w _ _ _ _ _ (one_more at level u us to behind f rest) t e = one_more at level u (us ++ t ∷ []) t.to (level_behind t.class behind) f (tokens_push text w u.to (level_behind u.class level) us to behind rest t e)

formed_before : (level : ℕ) (c : Class) → IsFormedClass (class_within level c) → IsFormedClass c
formed_before level classes.Opening f = tt
formed_before level classes.Bad f = absurd f
formed_before level classes.End f = absurd f
formed_before level _ f = tt

record SoFar (text : List ℕ) (w : Bool) (at level : ℕ) (stack : Items) (d : Drawing) : Type 0 where
  tokens : List Token
  tokens_are : AreTokens text w 0 0 tokens at level
  runs : Run Drawing (reads text) draws geometry blank tokens stack d
  formed : are_formed stack ≡ true
  within : at ≤ length text

-- a whole geometry, or none
abbrev pub Comes : List ℕ → Bool → Type 0
Comes text w = ((tokens : List Token) × (to : ℕ) × (d : Drawing) × Draws text w tokens to d) ⊎ ((tokens : List Token) × (at : ℕ) × Stops text w tokens at)

empty_or : (is : Items) → (is ≡ []) ⊎ (is ≢ [])
empty_or [] = inl refl
empty_or (i ∷ is) = inr (λ (e : i ∷ is ≡ []). cc)

module _ (text : List ℕ) (w : Bool) where
  whole : (at level : ℕ) (stack : Items) (d : Drawing) → SoFar text w at level stack d → stack ≡ [] → Comes text w
  whole at level stack d so e =
      inl (
        so.tokens,
        at,
        d,
        record {
          level = level;
          tokens_are = so.tokens_are;
          derived = taken_is_derived Drawing (reads text) draws rules.Geometry blank so.tokens d (subst (λ (x : Items). Run Drawing (reads text) draws geometry blank so.tokens x d) e so.runs);
        },
      )

  stops : (at level : ℕ) (stack : Items) (d : Drawing) → SoFar text w at level stack d → stack ≢ [] → reading.Refuse stack (next_token text w at level) → Comes text w
  stops at level stack d so some refuses =
      let plain = runs_forget Drawing (reads text) draws geometry blank so.tokens stack d so.runs in
      inr (
        so.tokens,
        (next_token text w at level).from,
        record {
          to = at;
          level = level;
          tokens_are = so.tokens_are;
          front = run_is_front Drawing (reads text) draws rules.Geometry blank so.tokens stack d so.runs;
          unfinished = λ l. some ((runs_one Nothing reading.stays reading.stays geometry tt so.tokens stack tt plain [] tt (derived_is_taken Nothing reading.stays reading.stays rules.Geometry (inr refl) tt so.tokens tt l)).items);
          none = refused_is_none Nothing reading.stays reading.stays rules.Geometry tt so.tokens stack tt plain (next_token text w at level) refuses;
          place = refl;
        },
      )

  comes : (fuel at level : ℕ) (stack : Items) (d : Drawing) → SoFar text w at level stack d → stack ≢ [] → length text - at < fuel → Comes text w
  comes zero at level stack d so some lt = absurd (omega (arith, lt))
  comes (suc fuel) at level stack d so some lt =
      let t = next_token text w at level in
      elim (taken_or_refused Drawing (reads text) draws (suc (need stack)) stack d t (omega arith)) [
        | inl g ↦
            let f = goes_formed Drawing (reads text) draws stack d t g.0 g.1 g.2 so.formed in
            let b = formed_within text w at so.within (formed_before level (token_at text w at).class (formed_is t.class f.0)) in
            let next : SoFar text w t.to (level_behind t.class level) g.0 g.1 = record {
              tokens = so.tokens ++ t ∷ [];
              tokens_are = tokens_push text w 0 0 so.tokens at level so.tokens_are t refl;
              runs = foresight.runs_push Token Class Rule Mark Drawing class_of (reads text) draws IsAlternative predict geometry blank so.tokens stack d so.runs t g.0 g.1 g.2;
              formed = f.1;
              within = b.1;
            } in
            elim (empty_or g.0) [
              | inl e ↦ whole t.to (level_behind t.class level) g.0 g.1 next e
              | inr more ↦ comes fuel t.to (level_behind t.class level) g.0 g.1 next more (omega (arith, lt, b.0, b.1))
            ]
        | inr r ↦ stops at level stack d so some (stop_refuses_plain Drawing (reads text) draws stack d t r.0 r.1)
      ]

  pub each_comes : Comes text w
  each_comes =
      comes (suc (length text)) 0 0 geometry blank (record { tokens = []; tokens_are = no_token 0 0; runs = stays geometry blank; formed = refl; within = omega arith }) (λ (e : geometry ≡ []). cc) (omega arith)
