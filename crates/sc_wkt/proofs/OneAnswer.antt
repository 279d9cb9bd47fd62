-- A text has one answer: its tokens are told by it, and so is whether those are a whole geometry.
use Rattle.std.proofs.Common.{◌≡◌, ◌⊎◌, inl, inr, ℕ, List, [], ◌∷◌, ◌++◌, map, Bool, true, false, Option, Some, None, Result, Ok, Err, refl, sym, ap, subst, ◌∙◌, append_assoc}
use Rattle.std.proofs.lemmas.List.{append-nil}
use Rattle.sc_geom.specs.declared.point.Pt.{Pt}
use Rattle.sc_geom.specs.Shapes.{Shapes, map_shapes}
use Rattle.sc_geom.specs.Sketch.{Sketch}
use Rattle.sc_geom.specs.Building.{Completes}
use Rattle.sc_geom.proofs.Depicting.{shapes_equal}
use Rattle.sc_grammar.specs.Grammar.{done}
use Rattle.sc_grammar.proofs.Foresight as foresight
use Rattle.sc_grammar.specs.declared.token.Class.{Class}
use Rattle.sc_grammar.specs.declared.token.Token.{Token}
use Rattle.sc_cqlgrammar.specs.declared.rule.Rule.{Rule}
use Rattle.sc_cqlgrammar.specs.declared.rule.Rule.TheVariants as rules
use Rattle.sc_cqlgrammar.specs.declared.mark.Mark.{Mark}
use Rattle.sc_cqlgrammar.specs.Rules.{IsAlternative}
use Rattle.sc_cqlgrammar.specs.Table.{starts, is_empty, follows, predict, same}
use Rattle.sc_cqlgrammar.specs.Reading as reading
use Rattle.sc_cqlgrammar.specs.Reading.{class_of, Nothing, AreFront, Derive}
use Rattle.sc_cqlgrammar.proofs.Picking.{same_is}
use Rattle.sc_cqlgrammar.proofs.Fitting.{fits, picks, picks_nothing, is_rule}
use Rattle.sc_cqlgrammar.proofs.Readings.{Left, derived_is_taken, taken_is_derived, one_value}
use Rattle.sc_cqlgrammar.proofs.Forgetting.{runs_forget}
use Rattle.sc_wkt.specs.declared.fault.WktFault.{WktFault}
use Rattle.sc_wkt.specs.declared.fault.WktFault.TheVariants.{Syntax, BadLiteral, OutOfMemory}
use Rattle.sc_wkt.specs.Answer.{readable, is_readable, wide_in, IsWhole, IsCutAt, IsGeometryOf, IsSyntax, IsBadGeometry, IsWideInside, IsWideBefore, WktAnswers}
use Rattle.sc_wkt.specs.Drawing.{is_bad, Drawing, blank, reads, draws}
use Rattle.sc_wkt.specs.Levels.{AreTokens, no_token, one_more, next_token, level_behind}
use Rattle.sc_wkt.specs.Reading.{geometry, Draws, Stops}

-- ---- tokens

record IsBehind (text : List ℕ) (is_whole : Bool) (ts : List Token) (to behind : ℕ) (us : List Token) (end level : ℕ) : Type 0 where
  pub rest : List Token
  pub longer : us ≡ ts ++ rest
  pub tokens_are : AreTokens text is_whole to behind rest end level

record IsNext (text : List ℕ) (is_whole : Bool) (at level : ℕ) (us : List Token) (end last : ℕ) : Type 0 where
  pub token : Token
  pub more : List Token
  pub split : us ≡ token ∷ more
  pub token_is : token ≡ next_token text is_whole at level
  pub tokens_are : AreTokens text is_whole token.to (level_behind token.class level) more end last

abbrev AreNone : ℕ → ℕ → List Token → ℕ → ℕ → Type 0
AreNone at level us end last = (us ≡ []) × (at ≡ end) × (level ≡ last)

first_of : (text : List ℕ) (is_whole : Bool) (at level : ℕ) (us : List Token) (end last : ℕ) → AreTokens text is_whole at level us end last → AreNone at level us end last ⊎ IsNext text is_whole at level us end last
first_of text is_whole _ _ _ _ _ (no_token at level) = inl (refl, refl, refl)
first_of text is_whole _ _ _ _ _ (one_more at level u vs end last f b) = inr (record { token = u; more = vs; split = refl; token_is = f; tokens_are = b })

-- of two lists of tokens from one place the one goes on with the other
tokens_meet : (text : List ℕ) (is_whole : Bool) (at level : ℕ) (ts : List Token) (to behind : ℕ) → AreTokens text is_whole at level ts to behind → (us : List Token) (end last : ℕ) → AreTokens text is_whole at level us end last →
    IsBehind text is_whole ts to behind us end last ⊎ IsBehind text is_whole us end last ts to behind
tokens_meet text is_whole _ _ _ _ _ (no_token at level) us end last b = inl (record { rest = us; longer = refl; tokens_are = b })
tokens_meet text is_whole _ _ _ _ _ (one_more at level t ts to behind e a) us end last b =
    elim (first_of text is_whole at level us end last b) [
      | inl p ↦ inr (record {
        rest = t ∷ ts;
        longer = ap (λ (x : List Token). x ++ t ∷ ts) (sym p.0);
        tokens_are = subst (λ (x : ℕ). AreTokens text is_whole end x (t ∷ ts) to behind) p.2 (subst (λ (x : ℕ). AreTokens text is_whole x level (t ∷ ts) to behind) p.1 (one_more at level t ts to behind e a));
      })
      | inr q ↦
          let one : q.token ≡ t = q.token_is ∙ sym e in
          elim (tokens_meet text is_whole t.to (level_behind t.class level) ts to behind a q.more end last (subst (λ (x : Token). AreTokens text is_whole x.to (level_behind x.class level) q.more end last) one q.tokens_are)) [
            | inl m ↦ inl (record { rest = m.rest; longer = q.split ∙ ap (λ (x : Token). x ∷ q.more) one ∙ ap (λ (x : List Token). t ∷ x) m.longer; tokens_are = m.tokens_are })
            | inr m ↦ inr (record { rest = m.rest; longer = ap (λ (x : List Token). t ∷ x) m.longer ∙ ap (λ (x : List Token). x ++ m.rest) (sym (q.split ∙ ap (λ (x : Token). x ∷ q.more) one)); tokens_are = m.tokens_are })
          ]
    ]

-- ---- fronts

abbrev Whole : List Token → Type 0
Whole = Derive geometry

-- tokens of which more are a front are one
shorter_front : (ts g : List Token) → AreFront geometry (ts ++ g) → AreFront geometry ts
shorter_front ts g front = record { rest = g ++ front.rest; end = front.end; whole = rw append_assoc at front.whole }

whole_front : (ts g : List Token) → Whole (ts ++ g) → AreFront geometry ts
whole_front ts g l = record { rest = g; end = tt; whole = l }

nothing_derives : (s : Nothing) (u : Token) (g : List Token) (r : Nothing) → Left Nothing reading.stays reading.stays [] s (u ∷ g) r → ⊥
nothing_derives s u g r l = by_tokens s (u ∷ g) r l u g refl
  where
    by_tokens : (s : Nothing) (us : List Token) (r : Nothing) → Left Nothing reading.stays reading.stays [] s us r → (u : Token) (g : List Token) → us ≡ u ∷ g → ⊥
    by_tokens _ _ _ (done s) u g e = cc

-- nothing comes behind a whole geometry
whole_ends : (ts : List Token) (u : Token) (g : List Token) → Whole ts → Whole (ts ++ u ∷ g) → ⊥
whole_ends ts u g l k =
    nothing_derives tt u g tt
    (foresight.runs_keep Token Class Rule Mark Nothing class_of reading.stays reading.stays IsAlternative predict starts is_empty follows same same_is fits picks picks_nothing is_rule
    geometry tt ts [] tt (derived_is_taken Nothing reading.stays reading.stays rules.Geometry (inr refl) tt ts tt l) (λ c i. absurd i, tt) (u ∷ g) tt k)

-- ---- two readings of one text

record AreSame (ts : List Token) (to behind : ℕ) (us : List Token) (end last : ℕ) : Type 0 where
  pub tokens : ts ≡ us
  pub place : to ≡ end
  pub level : behind ≡ last

record GoesOn (text : List ℕ) (is_whole : Bool) (ts : List Token) (to behind : ℕ) (us : List Token) : Type 0 where
  pub more : List Token
  pub split : us ≡ ts ++ next_token text is_whole to behind ∷ more

same_or_on : (text : List ℕ) (is_whole : Bool) (ts : List Token) (to behind : ℕ) (us : List Token) (end last : ℕ) → IsBehind text is_whole ts to behind us end last → AreSame ts to behind us end last ⊎ GoesOn text is_whole ts to behind us
same_or_on text is_whole ts to behind us end last m =
    elim (first_of text is_whole to behind m.rest end last m.tokens_are) [
      | inl p ↦ inl (record { tokens = sym (m.longer ∙ ap (λ (x : List Token). ts ++ x) p.0 ∙ append-nil ts); place = p.1; level = p.2 })
      | inr q ↦ inr (record { more = q.more; split = m.longer ∙ ap (λ (x : List Token). ts ++ x) (q.split ∙ ap (λ (x : Token). x ∷ q.more) q.token_is) })
    ]

plain_whole : (text : List ℕ) (ts : List Token) (d : Drawing) → Left Drawing (reads text) draws geometry blank ts d → Whole ts
plain_whole text ts d l =
    taken_is_derived Nothing reading.stays reading.stays rules.Geometry tt ts tt
    (runs_forget Drawing (reads text) draws geometry blank ts [] d (derived_is_taken Drawing (reads text) draws rules.Geometry (inr refl) blank ts d l))

record SameDrawing (ts : List Token) (to : ℕ) (d : Drawing) (us : List Token) (end : ℕ) (e : Drawing) : Type 0 where
  pub tokens : ts ≡ us
  pub place : to ≡ end
  pub drawing : d ≡ e

record SameStop (ts : List Token) (at : ℕ) (us : List Token) (place : ℕ) : Type 0 where
  pub tokens : ts ≡ us
  pub place_is : at ≡ place

module _ (text : List ℕ) (is_whole : Bool) where
  longer_is_none : (ts : List Token) (to behind : ℕ) (us : List Token) → GoesOn text is_whole ts to behind us → Whole ts → Whole us → ⊥
  longer_is_none ts to behind us on l k = whole_ends ts (next_token text is_whole to behind) on.more l (subst Whole on.split k)

  wholes_are_one : (ts : List Token) (to : ℕ) (d : Drawing) → Draws text is_whole ts to d → (us : List Token) (end : ℕ) (e : Drawing) → Draws text is_whole us end e → SameDrawing ts to d us end e
  wholes_are_one ts to d a us end e b = by_order (tokens_meet text is_whole 0 0 ts to a.level a.tokens_are us end b.level b.tokens_are)
    where
      whole_a : Whole ts
      whole_a = plain_whole text ts d a.derived

      whole_b : Whole us
      whole_b = plain_whole text us e b.derived

      one : ts ≡ us → to ≡ end → SameDrawing ts to d us end e
      one tokens place = record {
        tokens = tokens;
        place = place;
        drawing = one_value Drawing (reads text) draws rules.Geometry (inr refl) blank us d e (subst (λ (x : List Token). Left Drawing (reads text) draws geometry blank x d) tokens a.derived) b.derived;
      }

      by_order : IsBehind text is_whole ts to a.level us end b.level ⊎ IsBehind text is_whole us end b.level ts to a.level → SameDrawing ts to d us end e
      by_order (inl m) = elim (same_or_on text is_whole ts to a.level us end b.level m) [ inl x ↦ one x.tokens x.place | inr x ↦ absurd (longer_is_none ts to a.level us x whole_a whole_b) ]
      by_order (inr m) = elim (same_or_on text is_whole us end b.level ts to a.level m) [ inl x ↦ one (sym x.tokens) (sym x.place) | inr x ↦ absurd (longer_is_none us end b.level ts x whole_b whole_a) ]

  -- tokens that go on behind a stop are no front
  no_longer_front : (ts : List Token) (at : ℕ) (a : Stops text is_whole ts at) (us : List Token) → GoesOn text is_whole ts a.to a.level us → AreFront geometry us → ⊥
  no_longer_front ts at a us on front =
      let token : List Token = next_token text is_whole a.to a.level ∷ [] in
      a.none (shorter_front (ts ++ token) on.more (subst (AreFront geometry) (on.split ∙ sym (append_assoc ts token on.more)) front))

  stops_are_one : (ts : List Token) (at : ℕ) → Stops text is_whole ts at → (us : List Token) (place : ℕ) → Stops text is_whole us place → SameStop ts at us place
  stops_are_one ts at a us place b = by_order (tokens_meet text is_whole 0 0 ts a.to a.level a.tokens_are us b.to b.level b.tokens_are)
    where
      one : ts ≡ us → a.to ≡ b.to → a.level ≡ b.level → SameStop ts at us place
      one tokens to level = record {
        tokens = tokens;
        place_is = a.place ∙ ap (λ (x : ℕ). (next_token text is_whole x a.level).from) to ∙ ap (λ (x : ℕ). (next_token text is_whole b.to x).from) level ∙ sym b.place;
      }

      by_order : IsBehind text is_whole ts a.to a.level us b.to b.level ⊎ IsBehind text is_whole us b.to b.level ts a.to a.level → SameStop ts at us place
      by_order (inl m) = elim (same_or_on text is_whole ts a.to a.level us b.to b.level m) [ inl x ↦ one x.tokens x.place x.level | inr x ↦ absurd (no_longer_front ts at a us x b.front) ]
      by_order (inr m) = elim (same_or_on text is_whole us b.to b.level ts a.to a.level m) [ inl x ↦ one (sym x.tokens) (sym x.place) (sym x.level) | inr x ↦ absurd (no_longer_front us place b ts x a.front) ]

  no_whole_and_stop : (ts : List Token) (to : ℕ) (d : Drawing) → Draws text is_whole ts to d → (us : List Token) (at : ℕ) → Stops text is_whole us at → ⊥
  no_whole_and_stop ts to d a us at b = by_order (tokens_meet text is_whole 0 0 ts to a.level a.tokens_are us b.to b.level b.tokens_are)
    where
      whole_a : Whole ts
      whole_a = plain_whole text ts d a.derived

      by_order : IsBehind text is_whole ts to a.level us b.to b.level ⊎ IsBehind text is_whole us b.to b.level ts to a.level → ⊥
      by_order (inl m) = elim (same_or_on text is_whole ts to a.level us b.to b.level m) [
        | inl x ↦ b.unfinished (subst Whole x.tokens whole_a)
        | inr x ↦ whole_ends ts (next_token text is_whole to a.level) (x.more ++ b.front.rest) whole_a (rw append_assoc at (subst (λ (y : List Token). Whole (y ++ b.front.rest)) x.split b.front.whole))
      ]
      by_order (inr m) = elim (same_or_on text is_whole us b.to b.level ts to a.level m) [
        | inl x ↦ b.unfinished (subst Whole (sym x.tokens) whole_a)
        | inr x ↦ no_longer_front us at b ts x (whole_front ts [] (rw append-nil whole_a))
      ]

-- ---- answers

some_inject : {A : Type 0} (a b : A) → Some a ≡ Some b → a ≡ b
some_inject a b e = cc

all_inject : {A : Type 0} (xs ys : List A) → map Some xs ≡ map Some ys → xs ≡ ys
all_inject [] [] e = refl
all_inject [] (y ∷ ys) e = absurd cc
all_inject (x ∷ xs) [] e = absurd cc
all_inject (x ∷ xs) (y ∷ ys) e =
    let head : x ≡ y = cc in
    let tail : map Some xs ≡ map Some ys = cc in
    let rest = all_inject xs ys tail in
    cc

lists_inject : {A : Type 0} (xs ys : List (List A)) → map (map Some) xs ≡ map (map Some) ys → xs ≡ ys
lists_inject [] [] e = refl
lists_inject [] (y ∷ ys) e = absurd cc
lists_inject (x ∷ xs) [] e = absurd cc
lists_inject (x ∷ xs) (y ∷ ys) e =
    let head : map Some x ≡ map Some y = cc in
    let tail : map (map Some) xs ≡ map (map Some) ys = cc in
    let first = all_inject x y head in
    let rest = lists_inject xs ys tail in
    cc

areas_inject : {A : Type 0} (xs ys : List (List (List A))) → map (map (map Some)) xs ≡ map (map (map Some)) ys → xs ≡ ys
areas_inject [] [] e = refl
areas_inject [] (y ∷ ys) e = absurd cc
areas_inject (x ∷ xs) [] e = absurd cc
areas_inject (x ∷ xs) (y ∷ ys) e =
    let head : map (map Some) x ≡ map (map Some) y = cc in
    let tail : map (map (map Some)) xs ≡ map (map (map Some)) ys = cc in
    let first = lists_inject x y head in
    let rest = areas_inject xs ys tail in
    cc

geometries_are_one : (d : Sketch) (g h : Shapes Pt) → Completes d g → Completes d h → g ≡ h
geometries_are_one d g h a b =
    let one : map_shapes Some g ≡ map_shapes Some h = sym a.same ∙ b.same in
    shapes_equal g h
    (all_inject g.points h.points (ap (λ (s : Sketch). s.points) one))
    (lists_inject g.lines h.lines (ap (λ (s : Sketch). s.lines) one))
    (areas_inject g.areas h.areas (ap (λ (s : Sketch). s.areas) one))

bad_and_good : (most : ℕ) (d e : Drawing) → d ≡ e → is_bad most d ≡ false → is_bad most e ≡ true → ⊥
bad_and_good most d e one good bad = let no : false ≡ true = sym good ∙ ap (is_bad most) one ∙ bad in cc

none_and_wide : (bytes : List ℕ) (ts us : List Token) (at : ℕ) → ts ≡ us → wide_in bytes ts ≡ None → wide_in bytes us ≡ Some at → ⊥
none_and_wide bytes ts us at one none wide = let no : ◌≡◌ {A = Option ℕ} None (Some at) = sym none ∙ ap (wide_in bytes) one ∙ wide in cc

one_place : (bytes : List ℕ) (ts us : List Token) (a b : ℕ) → ts ≡ us → wide_in bytes ts ≡ Some a → wide_in bytes us ≡ Some b → a ≡ b
one_place bytes ts us a b one p q = some_inject a b (sym p ∙ ap (wide_in bytes) one ∙ q)

module _ (bytes : List ℕ) (most : ℕ) where
  abbrev Bad : ℕ → Type 0
  Bad at = IsBadGeometry bytes most at ⊎ IsWideInside bytes most at ⊎ IsWideBefore bytes at

  abbrev wholes : (ts : List Token) (to : ℕ) (d : Drawing) → IsWhole bytes ts to d → (us : List Token) (end : ℕ) (e : Drawing) → IsWhole bytes us end e → SameDrawing ts to d us end e
  wholes = wholes_are_one (readable bytes) (is_readable bytes)

  abbrev apart : (ts : List Token) (to : ℕ) (d : Drawing) → IsWhole bytes ts to d → (us : List Token) (at : ℕ) → IsCutAt bytes us at → ⊥
  apart = no_whole_and_stop (readable bytes) (is_readable bytes)

  abbrev cuts : (ts : List Token) (at : ℕ) → IsCutAt bytes ts at → (us : List Token) (place : ℕ) → IsCutAt bytes us place → SameStop ts at us place
  cuts = stops_are_one (readable bytes) (is_readable bytes)

  geometry_and_bad : (g : Shapes Pt) (to at : ℕ) → IsGeometryOf bytes most g to → Bad at → ⊥
  geometry_and_bad g to at a (inl b) = let s = wholes a.tokens to a.drawing a.whole b.tokens b.to b.drawing b.whole in bad_and_good most a.drawing b.drawing s.drawing a.good b.bad
  geometry_and_bad g to at a (inr (inl b)) = let s = wholes a.tokens to a.drawing a.whole b.tokens b.to b.drawing b.whole in none_and_wide bytes a.tokens b.tokens at s.tokens a.narrow b.wide
  geometry_and_bad g to at a (inr (inr b)) = apart a.tokens to a.drawing a.whole b.tokens b.stop b.cut

  syntax_and_bad : (stop at : ℕ) → IsSyntax bytes stop → Bad at → ⊥
  syntax_and_bad stop at a (inl b) = apart b.tokens b.to b.drawing b.whole a.tokens stop a.cut
  syntax_and_bad stop at a (inr (inl b)) = apart b.tokens b.to b.drawing b.whole a.tokens stop a.cut
  syntax_and_bad stop at a (inr (inr b)) = none_and_wide bytes a.tokens b.tokens at (cuts a.tokens stop a.cut b.tokens b.stop b.cut).tokens a.narrow b.wide

  bads_are_one : (x y : ℕ) → Bad x → Bad y → x ≡ y
  bads_are_one x y (inl a) (inl b) = a.place ∙ sym b.place
  bads_are_one x y (inl a) (inr (inl b)) = let s = wholes b.tokens b.to b.drawing b.whole a.tokens a.to a.drawing a.whole in absurd (bad_and_good most b.drawing a.drawing s.drawing b.good a.bad)
  bads_are_one x y (inl a) (inr (inr b)) = absurd (apart a.tokens a.to a.drawing a.whole b.tokens b.stop b.cut)
  bads_are_one x y (inr (inl a)) (inl b) = let s = wholes a.tokens a.to a.drawing a.whole b.tokens b.to b.drawing b.whole in absurd (bad_and_good most a.drawing b.drawing s.drawing a.good b.bad)
  bads_are_one x y (inr (inl a)) (inr (inl b)) = one_place bytes a.tokens b.tokens x y (wholes a.tokens a.to a.drawing a.whole b.tokens b.to b.drawing b.whole).tokens a.wide b.wide
  bads_are_one x y (inr (inl a)) (inr (inr b)) = absurd (apart a.tokens a.to a.drawing a.whole b.tokens b.stop b.cut)
  bads_are_one x y (inr (inr a)) (inl b) = absurd (apart b.tokens b.to b.drawing b.whole a.tokens a.stop a.cut)
  bads_are_one x y (inr (inr a)) (inr (inl b)) = absurd (apart b.tokens b.to b.drawing b.whole a.tokens a.stop a.cut)
  bads_are_one x y (inr (inr a)) (inr (inr b)) = one_place bytes a.tokens b.tokens x y (cuts a.tokens a.stop a.cut b.tokens b.stop b.cut).tokens a.wide b.wide

  abbrev Answer : Type 0
  Answer = Result (Shapes Pt × ℕ) WktFault

  abbrev out : Answer
  out = Err OutOfMemory

  pub answers_are_one : (a b : Answer) → WktAnswers bytes most a → WktAnswers bytes most b → (a ≡ b) ⊎ (a ≡ out) ⊎ (b ≡ out)
  answers_are_one (Ok (g, to)) (Ok (h, end)) p q =
      let s = wholes p.tokens to p.drawing p.whole q.tokens end q.drawing q.whole in
      let same : g ≡ h = geometries_are_one q.drawing.sketch g h (subst (λ (d : Drawing). Completes d.sketch g) s.drawing p.drawn) q.drawn in
      let place : to ≡ end = s.place in
      inl cc
  answers_are_one (Ok (g, to)) (Err (Syntax at)) p q = absurd (apart p.tokens to p.drawing p.whole q.tokens at q.cut)
  answers_are_one (Ok (g, to)) (Err (BadLiteral at)) p q = absurd (geometry_and_bad g to at p q)
  answers_are_one (Ok x) (Err OutOfMemory) p q = inr (inr refl)
  answers_are_one (Err (Syntax at)) (Ok (g, to)) p q = absurd (apart q.tokens to q.drawing q.whole p.tokens at p.cut)
  answers_are_one (Err (Syntax at)) (Err (Syntax place)) p q = let same : at ≡ place = (cuts p.tokens at p.cut q.tokens place q.cut).place_is in inl cc
  answers_are_one (Err (Syntax at)) (Err (BadLiteral place)) p q = absurd (syntax_and_bad at place p q)
  answers_are_one (Err (Syntax at)) (Err OutOfMemory) p q = inr (inr refl)
  answers_are_one (Err (BadLiteral at)) (Ok (g, to)) p q = absurd (geometry_and_bad g to at q p)
  answers_are_one (Err (BadLiteral at)) (Err (Syntax place)) p q = absurd (syntax_and_bad place at q p)
  answers_are_one (Err (BadLiteral at)) (Err (BadLiteral place)) p q = let same : at ≡ place = bads_are_one at place p q in inl cc
  answers_are_one (Err (BadLiteral at)) (Err OutOfMemory) p q = inr (inr refl)
  answers_are_one (Err OutOfMemory) b p q = inr (inl refl)
