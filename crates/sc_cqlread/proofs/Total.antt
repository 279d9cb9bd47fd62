-- The tokens of each text come to something, and a whole text is one expression.
use Rattle.std.proofs.Common.{◌≡◌, ◌≢◌, ◌⊎◌, inl, inr, ℕ, zero, suc, ◌-◌, ◌<◌, ◌≤◌, List, [], ◌∷◌, ◌++◌, length, Bool, true, false, leb, Option, Some, None, Result, refl, sym, subst, arith}
use Rattle.std.proofs.lemmas.Bool.{leb-true, leb-false}
use Rattle.sc_geom.specs.declared.point.Pt.{Pt}
use Rattle.sc_geom.specs.Shapes.{Shapes}
use Rattle.sc_grammar.specs.Grammar.{tok, non, act, takes, marks, opens}
use Rattle.sc_grammar.specs.declared.token.Class.{Class}
use Rattle.sc_grammar.specs.declared.token.Class.TheVariants as classes
use Rattle.sc_grammar.specs.declared.token.Token.{Token}
use Rattle.sc_grammar.specs.Words.{token_at}
use Rattle.sc_cqlgrammar.specs.declared.mark.Mark.{Mark}
use Rattle.sc_cqlgrammar.specs.declared.mark.Mark.TheVariants as kinds
use Rattle.sc_cqlgrammar.specs.Rules.{Items}
use Rattle.sc_cqlgrammar.specs.Table.{same, predict}
use Rattle.sc_cqlgrammar.specs.Reading.{class_of}
use Rattle.sc_cqlgrammar.proofs.Picking.{same_is}
use Rattle.sc_cqlgrammar.proofs.Opening.{need, opening_needs_less}
use Rattle.sc_cqlgrammar.proofs.Readings.{Goes}
use Rattle.sc_expr.specs.declared.expr.Expr.{Expr}
use Rattle.sc_expr.specs.Form.{IsFormed}
use Rattle.sc_expr.specs.Measure.{depth, nodes}
use Rattle.sc_cqlvalue.specs.Values as values
use Rattle.sc_cqlvalue.proofs.Wholes.{one_left}
use Rattle.sc_expr.specs.declared.fault.CqlFault.{CqlFault}
use Rattle.sc_expr.specs.declared.fault.CqlFault.TheVariants as faults
use Rattle.sc_cqlread.specs.declared.taking.End.{End}
use Rattle.sc_cqlread.specs.declared.taking.End.TheVariants.{Whole, Broken, TooDeep}
use Rattle.sc_cqlread.specs.Tokens.{readable, is_readable}
use Rattle.sc_cqlread.specs.Nesting.{level_behind, deepest_from}
use Rattle.sc_cqlread.specs.Passing.{stands, marked, opened, IsRefused}
use Rattle.sc_cqlread.specs.Reading.{Reading, start, eats, does, drawn, bad_of}
use Rattle.sc_cqlread.specs.Filters.{whole, Makes, IsExpr}
use Rattle.sc_cqlread.specs.Ends.{Ends}
use Rattle.sc_cqlread.specs.Faults.{IsFault}
use Rattle.sc_cqlread.proofs.Forming.{makes_formed}
use Rattle.sc_cqlread.proofs.Unique.{tokens_one}
use Rattle.sc_cqlread.proofs.Course.{SoFar, at_first, some_tokens, formed_within, token_taken, end_taken, too_deep, level_too_deep, token_refused, taken_comes}

tells : (b : Bool) → (b ≡ true) ⊎ (b ≡ false)
tells true = inl refl
tells false = inr refl

le-or-lt : (a b : ℕ) → (a ≤ b) ⊎ (b < a)
le-or-lt a b = elim (tells (leb a b)) [ inl e ↦ inl (leb-true a b e) | inr e ↦ inr (leb-false a b e) ]

told : (o : Option Items) → ((a : Items) × (o ≡ Some a)) ⊎ (o ≡ None)
told (Some a) = inl (a, refl)
told None = inr refl

same_itself : (c : Class) → same c c ≡ true
same_itself classes.Or = refl
same_itself _ = refl

-- ---- a token is taken or refused

module _ (S : Type 0) (eats : Token → S → S) (does : Mark → S → S) where
  abbrev Goes_on : Items → S → Token → Type 0
  Goes_on is s t = (js : Items) × (m : S) × Goes S eats does is s t js m

  abbrev Some_refusal : Items → S → Token → Type 0
  Some_refusal is s t = (m : S) × IsRefused S does is s t m

  pub taken_or_refused : (fuel : ℕ) (is : Items) (s : S) (t : Token) → need is < fuel → Goes_on is s t ⊎ Some_refusal is s t
  taken_or_refused zero is s t lt = absurd (omega (arith, lt))
  taken_or_refused (suc fuel) [] s t lt = inr (s, ([], stands [] s t, tt))
  taken_or_refused (suc fuel) (tok c ∷ is) s t lt =
      elim (tells (same c (class_of t))) [
        | inl e ↦ inl (is, eats t s, subst (λ (x : Class). Goes S eats does (tok x ∷ is) s t is (eats t s)) (sym (same_is c (class_of t) e)) (takes t is s))
        | inr e ↦ inr (s, (tok c ∷ is, stands (tok c ∷ is) s t, λ (h : c ≡ class_of t). (let f : same c (class_of t) ≡ true = subst (λ (x : Class). same c x ≡ true) h (same_itself c) in absurd cc)))
      ]
  taken_or_refused (suc fuel) (act k ∷ is) s t lt =
      elim (taken_or_refused fuel is (does k s) t (omega (arith, lt))) [
        | inl g ↦ inl (g.0, g.1, marks k is s t g.0 g.1 g.2)
        | inr r ↦ inr (r.0, (r.1.0, marked k is s t r.1.0 r.0 r.1.1, r.1.2))
      ]
  taken_or_refused (suc fuel) (non n ∷ is) s t lt =
      elim (told (predict n (class_of t))) [
        | inl p ↦ elim (taken_or_refused fuel (p.0 ++ is) s t (let l = opening_needs_less n (class_of t) p.0 is p.1 in omega (arith, lt, l))) [
          | inl g ↦ inl (g.0, g.1, opens n p.0 is s t g.0 g.1 p.1 g.2)
          | inr r ↦ inr (r.0, (r.1.0, opened n p.0 is s t r.1.0 r.0 p.1 r.1.1, r.1.2))
        ]
        | inr e ↦ inr (s, (non n ∷ is, stands (non n ∷ is) s t, e))
      ]

-- ---- the tokens come to something

abbrev Some_end : List ℕ → Bool → Type 0
Some_end chars w = (end : End) × (made : Reading) × Ends chars w end made

some_end : (fuel : ℕ) (chars : List ℕ) (w : Bool) (place level : ℕ) (items : Items) (made : Reading) → SoFar chars w place level items made → place ≤ length chars → level ≤ 64 → length chars - place < fuel → Some_end chars w
some_end zero chars w place level items made so within low lt = absurd (omega (arith, lt))
some_end (suc fuel) chars w place level items made so within low lt =
    let token = token_at chars w place in
    let next = level_behind token.class level in
    elim (le-or-lt next 64) [
      | inr high ↦ (TooDeep, made, level_too_deep chars w place level items made so token refl low within next refl high)
      | inl next_low ↦ elim (taken_or_refused Reading (eats chars) (does chars) (suc (need items)) items made token (omega arith)) [
        | inl g ↦ elim (taken_comes chars w place level items made so token refl low g.0 g.1 g.2) [
          | inl e ↦ (Whole, g.1, end_taken chars w place level items made so token refl low g.0 g.1 g.2 e.1 e.0)
          | inr f ↦
              let b = formed_within chars w place within f.0 in
              some_end fuel chars w token.to next g.0 g.1 (token_taken chars w place level items made so token refl low g.0 g.1 g.2 f.0 f.1 next refl) b.1 next_low (omega (arith, lt, b.0, within))
        ]
        | inr r ↦
            let p = some_tokens chars w place within in
            elim (le-or-lt (deepest_from level p.0) 64) [
              | inl d ↦ (
                Broken token.from,
                r.0,
                token_refused chars w place level items made so token refl low r.0 within r.1
                    (λ ts are. subst (λ (x : List Token). deepest_from level x ≤ 64) (tokens_one chars w place p.0 ts p.1 are) d),
              )
              | inr d ↦ (
                TooDeep,
                made,
                too_deep chars w place level items made so token refl low made within
                    (λ ts are. subst (λ (x : List Token). 64 < deepest_from level x) (tokens_one chars w place p.0 ts p.1 are) d),
              )
            ]
      ]
    ]

pub each_ends : (chars : List ℕ) (w : Bool) → Some_end chars w
each_ends chars w = some_end (suc (length chars)) chars w 0 0 whole start (at_first chars w) (omega arith) (omega arith) (omega arith)

-- ---- a whole text is one expression

values_eaten : (chars : List ℕ) (t : Token) (r : Reading) → (eats chars t r).values ≡ values.eats t r.values
unfolding eats
values_eaten chars t r = refl

values_marked : (chars : List ℕ) (m : Mark) (r : Reading) → m ≢ kinds.Geometry → (does chars m r).values ≡ values.does chars m r.values
unfolding does
values_marked chars kinds.Geometry r other = absurd (other refl)
values_marked chars _ r other = refl

values_drawn : (chars : List ℕ) (r : Reading) → (d : Result (Shapes Pt) ℕ) × ((does chars kinds.Geometry r).values ≡ values.with_geometry d r.values)
unfolding does
values_drawn chars r = (drawn r, refl)

pub one_expr : (chars : List ℕ) (ts : List Token) (made : Reading) → Makes chars ts made → (expr : Expr) × (made.values.exprs ≡ expr ∷ [])
one_expr chars ts made m =
    let p = one_left Reading (eats chars) (does chars) chars (λ (r : Reading). r.values) (values_eaten chars) (values_marked chars) (values_drawn chars) start ts made refl m in
    (p.0, p.1.exprs)

-- ---- each text has an answer

abbrev pub IsAnswered : List ℕ → Type 0
IsAnswered text =
    ((expr : Expr) × IsExpr text expr × IsFormed expr × (depth expr ≤ 24) × (nodes expr ≤ 1024)) ⊎ ((fault : CqlFault) × (fault ≢ faults.OutOfMemory) × IsFault text fault)

by_measure : (text : List ℕ) (expr : Expr) → IsExpr text expr → IsFormed expr → IsAnswered text
by_measure text expr is formed =
    elim (le-or-lt (depth expr) 24) [
      | inl shallow ↦ elim (le-or-lt (nodes expr) 1024) [
        | inl few ↦ inl (expr, is, formed, shallow, few)
        | inr many ↦ inr (faults.TooManyNodes, (λ (x : faults.TooManyNodes ≡ faults.OutOfMemory). cc), record { expr = expr; is = is; shallow = shallow; many = many })
      ]
      | inr deep ↦ inr (faults.TooDeep, (λ (x : faults.TooDeep ≡ faults.OutOfMemory). cc), inr (record { expr = expr; is = is; deep = deep }))
    ]

by_end : (text : List ℕ) (end : End) (made : Reading) → Ends (readable text) (is_readable text) end made → (bad : Option ℕ) → bad_of made ≡ bad → IsAnswered text
by_end text TooDeep made e bad h = inr (faults.TooDeep, (λ (x : faults.TooDeep ≡ faults.OutOfMemory). cc), inl (record { tokens = e.0; are = e.1; deep = e.2 }))
by_end text (Broken place) made e None h =
    inr (faults.Syntax place, (λ (x : faults.Syntax place ≡ faults.OutOfMemory). cc), record { tokens = e.0; made = made; are = e.1; shallow = e.2; breaks = e.3; sound = h })
by_end text (Broken place) made e (Some p) h =
    inr (faults.BadLiteral p, (λ (x : faults.BadLiteral p ≡ faults.OutOfMemory). cc), record { tokens = e.0; made = made; are = e.1; shallow = e.2; comes = inr (place, e.3); bad = h })
by_end text Whole made e (Some p) h =
    inr (faults.BadLiteral p, (λ (x : faults.BadLiteral p ≡ faults.OutOfMemory). cc), record { tokens = e.0; made = made; are = e.1; shallow = e.2; comes = inl e.3; bad = h })
by_end text Whole made e None h =
    let one = one_expr (readable text) e.0 made e.3 in
    by_measure text one.0 (record { tokens = e.0; made = made; are = e.1; shallow = e.2; makes = e.3; sound = h; alone = one.1 })
    (makes_formed (readable text) e.0 made one.0 e.3 one.1)

-- each text is an expression that is formed, shallow and small, or has a fault
pub answered : (text : List ℕ) → IsAnswered text
answered text =
    let x = each_ends (readable text) (is_readable text) in
    by_end text x.0 x.1 x.2 (bad_of x.1) refl
