-- Each text has a geometry at its front, or a fault other than want of memory.
use Rattle.std.proofs.Common.{◌≡◌, ◌≢◌, inl, inr, ℕ, List, Bool, true, false, Option, Some, None, Result, Ok, Err, refl, arith}
use Rattle.std.proofs.lemmas.Bool.{ltb-false}
use Rattle.sc_geom.specs.declared.point.Pt.{Pt}
use Rattle.sc_geom.specs.Shapes.{Shapes, map_shapes}
use Rattle.sc_geom.specs.Building.{settled}
use Rattle.sc_geom.specs.Answers.{count_of}
use Rattle.sc_grammar.specs.declared.token.Token.{Token}
use Rattle.sc_wkt.specs.declared.fault.WktFault.{WktFault}
use Rattle.sc_wkt.specs.declared.fault.WktFault.TheVariants as faults
use Rattle.sc_wkt.specs.Answer.{readable, is_readable, wide_in, first_place, IsWhole, IsCutAt, WktAnswers}
use Rattle.sc_wkt.specs.Drawing.{Drawing, is_bad}
use Rattle.sc_wkt.proofs.Finishing.{good_is, count-map}
use Rattle.sc_forms.proofs.Drawing.{drawn_completes, each_comes}

-- what is answered beside want of memory
abbrev pub IsAnswered : List ℕ → ℕ → Type 0
IsAnswered bytes most = (answer : Result (Shapes Pt × ℕ) WktFault) × WktAnswers bytes most answer × (answer ≢ Err faults.OutOfMemory)

abbrev Answer : Type 0
Answer = Result (Shapes Pt × ℕ) WktFault

abbrev bad_at : ℕ → Answer
bad_at at = Err (faults.BadLiteral at)

not_bad : (at : ℕ) → bad_at at ≢ Err faults.OutOfMemory
not_bad at = λ (e : bad_at at ≡ Err faults.OutOfMemory). cc

module _ (bytes : List ℕ) (most : ℕ) where
  whole_answered : (tokens : List Token) (to : ℕ) (d : Drawing) → IsWhole bytes tokens to d → (bad : Bool) → is_bad most d ≡ bad → (wide : Option ℕ) → wide_in bytes tokens ≡ wide → IsAnswered bytes most
  whole_answered tokens to d whole true e wide f =
      (bad_at (first_place bytes), inl (record { tokens = tokens; to = to; drawing = d; whole = whole; bad = e; place = refl }), not_bad (first_place bytes))
  whole_answered tokens to d whole false e (Some at) f =
      (bad_at at, inr (inl (record { tokens = tokens; to = to; drawing = d; whole = whole; good = e; wide = f })), not_bad at)
  whole_answered tokens to d whole false e None f =
      let g : Shapes Pt = map_shapes settled d.sketch in
      let few = ltb-false most (count_of d.sketch) (good_is most d e).few in
      let same = count-map settled d.sketch in (
        Ok (g, to),
        record { tokens = tokens; drawing = d; whole = whole; narrow = f; good = e; drawn = drawn_completes (readable bytes) tokens d most whole.derived f e; few = omega (arith, few, same) },
        λ e. cc,
      )

  cut_answered : (tokens : List Token) (at : ℕ) → IsCutAt bytes tokens at → (wide : Option ℕ) → wide_in bytes tokens ≡ wide → IsAnswered bytes most
  cut_answered tokens at cut None e = (Err (faults.Syntax at), record { tokens = tokens; cut = cut; narrow = e }, λ e. cc)
  cut_answered tokens at cut (Some place) e = (bad_at place, inr (inr (record { tokens = tokens; stop = at; cut = cut; wide = e })), not_bad place)

  pub geometry_answered : IsAnswered bytes most
  geometry_answered =
      elim (each_comes (readable bytes) (is_readable bytes)) [
        | inl c ↦ whole_answered c.0 c.1 c.2 c.3 (is_bad most c.2) refl (wide_in bytes c.0) refl
        | inr c ↦ cut_answered c.0 c.1 c.2 (wide_in bytes c.0) refl
      ]
