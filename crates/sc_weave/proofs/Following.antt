-- Lines that follow others, and lines that can't.
use Rattle.std.proofs.Common.{◌≡◌, ℕ, ◌+◌, ◌-◌, ◌^◌, ◌<◌, ◌≤◌, ◌⊎◌, inl, inr, List, [], ◌∷◌, ◌++◌, length, refl, ◌∙◌, ap, subst, arith, append-nil}
use Rattle.std.specs.List.{concat}
use Rattle.std.proofs.lemmas.List.{length-append}
use Rattle.std.proofs.lemmas.List.Folds.{concat-append}
use Rattle.sc_outside.specs.Lines.{without_feed}
use Rattle.sc_script.specs.declared.step.Step.{Step}
use Rattle.sc_script.specs.Step.{StepOf, IsNoStep}
use Rattle.sc_outcome.specs.declared.outcome.Outcome.{Outcome}
use Rattle.sc_machine.specs.State.{State, nothing}
use Rattle.sc_machine.specs.Machine.{Takes}
use Rattle.sc_weave.specs.Weaving.{Weaves, AreWoven}
use Rattle.sc_weave.specs.Inside.{HasWoven, CantFollow}

weaves_push : (a b c : State) (xs : List (List ℕ)) (os : List Outcome) (line : List ℕ) (step : Step) (outcome : Outcome) → Weaves a xs os b → StepOf (without_feed line) step → Takes step b c outcome
    → Weaves a (xs ++ line ∷ []) (os ++ outcome ∷ []) c
weaves_push a b c [] [] line step outcome w s t = (step, c, s, subst (λ x. Takes step x c outcome) w t, refl)
weaves_push a b c [] (o ∷ os) line step outcome w s t = absurd w
weaves_push a b c (x ∷ xs) [] line step outcome w s t = absurd w
weaves_push a b c (x ∷ xs) (o ∷ os) line step outcome w s t = (w.0, w.1, w.2, w.3, weaves_push w.1 b c xs os line step outcome w.4 s t)

last_step : (a c : State) (xs : List (List ℕ)) (line : List ℕ) (os : List Outcome) → Weaves a (xs ++ line ∷ []) os c → (step : Step) × StepOf (without_feed line) step
last_step a c [] line [] w = absurd w
last_step a c [] line (o ∷ os) w = (w.0, w.2)
last_step a c (x ∷ xs) line [] w = absurd w
last_step a c (x ∷ xs) line (o ∷ os) w = last_step w.1 c xs line os w.4

bytes_push : (lines : List (List ℕ)) (line : List ℕ) → length (concat (lines ++ line ∷ [])) ≡ length (concat lines) + length line
bytes_push lines line = ap length (concat-append lines (line ∷ []) ∙ ap (λ t. concat lines ++ t) (append-nil line)) ∙ length-append (concat lines) line

module _ (count read : ℕ) (state : State) (lines : List (List ℕ)) (outcomes : List Outcome) (h : HasWoven count read state lines outcomes) where
  pub are_woven : AreWoven lines outcomes
  are_woven = record { last = state; weaves = h.weaves; few = omega (arith, h.count_is, h.few); short = omega (arith, h.read_is, h.short) }

  module _ (line : List ℕ) where
    too_many : 1000000 ≤ count → CantFollow lines line
    too_many many = λ more are. absurd (omega (arith, h.count_is, many, are.few, length-append lines (line ∷ [])))

    too_long : 2 ^ 28 - read < length line → CantFollow lines line
    too_long long = λ more are. absurd (omega (arith, h.read_is, h.short, long, are.short, bytes_push lines line))

    pub past_limit : (1000000 ≤ count) ⊎ (2 ^ 28 - read < length line) → CantFollow lines line
    past_limit (inl many) = too_many many
    past_limit (inr long) = too_long long

    pub no_step : IsNoStep (without_feed line) → CantFollow lines line
    no_step none = λ more are. let s = last_step nothing are.last lines line more are.weaves in none s.0 s.1

    pub woven_more : (new : State) (step : Step) (outcome : Outcome) → StepOf (without_feed line) step → Takes step state new outcome → count < 1000000 → length line ≤ 2 ^ 28 - read
        → HasWoven (count + 1) (read + length line) new (lines ++ line ∷ []) (outcomes ++ outcome ∷ [])
    woven_more new step outcome s t few short = record {
      weaves = weaves_push nothing state new lines outcomes line step outcome h.weaves s t;
      count_is = length-append lines (line ∷ []) ∙ ap (λ n. n + 1) h.count_is;
      read_is = bytes_push lines line ∙ ap (λ n. n + length line) h.read_is;
      few = omega (arith, few);
      short = omega (arith, short, h.short);
    }

pub nothing_woven : HasWoven 0 0 nothing [] []
nothing_woven = record { weaves = refl; count_is = refl; read_is = refl; few = omega arith; short = omega arith }
