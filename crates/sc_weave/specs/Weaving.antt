-- What comes of the lines of a script: their steps, taken one after another by a new machine, and how a run ends.
use Rattle.std.specs.Prelude.{◌≡◌, ℕ, ◌+◌, ◌^◌, ◌≤◌, Bool, true, ◌||◌, nat_lt, List, [], ◌∷◌, ◌++◌, length}
use Rattle.std.specs.List.{concat, flat_map}
use Rattle.std.specs.declared.option.Option.{Option}
use Rattle.std.specs.Io.KnownBytes.{Appends, Consumes}
use Rattle.sc_outside.specs.Lines.{lines_to_read, without_feed}
use Rattle.sc_outside.specs.Outside.{AppendsFront}
use Rattle.sc_script.specs.declared.step.Step.{Step}
use Rattle.sc_script.specs.Step.{StepOf}
use Rattle.sc_outcome.specs.declared.outcome.Outcome.{Outcome}
use Rattle.sc_outcome.specs.Outcome.{line_of}
use Rattle.sc_machine.specs.State.{State, nothing}
use Rattle.sc_machine.specs.Machine.{Takes}
use Rattle.sc_weave.specs.declared.ending.WeaveEnd.{WeaveEnd}
use Rattle.sc_weave.specs.declared.ending.WeaveEnd.TheVariants.{Done, BadStep, ReadFault, WriteFault, OutOfMemory}

-- ---- lines

-- the lines are steps, which lead a machine from one state to the other, and give these outcomes
abbrev pub Weaves : State → List (List ℕ) → List Outcome → State → Type 0
Weaves old [] [] new = new ≡ old
Weaves old [] (outcome ∷ outcomes) new = ⊥
Weaves old (line ∷ lines) [] new = ⊥
Weaves old (line ∷ lines) (outcome ∷ outcomes) new =
    (step : Step) × (state : State) × StepOf (without_feed line) step × Takes step old state outcome × Weaves state lines outcomes new

-- the lines are within the limits, and give a new machine these outcomes
pub record AreWoven (lines : List (List ℕ)) (outcomes : List Outcome) : Type 0 where
  pub last : State
  pub weaves : Weaves nothing lines outcomes last
  pub few : length lines ≤ 1_000_000
  pub short : length (concat lines) ≤ 2 ^ 28

-- line n, from 1, is the first that is no step or is past a limit; those before it give these outcomes
pub record IsFirstBad (lines : List (List ℕ)) (n : ℕ) (outcomes : List Outcome) : Type 0 where
  pub before : List (List ℕ)
  pub line : List ℕ
  pub after : List (List ℕ)
  pub place : lines ≡ before ++ (line ∷ after)
  pub number : n ≡ length before + 1
  pub good : AreWoven before outcomes
  pub bad : (more : List Outcome) → AreWoven (before ++ line ∷ []) more → ⊥

-- ---- runs

-- the lines that tell the outcomes
abbrev pub told : List Outcome → List ℕ
told outcomes = flat_map line_of outcomes

-- lines at the front were woven, and a front of what tells their outcomes was written
pub record WritesFront (lines : List (List ℕ)) (old new : Option (List ℕ)) : Type 0 where
  pub before : List (List ℕ)
  pub after : List (List ℕ)
  pub place : lines ≡ before ++ after
  pub outcomes : List Outcome
  pub woven : AreWoven before outcomes
  pub wrote : AppendsFront old new (told outcomes)

-- how a run ends on the lines to read, and what it leaves of the sink
abbrev pub EndsOn : WeaveEnd → List (List ℕ) → Bool → Option (List ℕ) → Option (List ℕ) → Type 0
EndsOn Done lines ended old new = (ended ≡ true) × (outcomes : List Outcome) × AreWoven lines outcomes × Appends old new (told outcomes)
EndsOn (BadStep n) lines ended old new = (outcomes : List Outcome) × IsFirstBad lines n outcomes × Appends old new (told outcomes)
EndsOn ReadFault lines ended old new = (outcomes : List Outcome) × AreWoven lines outcomes × Appends old new (told outcomes)
EndsOn WriteFault lines ended old new = WritesFront lines old new
EndsOn OutOfMemory lines ended old new = WritesFront lines old new

-- the lines to read among the bytes taken: one that isn't whole counts only at the end of the input, or past the limit
abbrev pub lines_of_script : List ℕ → Bool → List (List ℕ)
lines_of_script taken ended = lines_to_read (ended || nat_lt (2 ^ 28) (length taken)) taken

-- the run took these bytes, and ended on their lines
pub record WeaveRan (end : WeaveEnd) (left left' : Option (List ℕ)) (ended : Bool) (old new : Option (List ℕ)) : Type 0 where
  pub taken : List ℕ
  pub took : Consumes left left' taken
  pub ends : EndsOn end (lines_of_script taken ended) ended old new
