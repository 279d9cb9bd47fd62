-- What a run knows on its way. No public clause cites it.
use Rattle.std.specs.Prelude.{◌≡◌, ◌==◌, ℕ, ◌^◌, ◌≤◌, ◌⊎◌, Bool, false, List, [], ◌∷◌, ◌++◌, length, take, drop, string_bytes}
use Rattle.std.specs.List.{AllByRecursion, concat}
use Rattle.std.specs.declared.option.Option.{Option}
use Rattle.std.specs.Io.KnownBytes.{Appends}
use Rattle.sc_outside.specs.Lines.{lines_to_read}
use Rattle.sc_outcome.specs.declared.outcome.Outcome.{Outcome}
use Rattle.sc_machine.specs.State.{State, nothing}
use Rattle.sc_weave.specs.declared.ending.WeaveEnd.{WeaveEnd}
use Rattle.sc_weave.specs.declared.ending.WeaveEnd.TheVariants.{BadStep, WriteFault, OutOfMemory}
use Rattle.sc_weave.specs.declared.progress.Progress.{Progress}
use Rattle.sc_weave.specs.Weaving.{Weaves, AreWoven, IsFirstBad, WritesFront, told}

-- ---- bytes

abbrev pub HasNoFeed : List ℕ → Type 0
HasNoFeed bytes = AllByRecursion (λ byte. (byte == 10) ≡ false) bytes

-- the place is behind the last line feed, or at the start where there is none
pub record IsBehindFeeds (bytes : List ℕ) (at : ℕ) : Type 0 where
  pub within : at ≤ length bytes
  pub behind : HasNoFeed (drop at bytes)
  pub feed : (at ≡ 0) ⊎ ((front : List ℕ) × (take at bytes ≡ front ++ 10 ∷ []))

-- the bytes are these whole lines, whatever comes behind them
pub record AreWhole (bytes : List ℕ) (lines : List (List ℕ)) : Type 0 where
  pub split : (all : Bool) (rest : List ℕ) → lines_to_read all (bytes ++ rest) ≡ lines ++ lines_to_read all rest
  pub joined : concat lines ≡ bytes

-- ---- lines that were woven

-- these lines were woven, which are so many and have so many bytes
pub record HasWoven (count read : ℕ) (state : State) (lines : List (List ℕ)) (outcomes : List Outcome) : Type 0 where
  pub weaves : Weaves nothing lines outcomes state
  pub count_is : length lines ≡ count
  pub read_is : length (concat lines) ≡ read
  pub few : count ≤ 1_000_000
  pub short : read ≤ 2 ^ 28

-- what was written since a start, and then what waits, tells the outcomes
pub record Tells (start now : Option (List ℕ)) (waiting : List ℕ) (outcomes : List Outcome) : Type 0 where
  pub written : List ℕ
  pub appended : Appends start now written
  pub all : told outcomes ≡ written ++ waiting

pub record HasTold (start now : Option (List ℕ)) (progress : Progress) (lines : List (List ℕ)) : Type 0 where
  pub outcomes : List Outcome
  pub woven : HasWoven progress.count progress.read progress.machine lines outcomes
  pub tells : Tells start now (string_bytes progress.out) outcomes

-- and nothing waits
pub record HasWritten (start now : Option (List ℕ)) (progress : Progress) (lines : List (List ℕ)) : Type 0 where
  pub told : HasTold start now progress lines
  pub none : string_bytes progress.out ≡ []

-- these bytes were taken: whole lines, which were woven, and a front of the next, which is pending
pub record HasTaken (start now : Option (List ℕ)) (progress : Progress) (pending taken : List ℕ) : Type 0 where
  pub done : List ℕ
  pub lines : List (List ℕ)
  pub whole : AreWhole done lines
  pub parts : taken ≡ done ++ pending
  pub behind : HasNoFeed pending
  pub written : HasWritten start now progress lines

-- the line behind these is no step, or is past a limit
abbrev pub CantFollow : List (List ℕ) → List ℕ → Type 0
CantFollow lines line = (more : List Outcome) → AreWoven (lines ++ line ∷ []) more → ⊥

-- how weaving stops at one of the lines
abbrev pub Stops : WeaveEnd → List (List ℕ) → Option (List ℕ) → Option (List ℕ) → Type 0
Stops (BadStep n) lines start now = (outcomes : List Outcome) × IsFirstBad lines n outcomes × Appends start now (told outcomes)
Stops WriteFault lines start now = WritesFront lines start now
Stops OutOfMemory lines start now = WritesFront lines start now
Stops other lines start now = ⊥
