-- What a step of a script makes of a machine, and what it gives.
use Rattle.std.specs.Prelude.{◌≡◌, ℕ}
use Rattle.sc_script.specs.declared.step.Step.{Step}
use Rattle.sc_script.specs.declared.step.Step.TheVariants as step
use Rattle.sc_outcome.specs.declared.outcome.Outcome.{Outcome}
use Rattle.sc_machine.specs.State.{State, named}
use Rattle.sc_machine.specs.Loads.{Publishes}
use Rattle.sc_machine.specs.Looks.{TakesSnapshot, TakesLook, TakesInstall}
use Rattle.sc_machine.specs.Searches.{TakesSearch, CountsSearch}

abbrev pub Takes : Step → State → State → Outcome → Type 0
Takes (step.Publish by load) old new outcome = Publishes by load old new outcome
Takes (step.Snapshot name) old new outcome = TakesSnapshot name (named name old.snapshots) old new outcome
Takes (step.Look name collection key) old new outcome = TakesLook name (named name old.tickets) collection key old new outcome
Takes (step.Install ticket) old new outcome = TakesInstall ticket (named ticket old.tickets) old new outcome
Takes (step.Search on query) old new outcome = TakesSearch on (named on old.snapshots) query old new outcome

-- how far a step counts the steps of searches
abbrev pub Counts : Step → State → ℕ → ℕ → Type 0
Counts (step.Search on query) state before after = CountsSearch (named on state.snapshots) query state.entries before after
Counts other state before after = after ≡ before
