-- What the steps of a script do that take a snapshot, look at a part, and install the hull of a ticket.
use Rattle.std.specs.Prelude.{◌≡◌, ℕ, ℤ, List, length, find, Option, Some, None, if◌then◌else◌}
use Rattle.std.specs.Option.{option_map, option_and_then}
use Rattle.sc_bounds.specs.Extent.{Extent}
use Rattle.sc_cut.specs.declared.name.PartName.{PartName}
use Rattle.sc_history.specs.declared.installed.Installed.{Installed}
use Rattle.sc_history.specs.declared.installed.Installed.TheVariants as installed
use Rattle.sc_history.specs.Content.{Content, is_called}
use Rattle.sc_history.specs.Changes.{Change}
use Rattle.sc_history.specs.Names.{hull_of, is_empty, is_name, part_of, scan_of}
use Rattle.sc_history.specs.History.{back, replay, stamp}
use Rattle.sc_history.specs.Installs.{answer_in, bounds_in}
use Rattle.sc_catalog.specs.Entries.{TellsOf}
use Rattle.sc_outcome.specs.declared.outcome.Outcome.{Outcome}
use Rattle.sc_outcome.specs.declared.outcome.Outcome.TheVariants as gives
use Rattle.sc_outcome.specs.Refused.{name_taken, no_such_name}
use Rattle.sc_machine.specs.State.{State, Taken, Looked, AreBoundsBy, bounds_at, IsNamed}

-- nothing changes, and this is told
abbrev pub OnlyTells : Outcome → State → State → Outcome → Type 0
OnlyTells told old new outcome = (new ≡ old) × (outcome ≡ told)

-- ---- snapshots

-- the snapshot of a machine: the length of its history, and its bounds
abbrev pub taken_of : State → Taken
taken_of state = record { revision = length state.entries; bounds = state.bounds }

-- the snapshot gets the name
pub record IsTaken (name : List ℕ) (old new : State) (outcome : Outcome) : Type 0 where
  pub entries_are : new.entries ≡ old.entries
  pub bounds_are : new.bounds ≡ old.bounds
  pub names : IsNamed name (taken_of old) old.snapshots new.snapshots
  pub tickets_are : new.tickets ≡ old.tickets
  pub told : outcome ≡ gives.Revision (length old.entries)

-- unless another snapshot has the name
abbrev pub TakesSnapshot : List ℕ → Option Taken → State → State → Outcome → Type 0
TakesSnapshot name (Some other) old new outcome = OnlyTells (name_taken name) old new outcome
TakesSnapshot name None old new outcome = IsTaken name old new outcome

-- ---- looks

-- the name of a collection's part with the key: the cut is the collection's; none where the collection isn't there
abbrev pub part_at : Content → List ℕ → ℤ → Option PartName
part_at content collection key = option_map (λ c. record { collection = collection; cut = c.cut; key = key }) (find (is_called collection) content.collections)

-- the part, where it has items
abbrev pub if_some : Content → PartName → Option PartName
if_some content part = if is_empty (part_of content part) then None else Some part

-- the ticket of a part gets the name; it tells the last revision that changed the part
pub record IsLooked (past : List Change) (name : List ℕ) (part : PartName) (old new : State) (outcome : Outcome) : Type 0 where
  pub entries_are : new.entries ≡ old.entries
  pub bounds_are : new.bounds ≡ old.bounds
  pub snapshots_are : new.snapshots ≡ old.snapshots
  pub names : IsNamed name (record { part = part; stamp = stamp past part }) old.tickets new.tickets
  pub told : outcome ≡ gives.Stamp (stamp past part)

-- where there is no such part, no name is given
abbrev pub Finds : List Change → List ℕ → Option PartName → State → State → Outcome → Type 0
Finds past name None old new outcome = OnlyTells gives.Gone old new outcome
Finds past name (Some part) old new outcome = IsLooked past name part old new outcome

-- by the history
pub record LooksAt (name collection : List ℕ) (key : ℤ) (old new : State) (outcome : Outcome) : Type 0 where
  pub past : List Change
  pub told : TellsOf old.entries past
  pub finds : Finds past name (option_and_then (if_some (replay past)) (part_at (replay past) collection key)) old new outcome

-- unless another ticket has the name
abbrev pub TakesLook : List ℕ → Option Looked → List ℕ → ℤ → State → State → Outcome → Type 0
TakesLook name (Some other) collection key old new outcome = OnlyTells (name_taken name) old new outcome
TakesLook name None collection key old new outcome = LooksAt name collection key old new outcome

-- ---- installs

-- the hull of the items that the part of a ticket had at its stamp
abbrev pub hull_then : List Change → Looked → Extent
hull_then past ticket = hull_of (scan_of (part_of (replay (back ticket.stamp past)) ticket.part))

-- the bounds of a name after it: the part of the ticket has what the install leaves of its bounds, and every other part its own
abbrev pub bounds_left : List Change → Looked → State → PartName → Option Extent
bounds_left past ticket old name =
    if is_name ticket.part name then option_map (bounds_in past ticket.part ticket.stamp (hull_then past ticket)) (bounds_at ticket.part old.bounds)
    else bounds_at name old.bounds

-- what an install tells, with the bounds that the part has after it
abbrev pub told_of : Installed → Option Extent → Option Outcome
told_of installed.Exact bounds = option_map gives.Exact bounds
told_of installed.Joined bounds = option_map gives.Joined bounds
told_of (installed.TooOld kept_from) bounds = Some (gives.TooOld kept_from)
told_of installed.Gone bounds = Some gives.NotThere

-- by the history
pub record IsInstalled (ticket : Looked) (old new : State) (outcome : Outcome) : Type 0 where
  pub past : List Change
  pub told : TellsOf old.entries past
  pub entries_are : new.entries ≡ old.entries
  pub bounds_are : AreBoundsBy (bounds_left past ticket old) new.bounds
  pub snapshots_are : new.snapshots ≡ old.snapshots
  pub tickets_are : new.tickets ≡ old.tickets
  pub outcome_is : told_of (answer_in past ticket.part ticket.stamp) (bounds_at ticket.part new.bounds) ≡ Some outcome

-- the ticket has to be there
abbrev pub TakesInstall : List ℕ → Option Looked → State → State → Outcome → Type 0
TakesInstall name None old new outcome = OnlyTells (no_such_name name) old new outcome
TakesInstall name (Some ticket) old new outcome = IsInstalled ticket old new outcome
