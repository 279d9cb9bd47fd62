-- What a worker does that tightens the bounds of parts, turn by turn, and what it counts.
use Rattle.std.specs.Prelude.{◌≡◌, ℕ, ◌+◌, ◌<◌, ◌⊎◌, List, [], ◌∷◌, length, Some, None}
use Rattle.std.specs.declared.option.Option.{Option}
use Rattle.sc_cut.specs.declared.name.PartName.{PartName}
use Rattle.sc_part.specs.Version.{Version}
use Rattle.sc_history.specs.declared.installed.Installed.{Installed}
use Rattle.sc_history.specs.declared.installed.Installed.TheVariants as installed
use Rattle.sc_shelf.specs.Ticket.{hull_at}
use Rattle.sc_catalog.specs.declared.entry.Entry.{Entry}
use Rattle.sc_catalog.specs.Entries.{by, IsInstallOf, IsLookOf}
use Rattle.sc_visit.specs.Visits.{Visitor, TakesTurn}
use Rattle.sc_notice.specs.declared.notice.Notice.TheVariants.{Part, Stop}
use Rattle.sc_notice.specs.declared.notice.Call.TheVariants.{Heard, HeardNone}
use Rattle.sc_notice.specs.Callers.{Caller, Calls}
use Rattle.sc_tighten.specs.declared.outcome.Outcome.{Outcome}
use Rattle.sc_tighten.specs.declared.outcome.Outcome.TheVariants.{Idle, Told, NoMemory}
use Rattle.sc_tighten.specs.declared.count.WorkCount.{WorkCount}
use Rattle.sc_tighten.specs.declared.count.WorkDone.{WorkDone}
use Rattle.sc_tighten.specs.declared.count.WorkDone.TheVariants.{Done, Stopped}

-- what is seen of a worker: its pass at the desk, and its pass of the notices
pub record Tightener : Type 0 where
  pub desk : Visitor Entry
  pub notices : Caller

abbrev pub tightener : Visitor Entry → Caller → Tightener
tightener desk notices = record { desk = desk; notices = notices }

-- ---- one turn

-- one turn at the desk that adds no entry, and what a look at the part found in it
abbrev pub Looks : PartName → Option Version → Visitor Entry → Visitor Entry → Type 0
Looks name found old new = TakesTurn by [] old new × IsLookOf new.seen name found

-- one turn at the desk that adds no entry, and what an install of the ticket's hull answered in it
abbrev pub Installs : Version → Installed → Visitor Entry → Visitor Entry → Type 0
Installs ticket told old new = TakesTurn by [] old new × IsInstallOf new.seen (hull_at ticket) told

-- what became of a part that was heard of: it was looked at and the hull of what was there installed, or it wasn't there at the look, which counts as gone;
-- where there was no memory, it was so at the look, or at the install
abbrev pub TightensPart : PartName → Outcome → Visitor Entry → Visitor Entry → Type 0
TightensPart name Idle old new = ⊥
TightensPart name (Told told) old new =
    ((told ≡ installed.Gone) × Looks name None old new) ⊎ ((mid : Visitor Entry) × (ticket : Version) × Looks name (Some ticket) old mid × Installs ticket told mid new)
TightensPart name NoMemory old new =
    TakesTurn by [] old new ⊎ ((mid : Visitor Entry) × (ticket : Version) × Looks name (Some ticket) old mid × TakesTurn by [] mid new)

-- a turn that heard no `Stop`: where no notice was heard, it takes no turn at the desk
abbrev pub WorkTurn : Outcome → Tightener → Tightener → Type 0
WorkTurn Idle old new = (new.desk ≡ old.desk) × Calls HeardNone old.notices new.notices
WorkTurn (Told told) old new = (name : PartName) × Calls (Heard (Part name)) old.notices new.notices × TightensPart name (Told told) old.desk new.desk
WorkTurn NoMemory old new = (name : PartName) × Calls (Heard (Part name)) old.notices new.notices × TightensPart name NoMemory old.desk new.desk

-- the turn that heard `Stop`
abbrev pub HearsStop : Tightener → Tightener → Type 0
HearsStop old new = (new.desk ≡ old.desk) × Calls (Heard Stop) old.notices new.notices

-- ---- all turns

-- one turn after the other
abbrev pub WorkTurns : List Outcome → Tightener → Tightener → Type 0
WorkTurns [] old new = new ≡ old
WorkTurns (outcome ∷ more) old new = (mid : Tightener) × WorkTurn outcome old mid × WorkTurns more mid new

-- the count of no turn
abbrev pub no_turn : WorkCount
no_turn = record { empty = 0; exact = 0; joined = 0; too_old = 0; gone = 0; no_memory = 0 }

-- a turn more raises the one count that is its own
abbrev pub plus : Outcome → WorkCount → WorkCount
plus Idle c = record { empty = c.empty + 1; exact = c.exact; joined = c.joined; too_old = c.too_old; gone = c.gone; no_memory = c.no_memory }
plus (Told installed.Exact) c = record { empty = c.empty; exact = c.exact + 1; joined = c.joined; too_old = c.too_old; gone = c.gone; no_memory = c.no_memory }
plus (Told installed.Joined) c = record { empty = c.empty; exact = c.exact; joined = c.joined + 1; too_old = c.too_old; gone = c.gone; no_memory = c.no_memory }
plus (Told (installed.TooOld kept_from)) c = record { empty = c.empty; exact = c.exact; joined = c.joined; too_old = c.too_old + 1; gone = c.gone; no_memory = c.no_memory }
plus (Told installed.Gone) c = record { empty = c.empty; exact = c.exact; joined = c.joined; too_old = c.too_old; gone = c.gone + 1; no_memory = c.no_memory }
plus NoMemory c = record { empty = c.empty; exact = c.exact; joined = c.joined; too_old = c.too_old; gone = c.gone; no_memory = c.no_memory + 1 }

-- the count after these turns, by that before them
abbrev pub counted : List Outcome → WorkCount → WorkCount
counted [] c = c
counted (outcome ∷ more) c = counted more (plus outcome c)

-- all counts together
abbrev pub total : WorkCount → ℕ
total c = c.empty + c.exact + c.joined + c.too_old + c.gone + c.no_memory

-- the work was done after so many turns none of which heard `Stop`; or one of these turns heard it, and none followed
abbrev pub Works : ℕ → WorkDone → Tightener → Tightener → Type 0
Works turns (Done count) old new = (outcomes : List Outcome) × (length outcomes ≡ turns) × WorkTurns outcomes old new × (count ≡ counted outcomes no_turn)
Works turns (Stopped count) old new =
    (outcomes : List Outcome) × (mid : Tightener) × (length outcomes < turns) × WorkTurns outcomes old mid × HearsStop mid new × (count ≡ counted outcomes no_turn)
