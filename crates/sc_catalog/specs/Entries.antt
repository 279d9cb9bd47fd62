-- What is said of a catalogue's history, which is a list of entries with the oldest first: what is taken of it, and which loads it takes.
use Rattle.std.specs.Prelude.{◌≡◌, ℕ, List, [], ◌∷◌, ◌++◌, length, map, reverse, Option, Some, None}
use Rattle.sc_item.specs.Feature.{Feature}
use Rattle.sc_cut.specs.declared.name.PartName.{PartName}
use Rattle.sc_load.specs.declared.load.Load.{Load}
use Rattle.sc_part.specs.Version.{Version}
use Rattle.sc_history.specs.declared.installed.Installed.{Installed}
use Rattle.sc_history.specs.Changes.{Change}
use Rattle.sc_history.specs.Names.{part_of}
use Rattle.sc_history.specs.History.{replay, stamp}
use Rattle.sc_history.specs.Refusals.{IsAccepted}
use Rattle.sc_history.specs.Taken.{Tells}
use Rattle.sc_history.specs.Touch.{AreTouched}
use Rattle.sc_history.specs.Installs.{answer_in}
use Rattle.sc_history.specs.Views.{IsSnapshot, IsTicket, IsTight, Snap}
use Rattle.sc_shelf.specs.Ticket.{Hull}
use Rattle.sc_catalog.specs.declared.entry.Entry.{Entry}
use Rattle.sc_catalog.specs.declared.entry.Published.{Published}

-- the number of who published an entry
abbrev pub by : Entry → ℕ
by entry = entry.by

-- a load, by the number of who publishes it
abbrev pub entry_of : ℕ → Load → Entry
entry_of number load = record { by = number; load = load }

-- the loads of entries, the newest first, as histories are told
abbrev pub loads_of : List Entry → List Load
loads_of entries = reverse (map (λ entry. entry.load) entries)

-- the changes that the entries tell; they tell them in one way
abbrev pub TellsOf : List Entry → List Change → Type 0
TellsOf entries past = Tells (loads_of entries) past

-- a load that puts these items
abbrev pub change_of : Load → List Feature → Change
change_of load come = record { load = load; come = come }

-- ---- what is taken of a history

-- the snapshot is of the whole history
pub record IsSnapshotOf (entries : List Entry) (snap : Snap) : Type 0 where
  pub past : List Change
  pub told : TellsOf entries past
  pub is : IsSnapshot past snap
  pub revision_is : snap.revision ≡ length entries

-- the ticket has the name's items, at its stamp
pub record IsLookAt (past : List Change) (name : PartName) (ticket : Version) : Type 0 where
  pub name_is : ticket.name ≡ name
  pub stamp_is : ticket.stamp ≡ stamp past name
  pub is : IsTicket past name ticket.stamp ticket.items

-- there is a ticket exactly where the name has items
abbrev pub AnswersLook : List Change → PartName → Option Version → Type 0
AnswersLook past name None = part_of (replay past) name ≡ []
AnswersLook past name (Some ticket) = IsLookAt past name ticket

-- it is what a look at the name finds in the history
pub record IsLookOf (entries : List Entry) (name : PartName) (ticket : Option Version) : Type 0 where
  pub past : List Change
  pub told : TellsOf entries past
  pub answers : AnswersLook past name ticket

-- the hull is that of the items which its part had at its stamp in the history
unfoldable pub IsTightOf : List Entry → Hull → Type 0
IsTightOf entries hull = (past : List Change) → TellsOf entries past → IsTight past hull.name hull.stamp hull.bounds

-- it is what an install of the hull answers by the history
pub record IsInstallOf (entries : List Entry) (hull : Hull) (told : Installed) : Type 0 where
  pub past : List Change
  pub tells : TellsOf entries past
  pub is : told ≡ answer_in past hull.name hull.stamp

-- ---- loads

-- no fault refuses the load after the history; it puts these items
pub record Takes (entries : List Entry) (load : Load) : Type 0 where
  pub past : List Change
  pub told : TellsOf entries past
  pub come : List Feature
  pub accepted : IsAccepted past (change_of load come)

-- the history ends with the load by this number, and takes it there; what is told of it are the history's length and the names of the parts that the load
-- touches and that are there after it, in order
pub record IsTaken (number : ℕ) (load : Load) (entries : List Entry) (published : Published) : Type 0 where
  pub before : List Entry
  pub whole : entries ≡ before ++ entry_of number load ∷ []
  pub takes : Takes before load
  pub touched_are : AreTouched takes.past (change_of load takes.come) published.touched
  pub revision_is : published.revision ≡ length entries
