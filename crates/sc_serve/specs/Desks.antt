-- What the calls of a desk do for the one pass that takes its turns there.
use Rattle.std.specs.Prelude.{◌≡◌, ℕ, ◌<◌, Bool, List, [], length, Result, Ok, Err, IfOk, All}
use Rattle.sc_load.specs.declared.load.Load.{Load}
use Rattle.sc_history.specs.Taken.{Refuses}
use Rattle.sc_history.specs.Views.{Snap}
use Rattle.sc_catalog.specs.declared.entry.Entry.{Entry}
use Rattle.sc_catalog.specs.Entries.{by, loads_of, IsSnapshotOf}
use Rattle.sc_visit.specs.Visits.{Visitor, TakesTurn}
use Rattle.sc_desk.specs.declared.calls.LoadRefused.{LoadRefused}
use Rattle.sc_desk.specs.Turns.{Publishes}
use Rattle.sc_said.specs.Said.{Saying, accepted_of, not_stored}
use Rattle.sc_serve.specs.declared.desk.Tried.{Tried}
use Rattle.sc_serve.specs.declared.desk.Tried.TheVariants.{Taken, NotStored}

-- one turn, which adds nothing; the snapshot is of the history that it found
pub record TakesSnapshot {F : Type 0} (result : Result Snap F) (old new : Visitor Entry) : Type 0 where
  pub turn : TakesTurn by [] old new
  pub is : IfOk result (λ snap. IsSnapshotOf new.seen snap)

-- one turn, which adds the load; this is the length of the history with it
pub record TakesLoad (load : Load) (revision : ℕ) (old new : Visitor Entry) : Type 0 where
  pub turn : Publishes load old new
  pub revision_is : revision ≡ length new.seen

-- one turn, which adds nothing, and why the history that it found refuses the load
pub record RefusesLoad (load : Load) (refused : LoadRefused) (old new : Visitor Entry) : Type 0 where
  pub turn : TakesTurn by [] old new
  pub is : Refuses (loads_of new.seen) load refused.fault
  pub revision_is : refused.revision ≡ length new.seen

-- The same, but the load isn't stored yet, which comes only where storing may fail. So many loads are, which are fewer than the history has.
pub record LeavesUnstored (may_fail : Type 0) (load : Load) (revision stored : ℕ) (old new : Visitor Entry) : Type 0 where
  pub may : may_fail
  pub takes : TakesLoad load revision old new
  pub fewer : stored < length new.seen

-- one turn, which takes the load or refuses it
abbrev pub TriesLoad : Type 0 → Load → Result Tried LoadRefused → Visitor Entry → Visitor Entry → Type 0
TriesLoad may_fail load (Ok (Taken revision)) old new = TakesLoad load revision old new
TriesLoad may_fail load (Ok (NotStored revision stored)) old new = LeavesUnstored may_fail load revision stored old new
TriesLoad may_fail load (Err refused) old new = RefusesLoad load refused old new

-- what is told of a load that the history takes
abbrev pub said_of_tried : Bool → ℕ → Tried → Saying
said_of_tried made items (Taken revision) = accepted_of made revision items
said_of_tried made items (NotStored revision stored) = not_stored stored

-- the length of the history with it
abbrev pub revision_of : Tried → ℕ
revision_of (Taken revision) = revision
revision_of (NotStored revision stored) = revision

-- what is seen of the one pass of a catalogue that nobody else has: all entries are its own
pub record IsAlone (entries : List Entry) (visitor : Visitor Entry) : Type 0 where
  pub number_is : visitor.number ≡ 1
  pub seen_is : visitor.seen ≡ entries
  pub own : All (λ entry. entry.by ≡ 1) visitor.seen
