-- What the calls of a pass at a kept catalogue do, and the service that is done by them.
use Rattle.std.specs.Prelude.{◌≡◌, ◌<◌, ℕ, List, [], length, Result, Ok, Err}
use Rattle.sc_load.specs.declared.load.Load.{Load}
use Rattle.sc_load.specs.declared.fault.LoadFault.{LoadFault}
use Rattle.sc_history.specs.Taken as history
use Rattle.sc_catalog.specs.declared.entry.Entry.{Entry}
use Rattle.sc_catalog.specs.declared.entry.Published.{Published}
use Rattle.sc_catalog.specs.Entries.{IsTaken, by, loads_of}
use Rattle.sc_kept.specs.Keeping.{IsSure}
use Rattle.sc_kept.specs.declared.fault.KeptFault.{KeptFault}
use Rattle.sc_kept.specs.declared.fault.KeptFault.TheVariants.{Refused, NotStored}
use Rattle.sc_visit.specs.Visits.{Visitor, TakesTurn}
use Rattle.sc_desk.specs.Turns.{Publishes}
use Rattle.sc_session.specs.Service.{Service}
use Rattle.sc_route.specs.declared.job.Job.{Job}
use Rattle.sc_refusal.specs.declared.fault.RouteFault.{RouteFault}
use Rattle.sc_serve.specs.Service.{api_of}
use Rattle.sc_keep.specs.declared.calls.KeptRefused.{KeptRefused}

-- storing may fail, since the disk isn't of a type that never fails
abbrev pub MayFail : {D : Type 0} → (D → ℕ) → Type 0
MayFail faults = IsSure faults → ⊥

-- one turn, which adds the load; this is told of it
pub record Adds (load : Load) (published : Published) (old new : Visitor Entry) : Type 0 where
  pub turn : Publishes load old new
  pub taken : IsTaken old.number load new.seen published

-- one turn, which adds nothing, since the history that it found refuses the load
pub record Refuses (load : Load) (fault : LoadFault) (old new : Visitor Entry) : Type 0 where
  pub turn : TakesTurn by [] old new
  pub is : history.Refuses (loads_of new.seen) load fault

-- one turn, which adds the load, but doesn't store it; so many loads are stored, which are fewer than the history has
pub record LeavesUnstored (may_fail : Type 0) (load : Load) (published : Published) (stored : ℕ) (old new : Visitor Entry) : Type 0 where
  pub may : may_fail
  pub adds : Adds load published old new
  pub fewer : stored < length new.seen

-- by why the load isn't stored
abbrev pub IsNotStored : Type 0 → Load → KeptFault → Visitor Entry → Visitor Entry → Type 0
IsNotStored may_fail load (Refused fault) old new = Refuses load fault old new
IsNotStored may_fail load (NotStored published stored) old new = LeavesUnstored may_fail load published stored old new

-- one turn, which adds the load and stores it, or not
abbrev pub TriesToStore : Type 0 → Load → Result Published KeptRefused → Visitor Entry → Visitor Entry → Type 0
TriesToStore may_fail load (Ok published) old new = Adds load published old new
TriesToStore may_fail load (Err refused) old new = IsNotStored may_fail load refused.fault old new × (refused.revision ≡ length new.seen)

-- the STAC API at this address of a kept catalogue whose disk counts its faults so: a load may be left unstored, but over a disk of a type that never fails none is
abbrev pub kept_api : {D : Type 0} → (D → ℕ) → List ℕ → Service Entry Load (Result Job RouteFault)
kept_api faults base = api_of (MayFail faults) base
