-- What a step of a script does that publishes a load: the load that is read of its trees, the first fault for which none is read or the history refuses it, and the
-- bounds after it.
use Rattle.std.specs.Prelude.{◌≡◌, ◌≢◌, ℕ, List, [], ◌∷◌, ◌++◌, length}
use Rattle.std.specs.Arc.{arc_value}
use Rattle.sc_json.specs.declared.tree.Json.{Json}
use Rattle.sc_item.specs.Reading.{IsItem}
use Rattle.sc_load.specs.declared.load.Load.{Load}
use Rattle.sc_load.specs.declared.load.Load.TheVariants as loads
use Rattle.sc_load.specs.declared.fault.LoadFault.{LoadFault}
use Rattle.sc_load.specs.declared.fault.LoadFault.TheVariants as loading
use Rattle.sc_load.specs.declared.fault.PrepareFault.{PrepareFault}
use Rattle.sc_load.specs.declared.fault.PrepareFault.TheVariants as prepare
use Rattle.sc_load.specs.Prepared.{Adds, IsCollectionFault, Puts, IsItemFault, IsItemsFault}
use Rattle.sc_history.specs.Taken.{Refuses}
use Rattle.sc_history.specs.Touch.{bounds_next}
use Rattle.sc_catalog.specs.Entries.{Takes, change_of, entry_of, loads_of}
use Rattle.sc_refusal.specs.Refusals.{load_refused, prepare_refused}
use Rattle.sc_script.specs.declared.step.Draft.{Draft}
use Rattle.sc_script.specs.declared.step.Draft.TheVariants as draft
use Rattle.sc_outcome.specs.declared.outcome.Outcome.{Outcome}
use Rattle.sc_outcome.specs.declared.outcome.Outcome.TheVariants.{Revision}
use Rattle.sc_outcome.specs.Refused.{refused_of}
use Rattle.sc_machine.specs.State.{State, AreBoundsBy, bounds_at}

-- ---- reading

-- the load puts the item that the tree is into the place of the one with its id
abbrev pub Replaces : List ℕ → Json → Load → Type 0
Replaces within tree (loads.Replace collection item) = (collection ≡ within) × IsItem within tree (arc_value item)
Replaces within tree load = ⊥

-- the load that a draft is
abbrev pub Reads : Draft → Load → Type 0
Reads (draft.Add tree) load = Adds tree load
Reads (draft.Drop collection) load = load ≡ loads.DropCollection collection
Reads (draft.Items collection upsert trees) load = Puts collection upsert trees load
Reads (draft.Replace collection tree) load = Replaces collection tree load
Reads (draft.Patch collection id patch) load = load ≡ loads.Patch collection id patch
Reads (draft.Delete collection id) load = load ≡ loads.Delete collection id

-- why a draft is no load; want of memory says nothing
abbrev pub IsNoLoad : Draft → PrepareFault → Type 0
IsNoLoad (draft.Add tree) fault = IsCollectionFault tree fault
IsNoLoad (draft.Items collection upsert trees) fault = IsItemsFault collection trees fault
IsNoLoad (draft.Replace collection tree) fault = IsItemFault collection tree 0 fault
IsNoLoad other fault = ⊥

-- ---- publishing

-- no fault refuses the load after the history, which has this one entry more. A part has the bounds that the load leaves it: the hull of what comes where the load
-- makes the part, their join with what comes where it was there, and none where it has no items any more.
pub record IsLoaded (by : ℕ) (load : Load) (old new : State) : Type 0 where
  pub takes : Takes old.entries load
  pub entries_are : new.entries ≡ old.entries ++ entry_of by load ∷ []
  pub bounds_are : AreBoundsBy (λ name. bounds_next takes.past (change_of load takes.come) name (bounds_at name old.bounds)) new.bounds
  pub snapshots_are : new.snapshots ≡ old.snapshots
  pub tickets_are : new.tickets ≡ old.tickets

-- publishing a load; a refusal changes nothing
pub data PublishesLoad (by : ℕ) (load : Load) (old new : State) (outcome : Outcome) : Type 0 where
  -- the history refuses it, with this first fault
  refused : (fault : LoadFault) → Refuses (loads_of old.entries) load fault → fault ≢ loading.OutOfMemory → new ≡ old → outcome ≡ refused_of (load_refused fault) → PublishesLoad by load old new outcome
  -- the history takes it
  taken : IsLoaded by load old new → outcome ≡ Revision (length new.entries) → PublishesLoad by load old new outcome

pub data Publishes (by : ℕ) (draft : Draft) (old new : State) (outcome : Outcome) : Type 0 where
  -- no load is read of it, with this first fault
  unread : (fault : PrepareFault) → IsNoLoad draft fault → fault ≢ prepare.OutOfMemory → new ≡ old → outcome ≡ refused_of (prepare_refused fault) → Publishes by draft old new outcome
  -- this load is read of it
  read : (load : Load) → Reads draft load → PublishesLoad by load old new outcome → Publishes by draft old new outcome
