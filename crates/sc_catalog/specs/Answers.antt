-- What the steps of a publish answer. No public clause cites it.
use Rattle.std.specs.Prelude.{◌≡◌, ◌≤◌, ◌<◌, ◌^◌, ◌⊎◌, ℕ, Bool, true, false, List, [], ◌∷◌, map, Option, Some, None, Result, Ok, Err}
use Rattle.std.specs.Arc.{arc_value}
use Rattle.std.specs.declared.alloc.Global.{Global}
use Rattle.std.specs.declared.sync.Arc.{Arc}
use Rattle.std.specs.declared.vec.Vec.{Vec}
use Rattle.sc_item.specs.Feature.{Feature}
use Rattle.sc_load.specs.declared.load.Load.{Load}
use Rattle.sc_load.specs.declared.load.Load.TheVariants.{AddCollection}
use Rattle.sc_load.specs.declared.fault.LoadFault.{LoadFault}
use Rattle.sc_load.specs.declared.fault.LoadFault.TheVariants.{BadPatch, HistoryFull, PartitionsFull, CollectionsFull, OutOfMemory}
use Rattle.sc_json.specs.declared.tree.Json.{Json}
use Rattle.sc_item.specs.declared.fault.ItemFault.{ItemFault}
use Rattle.sc_item.specs.declared.fault.ItemFault.TheVariants as items
use Rattle.sc_load.specs.Patches.{IsBadPatch, IsPatched}
use Rattle.sc_history.specs.Changes.{Puts}
use Rattle.sc_history.specs.Refusals.{HasBadPatch}

-- the fault is this one; want of memory says nothing
abbrev pub IsTold : Option LoadFault → LoadFault → Type 0
IsTold found OutOfMemory = Unit {0}
IsTold found fault = found ≡ Some fault

-- there is no fault, or it is answered
abbrev pub AnswersFault : Option LoadFault → Result Unit LoadFault → Type 0
AnswersFault found (Ok _) = found ≡ None
AnswersFault found (Err fault) = IsTold found fault

-- whether a load adds a collection
abbrev pub adds : Load → Bool
adds (AddCollection id cut tree) = true
adds load = false

-- ---- what a load puts

abbrev pub patch_fault : ItemFault → LoadFault
patch_fault items.OutOfMemory = OutOfMemory
patch_fault fault = BadPatch fault

-- the one item that a patch makes
pub record IsPatchedAlone (old : Feature) (patch : Json) (come : List Feature) : Type 0 where
  pub new : Feature
  pub patched : IsPatched old patch new
  pub come_is : come ≡ new ∷ []

-- what patching an item answers; want of memory says nothing
abbrev pub AnswersPatch : Feature → Json → Result (Vec (Arc Feature Global) Global) LoadFault → Type 0
AnswersPatch old patch (Ok come) = IsPatchedAlone old patch (map arc_value come.items)
AnswersPatch old patch (Err (BadPatch fault)) = IsBadPatch old patch fault
AnswersPatch old patch (Err OutOfMemory) = Unit {0}
AnswersPatch old patch (Err fault) = ⊥

-- the items that a load puts, or the fault of its patch; want of memory says nothing
abbrev pub AnswersCome : List Feature → Load → Result (Vec (Arc Feature Global) Global) LoadFault → Type 0
AnswersCome items load (Ok come) = Puts items load (map arc_value come.items)
AnswersCome items load (Err (BadPatch fault)) = HasBadPatch items load fault
AnswersCome items load (Err OutOfMemory) = Unit {0}
AnswersCome items load (Err fault) = ⊥

-- ---- by the limits, with the numbers that there would be

pub record IsOverfull (entries bytes told_entries told_bytes : ℕ) : Type 0 where
  pub full : (1_000_000 < entries) ⊎ (2 ^ 29 < bytes)
  pub entries_are : told_entries ≡ entries
  pub bytes_are : told_bytes ≡ bytes

pub record IsOver (most count told_count : ℕ) : Type 0 where
  pub over : most < count
  pub count_is : told_count ≡ count

abbrev pub AnswersFull : ℕ → ℕ → Result Unit LoadFault → Type 0
AnswersFull entries bytes (Ok _) = (entries ≤ 1_000_000) × (bytes ≤ 2 ^ 29)
AnswersFull entries bytes (Err (HistoryFull told_entries told_bytes)) = IsOverfull entries bytes told_entries told_bytes
AnswersFull entries bytes (Err fault) = ⊥

abbrev pub AnswersParts : ℕ → Result Unit LoadFault → Type 0
AnswersParts count (Ok _) = count ≤ 65_536
AnswersParts count (Err (PartitionsFull told_count)) = IsOver 65_536 count told_count
AnswersParts count (Err fault) = ⊥

abbrev pub AnswersCollections : ℕ → Result Unit LoadFault → Type 0
AnswersCollections count (Ok _) = count ≤ 1_024
AnswersCollections count (Err (CollectionsFull told_count)) = IsOver 1_024 count told_count
AnswersCollections count (Err fault) = ⊥
