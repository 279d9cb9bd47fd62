-- Why a load is refused: the first fault that holds, in the order of their enum. Want of memory is none of them.
use Rattle.std.specs.Prelude.{◌≡◌, ◌≢◌, ℕ, ◌+◌, ◌-◌, ◌^◌, ◌≤◌, ◌<◌, ◌⊎◌, min, Bool, true, false, List, [], ◌∷◌, Option, Some, None, length, map, find, if◌then◌else◌}
use Rattle.std.specs.Option.{option_map}
use Rattle.std.specs.List.{sum_by}
use Rattle.std.specs.Arc.{arc_value}
use Rattle.sc_json.specs.declared.tree.Json.{Json}
use Rattle.sc_item.specs.declared.fault.ItemFault.{ItemFault}
use Rattle.sc_item.specs.Feature.{Feature}
use Rattle.sc_cut.specs.declared.name.PartName.{PartName}
use Rattle.sc_load.specs.declared.load.Load.{Load}
use Rattle.sc_load.specs.declared.load.Load.TheVariants.{AddCollection, DropCollection, Insert, Upsert, Replace, Patch, Delete}
use Rattle.sc_load.specs.declared.fault.LoadFault.{LoadFault}
use Rattle.sc_load.specs.declared.fault.LoadFault.TheVariants.{NoCollection, CollectionExists, ItemExists, NoItem, DuplicateInLoad, BadPatch, HistoryFull, PartitionsFull, CollectionsFull, OutOfMemory}
use Rattle.sc_load.specs.Load.{size_of, IsWellFormed}
use Rattle.sc_load.specs.Patches.{IsBadPatch}
use Rattle.sc_history.specs.Content.{Content, is_made, has_item, item_in}
use Rattle.sc_history.specs.Changes.{Change, ids_of, is_among, Puts, apply}
use Rattle.sc_history.specs.Names.{ArePartsOf}
use Rattle.sc_history.specs.History.{replay}

-- ---- by what is there, and by what stands in the load

-- the first fault that there is
abbrev pub or_else : Option LoadFault → Option LoadFault → Option LoadFault
or_else (Some fault) other = Some fault
or_else None other = other

abbrev pub unless : Bool → LoadFault → Option LoadFault
unless test fault = if test then None else Some fault

-- the first item of a load that is there
abbrev pub first_there : List Feature → List ℕ → List Feature → Option Feature
first_there items collection new = find (λ item. has_item items collection item.id) new

-- the first id that stands a second time, where some stand before them
unfoldable pub first_twice : List (List ℕ) → List (List ℕ) → Option (List ℕ)
first_twice before [] = None
first_twice before (id ∷ ids) = if is_among before id then Some id else first_twice (id ∷ before) ids

abbrev pub an_item_exists : List Feature → List ℕ → List Feature → Option LoadFault
an_item_exists items collection new = option_map (λ item. ItemExists item.id) (first_there items collection new)

abbrev pub an_id_is_twice : List Feature → Option LoadFault
an_id_is_twice new = option_map DuplicateInLoad (first_twice [] (ids_of new))

abbrev pub no_such_item : Content → List ℕ → List ℕ → Option LoadFault
no_such_item content collection id = or_else (unless (is_made content.collections collection) NoCollection) (unless (has_item content.items collection id) (NoItem id))

-- the first of the faults up to DuplicateInLoad, which need no patched item
abbrev pub plain_fault : Content → Load → Option LoadFault
plain_fault content (AddCollection id cut tree) = if is_made content.collections id then Some CollectionExists else None
plain_fault content (DropCollection id) = unless (is_made content.collections id) NoCollection
plain_fault content (Insert collection items) =
    or_else (unless (is_made content.collections collection) NoCollection)
    (or_else (an_item_exists content.items collection (map arc_value items)) (an_id_is_twice (map arc_value items)))
plain_fault content (Upsert collection items) = or_else (unless (is_made content.collections collection) NoCollection) (an_id_is_twice (map arc_value items))
plain_fault content (Replace collection item) = no_such_item content collection (arc_value item).id
plain_fault content (Patch collection id patch) = no_such_item content collection id
plain_fault content (Delete collection id) = no_such_item content collection id

-- ---- by a patched item

-- the collection's item with the id can't be patched so
pub record FailsToPatch (items : List Feature) (collection id : List ℕ) (patch : Json) (fault : ItemFault) : Type 0 where
  pub old : Feature
  pub there : item_in items collection id ≡ Some old
  pub bad : IsBadPatch old patch fault

abbrev pub HasBadPatch : List Feature → Load → ItemFault → Type 0
HasBadPatch items (Patch collection id patch) fault = FailsToPatch items collection id patch fault
HasBadPatch items load fault = ⊥

abbrev pub is_patch : Load → Bool
is_patch (Patch collection id patch) = true
is_patch load = false

-- ---- by the limits

-- the load is well-formed, no fault up to BadPatch holds of it, and these are the items that it puts
pub record IsAllowed (content : Content) (change : Change) : Type 0 where
  pub formed : IsWellFormed change.load
  pub no_fault : plain_fault content change.load ≡ None
  pub puts : Puts content.items change.load change.come

-- the entries and the bytes of a history with one more load
abbrev pub entries_with : List Change → Load → ℕ
entries_with past load = length past + 1

abbrev pub bytes_with : List Change → Load → ℕ
bytes_with past load = sum_by (λ change. size_of change.load) past + size_of load

-- a history has at most 1,000,000 entries and 2^29 bytes
pub record HasRoom (past : List Change) (load : Load) : Type 0 where
  pub entries : entries_with past load ≤ 1_000_000
  pub bytes : bytes_with past load ≤ 2 ^ 29

-- a content has at most 65,536 parts
pub record HasFewParts (content : Content) : Type 0 where
  pub names : List PartName
  pub are_parts : ArePartsOf content names
  pub few : length names ≤ 65_536

-- and at most 1,024 collections
abbrev pub HasFewCollections : Content → Type 0
HasFewCollections content = length content.collections ≤ 1_024

-- a number as it is told, in 64 bits
abbrev pub told : ℕ → ℕ
told count = min count (2 ^ 64 - 1)

-- with the load the history would have too many entries or bytes
pub record OverfillsHistory (past : List Change) (load : Load) (entries bytes : ℕ) : Type 0 where
  pub come : List Feature
  pub allowed : IsAllowed (replay past) (record { load = load; come = come })
  pub full : (1_000_000 < entries_with past load) ⊎ (2 ^ 29 < bytes_with past load)
  pub entries_are : entries ≡ told (entries_with past load)
  pub bytes_are : bytes ≡ told (bytes_with past load)

-- there would be too many parts
pub record MakesTooManyParts (past : List Change) (load : Load) (count : ℕ) : Type 0 where
  pub come : List Feature
  pub allowed : IsAllowed (replay past) (record { load = load; come = come })
  pub room : HasRoom past load
  pub names : List PartName
  pub are_parts : ArePartsOf (apply (replay past) (record { load = load; come = come })) names
  pub full : 65_536 < length names
  pub count_is : count ≡ length names

-- there would be too many collections
pub record MakesTooManyCollections (past : List Change) (load : Load) (count : ℕ) : Type 0 where
  pub come : List Feature
  pub allowed : IsAllowed (replay past) (record { load = load; come = come })
  pub room : HasRoom past load
  pub parts : HasFewParts (apply (replay past) (record { load = load; come = come }))
  pub full : 1_024 < count
  pub count_is : count ≡ length (apply (replay past) (record { load = load; come = come })).collections

-- ---- the first fault

-- this is the first fault that holds; want of memory says nothing
abbrev pub IsRefused : List Change → Load → LoadFault → Type 0
IsRefused past load NoCollection = plain_fault (replay past) load ≡ Some NoCollection
IsRefused past load CollectionExists = plain_fault (replay past) load ≡ Some CollectionExists
IsRefused past load (ItemExists id) = plain_fault (replay past) load ≡ Some (ItemExists id)
IsRefused past load (NoItem id) = plain_fault (replay past) load ≡ Some (NoItem id)
IsRefused past load (DuplicateInLoad id) = plain_fault (replay past) load ≡ Some (DuplicateInLoad id)
IsRefused past load (BadPatch fault) = (plain_fault (replay past) load ≡ None) × HasBadPatch (replay past).items load fault
IsRefused past load (HistoryFull entries bytes) = OverfillsHistory past load entries bytes
IsRefused past load (PartitionsFull count) = MakesTooManyParts past load count
IsRefused past load (CollectionsFull count) = MakesTooManyCollections past load count
IsRefused past load OutOfMemory = Unit {0}

-- there is one, and it isn't want of memory
pub record HasFault (past : List Change) (load : Load) : Type 0 where
  pub fault : LoadFault
  pub refused : IsRefused past load fault
  pub not_memory : fault ≢ OutOfMemory

-- no fault holds
pub record IsAccepted (past : List Change) (change : Change) : Type 0 where
  pub allowed : IsAllowed (replay past) change
  pub room : HasRoom past change.load
  pub parts : HasFewParts (apply (replay past) change)
  pub collections : HasFewCollections (apply (replay past) change)
