-- What the fields of a catalogue are of its history, and what a load leaves of them. No public clause cites it.
use Rattle.std.specs.Prelude.{◌≡◌, ℕ, ◌+◌, true, List, Some, find, length, map, Result, Ok, Err}
use Rattle.std.specs.List.{sum_by}
use Rattle.std.specs.Arc.{arc_value}
use Rattle.sc_item.specs.Feature.{Feature}
use Rattle.sc_cut.specs.declared.cut.Cut.{Cut}
use Rattle.sc_load.specs.declared.load.Load.{Load}
use Rattle.sc_load.specs.declared.fault.LoadFault.{LoadFault}
use Rattle.sc_load.specs.Load.{collection_of, size_of}
use Rattle.sc_index.specs.declared.index.ItemIndex.{ItemIndex}
use Rattle.sc_index.specs.Found.{Indexes}
use Rattle.sc_history.specs.Content.{Collection, is_called}
use Rattle.sc_history.specs.Changes.{Change, collections_after}
use Rattle.sc_history.specs.History.{replay}
use Rattle.sc_history.specs.Refusals.{HasRoom, IsAccepted, IsAllowed, IsRefused, bytes_with}
use Rattle.sc_history.specs.Taken.{IsPast}
use Rattle.sc_history.specs.Part.{Part}
use Rattle.sc_history.specs.Touch.{ArePublished, touched_names}
use Rattle.sc_history.specs.Sound.{Stand}
use Rattle.sc_catalog.specs.declared.entry.Entry.{Entry}
use Rattle.sc_catalog.specs.declared.next.Admitted.{Admitted}
use Rattle.sc_catalog.specs.declared.next.Next.{Next}
use Rattle.sc_catalog.specs.declared.parts.PartsAfter.{PartsAfter}
use Rattle.sc_catalog.specs.Entries.{TellsOf}
pub use Rattle.sc_catalog.specs.Entries.{change_of}
use Rattle.sc_catalog.specs.Made.{is_of_items}

-- the revision of the next load, the bytes of the loads, its collections, its parts and its index are what the changes say
pub record Reflects (past : List Change) (revision bytes : ℕ) (collections : List Collection) (parts : List Part) (index : ItemIndex) : Type 0 where
  pub is : IsPast past
  pub revision_is : revision ≡ length past + 1
  pub bytes_are : bytes ≡ sum_by (λ change. size_of change.load) past
  pub collections_are : collections ≡ (replay past).collections
  pub stand : Stand past parts
  pub indexes : Indexes (replay past).items index

pub record HasPast (revision bytes : ℕ) (collections : List Collection) (parts : List Part) (index : ItemIndex) : Type 0 where
  pub past : List Change
  pub reflects : Reflects past revision bytes collections parts index

-- what every catalogue keeps
pub record IsKept (entries : List Entry) (bytes : ℕ) (collections : List Collection) (parts : List Part) (index : ItemIndex) : Type 0 where
  pub past : List Change
  pub told : TellsOf entries past
  pub reflects : Reflects past (length entries + 1) bytes collections parts index

-- ---- a load of items in a collection that is cut so

pub record IsCutAt (past : List Change) (revision : ℕ) (cut : Cut) (parts : List Part) (index : ItemIndex) (change : Change) : Type 0 where
  pub is : IsPast past
  pub allowed : IsAllowed (replay past) change
  pub items : is_of_items change.load ≡ true
  pub collection : Collection
  pub there : find (is_called (collection_of change.load)) (replay past).collections ≡ Some collection
  pub cut_is : collection.cut ≡ cut
  pub revision_is : revision ≡ length past + 1
  pub stand : Stand past parts
  pub indexes : Indexes (replay past).items index

pub record HasCut (revision : ℕ) (cut : Cut) (parts : List Part) (index : ItemIndex) (change : Change) : Type 0 where
  pub past : List Change
  pub at : IsCutAt past revision cut parts index change

-- ---- a load that no fault up to its patch refuses

pub record IsReadyAt (past : List Change) (revision : ℕ) (collections : List Collection) (parts : List Part) (index : ItemIndex) (change : Change) : Type 0 where
  pub is : IsPast past
  pub allowed : IsAllowed (replay past) change
  pub revision_is : revision ≡ length past + 1
  pub collections_are : collections ≡ (replay past).collections
  pub stand : Stand past parts
  pub indexes : Indexes (replay past).items index

pub record IsReady (revision : ℕ) (collections : List Collection) (parts : List Part) (index : ItemIndex) (change : Change) : Type 0 where
  pub past : List Change
  pub at : IsReadyAt past revision collections parts index change

-- the parts after it, and the names of those that it touched and that are there
pub record AreAfter (past : List Change) (change : Change) (old : List Part) (after : PartsAfter) : Type 0 where
  pub parts_are : ArePublished past change old after.parts
  pub touched_are : after.touched.items ≡ touched_names past change after.parts

-- ---- the items that it puts

pub record IsAdmitted (past : List Change) (load : Load) (admitted : Admitted) : Type 0 where
  pub allowed : IsAllowed (replay past) (change_of load (map arc_value admitted.come.items))
  pub room : HasRoom past load
  pub bytes_are : admitted.bytes ≡ bytes_with past load

abbrev pub AnswersAdmitted : List Change → Load → Result Admitted LoadFault → Type 0
AnswersAdmitted past load (Ok admitted) = IsAdmitted past load admitted
AnswersAdmitted past load (Err fault) = IsRefused past load fault

-- ---- what it leaves of a catalogue

pub record IsNext (past : List Change) (load : Load) (collections : List Collection) (parts : List Part) (next : Next) : Type 0 where
  pub accepted : IsAccepted past (change_of load (map arc_value next.come.items))
  pub bytes_are : next.bytes ≡ bytes_with past load
  pub collections_are : next.collections ≡ collections_after collections load
  pub parts_are : ArePublished past (change_of load (map arc_value next.come.items)) parts next.parts
  pub touched_are : next.touched.items ≡ touched_names past (change_of load (map arc_value next.come.items)) next.parts

abbrev pub AnswersNext : List Change → Load → List Collection → List Part → Result Next LoadFault → Type 0
AnswersNext past load collections parts (Ok next) = IsNext past load collections parts next
AnswersNext past load collections parts (Err fault) = IsRefused past load fault
