-- What contracts see of a catalogue, and what publishing a load makes of it.
use Rattle.std.specs.Prelude.{◌≡◌, ℕ, List, [], ◌∷◌, ◌++◌, length}
use Rattle.sc_cut.specs.declared.name.PartName.{PartName}
use Rattle.sc_load.specs.declared.load.Load.{Load}
use Rattle.sc_history.specs.Content.{Collection}
use Rattle.sc_history.specs.Changes.{collections_after}
use Rattle.sc_history.specs.Part.{Part, bounds_of}
use Rattle.sc_history.specs.Touch.{ArePublished, AreTouched, bounds_next}
use Rattle.sc_catalog.specs.declared.entry.Entry.{Entry}
use Rattle.sc_catalog.specs.declared.entry.Published.{Published}
use Rattle.sc_catalog.specs.Entries.{Takes, change_of, entry_of}

-- the entries of its history in their order, its collections in the order in which they were made, and its parts in the order of their names
pub record Holdings : Type 0 where
  pub entries : List Entry
  pub collections : List Collection
  pub parts : List Part

-- the history takes the load and has this one entry more; the collections, the parts and their bounds are those after the load, and what is told of it are the
-- length of the history and the names of the parts that it touched and that are there after it
pub record IsPublished (number : ℕ) (load : Load) (old new : Holdings) (published : Published) : Type 0 where
  pub takes : Takes old.entries load
  pub entries_are : new.entries ≡ old.entries ++ entry_of number load ∷ []
  pub collections_are : new.collections ≡ collections_after old.collections load
  pub parts_are : ArePublished takes.past (change_of load takes.come) old.parts new.parts
  pub bounds_are : (name : PartName) → bounds_of name new.parts ≡ bounds_next takes.past (change_of load takes.come) name (bounds_of name old.parts)
  pub revision_is : published.revision ≡ length new.entries
  pub touched_are : AreTouched takes.past (change_of load takes.come) published.touched
