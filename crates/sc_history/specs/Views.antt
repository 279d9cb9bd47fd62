-- What is taken out of a catalogue and stays as it was: snapshots, tickets and hulls of tickets.
use Rattle.std.specs.Prelude.{◌≡◌, ℕ, ◌≤◌, List, length, false}
use Rattle.sc_item.specs.Feature.{Feature}
use Rattle.sc_cut.specs.declared.name.PartName.{PartName}
use Rattle.sc_bounds.specs.Extent.{Extent}
use Rattle.sc_history.specs.Content.{Collection}
use Rattle.sc_history.specs.Changes.{Change}
use Rattle.sc_history.specs.Names.{part_of, is_empty, scan_of, hull_of}
use Rattle.sc_history.specs.History.{replay, back, stamp}
use Rattle.sc_history.specs.Part.{Part}
use Rattle.sc_history.specs.Sound.{Stand}
use Rattle.sc_history.specs.Taken.{IsPast}

-- what contracts see of a snapshot
pub record Snap : Type 0 where
  pub revision : ℕ
  pub collections : List Collection
  pub parts : List Part

-- it has the collections and the parts that stood at its revision
pub record IsSnapshot (past : List Change) (snap : Snap) : Type 0 where
  pub reached : snap.revision ≤ length past
  pub collections_are : snap.collections ≡ (replay (back snap.revision past)).collections
  pub stand : Stand (back snap.revision past) snap.parts

-- some history had it
pub record Stood (snap : Snap) : Type 0 where
  pub past : List Change
  pub is : IsPast past
  pub has : IsSnapshot past snap

-- the load of this revision touched the part, and left it some items
pub record IsStamp (past : List Change) (name : PartName) (revision : ℕ) : Type 0 where
  pub from : 1 ≤ revision
  pub reached : revision ≤ length past
  pub touched : stamp (back revision past) name ≡ revision
  pub some : is_empty (part_of (replay (back revision past)) name) ≡ false

-- the items of the part at a stamp
pub record IsTicket (past : List Change) (name : PartName) (revision : ℕ) (items : List Feature) : Type 0 where
  pub at : IsStamp past name revision
  pub items_are : items ≡ scan_of (part_of (replay (back revision past)) name)

-- and their hull
pub record IsTight (past : List Change) (name : PartName) (revision : ℕ) (bounds : Extent) : Type 0 where
  pub at : IsStamp past name revision
  pub hull_is : bounds ≡ hull_of (scan_of (part_of (replay (back revision past)) name))
