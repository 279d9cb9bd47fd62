-- The loads that are read of trees, and why none is.
use Rattle.std.specs.Prelude.{◌≡◌, ℕ, ◌<◌, Bool, true, false, List, length, map}
use Rattle.std.specs.Arc.{arc_value}
use Rattle.sc_json.specs.declared.tree.Json.{Json}
use Rattle.sc_item.specs.Reading.{IsItem}
use Rattle.sc_load.specs.declared.load.Load.{Load}
use Rattle.sc_load.specs.declared.load.Load.TheVariants.{AddCollection, DropCollection, Insert, Upsert, Replace, Patch, Delete}
use Rattle.sc_load.specs.declared.fault.PrepareFault.{PrepareFault}
use Rattle.sc_load.specs.declared.fault.PrepareFault.TheVariants.{BadItem, TooManyItems, BadCollection, OutOfMemory}
use Rattle.sc_load.specs.Collection.{IsCollection, IsNoCollection}
use Rattle.sc_load.specs.Items.{AreRead, IsBad, IsFirstBad, CannotReplace}

-- ---- a collection

-- the load adds the collection that the tree describes
abbrev pub Adds : Json → Load → Type 0
Adds tree (AddCollection id cut document) = (document ≡ tree) × IsCollection tree id cut
Adds tree (DropCollection id) = ⊥
Adds tree (Insert collection items) = ⊥
Adds tree (Upsert collection items) = ⊥
Adds tree (Replace collection item) = ⊥
Adds tree (Patch collection id patch) = ⊥
Adds tree (Delete collection id) = ⊥

-- want of memory says nothing
abbrev pub IsCollectionFault : Json → PrepareFault → Type 0
IsCollectionFault tree (BadItem place fault) = ⊥
IsCollectionFault tree (TooManyItems count) = ⊥
IsCollectionFault tree BadCollection = IsNoCollection tree
IsCollectionFault tree OutOfMemory = Unit {0}

-- ---- items

-- the load inserts the items that the trees are, or upserts them
abbrev pub Puts : List ℕ → Bool → List Json → Load → Type 0
Puts into upsert trees (AddCollection id cut tree) = ⊥
Puts into upsert trees (DropCollection id) = ⊥
Puts into upsert trees (Insert collection items) = (upsert ≡ false) × (collection ≡ into) × AreRead into trees (map arc_value items)
Puts into upsert trees (Upsert collection items) = (upsert ≡ true) × (collection ≡ into) × AreRead into trees (map arc_value items)
Puts into upsert trees (Replace collection item) = ⊥
Puts into upsert trees (Patch collection id patch) = ⊥
Puts into upsert trees (Delete collection id) = ⊥

-- what is wrong with the item at a place; want of memory says nothing
abbrev pub IsItemFault : List ℕ → Json → ℕ → PrepareFault → Type 0
IsItemFault collection tree at (BadItem place fault) = (place ≡ at) × IsBad collection tree fault
IsItemFault collection tree at (TooManyItems count) = ⊥
IsItemFault collection tree at BadCollection = ⊥
IsItemFault collection tree at OutOfMemory = Unit {0}

-- too many items come before a bad one; want of memory says nothing
abbrev pub IsItemsFault : List ℕ → List Json → PrepareFault → Type 0
IsItemsFault collection trees (BadItem place fault) = IsFirstBad collection trees place fault
IsItemsFault collection trees (TooManyItems count) = (10000 < length trees) × (count ≡ length trees)
IsItemsFault collection trees BadCollection = ⊥
IsItemsFault collection trees OutOfMemory = Unit {0}

-- ---- a replacement

-- the load replaces the item with the id by the item that the tree is
abbrev pub Replaces : List ℕ → List ℕ → Json → Load → Type 0
Replaces within id tree (AddCollection other cut document) = ⊥
Replaces within id tree (DropCollection other) = ⊥
Replaces within id tree (Insert collection items) = ⊥
Replaces within id tree (Upsert collection items) = ⊥
Replaces within id tree (Replace collection item) = (collection ≡ within) × IsItem within tree (arc_value item) × ((arc_value item).id ≡ id)
Replaces within id tree (Patch collection other patch) = ⊥
Replaces within id tree (Delete collection other) = ⊥

-- want of memory says nothing
abbrev pub IsReplaceFault : List ℕ → List ℕ → Json → PrepareFault → Type 0
IsReplaceFault collection id tree (BadItem place fault) = (place ≡ 0) × CannotReplace collection id tree fault
IsReplaceFault collection id tree (TooManyItems count) = ⊥
IsReplaceFault collection id tree BadCollection = ⊥
IsReplaceFault collection id tree OutOfMemory = Unit {0}
