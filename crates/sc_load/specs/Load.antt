-- Loads: the changes that a catalogue takes. What they bring, how large they are, and when they are well-formed.
use Rattle.std.specs.Prelude.{ℕ, ◌≤◌, List, [], ◌∷◌, length, map}
use Rattle.std.specs.List.{All, sum_by}
use Rattle.std.specs.Arc.{arc_value}
use Rattle.sc_json.specs.declared.tree.Json.{Json}
use Rattle.sc_json.specs.Compact.{compact}
use Rattle.sc_json.specs.Good.{Good}
use Rattle.sc_item.specs.Feature.{Feature}
use Rattle.sc_item.specs.Reading.{IsItem}
use Rattle.sc_cut.specs.declared.cut.Cut.{Cut}
use Rattle.sc_load.specs.declared.load.Load.{Load}
use Rattle.sc_load.specs.declared.load.Load.TheVariants.{AddCollection, DropCollection, Insert, Upsert, Replace, Patch, Delete}
use Rattle.sc_load.specs.Collection.{IsCollection}

-- the id of the collection that a load changes
abbrev pub collection_of : Load → List ℕ
collection_of (AddCollection id cut tree) = id
collection_of (DropCollection id) = id
collection_of (Insert collection items) = collection
collection_of (Upsert collection items) = collection
collection_of (Replace collection item) = collection
collection_of (Patch collection id patch) = collection
collection_of (Delete collection id) = collection

-- the items that a load brings, in its order
abbrev pub items_of : Load → List Feature
items_of (AddCollection id cut tree) = []
items_of (DropCollection id) = []
items_of (Insert collection items) = map arc_value items
items_of (Upsert collection items) = map arc_value items
items_of (Replace collection item) = arc_value item ∷ []
items_of (Patch collection id patch) = []
items_of (Delete collection id) = []

-- the bytes of documents
abbrev pub documents_size : List Feature → ℕ
documents_size items = sum_by (λ item. length item.doc) items

-- the bytes that a load takes in a history: those of its items' documents, of its collection's compact tree or of its compact patch
abbrev pub size_of : Load → ℕ
size_of (AddCollection id cut tree) = length (compact tree)
size_of (DropCollection id) = 0
size_of (Insert collection items) = documents_size (map arc_value items)
size_of (Upsert collection items) = documents_size (map arc_value items)
size_of (Replace collection item) = documents_size (arc_value item ∷ [])
size_of (Patch collection id patch) = length (compact patch)
size_of (Delete collection id) = 0

-- the item is what its own tree is in the collection
abbrev pub IsItemOf : List ℕ → Feature → Type 0
IsItemOf collection item = IsItem collection item.tree item

-- items of the collection, at most 10,000
pub record AreItemsOf (collection : List ℕ) (items : List Feature) : Type 0 where
  pub few : length items ≤ 10000
  pub each : All (IsItemOf collection) items

-- a collection's document, with what is read of it
pub record IsDescribed (id : List ℕ) (cut : Cut) (tree : Json) : Type 0 where
  pub good : Good tree
  pub collection_is : IsCollection tree id cut

-- trees are good, a collection's id and cut are those of its tree, and items are what their trees are in the load's collection
abbrev pub IsWellFormed : Load → Type 0
IsWellFormed (AddCollection id cut tree) = IsDescribed id cut tree
IsWellFormed (DropCollection id) = Unit {0}
IsWellFormed (Insert collection items) = AreItemsOf collection (map arc_value items)
IsWellFormed (Upsert collection items) = AreItemsOf collection (map arc_value items)
IsWellFormed (Replace collection item) = IsItemOf collection (arc_value item)
IsWellFormed (Patch collection id patch) = Good patch
IsWellFormed (Delete collection id) = Unit {0}
