-- A load as the payload of a record: a byte for its kind, 4 bytes of the number of who published it, and fields, each a length
-- of 8 bytes and so many bytes. Numbers are big-endian, and trees are compact.
use Rattle.std.specs.Prelude.{◌≡◌, ℕ, ◌<◌, ◌^◌, List, [], ◌∷◌, ◌++◌, map, All, IsUtf8}
use Rattle.std.specs.Arc.{arc_value}
use Rattle.std.specs.List.{flat_map}
use Rattle.std.specs.Int.{w32, to_be_bytes}
use Rattle.sc_json.specs.declared.tree.Json.{Json}
use Rattle.sc_json.specs.Compact.{compact}
use Rattle.sc_json.specs.Good.{Good}
use Rattle.sc_item.specs.Feature.{Feature, IsKept}
use Rattle.sc_journal.specs.Format.{counted, Fits, AllFit}
use Rattle.sc_load.specs.Load.{IsItemOf, IsWellFormed, items_of}
use Rattle.sc_load.specs.declared.load.Load.{Load}
use Rattle.sc_load.specs.declared.load.Load.TheVariants.{AddCollection, DropCollection, Insert, Upsert, Replace, Patch, Delete}
use Rattle.sc_catalog.specs.declared.entry.Entry.{Entry}

abbrev pub document : Feature → List ℕ
document item = item.doc

abbrev pub kind_of : Load → ℕ
kind_of (AddCollection id cut tree) = 1
kind_of (DropCollection id) = 2
kind_of (Insert collection items) = 3
kind_of (Upsert collection items) = 4
kind_of (Replace collection item) = 5
kind_of (Patch collection id patch) = 6
kind_of (Delete collection id) = 7

abbrev pub fields_of : Load → List (List ℕ)
fields_of (AddCollection id cut tree) = compact tree ∷ []
fields_of (DropCollection id) = id ∷ []
fields_of (Insert collection items) = collection ∷ map document (map arc_value items)
fields_of (Upsert collection items) = collection ∷ map document (map arc_value items)
fields_of (Replace collection item) = collection ∷ document (arc_value item) ∷ []
fields_of (Patch collection id patch) = collection ∷ id ∷ compact patch ∷ []
fields_of (Delete collection id) = collection ∷ id ∷ []

-- the payload of a load that is told by its kind and fields
abbrev pub payload : ℕ → ℕ → List (List ℕ) → List ℕ
payload kind by fields = kind ∷ (to_be_bytes w32 by ++ flat_map counted fields)

abbrev pub payload_of : Entry → List ℕ
payload_of entry = payload (kind_of entry.load) entry.by (fields_of entry.load)

abbrev pub payloads_of : List Entry → List (List ℕ)
payloads_of entries = map payload_of entries

-- what each load that is held keeps: its texts are UTF-8 and their lengths can be written, and its items are kept
pub record IsHeld (load : Load) : Type 0 where
  pub texts : All IsUtf8 (fields_of load)
  pub fits : AllFit (fields_of load)
  pub items : All IsKept (items_of load)

-- an entry whose payload tells it: its load is held, and its number has 4 bytes
pub record IsSealable (entry : Entry) : Type 0 where
  pub held : IsHeld entry.load
  pub by_fits : entry.by < 2 ^ 32

-- the bytes are the payload of this entry, whose load is well-formed
pub record IsPayload (bytes : List ℕ) (entry : Entry) : Type 0 where
  pub is : bytes ≡ payload_of entry
  pub sealable : IsSealable entry
  pub formed : IsWellFormed entry.load

-- they aren't of the format
abbrev pub IsNoPayload : List ℕ → Type 0
IsNoPayload bytes = (entry : Entry) → IsPayload bytes entry → ⊥

-- a well-formed load of this kind with these fields
pub record IsTold (kind : ℕ) (fields : List (List ℕ)) (load : Load) : Type 0 where
  pub kind_is : kind ≡ kind_of load
  pub fields_are : fields ≡ fields_of load
  pub items : All IsKept (items_of load)
  pub formed : IsWellFormed load

abbrev pub IsNotTold : ℕ → List (List ℕ) → Type 0
IsNotTold kind fields = (load : Load) → IsTold kind fields load → ⊥

-- ---- fields

-- the bytes are these fields, each a text in UTF-8
pub record AreFields (bytes : List ℕ) (fields : List (List ℕ)) : Type 0 where
  pub are : bytes ≡ flat_map counted fields
  pub texts : All IsUtf8 fields
  pub fits : AllFit fields

abbrev pub AreNoFields : List ℕ → Type 0
AreNoFields bytes = (fields : List (List ℕ)) → AreFields bytes fields → ⊥

-- these fields were added at the end
pub record AddsFields (old new : List ℕ) (fields : List (List ℕ)) : Type 0 where
  pub added : List ℕ
  pub whole : new ≡ old ++ added
  pub fields_are : AreFields added fields

-- a field begins the bytes, and this is behind it
pub record BeginsWith (bytes field rest : List ℕ) : Type 0 where
  pub split : bytes ≡ counted field ++ rest
  pub fits : Fits field

abbrev pub BeginsWithNone : List ℕ → Type 0
BeginsWithNone bytes = (field rest : List ℕ) → BeginsWith bytes field rest → ⊥

-- ---- documents

-- the text is the compact one of a good tree
pub record IsTextOf (text : List ℕ) (tree : Json) : Type 0 where
  pub good : Good tree
  pub is : text ≡ compact tree

-- the text is the document of an item of the collection
pub record IsDocumentOf (collection text : List ℕ) (item : Feature) : Type 0 where
  pub is : text ≡ document item
  pub of : IsItemOf collection item
  pub kept : IsKept item

-- the texts are the documents of items of the collection
pub record AreDocumentsOf (collection : List ℕ) (texts : List (List ℕ)) (items : List Feature) : Type 0 where
  pub are : texts ≡ map document items
  pub of : All (IsItemOf collection) items
  pub kept : All IsKept items
