-- The item that a tree is in a collection, and why a tree is none: the first fault that holds.
use Rattle.std.specs.Prelude.{◌≡◌, ℕ, ◌≤◌, List, length, true, Option, Some, None, Result, Ok, Err}
use Rattle.sc_json.specs.declared.tree.Json.{Json}
use Rattle.sc_json.specs.Member.{member_value}
use Rattle.sc_json.specs.Compact.{compact}
use Rattle.sc_geom.specs.declared.fault.GeomFault.{GeomFault}
use Rattle.sc_item.specs.declared.fault.ItemFault.{ItemFault}
use Rattle.sc_item.specs.declared.fault.ItemFault.TheVariants.{NotAFeature, BadId, WrongCollection, BadTime, BadGeometry, OutOfMemory}
use Rattle.sc_item.specs.declared.parts.Parts.{Parts}
use Rattle.sc_item.specs.Words.{type_name, feature_word, properties_name, id_name, collection_name, geometry_name}
use Rattle.sc_item.specs.Trees.{text_of, text_member, is_object, with_collection}
use Rattle.sc_item.specs.Times.{times_in}
use Rattle.sc_item.specs.Shape.{IsShape, IsShapeFault}
use Rattle.sc_item.specs.Feature.{Feature, IsPlaceOf}

-- an object whose `type` is "Feature", and whose `properties` are an object
pub record IsFeature (tree properties : Json) : Type 0 where
  pub kind : text_member tree type_name ≡ Some feature_word
  pub there : member_value tree properties_name ≡ Some properties
  pub object : is_object properties ≡ true

-- the `id`, a text of 1 to 256 bytes
pub record IsId (tree : Json) (id : List ℕ) : Type 0 where
  pub there : text_member tree id_name ≡ Some id
  pub some : 1 ≤ length id
  pub short : length id ≤ 256

-- the member `collection`: where it is there, it is this text
abbrev pub IsOf : List ℕ → Option Json → Type 0
IsOf collection None = Unit {0}
IsOf collection (Some value) = text_of value ≡ Some collection

abbrev pub Belongs : List ℕ → Json → Type 0
Belongs collection tree = IsOf collection (member_value tree collection_name)

-- ---- what is read of a tree, up to a fault

pub record HasNoId (tree : Json) : Type 0 where
  pub properties : Json
  pub feature : IsFeature tree properties
  pub none : (id : List ℕ) → IsId tree id → ⊥

pub record HasOtherCollection (collection : List ℕ) (tree : Json) : Type 0 where
  pub properties : Json
  pub id : List ℕ
  pub feature : IsFeature tree properties
  pub id_is : IsId tree id
  pub other : Belongs collection tree → ⊥

pub record HasNoTime (collection : List ℕ) (tree : Json) : Type 0 where
  pub properties : Json
  pub id : List ℕ
  pub feature : IsFeature tree properties
  pub id_is : IsId tree id
  pub belongs : Belongs collection tree
  pub none : times_in properties ≡ None

pub record HasNoShape (collection : List ℕ) (tree : Json) (fault : Option GeomFault) : Type 0 where
  pub properties : Json
  pub parts : Parts
  pub feature : IsFeature tree properties
  pub id_is : IsId tree parts.id
  pub belongs : Belongs collection tree
  pub times : times_in properties ≡ Some parts.times
  pub none : IsShapeFault (member_value tree geometry_name) fault

pub record AreParts (collection : List ℕ) (tree : Json) (parts : Parts) : Type 0 where
  pub properties : Json
  pub feature : IsFeature tree properties
  pub id_is : IsId tree parts.id
  pub belongs : Belongs collection tree
  pub times : times_in properties ≡ Some parts.times
  pub shape : IsShape (member_value tree geometry_name) parts.geom

-- the first fault that holds; want of memory says nothing
abbrev pub IsFault : List ℕ → Json → ItemFault → Type 0
IsFault collection tree NotAFeature = (properties : Json) → IsFeature tree properties → ⊥
IsFault collection tree BadId = HasNoId tree
IsFault collection tree WrongCollection = HasOtherCollection collection tree
IsFault collection tree BadTime = HasNoTime collection tree
IsFault collection tree (BadGeometry fault) = HasNoShape collection tree fault
IsFault collection tree OutOfMemory = Unit {0}

abbrev pub Parted : List ℕ → Json → Result Parts ItemFault → Type 0
Parted collection tree (Ok parts) = AreParts collection tree parts
Parted collection tree (Err fault) = IsFault collection tree fault

-- ---- items

abbrev pub parts_of : Feature → Parts
parts_of item = record { id = item.id; times = record { start = item.start; end = item.end }; geom = item.geom }

-- the tree is this item in the collection: its parts, with the collection as the last member where the tree has none
pub record IsItem (collection : List ℕ) (tree : Json) (item : Feature) : Type 0 where
  pub parts : AreParts collection tree (parts_of item)
  pub collection_is : item.collection ≡ collection
  pub place_is : IsPlaceOf item.geom item.place
  pub tree_is : item.tree ≡ with_collection collection tree
  pub doc_is : item.doc ≡ compact item.tree

-- what reading answers
abbrev pub Answers : List ℕ → Json → Result Feature ItemFault → Type 0
Answers collection tree (Ok item) = IsItem collection tree item
Answers collection tree (Err fault) = IsFault collection tree fault
