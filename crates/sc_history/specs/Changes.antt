-- What a load does to a content: the items that it takes, those that it puts, and the collections after it.
use Rattle.std.specs.Prelude.{◌≡◌, ℕ, Bool, true, not, ◌&&◌, List, [], ◌∷◌, ◌++◌, Some, map, filter}
use Rattle.std.specs.Str.{bytes_eq}
use Rattle.std.specs.Arc.{arc_value}
use Rattle.sc_json.specs.declared.tree.Json.{Json}
use Rattle.sc_item.specs.Feature.{Feature}
use Rattle.sc_load.specs.declared.load.Load.{Load}
use Rattle.sc_load.specs.declared.load.Load.TheVariants.{AddCollection, DropCollection, Insert, Upsert, Replace, Patch, Delete}
use Rattle.sc_load.specs.Load.{collection_of, items_of}
use Rattle.sc_load.specs.Patches.{IsPatched}
pub use Rattle.sc_part.specs.Scan.{is_among}
use Rattle.sc_history.specs.Content.{Collection, Content, is_called, item_in}

-- ---- what it takes

abbrev pub ids_of : List Feature → List (List ℕ)
ids_of items = map (λ item. item.id) items

-- the ids whose items a load takes out of its collection, where they are there
abbrev pub gone : Load → List (List ℕ)
gone (AddCollection id cut tree) = []
gone (DropCollection id) = []
gone (Insert collection items) = []
gone (Upsert collection items) = ids_of (map arc_value items)
gone (Replace collection item) = (arc_value item).id ∷ []
gone (Patch collection id patch) = id ∷ []
gone (Delete collection id) = id ∷ []

-- whether a load takes the item with the id out of its collection: all go with their collection, even if equal ones come back
abbrev pub takes : Load → List ℕ → Bool
takes (DropCollection id) other = true
takes load other = is_among (gone load) other

abbrev pub goes : Load → Feature → Bool
goes load item = bytes_eq item.collection (collection_of load) && takes load item.id

-- ---- what it puts

-- the one item that a patch makes of the collection's item with the id
pub record Patches (items : List Feature) (collection id : List ℕ) (patch : Json) (come : List Feature) : Type 0 where
  pub old : Feature
  pub new : Feature
  pub there : item_in items collection id ≡ Some old
  pub patched : IsPatched old patch new
  pub come_is : come ≡ new ∷ []

-- the items that a load puts
abbrev pub Puts : List Feature → Load → List Feature → Type 0
Puts items (Patch collection id patch) come = Patches items collection id patch come
Puts items load come = come ≡ items_of load

-- ---- the content after it

-- a load, with the items that it puts
pub record Change : Type 0 where
  pub load : Load
  pub come : List Feature

abbrev pub collections_after : List Collection → Load → List Collection
collections_after collections (AddCollection id cut tree) = collections ++ record { id = id; cut = cut; tree = tree } ∷ []
collections_after collections (DropCollection id) = filter (λ c. not (is_called id c)) collections
collections_after collections load = collections

abbrev pub apply : Content → Change → Content
apply content change = record {
  collections = collections_after content.collections change.load;
  items = change.come ++ filter (λ item. not (goes change.load item)) content.items;
}
