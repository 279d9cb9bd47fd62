-- Contents of a catalogue: its collections in the order in which they were made, and one flat list of items, whose order is of no account.
use Rattle.std.specs.Prelude.{◌≡◌, ℕ, Bool, true, false, ◌&&◌, List, [], Option, find}
use Rattle.std.specs.Str.{bytes_eq}
use Rattle.std.specs.List.{list_any, All, AllPairs}
use Rattle.sc_json.specs.declared.tree.Json.{Json}
use Rattle.sc_item.specs.Feature.{Feature}
use Rattle.sc_item.specs.Names.{AreApart}
use Rattle.sc_load.specs.Load.{IsItemOf, IsDescribed}
use Rattle.sc_cut.specs.declared.cut.Cut.{Cut}

pub record Collection : Type 0 where
  pub id : List ℕ
  pub cut : Cut
  pub tree : Json

pub record Content : Type 0 where
  pub collections : List Collection
  pub items : List Feature

-- the content of an empty history
abbrev pub nothing : Content
nothing = record { collections = []; items = [] }

-- whether the collection has the id
abbrev pub is_called : List ℕ → Collection → Bool
is_called id collection = bytes_eq collection.id id

-- whether there is a collection with the id
abbrev pub is_made : List Collection → List ℕ → Bool
is_made collections id = list_any (is_called id) collections

-- whether it is the collection's item with the id
abbrev pub is_item : List ℕ → List ℕ → Feature → Bool
is_item collection id item = bytes_eq item.collection collection && bytes_eq item.id id

-- whether the collection has an item with the id
abbrev pub has_item : List Feature → List ℕ → List ℕ → Bool
has_item items collection id = list_any (is_item collection id) items

-- the collection's item with the id
abbrev pub item_in : List Feature → List ℕ → List ℕ → Option Feature
item_in items collection id = find (is_item collection id) items

-- what the content of every history is: no two collections have one id, and each is what its document describes; no two items have one name, and each is
-- of a collection that is there, and is what its own tree is in it
pub record IsContent (content : Content) : Type 0 where
  pub collections_apart : AllPairs (λ a b. bytes_eq a.id b.id ≡ false) content.collections
  pub described : All (λ c. IsDescribed c.id c.cut c.tree) content.collections
  pub items_apart : AreApart content.items
  pub housed : All (λ item. is_made content.collections item.collection ≡ true) content.items
  pub read : All (λ item. IsItemOf item.collection item) content.items
