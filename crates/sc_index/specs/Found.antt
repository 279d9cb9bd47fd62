-- What an index of items finds under a collection and an id, and whether it has places for items to come.
use Rattle.std.specs.Prelude.{◌≡◌, ℕ, List, Option}
use Rattle.std.specs.Option.{IsSome, IsSomeAnd, option_and_then, option_map}
use Rattle.std.specs.List.{All}
use Rattle.std.specs.Arc.{arc_value}
use Rattle.std.specs.BTreeMap.{BTreeMap, get}
use Rattle.std.specs.declared.alloc.Global.{Global}
use Rattle.std.specs.declared.sync.Arc.{Arc}
use Rattle.sc_base.specs.Text.{text_order}
use Rattle.sc_item.specs.Feature.{Feature}
use Rattle.sc_history.specs.Content.{item_in}
use Rattle.sc_index.specs.declared.index.ItemIndex.{ItemIndex}

-- places of ids, some of which hold an item
abbrev pub Places : Type 0
Places = BTreeMap (List ℕ) (Option (Arc Feature Global))

abbrev pub HasPlace : Places → List ℕ → Type 0
HasPlace places id = IsSome (get text_order places id)

-- the item in the place of the id
abbrev pub held : Places → List ℕ → Option Feature
held places id = option_and_then (λ place. option_map arc_value place) (get text_order places id)

abbrev pub HoldTheSame : Places → Places → Type 0
HoldTheSame old new = (id : List ℕ) → held new id ≡ held old id

-- each of the items can be put in the place of its id
abbrev pub HavePlaces : Places → List Feature → Type 0
HavePlaces places items = All (λ item. HasPlace places item.id) items

-- the collection's item with the id
unfoldable pub found : ItemIndex → List ℕ → List ℕ → Option Feature
found index collection id = option_and_then (λ places. held places id) (get text_order index.collections collection)

-- the index finds the items of a content, each under its name
pub record Indexes (items : List Feature) (index : ItemIndex) : Type 0 where
  pub each : (collection id : List ℕ) → found index collection id ≡ item_in items collection id

-- the same is found under every name
abbrev pub FindTheSame : ItemIndex → ItemIndex → Type 0
FindTheSame old new = (collection id : List ℕ) → found new collection id ≡ found old collection id

-- these items of the collection can be put without memory
unfoldable pub HasRoom : ItemIndex → List ℕ → List Feature → Type 0
HasRoom index collection items = IsSomeAnd (get text_order index.collections collection) (λ places. HavePlaces places items)
