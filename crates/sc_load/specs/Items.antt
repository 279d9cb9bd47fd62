-- The items that trees are in a collection, and what is wrong with the first that is none.
use Rattle.std.specs.Prelude.{◌≡◌, ℕ, ◌≤◌, List, ◌∷◌, ◌++◌, length, false}
use Rattle.std.specs.List.{AllZip}
use Rattle.sc_json.specs.declared.tree.Json.{Json}
use Rattle.sc_item.specs.declared.fault.ItemFault.{ItemFault}
use Rattle.sc_item.specs.declared.fault.ItemFault.TheVariants.{BadId}
use Rattle.sc_item.specs.Feature.{Feature}
use Rattle.sc_item.specs.Reading.{IsItem, IsFault}
use Rattle.sc_item.specs.Memory.{is_memory}

-- each tree is the item at its place
abbrev pub AreItems : List ℕ → List Json → List Feature → Type 0
AreItems collection trees items = AllZip (IsItem collection) trees items

-- a load has at most 10,000 items
pub record AreRead (collection : List ℕ) (trees : List Json) (items : List Feature) : Type 0 where
  pub few : length trees ≤ 10000
  pub each : AreItems collection trees items

-- the tree is no item, with its first fault
pub record IsBad (collection : List ℕ) (tree : Json) (fault : ItemFault) : Type 0 where
  pub fault_is : IsFault collection tree fault
  pub told : is_memory fault ≡ false

-- the trees before the place are items, and the one at it is none
pub record IsFirstBad (collection : List ℕ) (trees : List Json) (place : ℕ) (fault : ItemFault) : Type 0 where
  pub few : length trees ≤ 10000
  pub before : List Json
  pub tree : Json
  pub after : List Json
  pub split : trees ≡ before ++ tree ∷ after
  pub place_is : place ≡ length before
  pub items : List Feature
  pub good : AreItems collection before items
  pub bad : IsBad collection tree fault

-- why a tree can't stand in the place of the item with an id
pub data CannotReplace (collection id : List ℕ) (tree : Json) : ItemFault → Type 0 where
  -- it is no item
  unread : (fault : ItemFault) → IsBad collection tree fault → CannotReplace collection id tree fault
  -- it is one with another id
  renamed : (item : Feature) → IsItem collection tree item → (item.id ≡ id → ⊥) → CannotReplace collection id tree BadId
