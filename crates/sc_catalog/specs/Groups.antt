-- What a load does to the parts of one collection, by their keys. No public clause cites it.
use Rattle.std.specs.Prelude.{◌≡◌, ℕ, Bool, false, ◌&&◌, ◌||◌, ℤ, List, [], Option, Some, None, map, filter}
use Rattle.std.specs.Option.{is_some}
use Rattle.std.specs.List.{list_any}
use Rattle.std.specs.Ordering.{int_cmp}
use Rattle.std.specs.Arc.{arc_value}
use Rattle.std.specs.BTreeMap.{BTreeMap, get}
use Rattle.sc_item.specs.Feature.{Feature}
use Rattle.sc_cut.specs.declared.cut.Cut.{Cut}
use Rattle.sc_cut.specs.declared.name.PartName.{PartName}
use Rattle.sc_history.specs.Content.{item_in}
use Rattle.sc_history.specs.Changes.{is_among}
use Rattle.sc_history.specs.Names.{fits}
use Rattle.sc_shelf.specs.declared.change.PartChange.{PartChange}
use Rattle.sc_catalog.specs.declared.groups.Group.{Group}

abbrev pub name_at : List ℕ → Cut → ℤ → PartName
name_at collection cut key = record { collection = collection; cut = cut; key = key }

-- the items that come into the part of a group
abbrev pub come_in : Option Group → List Feature
come_in None = []
come_in (Some group) = map arc_value group.come.items

-- the ids that go out of it
abbrev pub gone_in : Option Group → List (List ℕ)
gone_in None = []
gone_in (Some group) = group.gone.items

-- an item that was found fits the name
abbrev pub is_found_in : PartName → Option Feature → Bool
is_found_in name None = false
is_found_in name (Some item) = fits name item

-- whether the collection has an item with the id, which fits the name
abbrev pub stood_in : List Feature → List ℕ → Cut → ℤ → List ℕ → Bool
stood_in items collection cut key id = is_found_in (name_at collection cut key) (item_in items collection id)

-- the groups tell of each key which of the items come into its part, and which of the ids had an item there; each group tells of some
pub record AreGrouped (items : List Feature) (collection : List ℕ) (cut : Cut) (gone : List (List ℕ)) (come : List Feature) (groups : BTreeMap ℤ Group) : Type 0 where
  pub come_is : (key : ℤ) → come_in (get int_cmp groups key) ≡ filter (fits (name_at collection cut key)) come
  pub gone_is : (key : ℤ) (id : List ℕ) → is_among (gone_in (get int_cmp groups key)) id ≡ (is_among gone id && stood_in items collection cut key id)
  pub some : (key : ℤ) → is_some (get int_cmp groups key) ≡ (list_any (fits (name_at collection cut key)) come || list_any (stood_in items collection cut key) gone)

-- the change that a group makes of the part of a key
abbrev pub change_at : List ℕ → Cut → ℤ × Group → PartChange
change_at collection cut entry = record { name = name_at collection cut entry.0; gone = entry.1.gone.items; come = entry.1.come.items }
