-- The changes that a load makes of the parts of its collection. No public clause cites it.
use Rattle.std.specs.Prelude.{◌≡◌, Bool, true, false, List, Option, Some, None, AllPairs, Contains}
use Rattle.std.specs.declared.cmp.Ordering.TheVariants.{Less}
use Rattle.sc_item.specs.Feature.{Feature}
use Rattle.sc_cut.specs.declared.name.PartName.{PartName}
use Rattle.sc_load.specs.declared.load.Load.{Load}
use Rattle.sc_load.specs.declared.load.Load.TheVariants.{AddCollection, DropCollection, Delete}
use Rattle.sc_history.specs.Content.{Content}
use Rattle.sc_history.specs.Changes.{Change, is_among, takes}
use Rattle.sc_history.specs.Names.{name_order, part_of}
use Rattle.sc_history.specs.History.{comes, touches}
use Rattle.sc_shelf.specs.declared.change.PartChange.{PartChange}
use Rattle.sc_shelf.specs.Changed.{change_of, come_by}

-- whether a load leaves the collections as they are
abbrev pub is_of_items : Load → Bool
is_of_items (AddCollection id cut tree) = false
is_of_items (DropCollection id) = false
is_of_items load = true

-- whether a load may put items
abbrev pub puts : Load → Bool
puts (DropCollection id) = false
puts (Delete collection id) = false
puts load = true

-- the load touches the part, into which come the items that belong to it; out of it go those whose ids the load takes
pub record IsPartChange (content : Content) (change : Change) (name : PartName) (made : PartChange) : Type 0 where
  pub name_is : made.name ≡ name
  pub touch : touches content change name ≡ true
  pub come_is : come_by made ≡ comes content change name
  pub gone_is : (item : Feature) → Contains (part_of content name) item → is_among made.gone item.id ≡ takes change.load item.id

-- what the load makes of the part with the name
abbrev pub IsMadeOf : Content → Change → PartName → Option PartChange → Type 0
IsMadeOf content change name None = touches content change name ≡ false
IsMadeOf content change name (Some made) = IsPartChange content change name made

-- the changes of all parts that the load touches; the names rise
pub record AreMade (content : Content) (change : Change) (changes : List PartChange) : Type 0 where
  pub rise : AllPairs (λ a b. name_order a.name b.name ≡ Less) changes
  pub each : (name : PartName) → IsMadeOf content change name (change_of name changes)
