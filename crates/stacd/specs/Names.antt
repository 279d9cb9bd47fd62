-- The names of the items of lines.
use Rattle.std.specs.Prelude.{◌≡◌, Bool, ◌&&◌, List, nat_eq}
use Rattle.std.specs.List.{list_any}
use Rattle.std.specs.Cmp.Lexicographic.{pointwise}
use Rattle.sc_item.specs.Feature.{Feature}
use Rattle.sc_item.specs.Names.{AreApart}
use Rattle.stacd.specs.declared.names.Name.{Name}
use Rattle.stacd.specs.declared.names.Names.{Names}

-- the two names are one
abbrev pub is_name : Name → Name → Bool
is_name a b = pointwise nat_eq a.collection b.collection && pointwise nat_eq a.id b.id

-- the item has the name
abbrev pub has_name : Name → Feature → Bool
has_name name item = pointwise nat_eq item.collection name.collection && pointwise nat_eq item.id name.id

-- the set has the names of the items and no others, and no two of the items have one name
pub record AreNamesOf (names : Names) (items : List Feature) : Type 0 where
  pub same : (name : Name) → list_any (is_name name) names.names.keys ≡ list_any (has_name name) items
  pub apart : AreApart items
